-- The circuit of the best candidate stands in the state of the request: what grants it does, and its links are a path.
use Rattle.std.proofs.Common.{◌≡◌, ℕ, ◌==◌, true, false, count_by, nat_lt, zero, suc, arith, lt-ltb, Option, None, Some, refl, sym, ◌∙◌, ap, subst}
use Rattle.std.proofs.lemmas.Bool.{and_parts, and_from, false≢true, true≢false}
use Rattle.std.proofs.lemmas.Option.{same_Some}
use Rattle.std.specs.Option.{option_map_or}
use Rattle.std.specs.Str.{bytes_eq}
use Rattle.ctrl_model.specs.declared.kinds.Relation.TheVariants.{Dial}
use Rattle.ctrl_model.specs.Choices.{Ask, Candidate, IsCandidate, best, first_rule}
use Rattle.ctrl_model.specs.Grants.{count, joins, on_both, policies_for}
use Rattle.ctrl_model.specs.Networks.{Network, network_of, is_counted}
use Rattle.ctrl_model.specs.Numbered.{at, numbers, Between}
use Rattle.ctrl_model.specs.Settling.{admits, circuit_reaches}
use Rattle.ctrl_model.specs.State.{State, Entity, Circuit}
use Rattle.ctrl_model.specs.Walks.{is_among}
use Rattle.ctrl_model.proofs.DistinctLaws.{same_bytes}
use Rattle.ctrl_model.proofs.Members.{at-among, is_among-from}
use Rattle.model_laws.proofs.CandidateLaws.{best-is}
use Rattle.model_laws.proofs.NumberLaws.{at-unique, Between-none_twice}
use Rattle.model_laws.proofs.RuleLaws.{first_rule-none}
use Rattle.circuits.specs.declared.changes.CircuitChange.TheVariants as change
use Rattle.circuit_rules.specs.CircuitPlans.{StandsIn}

-- a count that is not 0 is above 0
some_counted : (n : ℕ) → (n == 0) ≡ false → nat_lt 0 n ≡ true
some_counted zero none = absurd (false≢true (sym none))
some_counted (suc n) some = lt-ltb 0 (suc n) (omega arith)

-- an identity and a service of which the one is granted Dial on the other are present
dialled_present : (s : State) (i v : ℕ) → (count Dial s i v == 0) ≡ false → (is_among i (numbers s.identities.rows) ≡ true) × (is_among v (numbers s.services.rows) ≡ true)
dialled_present s i v some = by (at s.identities.rows i) refl (at s.services.rows v) refl
  where
    both : Entity → Entity → ℕ
    both e f = count_by (λ row. joins Dial row.1 e f) (policies_for Dial s)

    by : (a : Option Entity) → at s.identities.rows i ≡ a → (b : Option Entity) → at s.services.rows v ≡ b
        → (is_among i (numbers s.identities.rows) ≡ true) × (is_among v (numbers s.services.rows) ≡ true)
    by None left b right = absurd (true≢false (sym (ap (λ o. on_both o (at s.services.rows v) both == 0) left) ∙ some))
    by (Some e) left None right = absurd (true≢false (sym (λ j. on_both (left j) (right j) both == 0) ∙ some))
    by (Some e) left (Some f) right =
        (is_among-from i (numbers s.identities.rows) (at-among s.identities.rows i e left), is_among-from v (numbers s.services.rows) (at-among s.services.rows v f right))

-- the circuit of a candidate
abbrev circuit_of : (w : Network) (ask : Ask) (c : Candidate) → IsCandidate w ask c → Circuit
circuit_of w ask c k = record { identity = k.identity; service = k.service; terminator = k.terminator.0; ingress = k.router.no.0; links = c.links }

candidate_stands : (s : State) (ask : Ask) (c : Candidate) (high : ℕ) → Between 1 high s.terminators.rows → (k : IsCandidate (network_of s) ask c)
    → (count Dial s k.identity k.service == 0) ≡ false → StandsIn (change.Add (circuit_of (network_of s) ask c k)) s
candidate_stands s ask c high ordered k dials =
    let w : Network = network_of s in
    let n : ℕ = k.terminator.0 in
    let e = k.terminator.1 in
    let there : at s.terminators.rows n ≡ Some e = at-unique s.terminators.rows (Between-none_twice 1 high s.terminators.rows ordered) k.terminator k.ends.present in
    let present = dialled_present s k.identity k.service dials in
    let counts = and_parts (e.service == k.service) (bytes_eq e.instance ask.instance) k.ends.is_counted_for in
    let admitted : admits w k.service n e ≡ true = and_from (is_counted k.service e.instance (n, e)) _ (and_from (e.service == k.service) _ counts.0 (same_bytes e.instance e.instance refl)) k.ends.serves in (
      and_from _ _ present.0
          (and_from _ _ present.1
          (and_from _ _ (some_counted (count Dial s k.identity k.service) dials)
          (and_from _ _ k.enters.is_shared_by_both (ap (λ o. option_map_or (admits w k.service n) o false) there ∙ admitted)))),
      and_from _ _ present.0 (and_from _ _ present.1 (ap (λ o. option_map_or (circuit_reaches w (circuit_of w ask c k)) o false) there ∙ k.path)),
    )

pub best_stands : (s : State) (ask : Ask) (c : Candidate) (i v high : ℕ) → Between 1 high s.terminators.rows → ask.identity ≡ Some i → ask.service ≡ Some v
    → first_rule (network_of s) ask ≡ None → best (network_of s) ask ≡ Some c
    → StandsIn (change.Add (record { identity = i; service = v; terminator = c.terminator; ingress = c.ingress; links = c.links })) s
best_stands s ask c i v high ordered who what passes is_best =
    let w : Network = network_of s in
    let g = (first_rule-none w ask).0 passes in
    let k = ((best-is w ask c).0 is_best).is_candidate in
    let dials : (count Dial s k.identity k.service == 0) ≡ false =
    subst (λ m. (count Dial s m k.service == 0) ≡ false) (same_Some g.identity k.identity (sym g.who ∙ k.who))
    (subst (λ m. (count Dial s g.identity m == 0) ≡ false) (same_Some g.service k.service (sym g.what ∙ k.what)) g.dials) in
    subst (λ (x : Circuit). StandsIn (change.Add x) s)
    (λ j. record {
      identity = same_Some k.identity i (sym k.who ∙ who) j;
      service = same_Some k.service v (sym k.what ∙ what) j;
      terminator = (k.told j).terminator;
      ingress = (k.told j).ingress;
      links = c.links;
    })
    (candidate_stands s ask c high ordered k dials)
