-- What granted a circuit stands beside the links and terminators that stay exactly where it stood before these were filtered: a terminator
-- that goes is not admissible.
use Rattle.std.proofs.Common.{◌≡◌, ℕ, ◌==◌, Bool, true, false, ◌&&◌, cond, nat_lt, count_by, is_some, Option, None, Some, refl, sym, ◌∙◌, ap, eqb-true}
use Rattle.std.proofs.lemmas.Bool.{and_parts, and_from, false≢true, false_from_ne_true}
use Rattle.std.specs.Option.{option_map_or}
use Rattle.std.specs.Str.{bytes_eq}
use Rattle.ctrl_model.specs.declared.kinds.Relation.TheVariants.{Dial, Bind}
use Rattle.ctrl_model.specs.Grants.{count, is_granted, on_both, right_entity, joins, policies_for}
use Rattle.ctrl_model.specs.Networks.{network_of, is_on, is_shared, is_counted, is_in_service, may_host}
use Rattle.ctrl_model.specs.Numbered.{at, is_present, numbers, Between}
use Rattle.ctrl_model.specs.State.{State, Entity, Terminator, Circuit}
use Rattle.ctrl_model.specs.Settling.{admits, granted_in, terminator_stays, settle_links}
use Rattle.ctrl_model.specs.Walks.{is_among}
use Rattle.ctrl_model.proofs.NumberedLaws.{among_present}
use Rattle.model_laws.proofs.AbsentRecords.{at-filter-none}
use Rattle.model_laws.proofs.ConnectedRouters.{on_present}
use Rattle.model_laws.proofs.JudgedLaws.{at-filter}
use Rattle.circuit_settling.specs.OtherLinks.{before_circuits}

-- an identity that is granted something is present
granted_present : (s : State) (h v : ℕ) → is_granted Bind s h v ≡ true → is_present s.identities.rows h ≡ true
granted_present s h v granted = by (at s.identities.rows h) refl
  where
    by : (o : Option Entity) → at s.identities.rows h ≡ o → is_some (at s.identities.rows h) ≡ true
    by None is = absurd (false≢true (sym (ap (λ o. nat_lt 0 (on_both o (right_entity Bind s v) (λ e f. count_by (λ row. joins Bind row.1 e f) (policies_for Bind s)))) is) ∙ granted))
    by (Some e) is = ap is_some is

-- a terminator that is admissible for a present service stays
stays_admitted : (s : State) (n v : ℕ) (e : Terminator) → is_present s.services.rows v ≡ true → admits (network_of s) v n e ≡ true → terminator_stays (settle_links s) (n, e) ≡ true
stays_admitted s n v e service admitted =
    let parts = and_parts (is_counted v e.instance (n, e)) (is_in_service (network_of s) (n, e)) admitted in
    let counted = and_parts (e.service == v) (bytes_eq e.instance e.instance) parts.0 in
    let serves = and_parts (is_on (network_of s) e.router) (option_map_or (may_host (network_of s) e) e.host true) parts.1 in
    and_from _ _ (ap (is_present s.services.rows) (eqb-true e.service v counted.0) ∙ service)
    (and_from _ _ (on_present s.routers.rows e.router serves.0) (hosted e.host serves.1))
  where
    hosted : (o : Option ℕ) → option_map_or (may_host (network_of s) e) o true ≡ true → option_map_or (is_present s.identities.rows) o true ≡ true
    hosted None h = refl
    hosted (Some i) h = granted_present s i e.service (and_parts (nat_lt 0 (count Bind s i e.service)) (is_shared (network_of s) i e.service e.router) h).0

pub granted-before : (s : State) (row : ℕ × Circuit) (high : ℕ) → Between 1 high s.terminators.rows → granted_in (before_circuits s) row ≡ granted_in s row
granted-before s row high ascend = ap (λ b. is_among c.identity (numbers s.identities.rows) && b) (by_service (is_among c.service (numbers s.services.rows)) refl)
  where
    c : Circuit
    c = row.1

    -- its terminator, as it was and as it is
    was : Bool
    was = option_map_or (admits (network_of s) c.service c.terminator) (at s.terminators.rows c.terminator) false

    is_now : Bool
    is_now = option_map_or (admits (network_of s) c.service c.terminator) (at (before_circuits s).terminators.rows c.terminator) false

    same : is_present s.services.rows c.service ≡ true → is_now ≡ was
    same service = by (at s.terminators.rows c.terminator) refl
      where
        kept : (e : Terminator) (b : Bool) → at s.terminators.rows c.terminator ≡ Some e → terminator_stays (settle_links s) (c.terminator, e) ≡ b
            → option_map_or (admits (network_of s) c.service c.terminator) (cond b (Some e) None) false ≡ admits (network_of s) c.service c.terminator e
        kept e true there stays = refl
        kept e false there stays =
            sym (false_from_ne_true (admits (network_of s) c.service c.terminator e) (λ yes.
            false≢true (sym stays ∙ stays_admitted s c.terminator c.service e service yes)))

        by : (o : Option Terminator) → at s.terminators.rows c.terminator ≡ o → is_now ≡ was
        by None there =
            ap (λ o. option_map_or (admits (network_of s) c.service c.terminator) o false)
            (at-filter-none (terminator_stays (settle_links s)) s.terminators.rows c.terminator there ∙ sym there)
        by (Some e) there =
            ap (λ o. option_map_or (admits (network_of s) c.service c.terminator) o false)
            (at-filter (terminator_stays (settle_links s)) high s.terminators.rows 1 c.terminator e ascend there)
            ∙ kept e (terminator_stays (settle_links s) (c.terminator, e)) there refl
            ∙ ap (λ o. option_map_or (admits (network_of s) c.service c.terminator) o false) (sym there)

    by_service : (b : Bool) → is_among c.service (numbers s.services.rows) ≡ b
        → (b && (is_granted Dial s c.identity c.service && (is_shared (network_of s) c.identity c.service c.ingress && is_now)))
        ≡ (b && (is_granted Dial s c.identity c.service && (is_shared (network_of s) c.identity c.service c.ingress && was)))
    by_service true is = ap (λ b. is_granted Dial s c.identity c.service && (is_shared (network_of s) c.identity c.service c.ingress && b)) (same (sym (among_present s.services.rows c.service) ∙ is))
    by_service false is = refl
