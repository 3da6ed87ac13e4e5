-- Which circuits are revoked when a state is settled, and that none is in a state settled.
use Rattle.std.proofs.Common.{◌≡◌, ℕ, Bool, true, false, cond, ◌&&◌, List, [], ◌∷◌, Option, None, Some, inl, inr, refl, sym, ◌∙◌, ap, subst}
use Rattle.std.proofs.lemmas.Bool.{cond-true, cond-false, and_parts, and_from, and_left, and_right, false≢true}
use Rattle.std.specs.List.{filter}
use Rattle.std.specs.Option.{option_map_or}
use Rattle.ctrl_model.specs.declared.kinds.Relation.TheVariants.{Dial}
use Rattle.ctrl_model.specs.Grants.{is_granted}
use Rattle.ctrl_model.specs.Membership.{Among}
use Rattle.ctrl_model.specs.Networks.{Network, network_of, is_shared}
use Rattle.ctrl_model.specs.Numbered.{at, map_each, numbers, Between}
use Rattle.ctrl_model.specs.State.{State, Circuit, Terminator}
use Rattle.ctrl_model.specs.Settling.{admits, granted_in, revoke, repair, settle, circuit_reaches, terminator_stays, stays_in, rerouted, settle_links, settle_terminators}
use Rattle.ctrl_model.specs.Walks.{is_among}
use Rattle.ctrl_model.proofs.Members.{by_filter}
use Rattle.ctrl_model.proofs.NumberedLaws.{at-filter-back}
use Rattle.model_laws.specs.JudgedCircuits.{CircuitAt, IsStillGranted, AreGranted}
use Rattle.model_laws.proofs.AbsentRecords.{at-filter-none, at-map_each-none}
use Rattle.model_laws.proofs.JudgedLaws.{at-filter}
use Rattle.model_laws.proofs.LeastPathLaws.{rerouted-links}
use Rattle.model_laws.proofs.SettleLaws.{repair-repair}

-- ---- where what granted a circuit stands, and where it does not

-- its terminator is present and admissible
abbrev ends_well : Network → Circuit → Bool
ends_well w c = option_map_or (admits w c.service c.terminator) (at w.terminators c.terminator) false

-- a circuit of a state with circuits revoked is the one before, if what granted it stands
revoked_at : (s : State) (n : ℕ) (c : Circuit) → CircuitAt s n c → at (revoke s).circuits.rows n ≡ cond (granted_in s (n, c)) (Some c) None
revoked_at s n c k = at-filter (granted_in s) s.circuits.next s.circuits.rows 1 n c k.ascend k.is_there

-- where no circuit stands once they are revoked, none stands in the state settled
settled_away : (s : State) (n : ℕ) → at (revoke s).circuits.rows n ≡ None → at (settle s).circuits.rows n ≡ None
settled_away s n gone =
    at-filter-none _ _ n (at-map_each-none (rerouted (network_of (settle_terminators (settle_links (revoke s))))) (revoke s).circuits.rows n gone)

revoked : (s : State) (n : ℕ) (c : Circuit) → CircuitAt s n c → granted_in s (n, c) ≡ false → at (settle s).circuits.rows n ≡ None
revoked s n c k fails = settled_away s n (revoked_at s n c k ∙ cond-false (granted_in s (n, c)) (Some c) None fails)

pub revoked-identity : (s : State) (n : ℕ) (c : Circuit) → CircuitAt s n c → is_among c.identity (numbers s.identities.rows) ≡ false → at (settle s).circuits.rows n ≡ None
revoked-identity s n c k absent = revoked s n c k (and_left _ _ absent)

pub revoked-service : (s : State) (n : ℕ) (c : Circuit) → CircuitAt s n c → is_among c.service (numbers s.services.rows) ≡ false → at (settle s).circuits.rows n ≡ None
revoked-service s n c k absent = revoked s n c k (and_right (is_among c.identity (numbers s.identities.rows)) _ (and_left _ _ absent))

-- the tests after the first two
revoked_later : (s : State) (n : ℕ) (c : Circuit) → CircuitAt s n c
    → (is_granted Dial s c.identity c.service && (is_shared (network_of s) c.identity c.service c.ingress && ends_well (network_of s) c)) ≡ false → at (settle s).circuits.rows n ≡ None
revoked_later s n c k fails = revoked s n c k (and_right (is_among c.identity (numbers s.identities.rows)) _ (and_right (is_among c.service (numbers s.services.rows)) _ fails))

pub revoked-dial : (s : State) (n : ℕ) (c : Circuit) → CircuitAt s n c → is_granted Dial s c.identity c.service ≡ false → at (settle s).circuits.rows n ≡ None
revoked-dial s n c k fails = revoked_later s n c k (and_left _ _ fails)

pub revoked-ingress : (s : State) (n : ℕ) (c : Circuit) → CircuitAt s n c → is_shared (network_of s) c.identity c.service c.ingress ≡ false → at (settle s).circuits.rows n ≡ None
revoked-ingress s n c k fails = revoked_later s n c k (and_right (is_granted Dial s c.identity c.service) _ (and_left _ _ fails))

revoked_end : (s : State) (n : ℕ) (c : Circuit) → CircuitAt s n c → ends_well (network_of s) c ≡ false → at (settle s).circuits.rows n ≡ None
revoked_end s n c k fails =
    revoked_later s n c k (and_right (is_granted Dial s c.identity c.service) _ (and_right (is_shared (network_of s) c.identity c.service c.ingress) _ fails))

pub revoked-terminator : (s : State) (n : ℕ) (c : Circuit) → CircuitAt s n c → at s.terminators.rows c.terminator ≡ None → at (settle s).circuits.rows n ≡ None
revoked-terminator s n c k absent = revoked_end s n c k (ap (λ o. option_map_or (admits (network_of s) c.service c.terminator) o false) absent)

pub revoked-not_admissible : (s : State) (n : ℕ) (c : Circuit) (e : Terminator) → CircuitAt s n c → at s.terminators.rows c.terminator ≡ Some e
    → admits (network_of s) c.service c.terminator e ≡ false → at (settle s).circuits.rows n ≡ None
revoked-not_admissible s n c e k there fails = revoked_end s n c k (ap (λ o. option_map_or (admits (network_of s) c.service c.terminator) o false) there ∙ fails)

pub kept-granted : (s : State) (n : ℕ) (c : Circuit) (e : Terminator) → CircuitAt s n c → IsStillGranted s c e → at (revoke s).circuits.rows n ≡ Some c
kept-granted s n c e k g =
    revoked_at s n c k
    ∙ cond-true (granted_in s (n, c)) (Some c) None
    (and_from _ _ g.identity (and_from _ _ g.service (and_from _ _ g.dials (and_from _ _ g.shares
    (ap (λ o. option_map_or (admits (network_of s) c.service c.terminator) o false) g.terminator ∙ g.admitted)))))

-- ---- in a state settled what granted each circuit stands

-- the links of a circuit are no part of what granted it
pub rerouted-granted : (s : State) (w : Network) (n : ℕ) (c : Circuit) → granted_in s (n, rerouted w c) ≡ granted_in s (n, c)
rerouted-granted s w n c = ap (λ d. granted_in s (n, d)) (rerouted-links w c)

-- a terminator that is kept was there, so that a circuit to it ends as well as before
still_ends : (s : State) (w : Network) (c : Circuit) → Between 1 s.terminators.next s.terminators.rows
    → option_map_or (circuit_reaches w c) (at (settle s).terminators.rows c.terminator) false ≡ true → ends_well (network_of s) c ≡ true → ends_well (network_of (settle s)) c ≡ true
still_ends s w c ascend reaches ends = by (at (settle s).terminators.rows c.terminator) refl reaches
  where
    by : (o : Option Terminator) → at (settle s).terminators.rows c.terminator ≡ o → option_map_or (circuit_reaches w c) o false ≡ true
        → option_map_or (admits (network_of s) c.service c.terminator) (at (settle s).terminators.rows c.terminator) false ≡ true
    by None is e = absurd (false≢true e)
    by (Some t) is e =
        ap (λ o. option_map_or (admits (network_of s) c.service c.terminator) o false)
        (is ∙ sym (at-filter-back (terminator_stays (settle_links (revoke s))) s.terminators.next s.terminators.rows 1 c.terminator t ascend is).0) ∙ ends

-- where what granted a circuit stands and it stays once the state is repaired, what granted it still stands then
granted_then : (s : State) (n : ℕ) (c : Circuit) → Between 1 s.terminators.next s.terminators.rows → granted_in s (n, c) ≡ true
    → stays_in (settle_terminators (settle_links (revoke s))) (n, c) ≡ true → granted_in (settle s) (n, c) ≡ true
granted_then s n c ascend granted stays =
    let g = and_parts (is_among c.identity (numbers s.identities.rows)) _ granted in
    let h = and_parts (is_among c.service (numbers s.services.rows)) _ g.1 in
    let d = and_parts (is_granted Dial s c.identity c.service) _ h.1 in
    let i = and_parts (is_shared (network_of s) c.identity c.service c.ingress) _ d.1 in
    and_from _ _ g.0 (and_from _ _ h.0 (and_from _ _ d.0 (and_from _ _ i.0
    (still_ends s (network_of (settle_terminators (settle_links (revoke s)))) c ascend (and_parts (is_among c.service (numbers s.services.rows)) _ (and_parts (is_among c.identity (numbers s.identities.rows)) _ stays).1).1 i.1))))

-- a filter that what is kept passes, once it is changed and kept again, takes nothing out
filter-kept : {R : Type 0} (f : R → R) (p q r : ℕ × R → Bool) → ((x : ℕ × R) → p x ≡ true → q (x.0, f x.1) ≡ true → r (x.0, f x.1) ≡ true) → (xs : List (ℕ × R))
    → filter r (filter q (map_each f (filter p xs))) ≡ filter q (map_each f (filter p xs))
filter-kept f p q r passes [] = refl
filter-kept f p q r passes (x ∷ xs) = first (p x) refl (filter-kept f p q r passes xs)
  where
    second : (b : Bool) → q (x.0, f x.1) ≡ b → p x ≡ true → filter r (filter q (map_each f (filter p xs))) ≡ filter q (map_each f (filter p xs))
        → filter r (cond b ((x.0, f x.1) ∷ filter q (map_each f (filter p xs))) (filter q (map_each f (filter p xs)))) ≡ cond b ((x.0, f x.1) ∷ filter q (map_each f (filter p xs))) (filter q (map_each f (filter p xs)))
    second true stays is h =
        cond-true (r (x.0, f x.1)) ((x.0, f x.1) ∷ filter r (filter q (map_each f (filter p xs)))) (filter r (filter q (map_each f (filter p xs)))) (passes x is stays)
        ∙ ap (λ ys. (x.0, f x.1) ∷ ys) h
    second false stays is h = h

    first : (b : Bool) → p x ≡ b → filter r (filter q (map_each f (filter p xs))) ≡ filter q (map_each f (filter p xs))
        → filter r (filter q (map_each f (cond b (x ∷ filter p xs) (filter p xs)))) ≡ filter q (map_each f (cond b (x ∷ filter p xs) (filter p xs)))
    first true is h = second (q (x.0, f x.1)) refl is h
    first false is h = h

-- of a state settled nothing is revoked
pub revoke-settle : (s : State) → Between 1 s.terminators.next s.terminators.rows → revoke (settle s) ≡ settle s
revoke-settle s ascend =
    let w = network_of (settle_terminators (settle_links (revoke s))) in
    ap (λ rows. record (settle s) { circuits = record s.circuits { rows = rows } })
    (filter-kept (rerouted w) (granted_in s) (stays_in (settle_terminators (settle_links (revoke s)))) (granted_in (settle s))
    (λ x granted stays. granted_then s x.0 (rerouted w x.1) ascend (rerouted-granted s w x.0 x.1 ∙ granted) stays) s.circuits.rows)

-- and settling it again changes nothing
pub settle-settle : (s : State) → Between 1 s.terminators.next s.terminators.rows → settle (settle s) ≡ settle s
settle-settle s ascend = ap repair (revoke-settle s ascend) ∙ repair-repair (revoke s)

-- where what granted each circuit stands nothing is revoked, and only there
filter-each : {X : Type 0} (p : X → Bool) (xs : List X) → ((x : X) → Among x xs → p x ≡ true) → filter p xs ≡ xs
filter-each p [] passes = refl
filter-each p (x ∷ xs) passes = cond-true (p x) (x ∷ filter p xs) (filter p xs) (passes x (inl refl)) ∙ ap (λ ys. x ∷ ys) (filter-each p xs (λ y m. passes y (inr m)))

pub revoke-none : (s : State) → AreGranted s → revoke s ≡ s
revoke-none s granted = ap (λ rows. record s { circuits = record s.circuits { rows = rows } }) (filter-each (granted_in s) s.circuits.rows granted)

pub AreGranted-from : (s : State) → revoke s ≡ s → AreGranted s
AreGranted-from s is row m =
    by_filter (granted_in s) s.circuits.rows row (subst (λ rows. Among row rows) (sym (ap (λ (u : State). u.circuits.rows) is)) m) (λ _ e. e)
