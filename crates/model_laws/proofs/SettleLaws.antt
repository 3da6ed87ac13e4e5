-- Laws on repairing: a second time it changes nothing.
use Rattle.std.proofs.Common.{◌≡◌, ℕ, Bool, true, false, cond, List, [], ◌∷◌, Option, None, Some, refl, ◌∙◌, ap, cond}
use Rattle.std.proofs.lemmas.Bool.{cond-true, and_parts, false≢true}
use Rattle.std.specs.List.{filter}
use Rattle.std.specs.Option.{option_map_or}
use Rattle.ctrl_model.specs.Networks.{Network, network_of}
use Rattle.ctrl_model.specs.Numbered.{Table, map_each, with_each, with_kept, at, numbers}
use Rattle.ctrl_model.specs.State.{State, Link, Terminator, Circuit}
use Rattle.ctrl_model.specs.Settling.{repair, link_stays, terminator_stays, circuit_reaches, circuit_stays, stays_in, rerouted_to, rerouted, settle_links, settle_terminators, reroute_circuits}

pub filter-filter : {X : Type 0} (p : X → Bool) (xs : List X) → filter p (filter p xs) ≡ filter p xs
filter-filter p [] = refl
filter-filter p (x ∷ xs) = kept (p x) refl (filter-filter p xs)
  where
    kept : (b : Bool) → p x ≡ b → filter p (filter p xs) ≡ filter p xs → filter p (cond b (x ∷ filter p xs) (filter p xs)) ≡ cond b (x ∷ filter p xs) (filter p xs)
    kept true is h = cond-true (p x) (x ∷ filter p (filter p xs)) (filter p (filter p xs)) is ∙ ap (λ ys. x ∷ ys) h
    kept false is h = h

-- a change that leaves what passes a test leaves all that is kept by it
map_each-kept : {R : Type 0} (f : R → R) (p : ℕ × R → Bool) → ((x : ℕ × R) → p x ≡ true → f x.1 ≡ x.1) → (xs : List (ℕ × R)) → map_each f (filter p xs) ≡ filter p xs
map_each-kept f p same [] = refl
map_each-kept f p same (x ∷ xs) = kept (p x) refl (map_each-kept f p same xs)
  where
    kept : (b : Bool) → p x ≡ b → map_each f (filter p xs) ≡ filter p xs → map_each f (cond b (x ∷ filter p xs) (filter p xs)) ≡ cond b (x ∷ filter p xs) (filter p xs)
    kept true is h = ap (λ r. (x.0, r) ∷ map_each f (filter p xs)) (same x is) ∙ ap (λ ys. x ∷ ys) h
    kept false is h = h

with_kept-twice : {R : Type 0} (p : ℕ × R → Bool) (t : Table R) → with_kept p (with_kept p t) ≡ with_kept p t
with_kept-twice p t = ap (λ rows. record t { rows = rows }) (filter-filter p t.rows)

-- a circuit that stays is not rerouted
pub rerouted-stays : (w : Network) (identities services : List ℕ) (row : ℕ × Circuit) → circuit_stays w identities services row ≡ true → rerouted w row.1 ≡ row.1
rerouted-stays w identities services row stays = by (at w.terminators row.1.terminator) (and_parts _ _ (and_parts _ _ stays).1).1
  where
    by : (o : Option Terminator) → option_map_or (circuit_reaches w row.1) o false ≡ true → option_map_or (rerouted_to w row.1) o row.1 ≡ row.1
    by None e = absurd (false≢true e)
    by (Some t) e = cond-true (circuit_reaches w row.1 t) row.1 _ e

-- the state with these links and terminators, and of these circuits those that stay, rerouted where that is needed
abbrev with_circuits_of : State → Table Link → Table Terminator → Table Circuit → State
with_circuits_of s links terminators circuits = record s {
  links = links;
  terminators = terminators;
  circuits = with_kept (stays_in (record s { links = links; terminators = terminators })) (with_each (rerouted (network_of (record s { links = links; terminators = terminators }))) circuits);
}

-- repairing twice is repairing once
pub repair-repair : (s : State) → repair (repair s) ≡ repair s
repair-repair s =
    ap (λ links. with_circuits_of s links (with_kept (terminator_stays s) (repair s).terminators) (repair s).circuits) (with_kept-twice (link_stays s) s.links)
    ∙ ap (λ terminators. with_circuits_of s (repair s).links terminators (repair s).circuits) (with_kept-twice (terminator_stays s) s.terminators)
    ∙ ap (λ rows. record (repair s) { circuits = with_kept (stays_in (settle_terminators (settle_links s))) (record s.circuits { rows = rows }) })
    (map_each-kept (rerouted (network_of (settle_terminators (settle_links s)))) (stays_in (settle_terminators (settle_links s)))
    (λ row. rerouted-stays (network_of (settle_terminators (settle_links s))) (numbers s.identities.rows) (numbers s.services.rows) row)
    (reroute_circuits (settle_terminators (settle_links s))).circuits.rows)
    ∙ ap (λ circuits. record (repair s) { circuits = circuits })
    (with_kept-twice (stays_in (settle_terminators (settle_links s))) (reroute_circuits (settle_terminators (settle_links s))).circuits)
