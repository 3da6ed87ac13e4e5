-- What becomes of each circuit when a state is repaired.
use Rattle.std.proofs.Common.{◌≡◌, ℕ, ◌+◌, ◌==◌, Bool, true, false, cond, ◌&&◌, List, [], ◌∷◌, None, Some, refl, ◌∙◌, ap, arith, eqb-true, eq-eqb}
use Rattle.std.proofs.lemmas.Bool.{cond-true, cond-false, and_from}
use Rattle.std.proofs.lemmas.Option.{same_Some}
use Rattle.std.specs.List.{filter}
use Rattle.std.specs.Option.{option_map, option_map_or}
use Rattle.ctrl_model.specs.Networks.{Network, network_of, is_path, IsLeastPath}
use Rattle.ctrl_model.specs.Numbered.{at, map_each, numbers, Between}
use Rattle.ctrl_model.specs.State.{State, Circuit, Terminator}
use Rattle.ctrl_model.specs.Settling.{repair, circuit_reaches, stays_in, rerouted, settle_links, settle_terminators}
use Rattle.ctrl_model.specs.Walks.{is_among}
use Rattle.ctrl_model.proofs.NumberedLaws.{at-map_each, at-below, Between-map_each}
use Rattle.model_laws.specs.JudgedCircuits.{CircuitAt, HasEnds}
use Rattle.model_laws.proofs.AbsentRecords.{at-filter-none}
use Rattle.model_laws.proofs.LeastPathLaws.{rerouted-links, rerouted-still, rerouted-least, rerouted-none}

-- a record that stands in a table whose numbers ascend is kept by a filter exactly where it passes
pub at-filter : {R : Type 0} (p : ℕ × R → Bool) (high : ℕ) (xs : List (ℕ × R)) (low m : ℕ) (r : R) → Between low high xs → at xs m ≡ Some r
    → at (filter p xs) m ≡ cond (p (m, r)) (Some r) None
at-filter p high [] low m r b e = absurd (cc)
at-filter {R} p high (x ∷ xs) low m r b e = by (x.0 == m) refl e (at-filter p high xs (x.0 + 1) m r b.2)
  where
    here : (c : Bool) → p x ≡ c → x.0 ≡ m → at (cond c (x ∷ filter p xs) (filter p xs)) m ≡ cond c (Some x.1) None
    here true passes is = cond-true (x.0 == m) (Some x.1) (at (filter p xs) m) (eq-eqb x.0 m is)
    here false fails is = at-filter-none p xs m (at-below high xs (x.0 + 1) m b.2 (omega arith))

    there : (c : Bool) → at (filter p xs) m ≡ cond (p (m, r)) (Some r) None → (x.0 == m) ≡ false → at (cond c (x ∷ filter p xs) (filter p xs)) m ≡ cond (p (m, r)) (Some r) None
    there true h other = cond-false (x.0 == m) (Some x.1) (at (filter p xs) m) other ∙ h
    there false h other = h

    by : (d : Bool) → (x.0 == m) ≡ d → cond d (Some x.1) (at xs m) ≡ Some r → (at xs m ≡ Some r → at (filter p xs) m ≡ cond (p (m, r)) (Some r) None)
        → at (cond (p x) (x ∷ filter p xs) (filter p xs)) m ≡ cond (p (m, r)) (Some r) None
    by true is e k =
        let n = eqb-true x.0 m is in let t = same_Some x.1 r e in
        here (p x) refl n ∙ (λ i. cond (p (n i, t i)) (Some (t i)) None)
    by false is e k = there (p x) (k e) is

-- the numbers that present circuits need
abbrev identities_of : State → List ℕ
identities_of s = numbers s.identities.rows

abbrev services_of : State → List ℕ
services_of s = numbers s.services.rows

-- a circuit of a state repaired is the one before, rerouted, if that one stays
judged : (s : State) (n : ℕ) (c : Circuit) → CircuitAt s n c
    → at (repair s).circuits.rows n ≡ cond (stays_in (settle_terminators (settle_links s)) (n, rerouted (network_of (repair s)) c)) (Some (rerouted (network_of (repair s)) c)) None
judged s n c k =
    at-filter (stays_in (settle_terminators (settle_links s))) s.circuits.next (map_each (rerouted (network_of (repair s))) s.circuits.rows) 1 n (rerouted (network_of (repair s)) c)
    (Between-map_each (rerouted (network_of (repair s))) s.circuits.next s.circuits.rows 1 k.ascend)
    (at-map_each (rerouted (network_of (repair s))) s.circuits.rows n ∙ ap (option_map (rerouted (network_of (repair s)))) k.is_there)

-- its links are a path to its terminator, which is present
abbrev reaches : Network → Circuit → Bool
reaches w c = option_map_or (circuit_reaches w c) (at w.terminators c.terminator) false

-- ---- where it ends

ended : (s : State) (n : ℕ) (c : Circuit) → CircuitAt s n c → stays_in (settle_terminators (settle_links s)) (n, rerouted (network_of (repair s)) c) ≡ false → at (repair s).circuits.rows n ≡ None
ended s n c k fails = judged s n c k ∙ cond-false (stays_in (settle_terminators (settle_links s)) (n, rerouted (network_of (repair s)) c)) _ None fails

-- a circuit with other links has the same ends
same_identity : (w : Network) (c : Circuit) → (rerouted w c).identity ≡ c.identity
same_identity w c = ap (λ d. d.identity) (rerouted-links w c)

same_service : (w : Network) (c : Circuit) → (rerouted w c).service ≡ c.service
same_service w c = ap (λ d. d.service) (rerouted-links w c)

same_terminator : (w : Network) (c : Circuit) → (rerouted w c).terminator ≡ c.terminator
same_terminator w c = ap (λ d. d.terminator) (rerouted-links w c)

pub first_false : (a b c : Bool) → a ≡ false → (a && (b && c)) ≡ false
first_false a b c e = ap (λ x. x && (b && c)) e

pub second_false : (a b c : Bool) → b ≡ false → (a && (b && c)) ≡ false
second_false true b c e = ap (λ x. x && c) e
second_false false b c e = refl

pub third_false : (a b c : Bool) → c ≡ false → (a && (b && c)) ≡ false
third_false true true c e = e
third_false true false c e = refl
third_false false b c e = refl

pub ends-identity : (s : State) (n : ℕ) (c : Circuit) → CircuitAt s n c → is_among c.identity (identities_of s) ≡ false → at (repair s).circuits.rows n ≡ None
ends-identity s n c k absent = ended s n c k (first_false (is_among (rerouted (network_of (repair s)) c).identity (identities_of s)) (is_among (rerouted (network_of (repair s)) c).service (services_of s)) (reaches (network_of (repair s)) (rerouted (network_of (repair s)) c)) (ap (λ i. is_among i (identities_of s)) (same_identity (network_of (repair s)) c) ∙ absent))

pub ends-service : (s : State) (n : ℕ) (c : Circuit) → CircuitAt s n c → is_among c.service (services_of s) ≡ false → at (repair s).circuits.rows n ≡ None
ends-service s n c k absent =
    ended s n c k (second_false (is_among (rerouted (network_of (repair s)) c).identity (identities_of s)) _ _ (ap (λ i. is_among i (services_of s)) (same_service (network_of (repair s)) c) ∙ absent))

fails_to_reach : (s : State) (n : ℕ) (c : Circuit) → CircuitAt s n c → reaches (network_of (repair s)) (rerouted (network_of (repair s)) c) ≡ false → at (repair s).circuits.rows n ≡ None
fails_to_reach s n c k fails =
    ended s n c k (third_false (is_among (rerouted (network_of (repair s)) c).identity (identities_of s)) (is_among (rerouted (network_of (repair s)) c).service (services_of s)) _ fails)

pub ends-terminator : (s : State) (n : ℕ) (c : Circuit) → CircuitAt s n c → at (repair s).terminators.rows c.terminator ≡ None → at (repair s).circuits.rows n ≡ None
ends-terminator s n c k absent =
    fails_to_reach s n c k (ap (λ o. option_map_or (circuit_reaches (network_of (repair s)) (rerouted (network_of (repair s)) c)) o false)
    (ap (at (repair s).terminators.rows) (same_terminator (network_of (repair s)) c) ∙ absent))

pub ends-no_path : (s : State) (n : ℕ) (c : Circuit) (e : Terminator) → CircuitAt s n c → HasEnds s c e → ((links : List ℕ) → is_path (network_of (repair s)) c.ingress links e.router ≡ false)
    → at (repair s).circuits.rows n ≡ None
ends-no_path s n c e k ends none =
    fails_to_reach s n c k (ap (reaches (network_of (repair s))) (rerouted-none (network_of (repair s)) c e ends.terminator none)
    ∙ ap (λ o. option_map_or (circuit_reaches (network_of (repair s)) c) o false) ends.terminator ∙ none c.links)

-- ---- where it goes on

goes_on : (s : State) (n : ℕ) (c d : Circuit) (e : Terminator) → CircuitAt s n c → HasEnds s c e → rerouted (network_of (repair s)) c ≡ d → record d { links = c.links } ≡ c
    → is_path (network_of (repair s)) d.ingress d.links e.router ≡ true → at (repair s).circuits.rows n ≡ Some d
goes_on s n c d e k ends is alike path =
    judged s n c k
    ∙ ap (λ x. cond (stays_in (settle_terminators (settle_links s)) (n, x)) (Some x) None) is
    ∙ cond-true (stays_in (settle_terminators (settle_links s)) (n, d)) (Some d) None
    (and_from _ _ (ap (λ x. is_among x.identity (identities_of s)) alike ∙ ends.identity)
    (and_from _ _ (ap (λ x. is_among x.service (services_of s)) alike ∙ ends.service)
    (ap (λ o. option_map_or (circuit_reaches (network_of (repair s)) d) o false) (ap (λ x. at (repair s).terminators.rows x.terminator) alike ∙ ends.terminator) ∙ path)))

pub goes-stays : (s : State) (n : ℕ) (c : Circuit) (e : Terminator) → CircuitAt s n c → HasEnds s c e → is_path (network_of (repair s)) c.ingress c.links e.router ≡ true → at (repair s).circuits.rows n ≡ Some c
goes-stays s n c e k ends path = goes_on s n c c e k ends (rerouted-still (network_of (repair s)) c e ends.terminator path) refl path

pub goes-least : (s : State) (n : ℕ) (c : Circuit) (e : Terminator) (links : List ℕ) → CircuitAt s n c → HasEnds s c e → is_path (network_of (repair s)) c.ingress c.links e.router ≡ false
    → IsLeastPath (network_of (repair s)) c.ingress e.router links → at (repair s).circuits.rows n ≡ Some (record c { links = links })
goes-least s n c e links k ends fails least =
    goes_on s n c (record c { links = links }) e k ends (rerouted-least (network_of (repair s)) c e links ends.terminator fails least) refl least.is_a_path
