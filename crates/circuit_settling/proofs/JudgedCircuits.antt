-- What becomes of each circuit of a settled state: it stays, goes on over other links, or ends.
use Rattle.std.proofs.Common.{◌≡◌, ℕ, ◌&&◌, ◌||◌, Bool, true, false, cond, List, [], ◌∷◌, is_some, Option, None, Some, option_and_then, refl, sym, ◌∙◌, ap, ap₂}
use Rattle.std.proofs.lemmas.Bool.{and_parts, false≢true}
use Rattle.std.specs.List.{filter}
use Rattle.std.proofs.lemmas.Option.{none-some}
use Rattle.std.specs.Option.{option_map_or}
use Rattle.ctrl_model.specs.Networks.{Network, network_of, is_path, least_path}
use Rattle.ctrl_model.specs.Numbered.{Table, at, map_each, numbers, Between}
use Rattle.ctrl_model.specs.Settling.{granted_in, circuit_stays, circuit_reaches, rerouted, rerouted_to, stays_in, settle}
use Rattle.ctrl_model.specs.State.{State, Terminator, Circuit}
use Rattle.ctrl_model.specs.Walks.{is_among}
use Rattle.model_laws.proofs.LeastPathLaws.{least_path-is}
use Rattle.model_laws.proofs.RevokedLaws.{rerouted-granted}
use Rattle.model_laws.proofs.SettleLaws.{rerouted-stays}
use Rattle.circuits.specs.CircuitChanges.{circuits_of, without_circuits}
use Rattle.circuits.specs.MovedCircuits.{moves_by, ended_by, with_moves}
use Rattle.circuits.proofs.JudgedMoves.{moved_and_left}
use Rattle.circuit_settling.specs.OtherLinks.{other_links, before_circuits, keeps_in, going_in, way_in}

-- ---- one circuit

module _ (w : Network) (identities services : List ℕ) where
  -- its ends but for the terminator
  abbrev has_ends : Circuit → Bool
  has_ends c = is_among c.identity identities && is_among c.service services

  -- a circuit over other links, if there are some
  abbrev going : Circuit → Option (List ℕ) → Circuit
  going c o = option_map_or (λ links. record c { links = links }) o c

  three : (a b c : Bool) → (a && (b && c)) ≡ ((a && b) && c)
  three true b c = refl
  three false b c = refl

  least_reaches : (c : Circuit) (e : Terminator) (links : List ℕ) → least_path w c.ingress e.router ≡ Some links → is_path w c.ingress links e.router ≡ true
  least_reaches c e links is = ((least_path-is w c.ingress e.router links).0 is).is_a_path

  pub over : (x : ℕ × Circuit) (links : List ℕ) → circuit_stays w identities services x ≡ false → other_links w identities services x.1 ≡ Some links
      → rerouted w x.1 ≡ record x.1 { links = links }
  over x links e is = by (at w.terminators x.1.terminator) (sym (three (is_among x.1.identity identities) (is_among x.1.service services) _) ∙ e) is
    where
      no_links : (a : Bool) → cond a None None ≡ Some links → ⊥
      no_links true is = none-some links is
      no_links false is = none-some links is

      by : (o : Option Terminator) → (has_ends x.1 && option_map_or (circuit_reaches w x.1) o false) ≡ false
          → cond (has_ends x.1) (option_and_then (λ (t : Terminator). least_path w x.1.ingress t.router) o) None ≡ Some links
          → option_map_or (rerouted_to w x.1) o x.1 ≡ record x.1 { links = links }
      by None e is = absurd (no_links (has_ends x.1) is)
      by (Some t) e is = reaches (has_ends x.1) (circuit_reaches w x.1 t) e is
        where
          reaches : (a b : Bool) → (a && b) ≡ false → cond a (least_path w x.1.ingress t.router) None ≡ Some links
              → cond b x.1 (going x.1 (least_path w x.1.ingress t.router)) ≡ record x.1 { links = links }
          reaches true true e is = absurd (false≢true (sym e))
          reaches true false e is = ap (going x.1) is
          reaches false b e is = absurd (none-some links is)

  -- its links are a path to its terminator, which is present
  abbrev reaches_end : Circuit → Bool
  reaches_end c = option_map_or (circuit_reaches w c) (at w.terminators c.terminator) false

  -- the least path to its terminator, if that is present
  abbrev least_to_end : Circuit → Option (List ℕ)
  least_to_end c = option_and_then (λ (t : Terminator). least_path w c.ingress t.router) (at w.terminators c.terminator)

  nowhere : (a r : Bool) (l : Option (List ℕ)) → l ≡ None → (a && r) ≡ ((a && r) || is_some (cond a l None))
  nowhere true true l e = refl
  nowhere true false l e = sym (ap is_some e)
  nowhere false r l e = refl

  as_it_is : (a r : Bool) (l : Option (List ℕ)) → r ≡ true → (a && r) ≡ ((a && r) || is_some (cond a l None))
  as_it_is true r l e = e ∙ sym (ap (λ b. b || is_some l) e)
  as_it_is false r l e = refl

  another_way : (a r q : Bool) (l : Option (List ℕ)) (links : List ℕ) → r ≡ true → q ≡ false → l ≡ Some links → (a && r) ≡ ((a && q) || is_some (cond a l None))
  another_way true r q l links e f is = e ∙ sym (ap₂ (λ b o. b || is_some o) f is)
  another_way false r q l links e f is = refl

  -- rerouted, it reaches its end or not
  judged_at : (c : Circuit) (o : Option Terminator) → at w.terminators c.terminator ≡ o
      → (has_ends (rerouted w c) && reaches_end (rerouted w c)) ≡ ((has_ends c && reaches_end c) || is_some (cond (has_ends c) (least_to_end c) None))
  judged_at c None there =
      ap (λ d. has_ends d && reaches_end d) (ap (λ o. option_map_or (rerouted_to w c) o c) there)
      ∙ nowhere (has_ends c) (reaches_end c) (least_to_end c) (ap (option_and_then (λ (t : Terminator). least_path w c.ingress t.router)) there)
  judged_at c (Some t) there = by (circuit_reaches w c t) (least_path w c.ingress t.router) refl refl
    where
      is_rerouted : (b : Bool) (l : Option (List ℕ)) → circuit_reaches w c t ≡ b → least_path w c.ingress t.router ≡ l → rerouted w c ≡ cond b c (going c l)
      is_rerouted b l e is = ap (λ o. option_map_or (rerouted_to w c) o c) there ∙ ap₂ (λ d o. cond d c (going c o)) e is

      by : (b : Bool) (l : Option (List ℕ)) → circuit_reaches w c t ≡ b → least_path w c.ingress t.router ≡ l
          → (has_ends (rerouted w c) && reaches_end (rerouted w c)) ≡ ((has_ends c && reaches_end c) || is_some (cond (has_ends c) (least_to_end c) None))
      by true l e is =
          ap (λ d. has_ends d && reaches_end d) (is_rerouted true l e is)
          ∙ as_it_is (has_ends c) (reaches_end c) (least_to_end c) (ap (λ o. option_map_or (circuit_reaches w c) o false) there ∙ e)
      by false None e is =
          ap (λ d. has_ends d && reaches_end d) (is_rerouted false None e is)
          ∙ nowhere (has_ends c) (reaches_end c) (least_to_end c) (ap (option_and_then (λ (u : Terminator). least_path w c.ingress u.router)) there ∙ is)
      by false (Some links) e is =
          ap (λ d. has_ends d && reaches_end d) (is_rerouted false (Some links) e is)
          ∙ another_way (has_ends c) (reaches_end (record c { links = links })) (reaches_end c) (least_to_end c) links
          (ap (λ o. option_map_or (circuit_reaches w (record c { links = links })) o false) there ∙ least_reaches c t links is)
          (ap (λ o. option_map_or (circuit_reaches w c) o false) there ∙ e)
          (ap (option_and_then (λ (u : Terminator). least_path w c.ingress u.router)) there ∙ is)

  pub judged : (x : ℕ × Circuit) → circuit_stays w identities services (x.0, rerouted w x.1) ≡ (circuit_stays w identities services x || is_some (other_links w identities services x.1))
  judged x =
      three (is_among (rerouted w x.1).identity identities) (is_among (rerouted w x.1).service services) (reaches_end (rerouted w x.1))
      ∙ judged_at x.1 (at w.terminators x.1.terminator) refl
      ∙ ap (λ b. b || is_some (other_links w identities services x.1)) (sym (three (is_among x.1.identity identities) (is_among x.1.service services) (reaches_end x.1)))

-- ---- with what granted them

-- of the circuits that pass a first test, changed, those that pass a second are of all, changed, those that pass both, where the change leaves the first test
filter_twice : (f : Circuit → Circuit) (p q : ℕ × Circuit → Bool) → ((x : ℕ × Circuit) → p (x.0, f x.1) ≡ p x) → (xs : List (ℕ × Circuit))
    → filter q (map_each f (filter p xs)) ≡ filter (λ x. p x && q x) (map_each f xs)
filter_twice f p q same [] = refl
filter_twice f p q same (x ∷ xs) = by (p x) refl (filter_twice f p q same xs)
  where
    y : ℕ × Circuit
    y = (x.0, f x.1)

    both : List (ℕ × Circuit)
    both = filter (λ x. p x && q x) (map_each f xs)

    by : (b : Bool) → p x ≡ b → filter q (map_each f (filter p xs)) ≡ both → filter q (map_each f (cond b (x ∷ filter p xs) (filter p xs))) ≡ cond (p y && q y) (y ∷ both) both
    by true is h = ap (λ ys. cond (q y) (y ∷ ys) ys) h ∙ ap (λ b. cond (b && q y) (y ∷ both) both) (sym (same x ∙ is))
    by false is h = h ∙ ap (λ b. cond (b && q y) (y ∷ both) both) (sym (same x ∙ is))

-- ---- all of a state

module _ (t : State) where
  -- the network in which the circuits are judged
  abbrev judging : Network
  judging = network_of (before_circuits t)

  abbrev identities_of : List ℕ
  identities_of = numbers t.identities.rows

  abbrev services_of : List ℕ
  services_of = numbers t.services.rows

  -- where one goes on that does not stay as it is
  abbrev goes_over : Circuit → Option (List ℕ)
  goes_over c = cond (granted_in t (0, c)) (other_links judging identities_of services_of c) None

  still : (x : ℕ × Circuit) → keeps_in t x ≡ true → rerouted judging x.1 ≡ x.1
  still x e = rerouted-stays judging identities_of services_of x (and_parts (granted_in t x) (stays_in (before_circuits t) x) e).1

  goes : (x : ℕ × Circuit) (links : List ℕ) → keeps_in t x ≡ false → goes_over x.1 ≡ Some links → rerouted judging x.1 ≡ record x.1 { links = links }
  goes x links fails is = by (granted_in t x) refl is
    where
      by : (b : Bool) → granted_in t x ≡ b → cond b (other_links judging identities_of services_of x.1) None ≡ Some links → rerouted judging x.1 ≡ record x.1 { links = links }
      by true g way = over judging identities_of services_of x links (ap (λ b. b && stays_in (before_circuits t) x) (sym g) ∙ fails) way
      by false g way = absurd (none-some links way)

  ends_or_goes : (x : ℕ × Circuit) → keeps_in t (x.0, rerouted judging x.1) ≡ (keeps_in t x || is_some (goes_over x.1))
  ends_or_goes x = ap₂ (λ a b. a && b) (rerouted-granted t judging x.0 x.1) (judged judging identities_of services_of x) ∙ by (granted_in t x)
    where
      by : (a : Bool) → (a && (stays_in (before_circuits t) x || is_some (other_links judging identities_of services_of x.1)))
          ≡ ((a && stays_in (before_circuits t) x) || is_some (cond a (other_links judging identities_of services_of x.1) None))
      by true = refl
      by false = refl

  pub circuits_settled : (lost : List ℕ) → Between 1 t.circuits.next t.circuits.rows → lost ≡ going_in t
      → with_moves (moves_by (way_in t) lost) (without_circuits (ended_by (way_in t) lost) (circuits_of t)) ≡ circuits_of (settle t)
  circuits_settled lost b is =
      ap (λ ns. with_moves (moves_by (way_in t) ns) (without_circuits (ended_by (way_in t) ns) (circuits_of t))) is
      ∙ ap (λ (c : Table Circuit). record { circuits = c })
      (moved_and_left (keeps_in t) (rerouted judging) goes_over still goes ends_or_goes t.circuits t.circuits.next b
      ∙ ap (λ rows. record t.circuits { rows = rows }) (sym (filter_twice (rerouted judging) (granted_in t) (stays_in (before_circuits t)) (λ x. rerouted-granted t judging x.0 x.1) t.circuits.rows)))
