-- Walks of one rule of hops by another: a walk holds where its hops hold, and breaks where one leads nowhere.
use Rattle.std.proofs.Common.{◌≡◌, ◌≢◌, ℕ, ◌==◌, ◌||◌, Bool, true, false, cond, List, [], ◌∷◌, Option, None, Some, inl, inr, refl, sym, ◌∙◌, ap, subst, eqb-true, option_and_then}
use Rattle.std.proofs.lemmas.Bool.{false≢true}
use Rattle.std.specs.Option.{option_map_or}
use Rattle.ctrl_model.specs.Membership.{Among}
use Rattle.ctrl_model.specs.Networks.{Network, is_on, hops}
use Rattle.ctrl_model.specs.Walks.{Hops, is_among, where_new, goes}
use Rattle.ctrl_model.proofs.WalkLaws.{by_goes, goes_more}
use Rattle.fallen_records.proofs.HeldHops.{hop-on}

-- where a hop leads, another rule leads too, at whatever cost
abbrev pub LeadsOn : Hops → Hops → ℕ → Type 0
LeadsOn hop new l = (v : ℕ) (h : ℕ × ℕ) → hop v l ≡ Some h → (c : ℕ) × (new v l ≡ Some (h.0, c))

pub goes_holds : (hop new : Hops) (t : ℕ) (ls seen : List ℕ) (v : ℕ) → ((l : ℕ) → Among l ls → LeadsOn hop new l) → goes hop t seen v ls ≡ true → goes new t seen v ls ≡ true
goes_holds hop new t [] seen v holds e = e
goes_holds hop new t (l ∷ ls) seen v holds e =
    by_goes hop t seen v l ls e (λ h on fresh rest.
    let m = holds l (inl refl) v h on in
    goes_more new t seen v l ls (h.0, m.0) m.1 fresh (goes_holds hop new t ls (h.0 ∷ seen) h.0 (λ k among. holds k (inr among)) rest))

-- a walk goes on only by a hop
steps : (new : Hops) (t : ℕ) (seen ls : List ℕ) (v l : ℕ) → ((h : ℕ × ℕ) → new v l ≡ Some h → goes new t (h.0 ∷ seen) h.0 ls ≡ false) → goes new t seen v (l ∷ ls) ≡ false
steps new t seen ls v l k = by (new v l) refl
  where
    either : (b : Bool) (h : ℕ × ℕ) → goes new t (h.0 ∷ seen) h.0 ls ≡ false → option_map_or (λ (h : ℕ × ℕ). goes new t (h.0 ∷ seen) h.0 ls) (cond b None (Some h)) false ≡ false
    either true h e = refl
    either false h e = e

    by : (o : Option (ℕ × ℕ)) → new v l ≡ o → goes new t seen v (l ∷ ls) ≡ false
    by None e = ap (λ o. option_map_or (λ (h : ℕ × ℕ). goes new t (h.0 ∷ seen) h.0 ls) (option_and_then (where_new seen) o) false) e
    by (Some h) e =
        ap (λ o. option_map_or (λ (h : ℕ × ℕ). goes new t (h.0 ∷ seen) h.0 ls) (option_and_then (where_new seen) o) false) e ∙ either (is_among h.0 seen) h (k h e)

-- a walk breaks at a link over which there is no hop
pub goes_breaks : (new : Hops) (t l : ℕ) → ((v : ℕ) → new v l ≡ None) → (ls seen : List ℕ) (v : ℕ) → Among l ls → goes new t seen v ls ≡ false
goes_breaks new t l none [] seen v m = absurd m
goes_breaks new t l none (k ∷ ls) seen v (inl e) =
    ap (λ o. option_map_or (λ (h : ℕ × ℕ). goes new t (h.0 ∷ seen) h.0 ls) (option_and_then (where_new seen) o) false) (ap (new v) e ∙ none v)
goes_breaks new t l none (k ∷ ls) seen v (inr m) = steps new t seen ls v k (λ h _. goes_breaks new t l none ls (h.0 ∷ seen) h.0 m)

-- a walk from a connected router leads to a connected router
pub goes_on_end : (w : Network) (t : ℕ) (ls seen : List ℕ) (v : ℕ) → is_on w v ≡ true → goes (hops w t) t seen v ls ≡ true → is_on w t ≡ true
goes_on_end w t [] seen v on e = subst (λ n. is_on w n ≡ true) (eqb-true v t e) on
goes_on_end w t (l ∷ ls) seen v on e =
    by_goes (hops w t) t seen v l ls e (λ h is _ rest. goes_on_end w t ls (h.0 ∷ seen) h.0 (hop-on w t v l h is) rest)

-- ---- a router that may not be entered on the way

-- where links that end there lead from elsewhere nowhere, and no other link leads there, a walk from elsewhere over one of them breaks
pub goes_avoids : (new : Hops) (t r : ℕ) (at_r : ℕ → Bool) → ((v l : ℕ) → v ≢ r → at_r l ≡ true → new v l ≡ None)
    → ((v l : ℕ) (h : ℕ × ℕ) → at_r l ≡ false → new v l ≡ Some h → h.0 ≢ r)
    → (ls seen : List ℕ) (v l : ℕ) → v ≢ r → Among l ls → at_r l ≡ true → goes new t seen v ls ≡ false
goes_avoids new t r at_r none off [] seen v l ne m e = absurd m
goes_avoids new t r at_r none off (k ∷ ls) seen v l ne (inl s) e =
    ap (λ o. option_map_or (λ (h : ℕ × ℕ). goes new t (h.0 ∷ seen) h.0 ls) (option_and_then (where_new seen) o) false) (none v k ne (ap at_r s ∙ e))
goes_avoids new t r at_r none off (k ∷ ls) seen v l ne (inr m) e = by (at_r k) refl (λ h ne'. goes_avoids new t r at_r none off ls (h.0 ∷ seen) h.0 l ne' m e)
  where
    by : (b : Bool) → at_r k ≡ b → ((h : ℕ × ℕ) → h.0 ≢ r → goes new t (h.0 ∷ seen) h.0 ls ≡ false) → goes new t seen v (k ∷ ls) ≡ false
    by true is again = ap (λ o. option_map_or (λ (h : ℕ × ℕ). goes new t (h.0 ∷ seen) h.0 ls) (option_and_then (where_new seen) o) false) (none v k ne is)
    by false is again = steps new t seen ls v k (λ h on. again h (off v k h is on))

-- where hops hold that do not lead there, a walk that has been there holds
pub goes_past : (hop new : Hops) (t r : ℕ) → ((v l : ℕ) (h : ℕ × ℕ) → hop v l ≡ Some h → h.0 ≢ r → (c : ℕ) × (new v l ≡ Some (h.0, c)))
    → (ls seen : List ℕ) (v : ℕ) → is_among r seen ≡ true → goes hop t seen v ls ≡ true → goes new t seen v ls ≡ true
goes_past hop new t r holds [] seen v been e = e
goes_past hop new t r holds (l ∷ ls) seen v been e =
    by_goes hop t seen v l ls e (λ h on fresh rest.
    let elsewhere : h.0 ≢ r = λ s. false≢true (sym fresh ∙ ap (λ n. is_among n seen) s ∙ been) in
    let m = holds v l h on elsewhere in
    goes_more new t seen v l ls (h.0, m.0) m.1 fresh (goes_past hop new t r holds ls (h.0 ∷ seen) h.0 (later (h.0 == r)) rest))
  where
    later : (b : Bool) → (b || is_among r seen) ≡ true
    later true = refl
    later false = been
