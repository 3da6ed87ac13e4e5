-- Hops of one network that another has too: over links that hold, between routers that hold.
use Rattle.std.proofs.Common.{◌≡◌, ℕ, ◌+◌, ◌==◌, ◌||◌, ◌&&◌, Bool, true, false, cond, Option, None, Some, refl, ◌∙◌, ap, subst, ⊎_elim, option_and_then}
use Rattle.std.proofs.lemmas.Bool.{and_parts, and_from, or_cases, or_left, or_right, cond-false}
use Rattle.std.proofs.lemmas.Option.{same_Some, none-some}
use Rattle.std.specs.Option.{option_map_or}
use Rattle.ctrl_model.specs.declared.kinds.RouterSeen.{RouterSeen}
use Rattle.ctrl_model.specs.Numbered.{at}
use Rattle.ctrl_model.specs.State.{Link}
use Rattle.ctrl_model.specs.Networks.{Network, router_at, is_on, other_end, link_cost, is_usable, entry_cost, across, hops}
use Rattle.model_laws.proofs.PathLaws.{by_is_on, by_hops, hops_from}

-- a router is still there, connected if it was and passed through if it was
pub record HoldsRouter (q : RouterSeen) (o : Option RouterSeen) : Type 0 where
  pub router : RouterSeen
  pub there : o ≡ Some router
  pub connected : q.connected ≡ true → router.connected ≡ true
  pub through : q.through ≡ true → router.through ≡ true

-- a link is still there between the same routers, up if it was, and neither end is off
pub record HoldsLink (off : ℕ → Bool) (k : Link) (o : Option Link) : Type 0 where
  pub link : Link
  pub there : o ≡ Some link
  pub from_a : link.a ≡ k.a
  pub to_b : link.b ≡ k.b
  pub up : k.up ≡ true → link.up ≡ true
  pub a_on : off k.a ≡ false
  pub b_on : off k.b ≡ false

-- the routers of one network hold in another, but those that are off
abbrev pub RoutersHold : (ℕ → Bool) → Network → Network → Type 0
RoutersHold off w u = (n : ℕ) (q : RouterSeen) → off n ≡ false → router_at w n ≡ Some q → HoldsRouter q (router_at u n)

-- the end that a link leads to is one of its two
pub by_end : (P : ℕ → Type 0) (v x : ℕ) (k : Link) → other_end v k ≡ Some x → P k.a → P k.b → P x
by_end P v x k e a b = by (k.a == v) (k.b == v) e
  where
    by : (c d : Bool) → cond c (Some k.b) (cond d (Some k.a) None) ≡ Some x → P x
    by true d f = subst P (same_Some k.b x f) b
    by false true f = subst P (same_Some k.a x f) a
    by false false f = absurd (none-some x f)

-- a hop leads from anywhere to a router that is connected
pub hop-on : (w : Network) (t v l : ℕ) (h : ℕ × ℕ) → hops w t v l ≡ Some h → is_on w h.0 ≡ true
hop-on w t v l h e =
    by_hops w t v l h e (λ k x q _ usable end _ _ is_h.
    let on = and_parts (is_on w k.a) (is_on w k.b) (and_parts k.up (is_on w k.a && is_on w k.b) usable).1 in
    subst (λ (g : ℕ × ℕ). is_on w g.0 ≡ true) is_h (by_end (λ n. is_on w n ≡ true) v x k end on.0 on.1))

-- over a link that cannot be used there is no hop
pub hop-breaks : (u : Network) (t v l : ℕ) → ((k : Link) → at u.links l ≡ Some k → is_usable u k ≡ false) → hops u t v l ≡ None
hop-breaks u t v l h = by (at u.links l) refl
  where
    by : (o : Option Link) → at u.links l ≡ o → hops u t v l ≡ None
    by None e = ap (option_and_then (across u t v)) e
    by (Some k) e = ap (option_and_then (across u t v)) e ∙ cond-false (is_usable u k) _ None (h k e)

module _ (off : ℕ → Bool) (w u : Network) (routers : RoutersHold off w u) where
  pub on_holds : (n : ℕ) → off n ≡ false → is_on w n ≡ true → is_on u n ≡ true
  on_holds n o e =
      by_is_on w n e (λ q is c.
      let h = routers n q o is in
      ap (λ (r : Option RouterSeen). option_map_or (λ (r : RouterSeen). r.connected) r false) h.there ∙ h.connected c)

  pub hop_holds : (t v l : ℕ) (h : ℕ × ℕ) → ((k : Link) → at w.links l ≡ Some k → HoldsLink off k (at u.links l)) → hops w t v l ≡ Some h
      → (c : ℕ) × (hops u t v l ≡ Some (h.0, c))
  hop_holds t v l h holds e =
      by_hops w t v l h e (λ k x q is usable end found allowed is_h.
      let m = holds k is in
      let parts = and_parts k.up (is_on w k.a && is_on w k.b) usable in
      let on = and_parts (is_on w k.a) (is_on w k.b) parts.1 in
      let a : is_on u m.link.a ≡ true = ap (is_on u) m.from_a ∙ on_holds k.a m.a_on on.0 in
      let b : is_on u m.link.b ≡ true = ap (is_on u) m.to_b ∙ on_holds k.b m.b_on on.1 in
      let x_on : off x ≡ false = by_end (λ n. off n ≡ false) v x k end m.a_on m.b_on in
      let r = routers x q x_on found in
      let usable' : is_usable u m.link ≡ true = and_from m.link.up (is_on u m.link.a && is_on u m.link.b) (m.up parts.0) (and_from (is_on u m.link.a) (is_on u m.link.b) a b) in
      let end' : other_end v m.link ≡ Some x = (λ i. cond (m.from_a i == v) (Some (m.to_b i)) (cond (m.to_b i == v) (Some (m.from_a i)) None)) ∙ end in
      let allowed' : ((x == t) || r.router.through) ≡ true =
      ⊎_elim (λ same. or_left (x == t) r.router.through same) (λ passed. or_right (x == t) r.router.through (r.through passed)) (or_cases (x == t) q.through allowed) in (
        link_cost m.link + entry_cost u r.router,
        hops_from u t v l m.link x r.router m.there usable' end' r.there allowed' ∙ ap (λ (g : ℕ × ℕ). Some (g.0, link_cost m.link + entry_cost u r.router)) is_h,
      ))
