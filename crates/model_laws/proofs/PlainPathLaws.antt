-- That the test of a path is what a path is in plain words.
use Rattle.std.proofs.Common.{◌≡◌, ℕ, ◌+◌, ◌==◌, ◌||◌, ◌&&◌, Bool, true, false, cond, ◌⊎◌, ◌↔◌, inl, inr, List, [], ◌∷◌, Some, None, refl, sym, ◌∙◌, ap, subst, eqb-true, eq-eqb, ne_eqb}
use Rattle.std.proofs.lemmas.Bool.{and_parts, and_from, or_parts, or_right, or_left, cases_eq, both_ways, cond-true, cond-false}
use Rattle.std.proofs.lemmas.Option.{same_Some}
use Rattle.std.specs.Option.{option_map_or}
use Rattle.ctrl_model.specs.declared.kinds.RouterSeen.{RouterSeen}
use Rattle.ctrl_model.specs.Membership.{Among}
use Rattle.ctrl_model.specs.Numbered.{at}
use Rattle.ctrl_model.specs.State.{Link}
use Rattle.ctrl_model.specs.Walks.{is_among, goes}
use Rattle.ctrl_model.specs.Networks.{Network, router_at, is_on, other_end, link_cost, is_usable, entry_cost, hops, is_path}
use Rattle.ctrl_model.specs.PlainPaths.{Joins, LeadThrough, NoneTwice, last_after, may_be_passed, IsPlainPath}
use Rattle.ctrl_model.proofs.WalkLaws.{by_goes, goes_more}
use Rattle.model_laws.proofs.PathLaws.{by_is_on, by_hops, hops_from}

-- ---- one link

-- the other end of a link is what it joins a router to
by_other_end : (v : ℕ) (link : Link) (x : ℕ) → other_end v link ≡ Some x → Joins link v x
by_other_end v link x e = apart (link.a == v) (link.b == v) refl refl e
  where
    apart : (a b : Bool) → (link.a == v) ≡ a → (link.b == v) ≡ b → cond a (Some link.b) (cond b (Some link.a) None) ≡ Some x → Joins link v x
    apart true b p q is = inl (eqb-true link.a v p, same_Some link.b x is)
    apart false true p q is = inr (eqb-true link.b v q, same_Some link.a x is)
    apart false false p q is = absurd (cc)

other_end-from : (v : ℕ) (link : Link) (x : ℕ) → Joins link v x → other_end v link ≡ Some x
other_end-from v link x (inl j) = cond-true (link.a == v) (Some link.b) (cond (link.b == v) (Some link.a) None) (eq-eqb link.a v j.0) ∙ ap Some j.1
other_end-from v link x (inr j) = apart (cases_eq link.a v)
  where
    apart : (link.a ≡ v) ⊎ (link.a ≡ v → ⊥) → other_end v link ≡ Some x
    apart (inl s) =
        cond-true (link.a == v) (Some link.b) (cond (link.b == v) (Some link.a) None) (eq-eqb link.a v s) ∙ ap Some (j.0 ∙ (sym s ∙ j.1))
    apart (inr n) =
        cond-false (link.a == v) (Some link.b) (cond (link.b == v) (Some link.a) None) (ne_eqb link.a v n)
        ∙ (cond-true (link.b == v) (Some link.a) None (eq-eqb link.b v j.0) ∙ ap Some j.1)

-- a usable link leads to a router that is present and connected
is_on-end : (w : Network) (link : Link) (v x : ℕ) → is_usable w link ≡ true → Joins link v x → is_on w x ≡ true
is_on-end w link v x usable j = apart (and_parts (is_on w link.a) (is_on w link.b) (and_parts link.up (is_on w link.a && is_on w link.b) usable).1) j
  where
    apart : (is_on w link.a ≡ true) × (is_on w link.b ≡ true) → Joins link v x → is_on w x ≡ true
    apart on (inl k) = subst (λ y. is_on w y ≡ true) k.1 on.1
    apart on (inr k) = subst (λ y. is_on w y ≡ true) k.1 on.0

-- and comes from one that is
is_on-hop : (w : Network) (t v l : ℕ) (h : ℕ × ℕ) → hops w t v l ≡ Some h → is_on w v ≡ true
is_on-hop w t v l h is = by_hops w t v l h is (λ link x q there usable end found allowed told. is_on-end w link x v usable (turned link x (by_other_end v link x end)))
  where
    turned : (link : Link) (x : ℕ) → Joins link v x → Joins link x v
    turned link x (inl j) = inr (j.1, j.0)
    turned link x (inr j) = inl (j.1, j.0)

-- ---- walks

-- a walk to a router that is present and connected begins at one
pub is_on-start : (w : Network) (t : ℕ) (links seen : List ℕ) (v : ℕ) → is_on w t ≡ true → goes (hops w t) t seen v links ≡ true → is_on w v ≡ true
is_on-start w t [] seen v on g = subst (λ x. is_on w x ≡ true) (sym (eqb-true v t g)) on
is_on-start w t (l ∷ ls) seen v on g = by_goes (hops w t) t seen v l ls g (λ h is _ _. is_on-hop w t v l h is)

-- what a walk that keeps off some routers is in plain words
record IsPlainWalk (w : Network) (t : ℕ) (seen : List ℕ) (v : ℕ) (links : List ℕ) : Type 0 where
  after : List ℕ
  leads : LeadThrough w links v after
  new : (x : ℕ) → Among x after → is_among x seen ≡ false
  once : NoneTwice after
  ends : last_after v after ≡ t
  inside : (x : ℕ) → Among x after → (x ≡ t → ⊥) → may_be_passed w x ≡ true

-- a hop, and a walk on from where it leads
one_more : (w : Network) (t : ℕ) (seen : List ℕ) (v l : ℕ) (ls : List ℕ) (link : Link) (x : ℕ) (q : RouterSeen) → at w.links l ≡ Some link → is_usable w link ≡ true
    → other_end v link ≡ Some x → router_at w x ≡ Some q → ((x == t) || q.through) ≡ true → is_among x seen ≡ false → IsPlainWalk w t (x ∷ seen) x ls → IsPlainWalk w t seen v (l ∷ ls)
one_more w t seen v l ls link x q is usable end found allowed new p = record {
  after = x ∷ p.after;
  leads = (record { link = link; present = is; usable = usable; joined = by_other_end v link x end }, p.leads);
  new = keeps_off;
  once = (λ m. both_ways (is_among x (x ∷ seen)) (p.new x m) (or_left (x == x) (is_among x seen) (eq-eqb x x refl)), p.once);
  ends = p.ends;
  inside = passed;
}
  where
    keeps_off : (y : ℕ) → (x ≡ y) ⊎ Among y p.after → is_among y seen ≡ false
    keeps_off y (inl s) = subst (λ z. is_among z seen ≡ false) s new
    keeps_off y (inr m) = (or_parts (x == y) (is_among y seen) (p.new y m)).1

    through : (b c : Bool) → b ≡ false → (b || c) ≡ true → c ≡ true
    through true c e f = absurd (cc)
    through false c e f = f

    passed : (y : ℕ) → (x ≡ y) ⊎ Among y p.after → (y ≡ t → ⊥) → may_be_passed w y ≡ true
    passed y (inl s) ne =
        subst (λ z. may_be_passed w z ≡ true) s
        (ap (λ o. option_map_or (λ (q : RouterSeen). q.through) o false) found ∙ through (x == t) q.through (ne_eqb x t (λ e. ne (sym s ∙ e))) allowed)
    passed y (inr m) ne = p.inside y m ne

plain_walk : (w : Network) (t : ℕ) (links seen : List ℕ) (v : ℕ) → goes (hops w t) t seen v links ≡ true → IsPlainWalk w t seen v links
plain_walk w t [] seen v g = record { after = []; leads = tt; new = λ x m. absurd m; once = tt; ends = eqb-true v t g; inside = λ x m. absurd m }
plain_walk w t (l ∷ ls) seen v g =
    by_goes (hops w t) t seen v l ls g (λ h hop new rest.
    by_hops w t v l h hop (λ link x q is usable end found allowed is_h.
    one_more w t seen v l ls link x q is usable end found allowed
    (subst (λ y. is_among y seen ≡ false) (sym (ap (λ (g : ℕ × ℕ). g.0) is_h)) new)
    (subst (λ y. IsPlainWalk w t (y ∷ seen) y ls) (sym (ap (λ (g : ℕ × ℕ). g.0) is_h)) (plain_walk w t ls (h.0 ∷ seen) h.0 rest))))

walk_goes : (w : Network) (t : ℕ) (links after seen : List ℕ) (v : ℕ) → LeadThrough w links v after → ((x : ℕ) → Among x after → is_among x seen ≡ false) → NoneTwice after
    → last_after v after ≡ t → ((x : ℕ) → Among x after → (x ≡ t → ⊥) → may_be_passed w x ≡ true) → goes (hops w t) t seen v links ≡ true
walk_goes w t [] [] seen v leads new once ends inside = eq-eqb v t ends
walk_goes w t [] (x ∷ xs) seen v leads new once ends inside = absurd leads
walk_goes w t (l ∷ ls) [] seen v leads new once ends inside = absurd leads
walk_goes w t (l ∷ ls) (x ∷ xs) seen v leads new once ends inside =
    by_is_on w x (is_on-end w leads.0.link v x leads.0.usable leads.0.joined) (λ q found _.
    goes_more (hops w t) t seen v l ls (x, link_cost leads.0.link + entry_cost w q)
    (hops_from w t v l leads.0.link x q leads.0.present leads.0.usable (other_end-from v leads.0.link x leads.0.joined) found (allowed q found))
    (new x (inl refl))
    (walk_goes w t ls xs (x ∷ seen) x leads.1 keeps_off once.1 ends (λ y m. inside y (inr m))))
  where
    keeps_off : (y : ℕ) → Among y xs → is_among y (x ∷ seen) ≡ false
    keeps_off y m = neither (x == y) (is_among y seen) (ne_eqb x y (λ s. once.0 (subst (λ z. Among z xs) (sym s) m))) (new y (inr m))
      where
        neither : (a b : Bool) → a ≡ false → b ≡ false → (a || b) ≡ false
        neither true b e f = e
        neither false b e f = f

    allowed : (q : RouterSeen) → router_at w x ≡ Some q → ((x == t) || q.through) ≡ true
    allowed q found = apart (cases_eq x t)
      where
        apart : (x ≡ t) ⊎ (x ≡ t → ⊥) → ((x == t) || q.through) ≡ true
        apart (inl e) = or_left (x == t) q.through (eq-eqb x t e)
        apart (inr ne) =
            or_right (x == t) q.through (sym (ap (λ o. option_map_or (λ (q : RouterSeen). q.through) o false) found) ∙ inside x (inl refl) ne)

-- ---- paths

pub is_path-plain : (w : Network) (r t : ℕ) (links : List ℕ) → (is_path w r links t ≡ true) ↔ IsPlainPath w r links t
is_path-plain w r t links = (plain, test)
  where
    plain : is_path w r links t ≡ true → IsPlainPath w r links t
    plain e = from (and_parts (is_on w r && is_on w t) (goes (hops w t) t (r ∷ []) r links) e)
      where
        of_walk : is_on w r ≡ true → is_on w t ≡ true → IsPlainWalk w t (r ∷ []) r links → IsPlainPath w r links t
        of_walk on_r on_t p = record {
          after = p.after;
          begins_on = on_r;
          ends_on = on_t;
          leads = p.leads;
          once = (λ m. both_ways (is_among r (r ∷ [])) (p.new r m) (or_left (r == r) false (eq-eqb r r refl)), p.once);
          ends = p.ends;
          inside = p.inside;
        }

        from : ((is_on w r && is_on w t) ≡ true) × (goes (hops w t) t (r ∷ []) r links ≡ true) → IsPlainPath w r links t
        from s = of_walk (and_parts (is_on w r) (is_on w t) s.0).0 (and_parts (is_on w r) (is_on w t) s.0).1 (plain_walk w t links (r ∷ []) r s.1)

    test : IsPlainPath w r links t → is_path w r links t ≡ true
    test p =
        and_from (is_on w r && is_on w t) (goes (hops w t) t (r ∷ []) r links) (and_from (is_on w r) (is_on w t) p.begins_on p.ends_on)
        (walk_goes w t links p.after (r ∷ []) r p.leads new p.once.1 p.ends p.inside)
      where
        new : (x : ℕ) → Among x p.after → is_among x (r ∷ []) ≡ false
        new x m = one (r == x) (ne_eqb r x (λ s. p.once.0 (subst (λ z. Among z p.after) (sym s) m)))
          where
            one : (a : Bool) → a ≡ false → (a || false) ≡ false
            one true e = e
            one false e = refl
