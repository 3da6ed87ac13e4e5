-- Laws of the ends of links: the router that a search finds, and what the network says of it.
use Rattle.std.proofs.Common.{◌≡◌, ℕ, zero, suc, ◌+◌, ◌==◌, max, Bool, true, false, cond, List, [], ◌∷◌, map, get_or, slice_get, Option, Some, None, refl, sym, ◌∙◌, ap, arith, eq-eqb, ne_eqb, eqb-true}
use Rattle.std.proofs.lemmas.Bool.{cond-true, cond-false}
use Rattle.std.proofs.lemmas.Option.{none-some, same_Some, get_or_from_slice_get}
use Rattle.std.specs.List.{find}
use Rattle.std.specs.Option.{option_map, option_map_or}
use Rattle.ctrl_model.specs.declared.kinds.RouterSeen.{RouterSeen}
use Rattle.ctrl_model.specs.Numbered.{at, Between}
use Rattle.ctrl_model.proofs.NumberedLaws.{at-within}
use Rattle.record_tables.proofs.PlaceLaws.{at-place}
use Rattle.fabric_graph.specs.declared.steps.End.{End}
use Rattle.fabric_graph.specs.Routers.{numbered, IsRouterPlace}
use Rattle.fabric_graph.specs.Steps.{further, own_end, end_at}

-- ---- the end at a place

further_end : (least place : ℕ) (r : RouterSeen) → option_map further (own_end least place r) ≡ own_end least (suc place) r
further_end least place r = by r.connected
  where
    by : (c : Bool) → option_map further (cond c (Some (record { place = place; entry = max r.cost least })) None) ≡ cond c (Some (record { place = suc place; entry = max r.cost least })) None
    by true = refl
    by false = refl

pub end_found : (least high : ℕ) (routers : List RouterSeen) (low i n : ℕ) (r : RouterSeen) → Between low high (map numbered routers) → slice_get routers i ≡ Some r → r.no.0 ≡ n
    → end_at least n routers ≡ own_end least i r
end_found least high [] low i n r b s p = absurd (none-some r s)
end_found least high (x ∷ routers) low zero n r b s p =
    let same : x ≡ r = same_Some x r s in
    cond-true (x.no.0 == n) (own_end least 0 x) (option_map further (end_at least n routers)) (eq-eqb x.no.0 n (ap (λ (y : RouterSeen). y.no.0) same ∙ p)) ∙ ap (own_end least 0) same
end_found least high (x ∷ routers) low (suc i) n r b s p =
    let found = at-place numbered high routers (x.no.0 + 1) i n r b.2 s p in
    let later = at-within high (map numbered routers) (x.no.0 + 1) n r b.2 found in
    cond-false (x.no.0 == n) (own_end least 0 x) (option_map further (end_at least n routers)) (ne_eqb x.no.0 n (λ q. absurd (omega arith)))
    ∙ ap (option_map further) (end_found least high routers (x.no.0 + 1) i n r b.2 s p) ∙ further_end least i r

pub end_absent : (least : ℕ) (routers : List RouterSeen) (n : ℕ) → at (map numbered routers) n ≡ None → end_at least n routers ≡ None
end_absent least [] n e = refl
end_absent least (x ∷ routers) n e = by (x.no.0 == n) e (end_absent least routers n)
  where
    by : (c : Bool) → cond c (Some x) (at (map numbered routers) n) ≡ None → (at (map numbered routers) n ≡ None → end_at least n routers ≡ None)
        → cond c (own_end least 0 x) (option_map further (end_at least n routers)) ≡ None
    by true e k = absurd (none-some x (sym e))
    by false e k = ap (option_map further) (k e)

-- the end at the place that a search finds
pub end_on : (least : ℕ) (routers : List RouterSeen) (i n : ℕ) (d : RouterSeen) → Between 0 4294967296 (map numbered routers) → IsRouterPlace n routers i
    → end_at least n routers ≡ own_end least i (get_or routers i d)
end_on least routers i n d b p = end_found least 4294967296 routers 0 i n p.0 b p.1 p.2 ∙ ap (own_end least i) (sym (get_or_from_slice_get routers i p.0 d p.1))

-- ---- what the network says of an end

-- the router of an end
pub record IsEnd (routers : List RouterSeen) (least n : ℕ) (e : End) : Type 0 where
  pub router : RouterSeen
  pub found : find (λ r. r.no.0 == n) routers ≡ Some router
  pub connected : router.connected ≡ true
  pub stands : slice_get routers e.place ≡ Some router
  pub number : router.no.0 ≡ n
  pub entry : max router.cost least ≡ e.entry

own_is : (x : RouterSeen) (routers : List RouterSeen) (least : ℕ) (e : End) (n : ℕ) → (x.no.0 == n) ≡ true → own_end least 0 x ≡ Some e → IsEnd (x ∷ routers) least n e
own_is x routers least e n is s = by x.connected refl s
  where
    by : (c : Bool) → x.connected ≡ c → cond c (Some (record { place = 0; entry = max x.cost least })) None ≡ Some e → IsEnd (x ∷ routers) least n e
    by true on s =
        let same : record { place = 0; entry = max x.cost least } ≡ e = same_Some (record { place = 0; entry = max x.cost least }) e s in
        record {
          router = x;
          found = cond-true (x.no.0 == n) (Some x) (find (λ r. r.no.0 == n) routers) is;
          connected = on;
          stands = ap (λ (d : End). slice_get (x ∷ routers) d.place) (sym same);
          number = eqb-true x.no.0 n is;
          entry = ap (λ (d : End). d.entry) same;
        }
    by false on s = absurd (none-some e s)

pub end_is : (routers : List RouterSeen) (least n : ℕ) (e : End) → end_at least n routers ≡ Some e → IsEnd routers least n e
end_is [] least n e s = absurd (none-some e s)
end_is (x ∷ routers) least n e s = by (x.no.0 == n) refl s (end_at least n routers) refl (λ d. end_is routers least n d)
  where
    later : (d : End) → (x.no.0 == n) ≡ false → further d ≡ e → IsEnd routers least n d → IsEnd (x ∷ routers) least n e
    later d is same i = record {
      router = i.router;
      found = cond-false (x.no.0 == n) (Some x) (find (λ r. r.no.0 == n) routers) is ∙ i.found;
      connected = i.connected;
      stands = ap (λ (d : End). slice_get (x ∷ routers) d.place) (sym same) ∙ i.stands;
      number = i.number;
      entry = i.entry ∙ ap (λ (d : End). d.entry) same;
    }

    by : (c : Bool) → (x.no.0 == n) ≡ c → cond c (own_end least 0 x) (option_map further (end_at least n routers)) ≡ Some e → (o : Option End) → end_at least n routers ≡ o
        → ((d : End) → end_at least n routers ≡ Some d → IsEnd routers least n d) → IsEnd (x ∷ routers) least n e
    by true is s o p k = own_is x routers least e n is s
    by false is s None p k = absurd (none-some e (ap (option_map further) (sym p) ∙ s))
    by false is s (Some d) p k = later d is (same_Some (further d) e (ap (option_map further) (sym p) ∙ s)) (k d p)

-- where there is no end, the router is not connected
pub end_none : (routers : List RouterSeen) (least n : ℕ) → end_at least n routers ≡ None
    → option_map_or (λ (r : RouterSeen). r.connected) (find (λ r. r.no.0 == n) routers) false ≡ false
end_none [] least n s = refl
end_none (x ∷ routers) least n s = by (x.no.0 == n) s (end_at least n routers) refl (end_none routers least n)
  where
    own : (c : Bool) → ◌≡◌ {A = Option End} (cond c (Some (record { place = 0; entry = max x.cost least })) None) None → c ≡ false
    own true s = absurd (none-some (record { place = 0; entry = max x.cost least }) (sym s))
    own false s = refl

    by : (c : Bool) → cond c (own_end least 0 x) (option_map further (end_at least n routers)) ≡ None → (o : Option End) → end_at least n routers ≡ o
        → (end_at least n routers ≡ None → option_map_or (λ (r : RouterSeen). r.connected) (find (λ r. r.no.0 == n) routers) false ≡ false)
        → option_map_or (λ (r : RouterSeen). r.connected) (cond c (Some x) (find (λ r. r.no.0 == n) routers)) false ≡ false
    by true s o p k = own x.connected s
    by false s None p k = k p
    by false s (Some d) p k = absurd (none-some (further d) (sym (ap (option_map further) (sym p) ∙ s)))
