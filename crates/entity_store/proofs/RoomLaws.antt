-- There is room for attributes exactly where the state after the change does not use too many.
use Rattle.std.proofs.Common.{◌≡◌, ℕ, ◌+◌, ◌<◌, ◌≤◌, ◌⊎◌, Bool, true, false, not, cond, nat_le, nat_lt, List, [], ◌∷◌, ◌++◌, map, ap, inl, inr, refl, arith, bytes_eq, ltb-true, lt-ltb}
use Rattle.std.proofs.lemmas.Bool.Decides.{nat_tests, eqb_tells}
use Rattle.std.specs.List.{filter}
use Rattle.std.specs.Set.{distinct_count}
use Rattle.ctrl_model.specs.Membership.{Among}
use Rattle.ctrl_model.proofs.DistinctLaws.{Includes, distinct_count-Includes, same_name}
use Rattle.ctrl_model.proofs.Members.{by_filter, Among-filter, Among-append_left, Among-append_right}
use Rattle.attr_pool.specs.Slots.{Slot}
use Rattle.attr_pool.specs.Uses.{uses_of, held_names, stays_held, has_slots}
use Rattle.entity_store.specs.EntityTables.{Tables}
use Rattle.entity_store.specs.AttributeUses.{times, held_times, uses, entity_attributes, used_names, stays_used, has_attribute_room}
use Rattle.attr_pool.proofs.UseLaws.{times-from_among, Among-from_times, held-from_uses}

-- two lists of the same names have as many different ones
same_count : (xs ys : List (List ℕ)) → Includes xs ys → Includes ys xs → nat_le (distinct_count bytes_eq xs) 4096 ≡ not (nat_lt 4096 (distinct_count bytes_eq ys))
same_count xs ys there back =
    let least = distinct_count-Includes xs ys there in let most = distinct_count-Includes ys xs back in
    same_numbers (distinct_count bytes_eq xs) (distinct_count bytes_eq ys) least most
  where
    same_numbers : (m n : ℕ) → m ≤ n → n ≤ m → nat_le m 4096 ≡ not (nat_lt 4096 n)
    same_numbers m n l k = grind (arith, nat_tests)

-- a name with held uses is among the held ones
held_named : (x : List ℕ) (h : List (List ℕ × ℕ)) → 0 < held_times x h → Among x (map (λ y. y.0) h)
held_named x [] some = absurd (omega arith)
held_named x (y ∷ ys) some = by (bytes_eq y.0 x) refl some (held_named x ys)
  where
    by : (b : Bool) → bytes_eq y.0 x ≡ b → 0 < cond b y.1 0 + held_times x ys → (0 < held_times x ys → Among x (map (λ z. z.0) ys)) → Among x (y.0 ∷ map (λ z. z.0) ys)
    by true e h k = inl (same_name y.0 x e)
    by false e h k = inr (k (omega (arith, h)))

-- a name that is used or comes stands among those that are used or come
named : (t : Tables) (fresh : List (List ℕ)) (x : List ℕ) → 0 < uses x t + times x fresh → Among x (used_names t fresh)
named t fresh x h = by (either (times x (entity_attributes t)) (held_times x t.held) (times x fresh) h)
  where
    either : (a b c : ℕ) → 0 < a + b + c → (0 < a) ⊎ ((0 < b) ⊎ (0 < c))
    either a b c h = grind (arith, nat_tests)

    by : (0 < times x (entity_attributes t)) ⊎ ((0 < held_times x t.held) ⊎ (0 < times x fresh)) → Among x (used_names t fresh)
    by (inl k) = Among-append_left (entity_attributes t) _ x (Among-from_times x (entity_attributes t) k)
    by (inr (inl k)) = Among-append_right (entity_attributes t) _ x (Among-append_left (map (λ y. y.0) t.held) fresh x (held_named x t.held k))
    by (inr (inr k)) = Among-append_right (entity_attributes t) _ x (Among-append_right (map (λ y. y.0) t.held) fresh x (Among-from_times x fresh k))

-- Each name stands in the attributes after the change as often as its uses and the change say: then there is room for the change
-- exactly where these are not too many.
pub room_by_uses : (t : Tables) (gone fresh after : List (List ℕ))
    → ((x : List ℕ) → times x after + times x gone ≡ uses x t + times x fresh)
    → has_attribute_room t gone fresh ≡ not (nat_lt 4096 (distinct_count bytes_eq after))
room_by_uses t gone fresh after balance = same_count (filter (stays_used t gone fresh) (used_names t fresh)) after there back
  where
    there : Includes (filter (stays_used t gone fresh) (used_names t fresh)) after
    there x m = by_filter (stays_used t gone fresh) (used_names t fresh) x m (λ among stays.
        let more : times x gone < uses x t + times x fresh = ltb-true (times x gone) (uses x t + times x fresh) stays in
        let all = balance x in
        Among-from_times x after (omega (arith, more, all)))

    back : Includes after (filter (stays_used t gone fresh) (used_names t fresh))
    back x m =
        let some = times-from_among x after m in let all = balance x in
        let more : times x gone < uses x t + times x fresh = omega (arith, some, all) in
        Among-filter (stays_used t gone fresh) (used_names t fresh) x (named t fresh x (omega (arith, some, all))) (lt-ltb (times x gone) (uses x t + times x fresh) more)

-- The pool has as many uses of each name as the tables, but for what is already moved in it: then there is room for a change in the
-- tables exactly where there are slots for the rest of it in the pool.
module _ (t : Tables) (gone fresh : List (List ℕ)) (slots : List Slot) (left right : List (List ℕ))
    (balance : (x : List ℕ) → uses_of x slots + times x right + times x gone ≡ uses x t + times x fresh + times x left) where
  abbrev kept : List (List ℕ)
  kept = filter (stays_held slots left right) (held_names slots ++ right)

  abbrev staying : List (List ℕ)
  staying = filter (stays_used t gone fresh) (used_names t fresh)

  held : (x : List ℕ) → 0 < uses_of x slots + times x right → Among x (held_names slots ++ right)
  held x h = elim (eqb_tells (uses_of x slots) 0) [
    | inl s ↦ let none = s.1 in Among-append_right (held_names slots) right x (Among-from_times x right (omega (arith, h, none)))
    | inr s ↦ let other = s.1 in Among-append_left (held_names slots) right x (held-from_uses x slots (omega (arith, other)))
  ]

  there : Includes kept staying
  there x m = by_filter (stays_held slots left right) (held_names slots ++ right) x m (λ _ stay.
      let more : times x left < uses_of x slots + times x right = ltb-true (times x left) (uses_of x slots + times x right) stay in
      let all = balance x in
      let some : times x gone < uses x t + times x fresh = omega (arith, more, all) in
      Among-filter (stays_used t gone fresh) (used_names t fresh) x (named t fresh x (omega (arith, some))) (lt-ltb (times x gone) (uses x t + times x fresh) some))

  back : Includes staying kept
  back x m = by_filter (stays_used t gone fresh) (used_names t fresh) x m (λ _ stay.
      let more : times x gone < uses x t + times x fresh = ltb-true (times x gone) (uses x t + times x fresh) stay in
      let all = balance x in
      let some : times x left < uses_of x slots + times x right = omega (arith, more, all) in
      Among-filter (stays_held slots left right) (held_names slots ++ right) x (held x (omega (arith, some))) (lt-ltb (times x left) (uses_of x slots + times x right) some))

  pub room_in_pool : has_slots slots left right ≡ has_attribute_room t gone fresh
  room_in_pool =
      let least = distinct_count-Includes kept staying there in
      let most = distinct_count-Includes staying kept back in
      let same : distinct_count bytes_eq kept ≡ distinct_count bytes_eq staying = omega (arith, least, most) in
      ap (λ n. nat_le n 4096) same
