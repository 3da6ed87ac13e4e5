-- Laws of circuits that are judged each by itself: those that stay, those that are given other links, and those that end.
use Rattle.std.proofs.Common.{◌≡◌, ℕ, ◌==◌, ◌&&◌, ◌||◌, Bool, true, false, cond, not, List, [], ◌∷◌, map, is_some, Option, None, Some, option_and_then, inl, inr, refl, sym, ◌∙◌, ap, ap₂, eqb-true}
use Rattle.std.proofs.lemmas.Bool.{false≢true}
use Rattle.std.specs.List.{filter, find, cons_option}
use Rattle.std.specs.Option.{option_map, option_map_or}
use Rattle.ctrl_model.specs.Membership.{Among}
use Rattle.ctrl_model.specs.Numbered.{Table, at, numbers, map_each, with_each, with_kept, Between}
use Rattle.ctrl_model.specs.State.{Circuit}
use Rattle.ctrl_model.specs.Walks.{is_among}
use Rattle.ctrl_model.proofs.Members.{Among-map, by_filter, is_among-from}
use Rattle.record_tables.specs.AfterChange.{without_numbers}
use Rattle.record_tables.proofs.GoneLaws.{filter_among}
use Rattle.record_tables.proofs.NumberLoops.{at_among}
use Rattle.record_tables.proofs.TurnLaws.{numbers-filter}
use Rattle.circuits.specs.declared.moves.Move.{Move}
use Rattle.circuits.specs.MovedCircuits.{moved_numbers, moved_links, moved, moved_table, move_to, moves_by, ended_by}

-- ---- what is among some numbers that a test leaves

is_among-filter : (q : ℕ → Bool) (ns : List ℕ) (n : ℕ) → is_among n (filter q ns) ≡ (is_among n ns && q n)
is_among-filter q [] n = refl
is_among-filter q (m ∷ ns) n = by (q m) (m == n) refl refl (is_among-filter q ns n)
  where
    fails : (a b : Bool) → b ≡ false → (a && b) ≡ b
    fails true b e = refl
    fails false b e = sym e

    by : (c d : Bool) → q m ≡ c → (m == n) ≡ d → is_among n (filter q ns) ≡ (is_among n ns && q n)
        → is_among n (cond c (m ∷ filter q ns) (filter q ns)) ≡ ((d || is_among n ns) && q n)
    by true true e is h = ap (λ b. b || is_among n (filter q ns)) is ∙ sym (ap q (sym (eqb-true m n is)) ∙ e)
    by true false e is h = ap (λ b. b || is_among n (filter q ns)) is ∙ h
    by false true e is h = h ∙ fails (is_among n ns) (q n) (ap q (sym (eqb-true m n is)) ∙ e)
    by false false e is h = h

-- ---- numbers that are given links, or none

module _ (way : ℕ → Option (List ℕ)) where
  pub ended_among : (ns : List ℕ) (n : ℕ) → Among n (ended_by way ns) → Among n ns
  ended_among ns n a = by_filter (λ m. not (is_some (way m))) ns n a (λ among _. among)

  pub moved_among : (ns : List ℕ) (n : ℕ) → Among n (moved_numbers (moves_by way ns)) → Among n ns
  moved_among [] n a = a
  moved_among (m ∷ ns) n a = by (way m) a (moved_among ns n)
    where
      by : (o : Option (List ℕ)) → Among n (moved_numbers (cons_option (move_to m o) (moves_by way ns))) → (Among n (moved_numbers (moves_by way ns)) → Among n ns) → Among n (m ∷ ns)
      by None a h = inr (h a)
      by (Some links) (inl e) h = inl e
      by (Some links) (inr a) h = inr (h a)

  -- the links that they are moved to
  moved-by : (ns : List ℕ) (n : ℕ) → moved_links (moves_by way ns) n ≡ cond (is_among n ns) (way n) None
  moved-by [] n = refl
  moved-by (m ∷ ns) n = by (way m) (m == n) refl refl (moved-by ns n)
    where
      none : (b : Bool) (o : Option (List ℕ)) → o ≡ None → cond b o None ≡ o
      none true o e = refl
      none false o e = sym e

      by : (o : Option (List ℕ)) (d : Bool) → way m ≡ o → (m == n) ≡ d → moved_links (moves_by way ns) n ≡ cond (is_among n ns) (way n) None
          → moved_links (cons_option (move_to m o) (moves_by way ns)) n ≡ cond (d || is_among n ns) (way n) None
      by None true e is h = h ∙ none (is_among n ns) (way n) (ap way (sym (eqb-true m n is)) ∙ e)
      by None false e is h = h
      by (Some links) true e is h =
          ap (λ b. option_map (λ (k : Move). k.links) (cond b (Some (record { circuit = record { 0 = m }; links = links })) (find (λ (k : Move). k.circuit.0 == n) (moves_by way ns)))) is
          ∙ sym (ap way (sym (eqb-true m n is)) ∙ e)
      by (Some links) false e is h =
          ap (λ b. option_map (λ (k : Move). k.links) (cond b (Some (record { circuit = record { 0 = m }; links = links })) (find (λ (k : Move). k.circuit.0 == n) (moves_by way ns)))) is
          ∙ h

-- ---- a table, of which each circuit that fails a test is given other links or ends

-- the circuits pass a test or fail it; f says what each becomes, and h to which links those that fail go
module _ (p : ℕ × Circuit → Bool) (f : Circuit → Circuit) (h : Circuit → Option (List ℕ))
    (still : (x : ℕ × Circuit) → p x ≡ true → f x.1 ≡ x.1)
    (over : (x : ℕ × Circuit) (links : List ℕ) → p x ≡ false → h x.1 ≡ Some links → f x.1 ≡ record x.1 { links = links })
    (judged : (x : ℕ × Circuit) → p (x.0, f x.1) ≡ (p x || is_some (h x.1)))
    (t : Table Circuit) (high : ℕ) (b : Between 1 high t.rows) where
  -- the numbers of those that fail
  abbrev pub lost : List ℕ
  lost = numbers (filter (λ row. not (p row)) t.rows)

  -- the links that the one at a number is given
  abbrev pub way : ℕ → Option (List ℕ)
  way n = option_and_then h (at t.rows n)

  way-at : (x : ℕ × Circuit) → Among x t.rows → way x.0 ≡ h x.1
  way-at x m = ap (option_and_then h) (at_among high t.rows 1 x.0 x.1 b m)

  lost-at : (x : ℕ × Circuit) → Among x t.rows → is_among x.0 lost ≡ not (p x)
  lost-at x m =
      ap (is_among x.0) (sym (ap numbers (filter_among (λ (row : ℕ × Circuit). q row.0) (λ row. not (p row)) t.rows fails)) ∙ numbers-filter q t.rows)
      ∙ is_among-filter q (numbers t.rows) x.0
      ∙ ap (λ c. c && q x.0) (is_among-from x.0 (numbers t.rows) (Among-map (λ (row : ℕ × Circuit). row.0) t.rows x m))
      ∙ fails x m
    where
      q : ℕ → Bool
      q n = option_map_or (λ c. not (p (n, c))) (at t.rows n) false

      fails : (y : ℕ × Circuit) → Among y t.rows → q y.0 ≡ not (p y)
      fails y k = ap (λ o. option_map_or (λ c. not (p (y.0, c))) o false) (at_among high t.rows 1 y.0 y.1 b k)

  gone-at : (x : ℕ × Circuit) → Among x t.rows → is_among x.0 (ended_by way lost) ≡ not (p (x.0, f x.1))
  gone-at x m =
      is_among-filter (λ n. not (is_some (way n))) lost x.0
      ∙ ap₂ (λ c o. c && not (is_some o)) (lost-at x m) (way-at x m)
      ∙ neither (p x) (is_some (h x.1))
      ∙ ap not (sym (judged x))
    where
      neither : (c d : Bool) → (not c && not d) ≡ not (c || d)
      neither true d = refl
      neither false d = refl

  moved-at : (x : ℕ × Circuit) → Among x t.rows → p (x.0, f x.1) ≡ true → moved (moves_by way lost) x ≡ f x.1
  moved-at x m passes =
      ap (λ o. option_map_or (λ links. record x.1 { links = links }) o x.1) (moved-by way lost x.0 ∙ ap₂ (λ c o. cond c o None) (lost-at x m) (way-at x m))
      ∙ by (p x) (h x.1) refl refl
    where
      by : (c : Bool) (o : Option (List ℕ)) → p x ≡ c → h x.1 ≡ o → option_map_or (λ links. record x.1 { links = links }) (cond (not c) o None) x.1 ≡ f x.1
      by true o e is = sym (still x e)
      by false (Some links) e is = sym (over x links e is)
      by false None e is = absurd (false≢true (sym (judged x ∙ ap₂ (λ c o. c || is_some o) e is) ∙ passes))

  -- those that stay, those that are moved and no others are the table of what they become, where it passes
  pub moved_and_left : moved_table (moves_by way lost) (without_numbers (ended_by way lost) t) ≡ with_kept p (with_each f t)
  moved_and_left = ap (λ rows. record t { rows = rows }) (each t.rows (λ x m. m))
    where
      becomes : ℕ × Circuit → ℕ × Circuit
      becomes x = (x.0, moved (moves_by way lost) x)

      left : List (ℕ × Circuit) → List (ℕ × Circuit)
      left xs = filter (λ row. not (is_among row.0 (ended_by way lost))) xs

      each : (xs : List (ℕ × Circuit)) → ((x : ℕ × Circuit) → Among x xs → Among x t.rows) → map becomes (left xs) ≡ filter p (map_each f xs)
      each [] in_t = refl
      each (x ∷ xs) in_t = by (p (x.0, f x.1)) refl (each xs (λ y m. in_t y (inr m)))
        where
          first : Circuit → List (ℕ × Circuit) → List (ℕ × Circuit)
          first c ys = (x.0, c) ∷ ys

          by : (c : Bool) → p (x.0, f x.1) ≡ c → map becomes (left xs) ≡ filter p (map_each f xs)
              → map becomes (cond (not (is_among x.0 (ended_by way lost))) (x ∷ left xs) (left xs)) ≡ cond c ((x.0, f x.1) ∷ filter p (map_each f xs)) (filter p (map_each f xs))
          by true e rest =
              ap (λ d. map becomes (cond (not d) (x ∷ left xs) (left xs))) (gone-at x (in_t x (inl refl)) ∙ ap not e)
              ∙ ap₂ first (moved-at x (in_t x (inl refl)) e) rest
          by false e rest = ap (λ d. map becomes (cond (not d) (x ∷ left xs) (left xs))) (gone-at x (in_t x (inl refl)) ∙ ap not e) ∙ rest
