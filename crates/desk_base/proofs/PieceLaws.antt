-- The pieces of a source over memory, from a place in them on.
use Rattle.std.proofs.Common.{◌≡◌, inl, inr, ℕ, zero, suc, ◌+◌, ◌≤◌, ◌<◌, Bool, true, false, Ok, Err, min, List, [], ◌∷◌, ◌++◌, length, get_or, map, take, drop, Some, refl, sym, ap, ◌∙◌, arith, append_assoc, take-append-drop}
use Rattle.std.proofs.lemmas.Bool.{cases_lt}
use Rattle.std.proofs.lemmas.List.{drop_all, drop-drop, length-take}
use Rattle.std.specs.declared.result.Result.{Result}
use Rattle.ziti_outside.specs.Told.{Takes}
use Rattle.desk_base.specs.Pieces.{joined, from_first, first, without, GivesPiece}

-- What is left from a place in a piece on.
at_place : {X : Type 0} (f : X → List ℕ) (vs : List X) (next at : ℕ) (v : X) → next < length vs → v ≡ get_or vs next v → without at (drop next (map f vs)) ≡ drop at (f v) ∷ drop (suc next) (map f vs)
at_place f [] next at v lt is = absurd (omega (arith, lt))
at_place f (x ∷ vs) zero at v lt is = ap (λ y. drop at (f y) ∷ map f vs) (sym is)
at_place f (x ∷ vs) (suc next) at v lt is = at_place f vs next at v (omega (arith, lt)) is

pub without_at : {X : Type 0} (f : X → List ℕ) (vs : List X) (next at : ℕ) (v : X) → next < length vs → v ≡ get_or vs next v → without at (drop next (map f vs)) ≡ drop at (f v) ∷ drop (next + 1) (map f vs)
without_at f vs next at v lt is = let one : suc next ≡ next + 1 = omega arith in at_place f vs next at v lt is ∙ ap (λ (n : ℕ). drop at (f v) ∷ drop n (map f vs)) one

-- Nothing is left behind the last piece.
pub without_past : {X : Type 0} (f : X → List ℕ) (vs : List X) (next at : ℕ) → length vs ≤ next → without at (drop next (map f vs)) ≡ []
without_past f [] zero at le = refl
without_past f [] (suc next) at le = refl
without_past f (x ∷ vs) zero at le = absurd (omega (arith, le))
without_past f (x ∷ vs) (suc next) at le = without_past f vs next at (omega (arith, le))

-- A place in a piece, cut at the piece's end.
pub drop_min : (at : ℕ) (p : List ℕ) → drop (min at (length p)) p ≡ drop at p
drop_min at p = elim (cases_lt at (length p)) as (λ _. drop (min at (length p)) p ≡ drop at p) [
  | inl within ↦ let same : min at (length p) ≡ at = omega arith in ap (λ (n : ℕ). drop n p) same
  | inr past ↦ drop_all (min at (length p)) p (omega arith) ∙ sym (drop_all at p past)
]

-- A piece that is used up is skipped.
pub skip_one : (p : List ℕ) (at : ℕ) (ps : List (List ℕ)) → length p ≤ at → from_first (drop at p ∷ ps) ≡ from_first (without 0 ps)
skip_one p at [] le = rw (drop_all at p le) refl
skip_one p at (q ∷ ps) le = rw (drop_all at p le) refl

-- A piece with a byte is the first.
pub first_here : (p : List ℕ) (at : ℕ) (ps : List (List ℕ)) → at < length p → from_first (drop at p ∷ ps) ≡ drop at p ∷ ps
first_here [] at ps lt = absurd (omega (arith, lt))
first_here (x ∷ p) zero ps lt = refl
first_here (x ∷ p) (suc at) ps lt = first_here p at ps (omega (arith, lt))

-- Skipping empty pieces loses no byte.
pub joined_first : (ps : List (List ℕ)) → joined (from_first ps) ≡ joined ps
joined_first [] = refl
joined_first ([] ∷ ps) = joined_first ps
joined_first ((x ∷ p) ∷ ps) = refl

-- What is given and what is left are the bytes.
pub joined_given : (room : ℕ) (ps : List (List ℕ)) → take room (first ps) ++ joined (without room ps) ≡ joined ps
joined_given zero [] = refl
joined_given (suc room) [] = refl
joined_given room (p ∷ ps) = sym (append_assoc (take room p) (drop room p) (joined ps)) ∙ ap (λ (l : List ℕ). l ++ joined ps) (take-append-drop room p)

-- Dropping as much as a buffer holds is dropping what it was given.
pub drop_given : (room : ℕ) (p : List ℕ) → drop (length (take room p)) p ≡ drop room p
drop_given zero p = refl
drop_given (suc room) [] = refl
drop_given (suc room) (x ∷ p) = drop_given room p

-- The next byte behind what a buffer was given.
pub without_given : {X : Type 0} (f : X → List ℕ) (vs : List X) (next at room : ℕ) → without (at + length (take room (first (without at (drop next (map f vs)))))) (drop next (map f vs)) ≡ without room (without at (drop next (map f vs)))
without_given f [] zero at room = refl
without_given f [] (suc next) at room = refl
without_given f (x ∷ vs) zero at room = ap (λ (l : List ℕ). l ∷ map f vs) (sym (drop-drop _ _ (f x)) ∙ drop_given room (drop at (f x)))
without_given f (x ∷ vs) (suc next) at room = without_given f vs next at room

-- A take that gives of the pieces gives the next bytes that are left.
pub takes_bytes : {E : Type 0} (fails : Bool) (before now : List (List ℕ)) (result : Result ℕ E) (buf : List ℕ) → 0 < length buf → GivesPiece fails before now result buf → Takes (Some (joined before)) (Some (joined now)) result buf
takes_bytes true before now (Ok n) buf some gives = let p = gives.failed refl in absurd (grind (arith, p.0))
takes_bytes true before now (Err e) buf some gives = let p = gives.failed refl in record { within = tt; bytes = ap joined p.1; end = tt }
takes_bytes false before now (Err e) buf some gives = absurd (grind (arith, gives.count refl))
takes_bytes false before now (Ok n) buf some gives =
    let count : n ≡ length (take (length buf) (first (from_first before))) = grind (arith, gives.count refl) in
    let left : joined now ≡ joined (without (length buf) (from_first before)) = ap joined (gives.rest refl) in
    record {
      within = rw count (omega (arith, length-take (length buf) (first (from_first before))));
      bytes = rw count (rw (gives.bytes refl) (rw left (sym (joined_first before) ∙ sym (joined_given (length buf) (from_first before)))));
      end = λ none. left ∙ at_end (length buf) before some (sym count ∙ none);
    }
  where
    at_end : (room : ℕ) (ps : List (List ℕ)) → 0 < room → length (take room (first (from_first ps))) ≡ 0 → joined (without room (from_first ps)) ≡ []
    at_end room [] some none = refl
    at_end room ([] ∷ ps) some none = at_end room ps some none
    at_end zero ((x ∷ p) ∷ ps) some none = absurd (omega (arith, some))
    at_end (suc room) ((x ∷ p) ∷ ps) some none = absurd (omega (arith, none))
