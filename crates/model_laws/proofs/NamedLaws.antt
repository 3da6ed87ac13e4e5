-- Laws on names in the sides of policies: names that are found are found after each change of what they name, but for the
-- name that is forgotten with its entity.
use Rattle.std.proofs.Common.{◌≡◌, ℕ, ◌+◌, ◌≤◌, ◌==◌, Bool, true, false, cond, not, ◌&&◌, ◌||◌, nat_le, List, [], ◌∷◌, length, is_some, Option, None, Some, refl, sym, ◌∙◌, ap, arith, leb-true, le-leb, ne_eqb}
use Rattle.std.proofs.lemmas.Bool.{and_parts, and_from, both_ways, cond-false, false≢true, not-true}
use Rattle.std.specs.List.{filter, list_all}
use Rattle.std.specs.Str.{bytes_eq}
use Rattle.ctrl_model.specs.declared.kinds.Side.{Side}
use Rattle.ctrl_model.specs.declared.kinds.Relation.{Relation}
use Rattle.ctrl_model.specs.NameForm.{is_name}
use Rattle.ctrl_model.specs.Matches.{is_nothing}
use Rattle.ctrl_model.specs.Numbered.{at, with_last, edit_at, without, first_where, Between}
use Rattle.ctrl_model.specs.State.{Policy}
use Rattle.ctrl_model.specs.ValueForms.{is_stored_side, are_names}
use Rattle.ctrl_model.specs.ValidState.{are_found, is_valid_policy}
use Rattle.ctrl_model.specs.Rules.{without_name, forget_left, forget_right}
use Rattle.ctrl_model.proofs.NumberedLaws.{at-without, at-with_last, Found, first_where-found, found_too, length-filter-le, at-past, at-within, first_where-map}
use Rattle.ctrl_model.proofs.DistinctLaws.{same_name, same_bytes, is_distinct-filter}
use Rattle.ctrl_model.proofs.TableLaws.{list_all-filter}

pub and_more : (a b c d : Bool) → (a ≡ true → c ≡ true) → (b ≡ true → d ≡ true) → (a && b) ≡ true → (c && d) ≡ true
and_more a b c d f g e = let both = and_parts a b e in and_from c d (f both.0) (g both.1)

-- ---- which names a table finds

-- every name that one search finds another finds
abbrev pub FindsToo : (List ℕ → Option ℕ) → (List ℕ → Option ℕ) → Type 0
FindsToo finds after = (name : List ℕ) → is_some (finds name) ≡ true → is_some (after name) ≡ true

-- every name but one that one search finds another finds
abbrev pub FindsOthers : List ℕ → (List ℕ → Option ℕ) → (List ℕ → Option ℕ) → Type 0
FindsOthers gone finds after = (name : List ℕ) → bytes_eq name gone ≡ false → is_some (finds name) ≡ true → is_some (after name) ≡ true

module _ {R : Type 0} (name_of : R → List ℕ) (rows : List (ℕ × R)) (next : ℕ) (ordered : Between 1 next rows) where
  pub with_last-finds : 1 ≤ next → (r : R) → FindsToo (λ name. first_where (λ t. bytes_eq (name_of t) name) rows) (λ name. first_where (λ t. bytes_eq (name_of t) name) (with_last rows next r))
  with_last-finds first r name e = found_too (λ t. bytes_eq (name_of t) name) next rows (with_last rows next r) 1 ordered (λ m t stands passes.
      let within = at-within next rows 1 m t ordered stands in (
        t,
        at-with_last rows next m r (at-past next rows 1 next ordered (omega arith))
            ∙ cond-false (next == m) (Some r) (at rows m) (ne_eqb next m (λ s. absurd (omega arith))) ∙ stands,
        passes,
      )) e

  -- where a record is removed, every other name is found
  pub without-finds : (gone : List ℕ) (n : ℕ) → first_where (λ t. bytes_eq (name_of t) gone) rows ≡ Some n
      → FindsOthers gone (λ name. first_where (λ t. bytes_eq (name_of t) name) rows) (λ name. first_where (λ t. bytes_eq (name_of t) name) (without rows n))
  without-finds gone n is name other e =
      let f = first_where-found (λ t. bytes_eq (name_of t) gone) next rows 1 n ordered is in
      found_too (λ t. bytes_eq (name_of t) name) next rows (without rows n) 1 ordered (λ m t stands passes. (
        t,
        at-without next rows 1 n m ordered
            ∙ cond-false (n == m) None (at rows m) (ne_eqb n m (λ s. apart f m t stands passes s)) ∙ stands,
        passes,
      )) e
    where
      apart : Found (λ t. bytes_eq (name_of t) gone) rows n → (m : ℕ) (t : R) → at rows m ≡ Some t → bytes_eq (name_of t) name ≡ true → n ≡ m → ⊥
      apart f m t stands passes s =
          let same : f.record_found ≡ t = cc (f.stands, ap (at rows) s) in
          both_ways (bytes_eq name gone) other
          (same_bytes name gone (sym (same_name (name_of t) name passes) ∙ ap name_of (sym same) ∙ same_name (name_of f.record_found) gone f.passes))

-- ---- sides and policies

pub are_found-more : (finds after : List ℕ → Option ℕ) → FindsToo finds after → (side : Side) → are_found finds side ≡ true → are_found after side ≡ true
are_found-more finds after too side e = all_more side.ids e
  where
    all_more : (ns : List (List ℕ)) → list_all (λ name. is_some (finds name)) ns ≡ true → list_all (λ name. is_some (after name)) ns ≡ true
    all_more [] e = refl
    all_more (n ∷ ns) e = and_more (is_some (finds n)) (list_all (λ name. is_some (finds name)) ns) (is_some (after n)) (list_all (λ name. is_some (after name)) ns) (too n) (all_more ns) e

-- a side from which a name is taken names only those that are found without it
pub are_found-without : (gone : List ℕ) (finds after : List ℕ → Option ℕ) → FindsOthers gone finds after → (side : Side) → are_found finds side ≡ true
    → are_found after (without_name gone side) ≡ true
are_found-without gone finds after others side e =
    list_all-filter (λ n. not (bytes_eq n gone)) (λ n. is_some (finds n)) (λ n. is_some (after n)) (λ n kept found. others n (not-true (bytes_eq n gone) kept) found) side.ids e

-- a side from which a name is taken may be stored still
pub is_stored_side-without : (name : List ℕ) (side : Side) → is_stored_side side ≡ true → is_stored_side (without_name name side) ≡ true
is_stored_side-without name side e = and_more _ _ _ _ (alone side.all side.ids) (and_more _ _ _ _ few (and_more _ _ _ _ names (λ a. a))) e
  where
    alone : (all : Bool) (ids : List (List ℕ)) → (not all || (is_nothing ids && is_nothing side.attributes)) ≡ true
        → (not all || (is_nothing (filter (λ n. not (bytes_eq n name)) ids) && is_nothing side.attributes)) ≡ true
    alone false ids e = refl
    alone true [] e = e
    alone true (n ∷ ids) e = absurd (false≢true e)

    few : nat_le (length side.ids + length side.attributes) 64 ≡ true → nat_le (length (filter (λ n. not (bytes_eq n name)) side.ids) + length side.attributes) 64 ≡ true
    few e =
        let l = leb-true (length side.ids + length side.attributes) 64 e in
        let f = length-filter-le (λ n. not (bytes_eq n name)) side.ids in
        le-leb (length (filter (λ n. not (bytes_eq n name)) side.ids) + length side.attributes) 64 (omega arith)

    names : are_names side.ids ≡ true → are_names (filter (λ n. not (bytes_eq n name)) side.ids) ≡ true
    names e = and_more _ _ _ _ (list_all-filter (λ n. not (bytes_eq n name)) is_name is_name (λ n _ t. t) side.ids) (is_distinct-filter (λ n. not (bytes_eq n name)) side.ids) e

-- what each kind of policy must pass in a state, by what its relation may be and by which names its sides may have
abbrev pub is_fitting : (Relation → Bool) → (List ℕ → Option ℕ) → (List ℕ → Option ℕ) → Policy → Bool
is_fitting relates finds_left finds_right p =
    is_valid_policy p && (relates p.relation && (are_found finds_left p.left && are_found finds_right p.right))

pub is_fitting-more : (relates : Relation → Bool) (left right left_after right_after : List ℕ → Option ℕ) → FindsToo left left_after → FindsToo right right_after
    → (p : Policy) → is_fitting relates left right p ≡ true → is_fitting relates left_after right_after p ≡ true
is_fitting-more relates left right left_after right_after l r p e =
    and_more _ _ _ _ (λ v. v) (and_more _ _ _ _ (λ v. v) (and_more _ _ _ _ (are_found-more left left_after l p.left) (are_found-more right right_after r p.right))) e

pub is_fitting-forget_left : (relates : Relation → Bool) (gone : List ℕ) (left right left_after : List ℕ → Option ℕ) → FindsOthers gone left left_after
    → (p : Policy) → is_fitting relates left right p ≡ true → is_fitting relates left_after right (forget_left gone p) ≡ true
is_fitting-forget_left relates gone left right left_after others p e =
    and_more _ _ _ _ (and_more _ _ _ _ (λ v. v) (and_more _ _ _ _ (is_stored_side-without gone p.left) (λ v. v)))
    (and_more _ _ _ _ (λ v. v) (and_more _ _ _ _ (are_found-without gone left left_after others p.left) (λ v. v))) e

pub is_fitting-forget_right : (relates : Relation → Bool) (gone : List ℕ) (left right right_after : List ℕ → Option ℕ) → FindsOthers gone right right_after
    → (p : Policy) → is_fitting relates left right p ≡ true → is_fitting relates left right_after (forget_right gone p) ≡ true
is_fitting-forget_right relates gone left right right_after others p e =
    and_more _ _ _ _ (and_more _ _ _ _ (λ v. v) (and_more _ _ _ _ (λ v. v) (is_stored_side-without gone p.right)))
    (and_more _ _ _ _ (λ v. v) (and_more _ _ _ _ (λ v. v) (are_found-without gone right right_after others p.right))) e

-- a change that keeps each name finds the same
pub edit_at-finds : {R : Type 0} (name_of : R → List ℕ) (rows : List (ℕ × R)) (n : ℕ) (f : R → R) → ((r : R) → name_of (f r) ≡ name_of r)
    → FindsToo (λ name. first_where (λ t. bytes_eq (name_of t) name) rows) (λ name. first_where (λ t. bytes_eq (name_of t) name) (edit_at rows n f))
edit_at-finds {R = R} name_of rows n f keeps name e =
    ap is_some (first_where-map (λ t. bytes_eq (name_of t) name) (λ t. bytes_eq (name_of t) name) (λ x. cond (x.0 == n) (f x.1) x.1) (λ x. same (x.0 == n) x.1) rows) ∙ e
  where
    same : (b : Bool) (r : R) → bytes_eq (name_of (cond b (f r) r)) name ≡ bytes_eq (name_of r) name
    same true r = ap (λ m. bytes_eq m name) (keeps r)
    same false r = refl
