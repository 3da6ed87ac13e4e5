-- Lists of names in bodies: in which each name stands once, and what form such a list has.
use Rattle.std.proofs.Common.{◌≡◌, ℕ, ◌≤◌, nat_le, Bool, true, false, not, List, [], ◌∷◌, length, bytes_eq, filter, Option, Some, None, refl, sym, ap, ◌∙◌, subst, arith, le-leb}
use Rattle.std.specs.Prelude.{option_map}
use Rattle.std.specs.List.{list_all}
use Rattle.std.proofs.lemmas.Bool.{and_from, both_ways}
use Rattle.std.proofs.lemmas.Option.{cond_some, option_and_then_some}
use Rattle.serde_json.specs.Data.{Data}
use Rattle.serde_json.specs.Find.{as_str}
use Rattle.ctrl_model.specs.NameForm.{is_name}
use Rattle.ctrl_model.specs.ValueForms.{is_distinct, are_names, are_attributes}
use Rattle.json_body.specs.FieldKinds.{as_name, name_of}
use Rattle.role_expr.specs.NameRepeats.{without_repeats}
use Rattle.role_expr.proofs.RepeatLaws.{without_repeats-distinct, without_repeats-length, without_repeats-names}
use Rattle.ctrl_model.proofs.DistinctLaws.{same_name, same_bytes}
use Rattle.body_fields.specs.ItemLists.{as_each_of, each_once}
use Rattle.command_codec.specs.NameLists.{as_attributes}
use Rattle.body_fields.proofs.ItemLaws.{by_mapped, as_each_of-form}

-- A list in which each name stands once is one without repeats.
turned : (n m : List ℕ) → bytes_eq n m ≡ bytes_eq m n
turned n m = by (bytes_eq n m) (bytes_eq m n) refl refl
  where
    by : (b c : Bool) → bytes_eq n m ≡ b → bytes_eq m n ≡ c → b ≡ c
    by true true p q = refl
    by false false p q = refl
    by true false p q = absurd (both_ways (bytes_eq m n) q (same_bytes m n (sym (same_name n m p))))
    by false true p q = absurd (both_ways (bytes_eq n m) p (same_bytes n m (sym (same_name m n q))))

each_once-without_repeats : (ns : List (List ℕ)) → each_once bytes_eq ns ≡ without_repeats ns
each_once-without_repeats [] = refl
each_once-without_repeats (n ∷ ns) =
    ap (λ l. n ∷ filter (λ m. not (bytes_eq n m)) l) (each_once-without_repeats ns) ∙ (λ i. n ∷ filter (λ m. not (turned n m i)) (without_repeats ns))

pub names_once : (o : Option (List (List ℕ))) → option_map (each_once bytes_eq) o ≡ option_map without_repeats o
names_once None = refl
names_once (Some ns) = ap (λ l. Some l) (each_once-without_repeats ns)

-- ---- the form of a list of attributes

pub as_name-form : (d : Data) (n : List ℕ) → as_name d ≡ Some n → is_name n ≡ true
as_name-form d n e =
    option_and_then_some name_of (as_str d) n e (λ bytes is h. let p = cond_some (is_name bytes) bytes n h in subst (λ b. is_name b ≡ true) p.1 p.0)

-- Names, of which repeats are dropped, are names without repeats.
pub without_repeats-form : (ns : List (List ℕ)) → list_all is_name ns ≡ true → are_names (without_repeats ns) ≡ true
without_repeats-form ns names =
    and_from (list_all is_name (without_repeats ns)) (is_distinct (without_repeats ns)) (without_repeats-names ns names) (without_repeats-distinct ns)

-- What a value gives as attributes is a list of attributes.
pub as_attributes-form : (d : Data) (ns : List (List ℕ)) → as_attributes d ≡ Some ns → are_attributes ns ≡ true
as_attributes-form d ns e =
    by_mapped without_repeats (as_each_of 64 as_name d) ns e (λ sent is same.
    as_each_of-form 64 as_name is_name as_name-form d sent is (λ few names.
    let fits : length (without_repeats sent) ≤ 64 = omega (arith, without_repeats-length sent) in
    subst (λ l. are_attributes l ≡ true) same
    (and_from (nat_le (length (without_repeats sent)) 64) (are_names (without_repeats sent)) (le-leb (length (without_repeats sent)) 64 fits) (without_repeats-form sent names))))
