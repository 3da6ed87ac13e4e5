-- What is written in a field is read as what it was written for: names, numbers, words and lists of names.
use Rattle.std.proofs.Common.{◌≡◌, ℕ, nat_le, Bool, true, false, not, cond, ◌||◌, List, [], ◌∷◌, length, map, Option, Some, None, refl, ap, ◌∙◌, arith, bytes_eq, le-leb}
use Rattle.std.specs.Prelude.{option_map, option_and_then, filter}
use Rattle.std.specs.List.{list_all}
use Rattle.std.proofs.lemmas.Bool.{and_from, and_parts, false≢true}
use Rattle.serde_json.specs.Data.{Data, string, array}
use Rattle.serde_json.specs.View.{items_of}
use Rattle.ctrl_model.specs.NameForm.{is_name, is_instance}
use Rattle.ctrl_model.specs.Matches.{has_name}
use Rattle.ctrl_model.specs.ValueForms.{in_range, is_distinct, are_names, are_attributes, is_service_relation}
use Rattle.ctrl_model.specs.declared.kinds.Precedence.{Precedence}
use Rattle.ctrl_model.specs.declared.kinds.Precedence.TheVariants.{Required, Normal, Failed}
use Rattle.ctrl_model.specs.declared.kinds.Relation.{Relation}
use Rattle.ctrl_model.specs.declared.kinds.Relation.TheVariants.{Dial, Bind, IdentityRouter, ServiceRouter}
use Rattle.ctrl_model.specs.declared.kinds.Semantic.{Semantic}
use Rattle.ctrl_model.specs.declared.kinds.Semantic.TheVariants.{AnyOf, AllOf}
use Rattle.json_body.specs.FieldKinds.{as_name, as_number_in, items_count}
use Rattle.command_bodies.specs.WrittenFields.{natural, list_of}
use Rattle.role_expr.specs.NameRepeats.{without_repeats}
use Rattle.body_fields.specs.FieldValues.{as_instance, as_some_name}
use Rattle.body_fields.specs.FieldWords.{as_relation, as_semantic, as_precedence}
use Rattle.body_fields.specs.ItemLists.{each_of, as_each_of}
use Rattle.command_codec.specs.NameLists.{as_attributes}
use Rattle.command_bodies.specs.WrittenWords.{relation_word, semantic_word, precedence_word}

-- ---- names, numbers and words

pub name_read : (name : List ℕ) → is_name name ≡ true → as_name (string name) ≡ Some name
name_read name h = ap (λ b. cond b (Some name) None) h

pub instance_read : (name : List ℕ) → is_instance name ≡ true → as_instance (string name) ≡ Some name
instance_read name h = ap (λ b. cond b (Some name) None) h

pub some_name_read : (name : List ℕ) → is_name name ≡ true → as_some_name (string name) ≡ Some (Some name)
some_name_read name h = ap (option_map (λ n. Some n)) (name_read name h)

pub number_read : (low high n : ℕ) → in_range low high n ≡ true → as_number_in low high (natural n) ≡ Some n
number_read low high n h = ap (λ b. cond b (Some n) None) h

-- A number that is at most so much is in the range from 0.
pub from_zero : (most n : ℕ) → nat_le n most ≡ true → in_range 0 most n ≡ true
from_zero most n h = and_from (nat_le 0 n) (nat_le n most) (le-leb 0 n (omega arith)) h

pub relation_read : (relation : Relation) → is_service_relation relation ≡ true → as_relation (string (relation_word relation)) ≡ Some relation
relation_read Dial h = refl
relation_read Bind h = refl
relation_read IdentityRouter h = absurd (false≢true h)
relation_read ServiceRouter h = absurd (false≢true h)

pub semantic_read : (semantic : Semantic) → as_semantic (string (semantic_word semantic)) ≡ Some semantic
semantic_read AnyOf = refl
semantic_read AllOf = refl

pub precedence_read : (precedence : Precedence) → as_precedence (string (precedence_word precedence)) ≡ Some precedence
precedence_read Required = refl
precedence_read Normal = refl
precedence_read Failed = refl

-- ---- lists

each_read : {A : Type 0} (kind : Data → Option A) (g : A → Data) (fits : A → Bool) → ((x : A) → fits x ≡ true → kind (g x) ≡ Some x)
    → (xs : List A) → list_all fits xs ≡ true → each_of kind (items_of (map g xs)) ≡ Some xs
each_read kind g fits each [] h = refl
each_read kind g fits each (x ∷ xs) h =
    let p = and_parts (fits x) (list_all fits xs) h in
    ap (λ o. option_and_then (λ y. option_map (λ ys. y ∷ ys) (each_of kind (items_of (map g xs)))) o) (each x p.0)
    ∙ ap (option_map (λ ys. x ∷ ys)) (each_read kind g fits each xs p.1)

items_count-map : {A : Type 0} (g : A → Data) (xs : List A) → items_count (items_of (map g xs)) ≡ length xs
items_count-map g [] = refl
items_count-map g (x ∷ xs) = omega (arith, items_count-map g xs)

-- A list of at most so many values, each of the form that is read.
pub list_read : {A : Type 0} (most : ℕ) (kind : Data → Option A) (g : A → Data) (fits : A → Bool) → ((x : A) → fits x ≡ true → kind (g x) ≡ Some x)
    → (xs : List A) → nat_le (length xs) most ≡ true → list_all fits xs ≡ true → as_each_of most kind (array (items_of (map g xs))) ≡ Some xs
list_read most kind g fits each xs few all =
    ap (λ b. option_and_then (each_of kind) (cond b (Some (items_of (map g xs))) None)) (ap (λ n. nat_le n most) (items_count-map g xs) ∙ few)
    ∙ each_read kind g fits each xs all

-- ---- lists of names

others_stay : (n : List ℕ) (ns : List (List ℕ)) → not (has_name ns n) ≡ true → filter (λ m. not (bytes_eq m n)) ns ≡ ns
others_stay n [] h = refl
others_stay n (m ∷ ns) h = by (bytes_eq m n) h (others_stay n ns)
  where
    by : (b : Bool) → not (b || has_name ns n) ≡ true → (not (has_name ns n) ≡ true → filter (λ m. not (bytes_eq m n)) ns ≡ ns)
        → cond (not b) (m ∷ filter (λ m. not (bytes_eq m n)) ns) (filter (λ m. not (bytes_eq m n)) ns) ≡ m ∷ ns
    by true h more = absurd (false≢true h)
    by false h more = ap (λ l. m ∷ l) (more h)

-- A list without repeats stays.
pub without_repeats-same : (ns : List (List ℕ)) → is_distinct ns ≡ true → without_repeats ns ≡ ns
without_repeats-same [] h = refl
without_repeats-same (n ∷ ns) h =
    let p = and_parts (not (has_name ns n)) (is_distinct ns) h in
    ap (λ l. n ∷ filter (λ m. not (bytes_eq m n)) l) (without_repeats-same ns p.1) ∙ ap (λ l. n ∷ l) (others_stay n ns p.0)

pub attributes_read : (ns : List (List ℕ)) → are_attributes ns ≡ true → as_attributes (list_of (λ t. string t) ns) ≡ Some ns
attributes_read ns h =
    let p = and_parts (nat_le (length ns) 64) (are_names ns) h in
    let q = and_parts (list_all is_name ns) (is_distinct ns) p.1 in
    ap (option_map without_repeats) (list_read 64 as_name (λ n. string n) is_name name_read ns p.0 q.0) ∙ ap (λ l. Some l) (without_repeats-same ns q.1)
