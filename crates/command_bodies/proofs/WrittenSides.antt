-- The role list that a side is written as is read as the side.
use Rattle.std.proofs.Common.{◌≡◌, ℕ, ◌+◌, nat_le, Bool, true, false, not, cond, ◌&&◌, ◌||◌, List, [], ◌∷◌, ◌++◌, codes, length, map, Some, None, refl, sym, ap, ap₂, ◌∙◌, arith, bytes_eq}
use Rattle.std.specs.Prelude.{option_and_then}
use Rattle.std.specs.List.{list_all, list_any, flat_map}
use Rattle.std.proofs.lemmas.Bool.{and_from, and_parts, false≢true}
use Rattle.serde_json.specs.Data.{string, array}
use Rattle.serde_json.specs.View.{items_of}
use Rattle.ctrl_model.specs.NameForm.{is_name}
use Rattle.ctrl_model.specs.Matches.{has_name, is_nothing}
use Rattle.ctrl_model.specs.ValueForms.{is_distinct, are_names, is_stored_side, is_side}
use Rattle.ctrl_model.specs.declared.kinds.Role.{Role}
use Rattle.ctrl_model.specs.declared.kinds.Role.TheVariants as role
use Rattle.ctrl_model.specs.declared.kinds.Side.{Side}
use Rattle.role_expr.specs.NameRepeats.{without_repeats}
use Rattle.role_expr.specs.RoleSides.{is_all, id_in, attribute_in, side_from}
use Rattle.role_expr.specs.RoleSpelling.{is_role, role_spelling}
use Rattle.role_expr.proofs.RoleLaws.{read_again}
use Rattle.command_bodies.specs.WrittenFields.{list_of}
use Rattle.body_fields.specs.ItemLists.{as_each_of}
use Rattle.command_codec.specs.RoleLists.{as_role, side_of, as_side}
use Rattle.command_bodies.specs.RoleEntries.{role_texts}
use Rattle.command_bodies.proofs.WrittenKinds.{list_read, without_repeats-same}

-- The entries behind `@`, and behind `#`.
abbrev ids_of : List (List ℕ) → List Role
ids_of ns = map (λ n. role.Id n) ns

abbrev attributes_of : List (List ℕ) → List Role
attributes_of ns = map (λ n. role.Attribute n) ns

-- ---- what entries give

none_all : (ids ns : List (List ℕ)) → list_any is_all (ids_of ids ++ attributes_of ns) ≡ false
none_all [] [] = refl
none_all [] (n ∷ ns) = none_all [] ns
none_all (n ∷ ids) ns = none_all ids ns

ids_back : (ids ns : List (List ℕ)) → flat_map id_in (ids_of ids ++ attributes_of ns) ≡ ids
ids_back [] [] = refl
ids_back [] (n ∷ ns) = ids_back [] ns
ids_back (n ∷ ids) ns = ap (λ l. n ∷ l) (ids_back ids ns)

attributes_back : (ids ns : List (List ℕ)) → flat_map attribute_in (ids_of ids ++ attributes_of ns) ≡ ns
attributes_back [] [] = refl
attributes_back [] (n ∷ ns) = ap (λ l. n ∷ l) (attributes_back [] ns)
attributes_back (n ∷ ids) ns = attributes_back ids ns

-- ---- the form of entries

attributes_are_roles : (ns : List (List ℕ)) → list_all is_name ns ≡ true → not (has_name ns (codes "all")) ≡ true → list_all is_role (attributes_of ns) ≡ true
attributes_are_roles [] h e = refl
attributes_are_roles (n ∷ ns) h e =
    let p = and_parts (is_name n) (list_all is_name ns) h in
    by (bytes_eq n (codes "all")) refl e p.0 (attributes_are_roles ns p.1)
  where
    by : (b : Bool) → bytes_eq n (codes "all") ≡ b → not (b || has_name ns (codes "all")) ≡ true → is_name n ≡ true
        → (not (has_name ns (codes "all")) ≡ true → list_all is_role (attributes_of ns) ≡ true) → list_all is_role (attributes_of (n ∷ ns)) ≡ true
    by true is e form more = absurd (false≢true e)
    by false is e form more =
        and_from (is_name n && not (bytes_eq n (codes "all"))) (list_all is_role (attributes_of ns))
        (and_from (is_name n) (not (bytes_eq n (codes "all"))) form (ap not is)) (more e)

are_roles : (ids ns : List (List ℕ)) → list_all is_name ids ≡ true → list_all is_name ns ≡ true → not (has_name ns (codes "all")) ≡ true
    → list_all is_role (ids_of ids ++ attributes_of ns) ≡ true
are_roles [] ns h k e = attributes_are_roles ns k e
are_roles (n ∷ ids) ns h k e =
    let p = and_parts (is_name n) (list_all is_name ids) h in
    and_from (is_name n) (list_all is_role (ids_of ids ++ attributes_of ns)) p.0 (are_roles ids ns p.1 k e)

entries_count : (ids ns : List (List ℕ)) → length (ids_of ids ++ attributes_of ns) ≡ length ids + length ns
entries_count [] [] = refl
entries_count [] (n ∷ ns) = omega (arith, entries_count [] ns)
entries_count (n ∷ ids) ns = omega (arith, entries_count ids ns)

-- ---- the side

texts_of_roles : (rs : List Role) → map (λ n. string n) (map role_spelling rs) ≡ map (λ r. string (role_spelling r)) rs
texts_of_roles [] = refl
texts_of_roles (r ∷ rs) = ap (λ l. string (role_spelling r) ∷ l) (texts_of_roles rs)

-- A list of entries that is read as such entries.
roles_read : (rs : List Role) → nat_le (length rs) 64 ≡ true → list_all is_role rs ≡ true → as_each_of 64 as_role (list_of (λ t. string t) (map role_spelling rs)) ≡ Some rs
roles_read rs few all =
    ap (λ l. as_each_of 64 as_role (array (items_of l))) (texts_of_roles rs)
    ∙ list_read 64 as_role (λ r. string (role_spelling r)) is_role (λ r h. read_again r h) rs few all

nothing : {X : Type 0} (xs : List X) → is_nothing xs ≡ true → xs ≡ []
nothing [] h = refl
nothing (x ∷ xs) h = absurd (false≢true h)

-- The side that these are.
abbrev side_with : Bool → List (List ℕ) → List (List ℕ) → Side
side_with all ids ns = record { all = all; ids = ids; attributes = ns }

all_read : (ids ns : List (List ℕ)) → is_side (side_with true ids ns) ≡ true → as_side (list_of (λ t. string t) (role_texts (side_with true ids ns))) ≡ Some (side_with true ids ns)
all_read ids ns h =
    let p = and_parts (is_stored_side (side_with true ids ns)) (not (has_name ns (codes "all"))) h in
    let q = and_parts (is_nothing ids && is_nothing ns) (nat_le (length ids + length ns) 64 && (are_names ids && are_names ns)) p.0 in
    let r = and_parts (is_nothing ids) (is_nothing ns) q.0 in
    ap₂ (λ l m. Some (side_with true l m)) (sym (nothing ids r.0)) (sym (nothing ns r.1))

some_read : (ids ns : List (List ℕ)) → is_side (side_with false ids ns) ≡ true → as_side (list_of (λ t. string t) (role_texts (side_with false ids ns))) ≡ Some (side_with false ids ns)
some_read ids ns h =
    let p = and_parts (is_stored_side (side_with false ids ns)) (not (has_name ns (codes "all"))) h in
    let q = and_parts (nat_le (length ids + length ns) 64) (are_names ids && are_names ns) p.0 in
    let r = and_parts (are_names ids) (are_names ns) q.1 in
    let i = and_parts (list_all is_name ids) (is_distinct ids) r.0 in
    let a = and_parts (list_all is_name ns) (is_distinct ns) r.1 in
    let rs : List Role = ids_of ids ++ attributes_of ns in
    let few : nat_le (length rs) 64 ≡ true = ap (λ n. nat_le n 64) (entries_count ids ns) ∙ q.0 in
    ap (option_and_then side_of) (roles_read rs few (are_roles ids ns i.0 a.0 p.1))
    ∙ ap (λ b. cond (b && list_any (λ x. not (is_all x)) rs) None (Some (side_from rs))) (none_all ids ns)
    ∙ ap (λ b. Some (side_with b (without_repeats (flat_map id_in rs)) (without_repeats (flat_map attribute_in rs)))) (none_all ids ns)
    ∙ ap₂ (λ l m. Some (side_with false l m))
    (ap without_repeats (ids_back ids ns) ∙ without_repeats-same ids i.1)
    (ap without_repeats (attributes_back ids ns) ∙ without_repeats-same ns a.1)

pub side_read : (side : Side) → is_side side ≡ true → as_side (list_of (λ t. string t) (role_texts side)) ≡ Some side
side_read side h = by side.all side.ids side.attributes h
  where
    by : (all : Bool) (ids ns : List (List ℕ)) → is_side (side_with all ids ns) ≡ true → as_side (list_of (λ t. string t) (role_texts (side_with all ids ns))) ≡ Some (side_with all ids ns)
    by true ids ns h = all_read ids ns h
    by false ids ns h = some_read ids ns h
