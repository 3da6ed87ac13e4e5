-- Role lists in bodies: which entry a text is, and what form the side of a role list has.
use Rattle.std.proofs.Common.{◌≡◌, ℕ, ◌+◌, ◌≤◌, nat_le, Bool, true, false, not, cond, ◌&&◌, ◌||◌, List, [], ◌∷◌, length, codes, Option, Some, None, refl, sym, ap, ◌∙◌, subst, arith, le-leb}
use Rattle.std.specs.Prelude.{is_some, option_and_then, option_map}
use Rattle.std.specs.List.{filter, list_all, list_any, flat_map}
use Rattle.std.specs.Str.{bytes_eq}
use Rattle.std.proofs.lemmas.Bool.{and_from, and_parts, false≢true, not_from_false}
use Rattle.std.proofs.lemmas.Option.{option_and_then_some, same_Some}
use Rattle.serde_json.specs.Data.{Data}
use Rattle.serde_json.specs.Find.{as_str}
use Rattle.ctrl_model.specs.declared.kinds.Role.{Role}
use Rattle.ctrl_model.specs.declared.kinds.Role.TheVariants as role
use Rattle.ctrl_model.specs.declared.kinds.Side.{Side}
use Rattle.ctrl_model.specs.NameForm.{is_name}
use Rattle.ctrl_model.specs.Matches.{has_name, is_nothing}
use Rattle.ctrl_model.specs.ValueForms.{are_names, is_stored_side, is_side}
use Rattle.ctrl_model.proofs.TableLaws.{list_all-filter}
use Rattle.role_expr.specs.NameRepeats.{without_repeats}
use Rattle.role_expr.specs.ReadRoles.{role_in}
use Rattle.role_expr.specs.RoleSides.{is_all, id_in, attribute_in, is_all_beside, side_from}
use Rattle.role_expr.specs.RoleSpelling.{is_role, role_spelling}
use Rattle.role_expr.proofs.RepeatLaws.{without_repeats-length}
use Rattle.role_expr.proofs.RoleLaws.{reads}
use Rattle.serde_json.specs.View.{view, items_view}
use Rattle.serde_json.specs.declared.value.Value.{Value}
use Rattle.body_fields.specs.ItemLists.{each_of, as_each_of}
use Rattle.command_codec.specs.RoleLists.{as_role, is_all_bytes, is_all_text, side_of, as_side}
use Rattle.body_fields.proofs.ItemLaws.{by_mapped, as_each_of-form}
use Rattle.command_codec.proofs.NameListLaws.{without_repeats-form}

-- ---- which entry bytes are

-- Bytes that are the spelling of no entry.
pub role_in-none : (bytes : List ℕ) → ((r : Role) → is_role r ≡ true → role_spelling r ≡ bytes → ⊥) → role_in bytes ≡ None
role_in-none bytes none = by (role_in bytes) refl
  where
    by : (o : Option Role) → role_in bytes ≡ o → o ≡ None
    by None e = refl
    by (Some r) e = let p = reads bytes r e in absurd (none r p.0 p.1)

as_role-form : (d : Data) (r : Role) → as_role d ≡ Some r → is_role r ≡ true
as_role-form d r e = option_and_then_some role_in (as_str d) r e (λ bytes is h. (reads bytes r h).0)

-- ---- the lists of a side

-- The names behind `@` are names.
ids-names : (rs : List Role) → list_all is_role rs ≡ true → list_all is_name (flat_map id_in rs) ≡ true
ids-names [] e = refl
ids-names (role.All ∷ rs) e = ids-names rs e
ids-names (role.Id n ∷ rs) e = let p = and_parts (is_name n) (list_all is_role rs) e in and_from (is_name n) (list_all is_name (flat_map id_in rs)) p.0 (ids-names rs p.1)
ids-names (role.Attribute n ∷ rs) e = ids-names rs (and_parts (is_role (role.Attribute n)) (list_all is_role rs) e).1

-- An attribute of an entry.
abbrev is_attribute : List ℕ → Bool
is_attribute n = is_name n && not (bytes_eq n (codes "all"))

attributes-form : (rs : List Role) → list_all is_role rs ≡ true → list_all is_attribute (flat_map attribute_in rs) ≡ true
attributes-form [] e = refl
attributes-form (role.All ∷ rs) e = attributes-form rs e
attributes-form (role.Id n ∷ rs) e = attributes-form rs (and_parts (is_name n) (list_all is_role rs) e).1
attributes-form (role.Attribute n ∷ rs) e =
    let p = and_parts (is_attribute n) (list_all is_role rs) e in and_from (is_attribute n) (list_all is_attribute (flat_map attribute_in rs)) p.0 (attributes-form rs p.1)

-- Each entry gives at most one name.
sides-length : (rs : List Role) → length (flat_map id_in rs) + length (flat_map attribute_in rs) ≤ length rs
sides-length [] = omega arith
sides-length (role.All ∷ rs) = omega (arith, sides-length rs)
sides-length (role.Id n ∷ rs) = omega (arith, sides-length rs)
sides-length (role.Attribute n ∷ rs) = omega (arith, sides-length rs)

-- Where no entry but `#all` stands there are no names.
only_all : (rs : List Role) → list_any (λ r. not (is_all r)) rs ≡ false → (flat_map id_in rs ≡ []) × (flat_map attribute_in rs ≡ [])
only_all [] e = (refl, refl)
only_all (role.All ∷ rs) e = only_all rs e
only_all (role.Id n ∷ rs) e = absurd (false≢true (sym e))
only_all (role.Attribute n ∷ rs) e = absurd (false≢true (sym e))

-- ---- the form of a side

-- What holds of each name holds of each that stays without repeats.
list_all-filter_repeats : (p : List ℕ → Bool) (ns : List (List ℕ)) → list_all p ns ≡ true → list_all p (without_repeats ns) ≡ true
list_all-filter_repeats p [] e = refl
list_all-filter_repeats p (n ∷ ns) e =
    let parts = and_parts (p n) (list_all p ns) e in
    and_from (p n) (list_all p (filter (λ m. not (bytes_eq m n)) (without_repeats ns))) parts.0
    (list_all-filter (λ m. not (bytes_eq m n)) p p (λ m q r. r) (without_repeats ns) (list_all-filter_repeats p ns parts.1))

list_all-left : (p q : List ℕ → Bool) (ns : List (List ℕ)) → list_all (λ n. p n && q n) ns ≡ true → (list_all p ns ≡ true) × (list_all q ns ≡ true)
list_all-left p q [] e = (refl, refl)
list_all-left p q (n ∷ ns) e =
    let here = and_parts (p n && q n) (list_all (λ m. p m && q m) ns) e in
    let each = and_parts (p n) (q n) here.0 in
    let more = list_all-left p q ns here.1 in
    (and_from (p n) (list_all p ns) each.0 more.0, and_from (q n) (list_all q ns) each.1 more.1)

has_name-absent : (name : List ℕ) (ns : List (List ℕ)) → list_all (λ n. not (bytes_eq n name)) ns ≡ true → has_name ns name ≡ false
has_name-absent name [] e = refl
has_name-absent name (n ∷ ns) e =
    let p = and_parts (not (bytes_eq n name)) (list_all (λ m. not (bytes_eq m name)) ns) e in
    by (bytes_eq n name) p.0 (has_name-absent name ns p.1)
  where
    by : (b : Bool) → not b ≡ true → has_name ns name ≡ false → (b || has_name ns name) ≡ false
    by true e h = absurd (false≢true e)
    by false e h = h

-- Where `#all` does not stand beside another entry, it stands alone or not at all.
alone : (rs : List Role) → is_all_beside rs ≡ false → (not (list_any is_all rs) || (is_nothing (without_repeats (flat_map id_in rs)) && is_nothing (without_repeats (flat_map attribute_in rs)))) ≡ true
alone rs e = by (list_any is_all rs) (list_any (λ r. not (is_all r)) rs) refl e
  where
    by : (b d : Bool) → list_any (λ r. not (is_all r)) rs ≡ d → (b && d) ≡ false
        → (not b || (is_nothing (without_repeats (flat_map id_in rs)) && is_nothing (without_repeats (flat_map attribute_in rs)))) ≡ true
    by false d is e = refl
    by true true is e = absurd (false≢true (sym e))
    by true false is e = let none = only_all rs is in rw (none.0, none.1) refl

-- The side of at most 64 entries is one that a role list says.
side_from-form : (rs : List Role) → length rs ≤ 64 → list_all is_role rs ≡ true → is_all_beside rs ≡ false → is_side (side_from rs) ≡ true
side_from-form rs few roles beside =
    let ids = flat_map id_in rs in
    let attributes = flat_map attribute_in rs in
    let forms = list_all-left is_name (λ n. not (bytes_eq n (codes "all"))) attributes (attributes-form rs roles) in
    let side = side_from rs in
    let count : length side.ids + length side.attributes ≤ 64 = omega (arith, few, sides-length rs, without_repeats-length ids, without_repeats-length attributes) in
    and_from (is_stored_side side) (not (has_name side.attributes (codes "all")))
    (and_from (not side.all || (is_nothing side.ids && is_nothing side.attributes)) (nat_le (length side.ids + length side.attributes) 64 && (are_names side.ids && are_names side.attributes))
    (alone rs beside)
    (and_from (nat_le (length side.ids + length side.attributes) 64) (are_names side.ids && are_names side.attributes) (le-leb (length side.ids + length side.attributes) 64 count)
    (and_from (are_names side.ids) (are_names side.attributes) (without_repeats-form ids (ids-names rs roles)) (without_repeats-form attributes forms.0))))
    (not_from_false (has_name side.attributes (codes "all")) (has_name-absent (codes "all") side.attributes
    (list_all-filter_repeats (λ n. not (bytes_eq n (codes "all"))) attributes forms.1)))

pub as_side-form : (d : Data) (side : Side) → as_side d ≡ Some side → is_side side ≡ true
as_side-form d side e =
    option_and_then_some side_of (as_each_of 64 as_role d) side e (λ rs sent is.
    as_each_of-form 64 as_role is_role as_role-form d rs sent (λ few roles. by rs few roles (is_all_beside rs) refl is))
  where
    by : (rs : List Role) → length rs ≤ 64 → list_all is_role rs ≡ true → (b : Bool) → is_all_beside rs ≡ b → cond b None (Some (side_from rs)) ≡ Some side → is_side side ≡ true
    by rs few roles true beside is = absurd (cc)
    by rs few roles false beside is = subst (λ s. is_side s ≡ true) (same_Some (side_from rs) side is) (side_from-form rs few roles beside)

-- ---- whether a role list is a side, before its entries are read

not_so : (b : Bool) → not b ≡ true → b ≡ false
not_so true e = absurd (false≢true e)
not_so false e = refl

-- The spelling of an entry is that of `#all` where the entry is.
spelled_all : (r : Role) → is_role r ≡ true → bytes_eq (role_spelling r) (codes "#all") ≡ is_all r
spelled_all role.All form = refl
spelled_all (role.Id n) form = refl
spelled_all (role.Attribute n) form = not_so (bytes_eq n (codes "all")) (and_parts (is_name n) (not (bytes_eq n (codes "all"))) form).1

text_all : (d : Data) (r : Role) → as_role d ≡ Some r → is_all_text d ≡ is_all r
text_all d r e =
    option_and_then_some role_in (as_str d) r e (λ bytes is h.
    let p = reads bytes r h in
    ap is_all_bytes is ∙ ap (λ b. bytes_eq b (codes "#all")) (sym p.1) ∙ spelled_all r p.0)

-- Values of which some are `#all`, as the entries that they are.
any_all : (p : Bool → Bool) (vs : List Value) (rs : List Role) → each_of as_role (items_view vs) ≡ Some rs → list_any (λ v. p (is_all_text (view v))) vs ≡ list_any (λ r. p (is_all r)) rs
any_all p [] rs e = ap (list_any (λ r. p (is_all r))) (same_Some [] rs e)
any_all p (v ∷ vs) rs e =
    option_and_then_some (λ x. option_map (λ xs. x ∷ xs) (each_of as_role (items_view vs))) (as_role (view v)) rs e (λ r is more.
    by_mapped (λ xs. r ∷ xs) (each_of as_role (items_view vs)) rs more (λ ss sent same.
    ap (λ b. p b || list_any (λ w. p (is_all_text (view w))) vs) (text_all (view v) r is) ∙ ap (λ b. p (is_all r) || b) (any_all p vs ss sent)
    ∙ ap (list_any (λ q. p (is_all q))) same))

-- Whether `#all` stands beside another of some values.
abbrev pub values_beside : List Value → Bool
values_beside vs = list_any (λ v. is_all_text (view v)) vs && list_any (λ v. not (is_all_text (view v))) vs

pub side_said : (vs : List Value) → (is_some (each_of as_role (items_view vs)) && not (values_beside vs)) ≡ is_some (option_and_then side_of (each_of as_role (items_view vs)))
side_said vs = by (each_of as_role (items_view vs)) refl
  where
    told : (rs : List Role) (b : Bool) → is_all_beside rs ≡ b → not b ≡ is_some (cond b None (Some (side_from rs)))
    told rs true is = refl
    told rs false is = refl

    by : (o : Option (List Role)) → each_of as_role (items_view vs) ≡ o → (is_some o && not (values_beside vs)) ≡ is_some (option_and_then side_of o)
    by None is = refl
    by (Some rs) is =
        let some = any_all (λ b. b) vs rs is in
        let other = any_all not vs rs is in
        ap not (ap (λ b. b && list_any (λ v. not (is_all_text (view v))) vs) some ∙ ap (λ b. list_any is_all rs && b) other) ∙ told rs (is_all_beside rs) refl
