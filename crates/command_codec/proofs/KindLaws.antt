-- What values say keeps the kinds, the ranges and the lengths of fields, and the commands that are made of such values are those
-- which some body spells.
use Rattle.std.proofs.Common.{◌≡◌, ℕ, ◌==◌, Bool, true, false, cond, List, [], ◌∷◌, ◌++◌, codes, bytes_eq, Option, Some, None, refl, subst, eqb-true}
use Rattle.std.specs.List.{AllByRecursion, list_all}
use Rattle.std.proofs.lemmas.Bool.{and_from, and_parts}
use Rattle.std.proofs.lemmas.Option.{cond_some, option_and_then_some, same_Some}
use Rattle.serde_json.specs.Data.{Data}
use Rattle.serde_json.specs.Find.{as_str}
use Rattle.ctrl_model.specs.declared.kinds.Relation.{Relation}
use Rattle.ctrl_model.specs.declared.kinds.Relation.TheVariants.{Dial, Bind}
use Rattle.ctrl_model.specs.ValueForms.{is_service_relation, is_name_or_none}
use Rattle.ctrl_model.specs.SpelledCommands.{all_checks, all_hold, is_spelled}
use Rattle.ctrl_model.specs.NameForm.{is_instance}
use Rattle.json_body.specs.FieldKinds.{as_name}
use Rattle.body_fields.specs.FieldValues.{instance_of, as_instance, as_some_name}
use Rattle.body_fields.specs.FieldWords.{relation_of, as_relation}
use Rattle.body_fields.proofs.ClaimLaws.{as_numbers-form, as_potentials-form}
use Rattle.body_fields.proofs.FieldLaws.{number_form}
use Rattle.body_fields.proofs.InterceptLaws.{protocols-form, addresses-form, destination-form, ranges-form}
use Rattle.body_fields.proofs.ItemLaws.{by_mapped}
use Rattle.ctrl_model.specs.declared.value_kinds.ValueKind.{ValueKind}
use Rattle.ctrl_model.specs.declared.value_kinds.ValueKind.TheVariants as value
use Rattle.ctrl_model.specs.BodyForms.{Form, Values, ◌&◌, made_of}
use Rattle.ctrl_model.specs.ValueKinds.{Said, checks}
use Rattle.command_codec.specs.BodyKinds.{as_kind}
use Rattle.ctrl_model.specs.CommandForms.{Row, all_rows, row_in, row_at}
use Rattle.ctrl_model.specs.ContentTypes.{content_of}
use Rattle.command_codec.proofs.NameListLaws.{as_name-form, as_attributes-form}
use Rattle.command_codec.proofs.SideLaws.{as_side-form}

abbrev pub AllTrue : List Bool → Type 0
AllTrue bs = AllByRecursion (λ b. b ≡ true) bs

pub hold_from : (bs : List Bool) → AllTrue bs → all_hold bs ≡ true
hold_from [] all = refl
hold_from (b ∷ []) all = all.0
hold_from (b ∷ c ∷ bs) all = and_from b (all_hold (c ∷ bs)) all.0 (hold_from (c ∷ bs) all.1)

pub hold_parts : (bs : List Bool) → all_hold bs ≡ true → AllTrue bs
hold_parts [] h = tt
hold_parts (b ∷ []) h = h & tt
hold_parts (b ∷ c ∷ bs) h = let p = and_parts b (all_hold (c ∷ bs)) h in p.0 & hold_parts (c ∷ bs) p.1

pub both_true : (bs cs : List Bool) → AllTrue bs → AllTrue cs → AllTrue (bs ++ cs)
both_true [] cs first then = then
both_true (b ∷ bs) cs first then = first.0 & both_true bs cs first.1 then

pub true_parts : (bs cs : List Bool) → AllTrue (bs ++ cs) → AllTrue bs × AllTrue cs
true_parts [] cs all = (tt, all)
true_parts (b ∷ bs) cs all = let p = true_parts bs cs all.1 in (all.0 & p.0, p.1)

-- ---- what values say

as_instance-form : (d : Data) (i : List ℕ) → as_instance d ≡ Some i → is_instance i ≡ true
as_instance-form d i e =
    option_and_then_some instance_of (as_str d) i e (λ bytes is h. let p = cond_some (is_instance bytes) bytes i h in subst (λ b. is_instance b ≡ true) p.1 p.0)

as_some_name-form : (d : Data) (n : Option (List ℕ)) → as_some_name d ≡ Some n → is_name_or_none n ≡ true
as_some_name-form d n e =
    by_mapped (λ m. Some m) (as_name d) n e (λ m is same. subst (λ k. is_name_or_none k ≡ true) same (as_name-form d m is))

relation_of-form : (word : List ℕ) (r : Relation) → relation_of word ≡ Some r → is_service_relation r ≡ true
relation_of-form word r e = by (bytes_eq word (codes "Dial")) (bytes_eq word (codes "Bind")) e
  where
    by : (b d : Bool) → cond b (Some Dial) (cond d (Some Bind) None) ≡ Some r → is_service_relation r ≡ true
    by true d e = subst (λ s. is_service_relation s ≡ true) (same_Some Dial r e) refl
    by false true e = subst (λ s. is_service_relation s ≡ true) (same_Some Bind r e) refl
    by false false e = absurd (cc)

as_relation-form : (d : Data) (r : Relation) → as_relation d ≡ Some r → is_service_relation r ≡ true
as_relation-form d r e = option_and_then_some relation_of (as_str d) r e (λ word is k. relation_of-form word r k)

-- What a value of a kind says keeps what is to hold.
pub kind_holds : (k : ValueKind) (d : Data) (x : Said k) → as_kind k d ≡ Some x → AllTrue (checks k x)
kind_holds value.Name d x e = as_name-form d x e & tt
kind_holds value.NameOrNone d x e = as_some_name-form d x e & tt
kind_holds value.Attributes d x e = as_attributes-form d x e & tt
kind_holds value.Side d x e = as_side-form d x e & tt
kind_holds (value.Number low high) d x e = number_form low high d x e & tt
kind_holds value.Flag d x e = tt
kind_holds value.Relation d x e = as_relation-form d x e & tt
kind_holds value.Semantic d x e = tt
kind_holds value.Precedence d x e = tt
kind_holds value.Instance d x e = as_instance-form d x e & tt
kind_holds (value.Numbers most) d x e = as_numbers-form most d x e & tt
kind_holds value.Potentials d x e = as_potentials-form d x e (λ few each. few & each & tt)
kind_holds value.Protocol d x e = tt
kind_holds value.Protocols d x e = protocols-form d x e & tt
kind_holds value.Destination d x e = destination-form d x e & tt
kind_holds value.Addresses d x e = addresses-form d x e & tt
kind_holds value.Ranges d x e = ranges-form d x e & tt

-- ---- the rows

-- The value that a field has where it is left out keeps what is to hold.
abbrev pub default_holds : (k : ValueKind) → Option (Said k) → Bool
default_holds k None = true
default_holds k (Some x) = all_hold (checks k x)

abbrev pub defaults_hold : Form → Bool
defaults_hold form = list_all (λ f. default_holds f.kind f.otherwise) form

-- A command of a row is one that some body spells exactly where its values keep what is to hold of them, and so do the values of the
-- fields that are left out.
pub record RowHolds (r : Row) : Type 0 where
  pub spelled : (xs : Values r.form) → is_spelled (made_of r.form r.make xs) ≡ all_hold (all_checks r.form xs)
  pub typed : (xs : Values r.form) → content_of (made_of r.form r.make xs) ≡ r.content
  pub defaults : defaults_hold r.form ≡ true

holds : {r : Row} → ((xs : Values r.form) → is_spelled (made_of r.form r.make xs) ≡ all_hold (all_checks r.form xs))
    → ((xs : Values r.form) → content_of (made_of r.form r.make xs) ≡ r.content) → defaults_hold r.form ≡ true → RowHolds r
holds spelled typed defaults = record { spelled = spelled; typed = typed; defaults = defaults }

-- Each row, in its order: what is to hold of its command is what is to hold of its values.
pub rows_hold : AllByRecursion RowHolds all_rows
rows_hold =
    holds (λ xs. refl) (λ xs. refl) refl & holds (λ xs. refl) (λ xs. refl) refl & holds (λ xs. refl) (λ xs. refl) refl
    & holds (λ xs. refl) (λ xs. refl) refl & holds (λ xs. refl) (λ xs. refl) refl & holds (λ xs. refl) (λ xs. refl) refl
    & holds (λ xs. refl) (λ xs. refl) refl & holds (λ xs. refl) (λ xs. refl) refl & holds (λ xs. refl) (λ xs. refl) refl
    & holds (λ xs. refl) (λ xs. refl) refl & holds (λ xs. refl) (λ xs. refl) refl & holds (λ xs. refl) (λ xs. refl) refl
    & holds (λ xs. refl) (λ xs. refl) refl & holds (λ xs. refl) (λ xs. refl) refl & holds (λ xs. refl) (λ xs. refl) refl
    & holds (λ xs. refl) (λ xs. refl) refl & holds (λ xs. refl) (λ xs. refl) refl & holds (λ xs. refl) (λ xs. refl) refl
    & holds (λ xs. refl) (λ xs. refl) refl & holds (λ xs. refl) (λ xs. refl) refl & holds (λ xs. refl) (λ xs. refl) refl
    & holds (λ xs. refl) (λ xs. refl) refl & holds (λ xs. refl) (λ xs. refl) refl & holds (λ xs. refl) (λ xs. refl) refl
    & holds (λ xs. refl) (λ xs. refl) refl & holds (λ xs. refl) (λ xs. refl) refl & holds (λ xs. refl) (λ xs. refl) refl
    & holds (λ xs. refl) (λ xs. refl) refl & holds (λ xs. refl) (λ xs. refl) refl & holds (λ xs. refl) (λ xs. refl) refl
    & holds (λ xs. refl) (λ xs. refl) refl & holds (λ xs. refl) (λ xs. refl) refl & holds (λ xs. refl) (λ xs. refl) refl
    & holds (λ xs. refl) (λ xs. refl) refl & holds (λ xs. refl) (λ xs. refl) refl & holds (λ xs. refl) (λ xs. refl) refl
    & holds (λ xs. refl) (λ xs. refl) refl & holds (λ xs. refl) (λ xs. refl) refl & holds (λ xs. refl) (λ xs. refl) refl
    & holds (λ xs. refl) (λ xs. refl) refl & holds (λ xs. refl) (λ xs. refl) refl & holds (λ xs. refl) (λ xs. refl) refl
    & tt

-- What holds of all rows holds of the one at a content type.
pub row_of_all : (P : Row → Type 0) (rows : List Row) → AllByRecursion P rows → (content : ℕ) (r : Row) → row_in rows content ≡ Some r → P r
row_of_all P [] all content r at = absurd (let none : ◌≡◌ {A = Option Row} None (Some r) = at in cc)
row_of_all P (q ∷ qs) all content r at = by (q.content == content) (λ behind. row_of_all P qs all.1 content r behind) at
  where
    by : (b : Bool) → (row_in qs content ≡ Some r → P r) → cond b (Some q) (row_in qs content) ≡ Some r → P r
    by true rest at = subst P (same_Some q r at) all.0
    by false rest at = rest at

-- The row at a content type is of it.
pub row_content : (rows : List Row) (content : ℕ) (r : Row) → row_in rows content ≡ Some r → r.content ≡ content
row_content [] content r at = absurd (let none : ◌≡◌ {A = Option Row} None (Some r) = at in cc)
row_content (q ∷ qs) content r at = by (q.content == content) refl (λ behind. row_content qs content r behind) at
  where
    by : (b : Bool) → (q.content == content) ≡ b → (row_in qs content ≡ Some r → r.content ≡ content) → cond b (Some q) (row_in qs content) ≡ Some r → r.content ≡ content
    by true is rest at = subst (λ (s : Row). s.content ≡ content) (same_Some q r at) (eqb-true q.content content is)
    by false is rest at = rest at

pub row_holds : (content : ℕ) (r : Row) → row_at content ≡ Some r → RowHolds r
row_holds content r at = row_of_all RowHolds all_rows rows_hold content r at
