-- What a body means is what the JSON value means that it is.
use Rattle.std.proofs.Common.{◌≡◌, ℕ, ◌==◌, ◌<◌, true, false, cond, List, [], ◌∷◌, length, Option, Some, None, Result, Ok, Err, refl, sym, ap, ◌∙◌, subst, arith}
use Rattle.std.specs.Prelude.{◌≢◌, ◌↔◌, IfOk, IfErr, IsOk, IsErrOf, option_and_then}
use Rattle.std.specs.Str.{is_utf8, chars}
use Rattle.std.proofs.lemmas.Bool.{false≢true, ne_eqb}
use Rattle.serde_json.proofs.OnLiterals.{serde_json_on_literals}
use Rattle.serde_json.specs.Data.{Data}
use Rattle.ctrl_model.specs.declared.commands.Command.{Command}
use Rattle.ctrl_model.specs.declared.commands.Command.TheVariants as command
use Rattle.ctrl_model.specs.declared.refusals.Field.TheVariants as field
use Rattle.ctrl_model.specs.declared.refusals.Reason.TheVariants as reason
use Rattle.ctrl_model.specs.SpelledCommands.{is_spelled}
use Rattle.json_body.specs.declared.fields.FieldFault.{FieldFault}
use Rattle.json_body.specs.declared.fields.FieldFault.TheVariants as fault
use Rattle.json_body.specs.FieldKinds.{is_object}
use Rattle.body_fields.specs.BodyValues.{value_of_body}
use Rattle.command_codec.specs.declared.reading.CodecFault.{CodecFault}
use Rattle.command_codec.specs.declared.reading.CodecFault.TheVariants.{BadBody, UnsupportedType, NoMemory}
use Rattle.command_codec.specs.BodyObjects.{as_body, object_of_body, cause_of, said_by, with_cause}
use Rattle.command_codec.specs.BodyMeaning.{meaning_under, meaning, said_in, said_under, value_under, value_meaning}
use Rattle.ctrl_model.specs.CommandForms.{Row, row_at}
use Rattle.command_codec.proofs.SpelledLaws.{means}

under_value : (at : Option Row) (body : List ℕ) (d : Data) → value_of_body body ≡ Some d → meaning_under at body ≡ value_under at d
under_value None body d is = refl
under_value (Some r) body d is = ap (λ v. said_by (said_in r) (option_and_then as_body v)) is

pub meaning_of_value : (content : ℕ) (body : List ℕ) (d : Data) → value_of_body body ≡ Some d → meaning content body ≡ value_meaning content d
meaning_of_value content body d is = ap (λ r. cond (content == 0) (Ok command.Hello) r) (under_value (row_at content) body d is)

no_value_of_nothing : value_of_body [] ≡ None
unfolding serde_json_on_literals is_utf8 chars
no_value_of_nothing = refl

-- A body that is a JSON value is not empty.
pub not_empty : (body : List ℕ) (d : Data) → value_of_body body ≡ Some d → 0 < length body
not_empty [] d is = absurd (let none : ◌≡◌ {A = Option Data} None (Some d) = sym no_value_of_nothing ∙ is in cc)
not_empty (x ∷ xs) d is = omega arith

-- ---- what is returned of the value of a body

pub given_command : (content : ℕ) (body : List ℕ) (d : Data) (r : Result Command CodecFault) → value_of_body body ≡ Some d → IfOk r (λ c. value_meaning content d ≡ Ok c)
    → IfOk r (λ c. meaning content body ≡ Ok c)
given_command content body d (Ok c) is e = meaning_of_value content body d is ∙ e
given_command content body d (Err f) is e = tt

pub given_fault : (content : ℕ) (body : List ℕ) (d : Data) (r : Result Command CodecFault) → value_of_body body ≡ Some d
    → IfErr r (λ f. f ≢ NoMemory → value_meaning content d ≡ Err f) → IfErr r (λ f. f ≢ NoMemory → meaning content body ≡ Err f)
given_fault content body d (Ok c) is e = tt
given_fault content body d (Err f) is e = λ other. meaning_of_value content body d is ∙ e other

pub given_spelled : (content : ℕ) (body : List ℕ) (d : Data) (r : Result Command CodecFault) → value_of_body body ≡ Some d → IfOk r (λ c. value_meaning content d ≡ Ok c)
    → IfOk r (λ c. is_spelled c ≡ true)
given_spelled content body d (Ok c) is e = (means content body c (meaning_of_value content body d is ∙ e)).form
given_spelled content body d (Err f) is e = tt

-- ---- what is meant under a form, or where there is none

other_than_hello : (content : ℕ) → (content ≡ 0 → ⊥) → (content == 0) ≡ false
other_than_hello content other = ne_eqb content 0 other

under_entry : (content : ℕ) (body : List ℕ) → (content ≡ 0 → ⊥) → meaning content body ≡ meaning_under (row_at content) body
under_entry content body other = ap (λ b. cond b (Ok command.Hello) (meaning_under (row_at content) body)) (other_than_hello content other)

value_under_entry : (content : ℕ) (d : Data) → (content ≡ 0 → ⊥) → value_meaning content d ≡ value_under (row_at content) d
value_under_entry content d other = ap (λ b. cond b (Ok command.Hello) (value_under (row_at content) d)) (other_than_hello content other)

-- Where there is no entry, each body and each value says so.
pub is_unsupported : (content : ℕ) (body : List ℕ) → (content ≡ 0 → ⊥) → row_at content ≡ None → meaning content body ≡ Err UnsupportedType
is_unsupported content body other is = under_entry content body other ∙ ap (λ o. meaning_under o body) is

pub value_unsupported : (content : ℕ) (d : Data) → (content ≡ 0 → ⊥) → row_at content ≡ None → value_meaning content d ≡ Err UnsupportedType
value_unsupported content d other is = value_under_entry content d other ∙ ap (λ o. value_under o d) is

-- A body never says that its type is not supported.
supported : (r : Row) (v : Option Data) → said_by (said_in r) v ≡ Err UnsupportedType → ⊥
supported r None e = absurd (cc)
supported r (Some o) e = by (said_in r o) e
  where
    caused : (f : FieldFault) → cause_of f ≡ UnsupportedType → ⊥
    caused fault.NotObject e = absurd (cc)
    caused (fault.Missing of_field) e = absurd (cc)
    caused (fault.WrongKind of_field) e = absurd (cc)
    caused fault.Unknown e = absurd (cc)
    caused fault.NoMemory e = absurd (cc)

    by : (r : Result Command FieldFault) → with_cause r ≡ Err UnsupportedType → ⊥
    by (Ok c) e = absurd (cc)
    by (Err f) e = caused f (cc)

-- Where there is a form, no body says that its type is not supported.
pub not_supported : (content : ℕ) (r : Row) (body : List ℕ) → (content ≡ 0 → ⊥) → row_at content ≡ Some r → meaning content body ≡ Err UnsupportedType → ⊥
not_supported content r body other at e =
    supported r (object_of_body body) (sym (under_entry content body other ∙ ap (λ o. meaning_under o body) at) ∙ e)

-- A body that is no JSON value is no object.
pub said_in_vain : (content : ℕ) (r : Row) (body : List ℕ) → (content ≡ 0 → ⊥) → row_at content ≡ Some r → value_of_body body ≡ None
    → meaning content body ≡ Err (BadBody field.Nothing reason.NotObject)
said_in_vain content r body other at none =
    under_entry content body other ∙ ap (λ o. meaning_under o body) at ∙ ap (λ v. said_by (said_in r) (option_and_then as_body v)) none

-- What an object says under a form, with the cause of a fault, is what its value means.
pub said_value : (content : ℕ) (r : Row) (d o : Data) → (content ≡ 0 → ⊥) → row_at content ≡ Some r → o ≡ d → is_object d ≡ true
    → value_meaning content d ≡ with_cause (said_under (row_at content) o)
said_value content r d o other at same object =
    value_under_entry content d other ∙ ap (λ e. value_under e d) at ∙ ap (λ b. said_by (said_in r) (cond b (Some d) None)) object
    ∙ ap (λ e. with_cause (said_under e d)) (sym at) ∙ ap (λ x. with_cause (said_under (row_at content) x)) (sym same)

-- Where an object says a command, its value means one.
pub said_some : (content : ℕ) (r : Row) (d o : Data) → (content ≡ 0 → ⊥) → row_at content ≡ Some r → o ≡ d → is_object d ≡ true
    → IsOk (said_under (row_at content) o) → IsOk (value_meaning content d)
said_some content r d o other at same object ok =
    subst (λ r. IsOk r) (sym (said_value content r d o other at same object)) (by (said_under (row_at content) o) ok)
  where
    by : (r : Result Command FieldFault) → IsOk r → IsOk (with_cause r)
    by (Ok c) ok = refl
    by (Err f) ok = absurd (false≢true ok)

-- Where a value is no object, its meaning under a form says so.
pub said_of_none : (content : ℕ) (r : Row) (d : Data) → (content ≡ 0 → ⊥) → row_at content ≡ Some r → is_object d ≡ false
    → value_meaning content d ≡ Err (BadBody field.Nothing reason.NotObject)
said_of_none content r d other at object =
    value_under_entry content d other ∙ ap (λ e. value_under e d) at ∙ ap (λ b. said_by (said_in r) (cond b (Some d) None)) object

-- ---- the causes of faults

-- A fault that is told as one cause.
abbrev pub IsTold : FieldFault → CodecFault → Type 0
IsTold f cause = ◌≡◌ {A = Result Command CodecFault} (Err (cause_of f)) (Err cause)

-- Want of memory alone is told as such.
pub cause_memory : (f : FieldFault) → IsTold f NoMemory → f ≡ fault.NoMemory
cause_memory fault.NotObject e = absurd (cc)
cause_memory (fault.Missing of_field) e = absurd (cc)
cause_memory (fault.WrongKind of_field) e = absurd (cc)
cause_memory fault.Unknown e = absurd (cc)
cause_memory fault.NoMemory e = refl

-- No fault is told as a type that is not supported.
pub cause_supported : (f : FieldFault) → IsTold f UnsupportedType → ⊥
cause_supported fault.NotObject e = absurd (cc)
cause_supported (fault.Missing of_field) e = absurd (cc)
cause_supported (fault.WrongKind of_field) e = absurd (cc)
cause_supported fault.Unknown e = absurd (cc)
cause_supported fault.NoMemory e = absurd (cc)

-- What is returned of the value of a body under a form: a type that is not supported is never told.
pub given_supported : (content : ℕ) (row : Row) (body : List ℕ) (d : Data) (r : Result Command CodecFault) → (content ≡ 0 → ⊥) → row_at content ≡ Some row
    → value_of_body body ≡ Some d → IfErr r (λ f. f ≢ NoMemory → value_meaning content d ≡ Err f)
    → IsErrOf r UnsupportedType ↔ (meaning content body ≡ Err UnsupportedType)
given_supported content r body d (Ok c) other at value given = (λ e. absurd (cc), λ e. absurd (not_supported content r body other at e))
given_supported content r body d (Err f) other at value given = (told, λ e. absurd (not_supported content r body other at e))
  where
    told : IsErrOf {T = Command} (Err f) UnsupportedType → meaning content body ≡ Err UnsupportedType
    told e =
        let same : f ≡ UnsupportedType = cc in
        let no_memory : f ≡ NoMemory → ⊥ = λ wanting. different (sym same ∙ wanting) in
        meaning_of_value content body d value ∙ given no_memory ∙ ap (λ g. Err g) same
      where
        different : UnsupportedType ≡ NoMemory → ⊥
        different e = cc
