-- Why a body means no command is its first cause; want of memory is none.
use Rattle.std.proofs.Common.{◌≡◌, ℕ, ◌==◌, Bool, true, false, cond, List, [], ◌∷◌, Option, Some, None, Result, Ok, Err, refl, sym, ap, ◌∙◌, subst, inl, inr}
use Rattle.std.specs.Prelude.{◌↔◌, map}
use Rattle.serde_json.specs.Data.{Data}
use Rattle.ctrl_model.specs.declared.commands.Command.{Command}
use Rattle.ctrl_model.specs.declared.commands.Command.TheVariants as command
use Rattle.ctrl_model.specs.declared.refusals.Field.{Field}
use Rattle.ctrl_model.specs.declared.refusals.Field.TheVariants as field
use Rattle.ctrl_model.specs.declared.refusals.Reason.TheVariants as reason
use Rattle.json_body.specs.declared.fields.FieldFault.{FieldFault}
use Rattle.json_body.specs.declared.fields.FieldFault.TheVariants.{Missing, WrongKind, Unknown}
use Rattle.body_fields.specs.FieldRules.{FieldRule, Breaks, IsFirstFault, IsFirstAmong, rule_of}
use Rattle.command_codec.specs.declared.reading.CodecFault.{CodecFault}
use Rattle.command_codec.specs.declared.reading.CodecFault.TheVariants.{UnsupportedType, BadBody, NoMemory}
use Rattle.ctrl_model.specs.BodyForms.{Form, fields_in}
use Rattle.command_codec.specs.FormRules.{asked_by, rules_in, is_of_body_kind}
use Rattle.ctrl_model.specs.ValueKinds.{Said}
use Rattle.command_codec.specs.BodyMeaning.{said_in, meaning_under, meaning}
use Rattle.command_codec.specs.BodyObjects.{object_of_body, cause_of, with_cause, said_by}
use Rattle.ctrl_model.specs.CommandForms.{Row, row_at}
use Rattle.command_codec.specs.FirstCauses.{IsFaultCause, IsCauseOf, IsCauseUnder, IsFirstCause}
use Rattle.command_codec.proofs.FirstCauseLaws.{TellsFirst, form_first}

-- What an object says under a row is a fault exactly where that is the first one by the rules of its form.
abbrev pub Follows : Row → Data → Type 0
Follows r o = TellsFirst (fields_in r.form) (rules_in r.form) o (said_in r o)

pub row_follows : (r : Row) (o : Data) → Follows r o
row_follows r o = form_first (fields_in r.form) r.form r.make o

-- ---- the first cause

-- The fields of the rules of a form are those of the form.
rules_fields : (form : Form) → map (λ rule. rule.of_field) (rules_in form) ≡ fields_in form
rules_fields [] = refl
rules_fields (f ∷ fs) = by f.otherwise (rules_fields fs)
  where
    by : (w : Option (Said f.kind)) → map (λ rule. rule.of_field) (rules_in fs) ≡ fields_in fs
        → (rule_of is_of_body_kind (asked_by f.kind w f.of_field)).of_field ∷ map (λ rule. rule.of_field) (rules_in fs) ≡ f.of_field ∷ fields_in fs
    by None rest = ap (λ xs. f.of_field ∷ xs) rest
    by (Some x) rest = ap (λ xs. f.of_field ∷ xs) rest

same_cause : (f g : CodecFault) → ◌≡◌ {A = Result Command CodecFault} (Err f) (Err g) → f ≡ g
same_cause f g e = cc

cause_of_object : (r : Row) (o : Data) (cause : CodecFault) → (with_cause (said_in r o) ≡ Err cause) ↔ IsFaultCause (rules_in r.form) o cause
cause_of_object r o cause = (λ e. told (said_in r o) refl e, λ is. ap with_cause ((row_follows r o is.fault).1 (subst (λ fields. IsFirstAmong (rules_in r.form) fields o is.fault) (rules_fields r.form) is.first)) ∙ ap (λ f. Err f) (sym is.told))
  where
    told : (s : Result Command FieldFault) → said_in r o ≡ s → with_cause s ≡ Err cause → IsFaultCause (rules_in r.form) o cause
    told (Ok c) is e = absurd (cc)
    told (Err f) is e = record { fault = f; first = subst (λ fields. IsFirstAmong (rules_in r.form) fields o f) (sym (rules_fields r.form)) ((row_follows r o f).0 is); told = sym (same_cause (cause_of f) cause e) }

cause_of_body : (r : Row) (v : Option Data) (cause : CodecFault) → (said_by (said_in r) v ≡ Err cause) ↔ IsCauseOf (rules_in r.form) v cause
cause_of_body r None cause = (λ e. sym (same_cause (BadBody field.Nothing reason.NotObject) cause e), λ is. ap (λ f. Err f) (sym is))
cause_of_body r (Some o) cause = cause_of_object r o cause

cause_under : (body : List ℕ) (cause : CodecFault) (at : Option Row) → (meaning_under at body ≡ Err cause) ↔ IsCauseUnder at body cause
cause_under body cause None = (λ e. sym (same_cause UnsupportedType cause e), λ is. ap (λ f. Err f) (sym is))
cause_under body cause (Some r) = cause_of_body r (object_of_body body) cause

pub first_cause : (content : ℕ) (body : List ℕ) (cause : CodecFault) → (meaning content body ≡ Err cause) ↔ IsFirstCause content body cause
first_cause content body cause = by (content == 0) (cause_under body cause (row_at content))
  where
    by : (b : Bool) → (meaning_under (row_at content) body ≡ Err cause) ↔ IsCauseUnder (row_at content) body cause
        → (cond b (Ok command.Hello) (meaning_under (row_at content) body) ≡ Err cause) ↔ ((b ≡ false) × IsCauseUnder (row_at content) body cause)
    by true rest = (λ e. absurd (cc), λ is. absurd (let no : true ≡ false = is.0 in cc))
    by false rest = (λ e. (refl, rest.0 e), λ is. rest.1 is.1)

-- ---- want of memory

abbrev NotMemory : FieldFault → Type 0
NotMemory f = cause_of f ≡ NoMemory → ⊥

missing_is : (of_field : Field) → NotMemory (Missing of_field)
missing_is of_field e = cc

wrong_is : (of_field : Field) → NotMemory (WrongKind of_field)
wrong_is of_field e = cc

unknown_is : NotMemory Unknown
unknown_is e = cc

first_is : (rules : List FieldRule) (o : Data) (f : FieldFault) → IsFirstFault rules o f → NotMemory f
first_is rules o f (inr h) = subst NotMemory (sym h.told) unknown_is
first_is rules o f (inl h) = broken h.breaks
  where
    broken : Breaks h.rule o f → NotMemory f
    broken (inl b) = subst NotMemory (sym b.told) (missing_is h.rule.of_field)
    broken (inr b) = subst NotMemory (sym b.told) (wrong_is h.rule.of_field)

under_is : (at : Option Row) (body : List ℕ) → IsCauseUnder at body NoMemory → ⊥
under_is None body e = cc
under_is (Some r) body is = by (object_of_body body) is
  where
    by : (v : Option Data) → IsCauseOf (rules_in r.form) v NoMemory → ⊥
    by None e = cc
    by (Some o) is = first_is (rules_in r.form) o is.fault is.first (sym is.told)

pub never_memory : (content : ℕ) (body : List ℕ) → meaning content body ≡ Err NoMemory → ⊥
never_memory content body e = under_is (row_at content) body ((first_cause content body NoMemory).0 e).1
