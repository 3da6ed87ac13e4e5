-- What the code has of a form tells what the row of its content type says: a fault where its rules have a first one, and else a command.
use Rattle.std.proofs.Common.{◌≡◌, ℕ, ◌+◌, ◌<◌, ◌≤◌, true, false, List, [], Option, Some, None, Result, Ok, Err, refl, sym, ap, ◌∙◌, subst, ◌⊎◌, inl, inr, arith}
use Rattle.std.specs.Prelude.{IsOk, is_some, option_map}
use Rattle.std.proofs.Math.Nat.{eq-or-lt_of_le}
use Rattle.std.proofs.lemmas.Bool.{false≢true}
use Rattle.std.proofs.lemmas.Option.{same_Some}
use Rattle.serde_json.specs.Data.{Data}
use Rattle.ctrl_model.specs.declared.commands.Command.{Command}
use Rattle.ctrl_model.specs.declared.refusals.Field.{Field}
use Rattle.json_body.specs.declared.fields.FieldFault.{FieldFault}
use Rattle.json_body.specs.declared.fields.FieldFault.TheVariants.{Missing, WrongKind, Unknown, NoMemory}
use Rattle.body_fields.specs.declared.field_rules.AskedField.{AskedField}
use Rattle.body_fields.specs.FieldRules.{FieldRule, Breaks, IsFirstAmong, rules_of}
use Rattle.command_codec.specs.declared.body_forms.BodyForm.{BodyForm}
use Rattle.command_codec.specs.declared.body_kinds.BodyKind.{BodyKind}
use Rattle.ctrl_model.specs.BodyForms.{fields_in}
use Rattle.command_codec.specs.BodyMeaning.{given, said_in, said_under, given_under}
use Rattle.ctrl_model.specs.CommandForms.{Row, form_at, form_under, row_at}
use Rattle.command_codec.specs.FormRules.{form_asks, row_asks, is_of_body_kind}
use Rattle.command_codec.proofs.CauseLaws.{row_follows}
use Rattle.command_codec.proofs.SpelledLaws.{ended_ok}

-- What is asked at a content type, and which fields there may be.
abbrev pub Asks : Type 0
Asks = List (AskedField BodyKind) × List Field

-- What the code has of the form at a content type.
abbrev pub IsForm : ℕ → Asks → Type 0
IsForm content asks = Some asks ≡ option_map row_asks (row_at content)

-- The first faults by what is asked.
abbrev pub FirstBy : Asks → Data → FieldFault → Type 0
FirstBy asks o f = IsFirstAmong (rules_of is_of_body_kind asks.0) asks.1 o f

-- Where there is a form, there is a row with it.
pub with_row : {P : Type 0} (content : ℕ) (asks : Asks) → IsForm content asks → ((r : Row) → row_at content ≡ Some r → asks ≡ row_asks r → P) → P
with_row {P} content asks is k = by (row_at content) refl is
  where
    by : (at : Option Row) → row_at content ≡ at → Some asks ≡ option_map row_asks at → P
    by None at is = absurd (cc)
    by (Some r) at is = k r at (same_Some asks (row_asks r) is)

-- A first fault by the form is what the row says.
pub form_fault : (content : ℕ) (asks : Asks) (o : Data) (f : FieldFault) → IsForm content asks → FirstBy asks o f → said_under (row_at content) o ≡ Err f
form_fault content asks o f is first = with_row content asks is (λ r at same.
    ap (λ w. said_under w o) at ∙ (row_follows r o f).1 (subst (λ a. FirstBy a o f) same first))

-- Where there is none, the row says a command, the one that is made of the values.
pub form_kept : (content : ℕ) (asks : Asks) (o : Data) → IsForm content asks → ((f : FieldFault) → FirstBy asks o f → ⊥)
    → IsOk (said_under (row_at content) o) × (given_under (row_at content) o ≡ said_under (row_at content) o)
form_kept content asks o is none = with_row content asks is (λ r at same.
    subst (λ w. IsOk (said_under w o) × (given_under w o ≡ said_under w o)) (sym at) (kept r same))
  where
    kept : (r : Row) → asks ≡ row_asks r → IsOk (said_in r o) × (given r.form r.make o ≡ said_in r o)
    kept r same = by (said_in r o) refl
      where
        by : (s : Result Command FieldFault) → said_in r o ≡ s → IsOk s × (given r.form r.make o ≡ s)
        by (Ok c) at = (refl, (ended_ok (given r.form r.make o) (fields_in r.form) o c at).0)
        by (Err f) at = absurd (none f (subst (λ a. FirstBy a o f) (sym same) ((row_follows r o f).0 at)))

-- A first fault is no want of memory.
pub not_memory : (rules : List FieldRule) (fields : List Field) (o : Data) (f : FieldFault) → IsFirstAmong rules fields o f → f ≡ NoMemory → ⊥
not_memory rules fields o f (inr h) e = other (sym h.told ∙ e)
  where
    other : Unknown ≡ NoMemory → ⊥
    other e = cc
not_memory rules fields o f (inl h) e = broken h.breaks
  where
    missing : (of_field : Field) → Missing of_field ≡ NoMemory → ⊥
    missing of_field e = cc

    wrong : (of_field : Field) → WrongKind of_field ≡ NoMemory → ⊥
    wrong of_field e = cc

    broken : Breaks h.rule o f → ⊥
    broken (inl b) = missing h.rule.of_field (sym b.told ∙ e)
    broken (inr b) = wrong h.rule.of_field (sym b.told ∙ e)

-- Where the code has no form, there is no row.
pub no_row : (content : ℕ) → ◌≡◌ {A = Option Asks} None (option_map row_asks (row_at content)) → row_at content ≡ None
no_row content is = by (row_at content) is
  where
    by : (at : Option Row) → ◌≡◌ {A = Option Asks} None (option_map row_asks at) → at ≡ None
    by None is = refl
    by (Some r) is = absurd (cc)

-- The fields of a form are those at its content type; where there is none, there are no fields.
pub form_fields : (content : ℕ) (asks : Asks) → IsForm content asks → asks.1 ≡ fields_in (form_at content)
form_fields content asks is = with_row content asks is (λ r at same. ap (λ (a : Asks). a.1) same ∙ ap (λ w. fields_in (form_under w)) (sym at))

pub no_fields : (content : ℕ) → ◌≡◌ {A = Option Asks} None (option_map row_asks (row_at content)) → [] ≡ fields_in (form_at content)
no_fields content is = ap (λ w. fields_in (form_under w)) (sym (no_row content is))

-- Whether the code has a form tells whether there is a row.
pub with_form : {P : Type 0} (content : ℕ) (form : Option BodyForm) → option_map form_asks form ≡ option_map row_asks (row_at content) → is_some form ≡ true
    → ((r : Row) → row_at content ≡ Some r → P) → P
with_form content None is there k = absurd (false≢true there)
with_form content (Some form) is there k = with_row content (form_asks form) is (λ r at same. k r at)

pub without_form : (content : ℕ) (form : Option BodyForm) → option_map form_asks form ≡ option_map row_asks (row_at content) → is_some form ≡ false
    → row_at content ≡ None
without_form content (Some form) is absent = absurd (false≢true (sym absent))
without_form content None is absent = no_row content is

-- A content type that is one of two next to each other.
pub one_of_two : (n a : ℕ) → a ≤ n → n < a + 2 → (n ≡ a) ⊎ (n ≡ a + 1)
one_of_two n a least most = by (eq-or-lt_of_le least)
  where
    by : (a ≡ n) ⊎ (a < n) → (n ≡ a) ⊎ (n ≡ a + 1)
    by (inl e) = inl (sym e)
    by (inr more) = inr (omega arith)
