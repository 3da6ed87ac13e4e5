-- A body means a command exactly where it spells it, and what it means keeps the form of its fields.
use Rattle.std.proofs.Common.{◌≡◌, ℕ, ◌==◌, Bool, true, false, cond, List, [], ◌∷◌, Option, Some, None, Result, Ok, Err, refl, sym, ap, ◌∙◌, subst, eqb-true}
use Rattle.std.specs.Prelude.{⊤}
use Rattle.std.specs.Option.{ok_or}
use Rattle.std.proofs.lemmas.Bool.{and_parts, false≢true}
use Rattle.serde_json.specs.Data.{Data}
use Rattle.ctrl_model.specs.declared.commands.Command.{Command}
use Rattle.ctrl_model.specs.declared.commands.Command.TheVariants as command
use Rattle.ctrl_model.specs.declared.refusals.Field.{Field}
use Rattle.ctrl_model.specs.SpelledCommands.{is_spelled}
use Rattle.json_body.specs.declared.fields.FieldFault.{FieldFault}
use Rattle.json_body.specs.declared.fields.FieldFault.TheVariants.{WrongKind, Unknown}
use Rattle.json_body.specs.FieldKinds.{member_of, required_from, optional_from, has_only}
use Rattle.ctrl_model.specs.declared.value_kinds.ValueKind.{ValueKind}
use Rattle.ctrl_model.specs.BodyForms.{Form, Makes, Values, ◌&◌, fields_in, made_of}
use Rattle.ctrl_model.specs.ValueKinds.{Said}
use Rattle.command_codec.specs.BodyKinds.{as_kind}
use Rattle.command_codec.specs.BodyMeaning.{said_of, field_said, given, ended, said_in, meaning_under, meaning}
use Rattle.command_codec.specs.BodyObjects.{◌>>=◌, object_of_body, with_cause, said_by}
use Rattle.ctrl_model.specs.CommandForms.{Row, all_rows, row_at}
use Rattle.ctrl_model.specs.ContentTypes.{content_of}
use Rattle.command_codec.specs.SpelledBodies.{TellsEach, Gives, GivesFields, Spells}
use Rattle.command_codec.proofs.KindLaws.{AllTrue, default_holds, defaults_hold, hold_from, hold_parts, both_true, kind_holds, row_content, row_holds}
use Rattle.ctrl_model.specs.SpelledCommands.{all_checks}
use Rattle.ctrl_model.specs.ValueKinds.{checks}

ok_same : {A E : Type 0} (x y : A) → ◌≡◌ {A = Result A E} (Ok x) (Ok y) → x ≡ y
ok_same x y e = cc

-- ---- what an object says under a form

-- An object gives values in the fields of a form, and the command is made of them.
record IsMade (form : Form) (make : Makes form) (o : Data) (c : Command) : Type 0 where
  values : Values form
  tells : TellsEach form values o
  made : c ≡ made_of form make values

made_where : (form : Form) (make : Makes form) (o : Data) (c : Command) → given form make o ≡ Ok c → IsMade form make o c
made_where [] d o c e = record { values = tt; tells = tt; made = sym (ok_same d c e) }
made_where (f ∷ fs) make o c e = by (field_said f o) refl (λ x said. made_where fs (make x) o c said) e
  where
    by : (r : Result (Said f.kind) FieldFault) → field_said f o ≡ r → ((x : Said f.kind) → given fs (make x) o ≡ Ok c → IsMade fs (make x) o c)
        → (r >>= λ x. given fs (make x) o) ≡ Ok c → IsMade (f ∷ fs) make o c
    by (Ok x) is more e = let rest = more x e in record { values = x & rest.values; tells = is & rest.tells; made = rest.made }
    by (Err g) is more e = absurd (cc)

-- Where an object gives values, it says the command that is made of them.
pub given_where : (form : Form) (make : Makes form) (o : Data) (xs : Values form) → TellsEach form xs o → given form make o ≡ Ok (made_of form make xs)
given_where [] c o xs tells = refl
given_where (f ∷ fs) make o xs tells = ap (λ r. r >>= λ x. given fs (make x) o) tells.0 ∙ given_where fs (make xs.0) o xs.1 tells.1

-- What is said is said of an object without other keys.
pub ended_ok : (r : Result Command FieldFault) (fields : List Field) (o : Data) (c : Command) → (r >>= ended fields o) ≡ Ok c → (r ≡ Ok c) × (has_only fields o ≡ true)
ended_ok (Err f) fields o c e = absurd (cc)
ended_ok (Ok d) fields o c e = by (has_only fields o) refl e
  where
    by : (b : Bool) → has_only fields o ≡ b → (cond b (Ok tt) (Err Unknown) >>= λ (end : ⊤). Ok d) ≡ Ok c → (◌≡◌ {A = Result Command FieldFault} (Ok d) (Ok c)) × (has_only fields o ≡ true)
    by true only e = (ap (λ x. Ok x) (ok_same {E = FieldFault} d c e), only)
    by false only e = absurd (cc)

-- ---- the form of what is said

-- What is said of a field, by the value that an object has there.
abbrev said_from : (k : ValueKind) → Option (Said k) → Field → Option Data → Result (Said k) FieldFault
said_from k None of_field v = required_from of_field (as_kind k) v
said_from k (Some x) of_field v = optional_from of_field (as_kind k) x v

-- What an object says of a field keeps what is to hold of its kind.
field_holds : (k : ValueKind) (w : Option (Said k)) (of_field : Field) (o : Data) (x : Said k) → said_of k w of_field o ≡ Ok x → default_holds k w ≡ true → AllTrue (checks k x)
field_holds k w of_field o x e holds = by w (member_of of_field o) (from w e) holds
  where
    from : (w : Option (Said k)) → said_of k w of_field o ≡ Ok x → said_from k w of_field (member_of of_field o) ≡ Ok x
    from None e = e
    from (Some y) e = e

    told : (d : Data) (q : Option (Said k)) → as_kind k d ≡ q → ok_or q (WrongKind of_field) ≡ Ok x → AllTrue (checks k x)
    told d None is e = absurd (cc)
    told d (Some y) is e = kind_holds k d x (is ∙ ap (λ z. Some z) (ok_same y x e))

    by : (w : Option (Said k)) (v : Option Data) → said_from k w of_field v ≡ Ok x → default_holds k w ≡ true → AllTrue (checks k x)
    by None None e holds = absurd (cc)
    by None (Some d) e holds = told d (as_kind k d) refl e
    by (Some y) None e holds = subst (λ z. AllTrue (checks k z)) (ok_same y x e) (hold_parts (checks k y) holds)
    by (Some y) (Some d) e holds = told d (as_kind k d) refl e

form_holds : (form : Form) (o : Data) (xs : Values form) → TellsEach form xs o → defaults_hold form ≡ true → AllTrue (all_checks form xs)
form_holds [] o xs tells defaults = tt
form_holds (f ∷ fs) o xs tells defaults =
    let p = and_parts (default_holds f.kind f.otherwise) (defaults_hold fs) defaults in
    both_true (checks f.kind xs.0) (all_checks fs xs.1) (field_holds f.kind f.otherwise f.of_field o xs.0 tells.0 p.0) (form_holds fs o xs.1 tells.1 p.1)

-- ---- what a body says

with_cause_ok : (r : Result Command FieldFault) (c : Command) → with_cause r ≡ Ok c → r ≡ Ok c
with_cause_ok (Ok d) c e = cc
with_cause_ok (Err d) c e = absurd (cc)

gives_where : (r : Row) (body : List ℕ) (c : Command) (v : Option Data) → object_of_body body ≡ v → said_by (said_in r) v ≡ Ok c → Gives r body c
gives_where r body c None is e = absurd (cc)
gives_where r body c (Some o) is e =
    let p = ended_ok (given r.form r.make o) (fields_in r.form) o c (with_cause_ok (said_in r o) c e) in
    let m = made_where r.form r.make o c p.0 in
    record { object = o; is_body = is; only = p.1; values = m.values; tells = m.tells; made = m.made }

-- What a body means, with its form.
pub record Means (content : ℕ) (body : List ℕ) (c : Command) : Type 0 where
  pub spelled : Spells content body c
  pub form : is_spelled c ≡ true

means_under : (content : ℕ) (body : List ℕ) (c : Command) (at : Option Row) → row_at content ≡ at → meaning_under at body ≡ Ok c
    → (content ≡ content_of c) × GivesFields at body c × (is_spelled c ≡ true)
means_under content body c None at e = absurd (cc)
means_under content body c (Some r) at e =
    let g = gives_where r body c (object_of_body body) refl e in
    let h = row_holds content r at in
    (sym (row_content all_rows content r at) ∙ sym (h.typed g.values) ∙ ap content_of (sym g.made), g, ap is_spelled g.made ∙ h.spelled g.values ∙ hold_from (all_checks r.form g.values) (form_holds r.form g.object g.values g.tells h.defaults))

pub means : (content : ℕ) (body : List ℕ) (c : Command) → meaning content body ≡ Ok c → Means content body c
means content body c e = by (content == 0) refl e
  where
    by : (b : Bool) → (content == 0) ≡ b → cond b (Ok command.Hello) (meaning_under (row_at content) body) ≡ Ok c → Means content body c
    by true is e =
        let same : command.Hello ≡ c = ok_same command.Hello c e in
        let at : content ≡ 0 = eqb-true content 0 is in
        subst (λ d. Means content body d) same (subst (λ n. Means n body command.Hello) (sym at) (record { spelled = (refl, refl); form = refl }))
    by false is e = let p = means_under content body c (row_at content) refl e in record { spelled = (p.0, p.1); form = p.2 }

-- What an object says that gives values and has no other key.
pub said_where : (r : Row) (o : Data) (xs : Values r.form) → has_only (fields_in r.form) o ≡ true → TellsEach r.form xs o → said_in r o ≡ Ok (made_of r.form r.make xs)
said_where r o xs only tells =
    ap (λ s. s >>= ended (fields_in r.form) o) (given_where r.form r.make o xs tells)
    ∙ ap (λ b. cond b (Ok tt) (Err Unknown) >>= λ (end : ⊤). Ok (made_of r.form r.make xs)) only

-- What a body spells it means.
pub meaning-Spells : (content : ℕ) (body : List ℕ) (c : Command) → Spells content body c → meaning content body ≡ Ok c
meaning-Spells content body c (at, gives) = by (content == 0) refl
  where
    under : (r : Option Row) → GivesFields r body c → (content_of c == 0) ≡ false → meaning_under r body ≡ Ok c
    under None g other = absurd (false≢true (sym other ∙ ap (λ d. content_of d == 0) g))
    under (Some r) g other = ap (said_by (said_in r)) g.is_body ∙ ap with_cause (said_where r g.object g.values g.only g.tells) ∙ ap (λ d. Ok d) (sym g.made)

    hello : (n : ℕ) → n ≡ 0 → GivesFields (row_at n) body c → c ≡ command.Hello
    hello n is g = subst (λ m. GivesFields (row_at m) body c) is g

    by : (b : Bool) → (content == 0) ≡ b → cond b (Ok command.Hello) (meaning_under (row_at content) body) ≡ Ok c
    by true is = ap (λ d. Ok d) (sym (hello content (eqb-true content 0 is) gives))
    by false is = under (row_at content) gives (ap (λ n. n == 0) (sym at) ∙ is)
