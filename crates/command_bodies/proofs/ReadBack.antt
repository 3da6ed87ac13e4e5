-- The body that is written for a command is read as the command: each field that is written says its value, and one that is left out
-- has it.
use Rattle.std.proofs.Common.{◌≡◌, ℕ, ◌==◌, Bool, true, false, cond, ◌&&◌, ◌||◌, List, [], ◌∷◌, map, Option, Some, None, Ok, refl, sym, ap, ◌∙◌, subst, bytes_eq, Ordering, Less, Equal, Greater}
use Rattle.std.specs.Prelude.{⊤, not}
use Rattle.std.specs.Cmp.Lexicographic.{slice_cmp}
use Rattle.std.specs.List.{AllByRecursion, list_all}
use Rattle.std.specs.Option.{ok_or}
use Rattle.std.specs.Ordering.{nat_cmp, match_ordering}
use Rattle.std.specs.Str.{IsUtf8}
use Rattle.std.proofs.lemmas.Bool.{and_from, and_parts, false≢true}
use Rattle.std.proofs.lemmas.Option.{same_Some}
use Rattle.std.proofs.lemmas.Str.{is_utf8-from_IsUtf8}
use Rattle.serde_json.specs.Data.{Data, object, Members, no_members, member, put}
use Rattle.serde_json.specs.Find.{get_member}
use Rattle.serde_json.specs.Read.{read}
use Rattle.serde_json.proofs.Views.{get_member-put, get_member-put_other}
use Rattle.ctrl_model.specs.declared.commands.Command.{Command}
use Rattle.ctrl_model.specs.declared.commands.Command.TheVariants as command
use Rattle.ctrl_model.specs.declared.refusals.Field.{Field}
use Rattle.ctrl_model.specs.SpelledCommands.{is_spelled}
use Rattle.ctrl_model.specs.Matches.{has_name}
use Rattle.ctrl_model.specs.Words.{word_of}
use Rattle.ctrl_model.proofs.DistinctLaws.{same_bytes}
use Rattle.json_body.specs.declared.fields.FieldFault.TheVariants.{WrongKind}
use Rattle.json_body.specs.FieldKinds.{are_words_of, is_word_of, member_of, required_from, optional_from}
use Rattle.ctrl_model.specs.declared.value_kinds.ValueKind.{ValueKind}
use Rattle.ctrl_model.specs.declared.value_kinds.ValueKind.TheVariants as value
use Rattle.ctrl_model.specs.BodyForms.{BodyField, Form, Values, ◌&◌, fields_in, made_of}
use Rattle.ctrl_model.specs.ValueKinds.{Said}
use Rattle.command_codec.specs.BodyKinds.{as_kind}
use Rattle.command_codec.specs.BodyMeaning.{said_of, said_in, meaning_under, meaning}
use Rattle.command_codec.specs.BodyObjects.{object_of_body, said_by, with_cause}
use Rattle.ctrl_model.specs.CommandForms.{Row, all_rows, form_under, row_at}
use Rattle.ctrl_model.specs.ContentTypes.{content_of}
use Rattle.command_codec.specs.SpelledBodies.{Tells, TellsEach}
use Rattle.command_codec.proofs.KindLaws.{AllTrue, RowHolds, hold_parts, row_of_all, rows_hold, true_parts}
use Rattle.ctrl_model.specs.SpelledCommands.{all_checks}
use Rattle.ctrl_model.specs.ValueKinds.{checks}
use Rattle.command_codec.proofs.SpelledLaws.{said_where}
use Rattle.command_bodies.specs.BodyTexts.{body_object}
use Rattle.command_bodies.specs.CommandFields.{written, each_written, with_given, given_fields}
use Rattle.ctrl_model.specs.CommandValues.{values_of}
use Rattle.command_bodies.specs.WrittenFields.{Given, data_of, with_field, with_fields, object_with}
use Rattle.command_bodies.proofs.WrittenKinds.{name_read, instance_read, some_name_read, number_read, relation_read, semantic_read, precedence_read, attributes_read}
use Rattle.command_bodies.proofs.WrittenSides.{side_read}
use Rattle.command_bodies.proofs.WrittenClaims.{numbers_read, potentials_read}
use Rattle.command_bodies.proofs.WrittenIntercepts.{protocol_read, protocols_read, addresses_read, destination_read, ranges_read}

-- A text that is read as an object is a body of it.
pub body_of_text : (text : List ℕ) (ms : Members) → IsUtf8 text → read text ≡ Some (object ms) → object_of_body text ≡ Some (object ms)
body_of_text text ms form is = rw (is_utf8-from_IsUtf8 text form, is) refl

-- ---- what is written of a value is read as it

-- What is written of a value, if anything, is of its kind and says it.
abbrev ReadsAs : (k : ValueKind) → Said k → Option Given → Type 0
ReadsAs k x None = ⊤
ReadsAs k x (Some g) = as_kind k (data_of g) ≡ Some x

kind_read : (k : ValueKind) (x : Said k) → AllTrue (checks k x) → ReadsAs k x (written k x)
kind_read value.Name name h = name_read name h.0
kind_read value.NameOrNone None h = tt
kind_read value.NameOrNone (Some name) h = some_name_read name h.0
kind_read value.Attributes names h = attributes_read names h.0
kind_read value.Side side h = side_read side h.0
kind_read (value.Number low high) n h = number_read low high n h.0
kind_read value.Flag b h = refl
kind_read value.Relation relation h = relation_read relation h.0
kind_read value.Semantic semantic h = semantic_read semantic
kind_read value.Precedence precedence h = precedence_read precedence
kind_read value.Instance instance h = instance_read instance h.0
kind_read (value.Numbers most) ns h = numbers_read most ns h.0
kind_read value.Potentials es h = potentials_read es h.0 h.1.0
kind_read value.Protocol udp h = protocol_read udp
kind_read value.Protocols p h = protocols_read p.tcp p.udp h.0
kind_read value.Destination address h = destination_read address h.0
kind_read value.Addresses addresses h = addresses_read addresses h.0
kind_read value.Ranges ranges h = ranges_read ranges h.0

-- Where a kind may have nothing written, a field has that value where it is left out.
abbrev is_left : (k : ValueKind) → Option (Said k) → Bool
is_left value.NameOrNone None = false
is_left value.NameOrNone (Some None) = true
is_left value.NameOrNone (Some (Some name)) = false
is_left _ w = true

left_out : (k : ValueKind) (w : Option (Said k)) (x : Said k) → is_left k w ≡ true → written k x ≡ None → w ≡ Some x
left_out value.NameOrNone None x left none = absurd (false≢true left)
left_out value.NameOrNone (Some (Some name)) x left none = absurd (false≢true left)
left_out value.NameOrNone (Some None) None left none = refl
left_out value.NameOrNone (Some None) (Some name) left none = absurd (cc)
left_out value.Name w x left none = absurd (cc)
left_out value.Attributes w x left none = absurd (cc)
left_out value.Side w x left none = absurd (cc)
left_out (value.Number low high) w x left none = absurd (cc)
left_out value.Flag w x left none = absurd (cc)
left_out value.Relation w x left none = absurd (cc)
left_out value.Semantic w x left none = absurd (cc)
left_out value.Precedence w x left none = absurd (cc)
left_out value.Instance w x left none = absurd (cc)
left_out (value.Numbers most) w x left none = absurd (cc)
left_out value.Potentials w x left none = absurd (cc)
left_out value.Protocol w x left none = absurd (cc)
left_out value.Protocols w x left none = absurd (cc)
left_out value.Destination w x left none = absurd (cc)
left_out value.Addresses w x left none = absurd (cc)
left_out value.Ranges w x left none = absurd (cc)

-- What an object says of a field, by the member that it has there.
told : (k : ValueKind) (w : Option (Said k)) (of_field : Field) (o d : Data) (x : Said k) → member_of of_field o ≡ Some d → as_kind k d ≡ Some x → said_of k w of_field o ≡ Ok x
told k None of_field o d x there is = ap (required_from of_field (as_kind k)) there ∙ ap (λ q. ok_or q (WrongKind of_field)) is
told k (Some y) of_field o d x there is = ap (optional_from of_field (as_kind k) y) there ∙ ap (λ q. ok_or q (WrongKind of_field)) is

not_told : (k : ValueKind) (w : Option (Said k)) (of_field : Field) (o : Data) (x : Said k) → w ≡ Some x → member_of of_field o ≡ None → said_of k w of_field o ≡ Ok x
not_told k None of_field o x same absent = absurd (cc)
not_told k (Some y) of_field o x same absent = ap (optional_from of_field (as_kind k) y) absent ∙ ap (λ z. Ok z) (same_Some y x same)

-- ---- the members of the object

-- The words of some fields.
abbrev words : Form → List (List ℕ)
words form = map (λ f. word_of f.of_field) form

-- A word that is none of some.
apart : (w v : List ℕ) (vs : List (List ℕ)) → has_name (v ∷ vs) w ≡ false → (w ≡ v → ⊥) × (has_name vs w ≡ false)
apart w v vs h = by (bytes_eq v w) refl h
  where
    by : (b : Bool) → bytes_eq v w ≡ b → (b || has_name vs w) ≡ false → (w ≡ v → ⊥) × (has_name vs w ≡ false)
    by true is h = absurd (cc)
    by false is h = (λ same. absurd (false≢true (sym is ∙ same_bytes v w (sym same))), h)

-- The fields of a form, put beside other members.
abbrev all_put : (form : Form) → Values form → Members → Members
all_put form xs ms = with_fields (given_fields (fields_in form) (each_written form xs)) ms

-- The members behind one field.
abbrev one_put : Field → Option Given → Members → Members
one_put of_field None ms = ms
one_put of_field (Some g) ms = with_field (of_field, g) ms

one_more : (f : BodyField) (fs : Form) (xs : Values (f ∷ fs)) (ms : Members) → all_put (f ∷ fs) xs ms ≡ all_put fs xs.1 (one_put f.of_field (written f.kind xs.0) ms)
one_more f fs xs ms = by (written f.kind xs.0)
  where
    by : (w : Option Given) → with_fields (with_given f.of_field w (given_fields (fields_in fs) (each_written fs xs.1))) ms ≡ all_put fs xs.1 (one_put f.of_field w ms)
    by None = refl
    by (Some g) = refl

one_put-other : (q : List ℕ) (of_field : Field) (w : Option Given) (ms : Members) → (q ≡ word_of of_field → ⊥) → get_member q (one_put of_field w ms) ≡ get_member q ms
one_put-other q of_field None ms other = refl
one_put-other q of_field (Some g) ms other = get_member-put_other q (word_of of_field) (data_of g) ms other

-- A word that is none of the form has what it had.
all_put-other : (q : List ℕ) (form : Form) (xs : Values form) (ms : Members) → has_name (words form) q ≡ false → get_member q (all_put form xs ms) ≡ get_member q ms
all_put-other q [] xs ms other = refl
all_put-other q (f ∷ fs) xs ms other =
    let p = apart q (word_of f.of_field) (words fs) other in
    ap (get_member q) (one_more f fs xs ms) ∙ all_put-other q fs xs.1 (one_put f.of_field (written f.kind xs.0) ms) p.1
    ∙ one_put-other q f.of_field (written f.kind xs.0) ms p.0

-- None of the words of a form is there.
abbrev AreAbsent : Form → Members → Type 0
AreAbsent form ms = AllByRecursion (λ (f : BodyField). get_member (word_of f.of_field) ms ≡ None) form

still_absent : (of_field : Field) (w : Option Given) (fs : Form) (ms : Members) → not (has_name (words fs) (word_of of_field)) ≡ true → AreAbsent fs ms → AreAbsent fs (one_put of_field w ms)
still_absent of_field w [] ms other absent = tt
still_absent of_field w (f ∷ fs) ms other absent = by (bytes_eq (word_of f.of_field) (word_of of_field)) refl other (λ rest. still_absent of_field w fs ms rest absent.1)
  where
    by : (b : Bool) → bytes_eq (word_of f.of_field) (word_of of_field) ≡ b → not (b || has_name (words fs) (word_of of_field)) ≡ true
        → (not (has_name (words fs) (word_of of_field)) ≡ true → AreAbsent fs (one_put of_field w ms)) → AreAbsent (f ∷ fs) (one_put of_field w ms)
    by true is other more = absurd (false≢true other)
    by false is other more =
        let one : word_of f.of_field ≡ word_of of_field → ⊥ = λ same. false≢true (sym is ∙ same_bytes (word_of f.of_field) (word_of of_field) same) in
        (one_put-other (word_of f.of_field) of_field w ms one ∙ absent.0) & more other

-- What a form asks for its body to be read back: no word stands twice, and a value of which nothing is written is the one of a field
-- that is left out.
abbrev is_readable : Form → Bool
is_readable [] = true
is_readable (f ∷ fs) = (not (has_name (words fs) (word_of f.of_field)) && is_left f.kind f.otherwise) && is_readable fs

not_true : (b : Bool) → not b ≡ true → b ≡ false
not_true true h = absurd (false≢true h)
not_true false h = refl

-- The object gives each of the values that are written.
each_told : (form : Form) (xs : Values form) (ms : Members) → is_readable form ≡ true → AllTrue (all_checks form xs) → AreAbsent form ms → TellsEach form xs (object (all_put form xs ms))
each_told [] xs ms readable holds absent = tt
each_told (f ∷ fs) xs ms readable holds absent =
    let p = and_parts (not (has_name (words fs) (word_of f.of_field)) && is_left f.kind f.otherwise) (is_readable fs) readable in
    let q = and_parts (not (has_name (words fs) (word_of f.of_field))) (is_left f.kind f.otherwise) p.0 in
    let h = true_parts (checks f.kind xs.0) (all_checks fs xs.1) holds in
    let there = all_put-other (word_of f.of_field) fs xs.1 (one_put f.of_field (written f.kind xs.0) ms) (not_true (has_name (words fs) (word_of f.of_field)) q.0) in
    subst (λ ns. TellsEach (f ∷ fs) xs (object ns)) (sym (one_more f fs xs ms))
    (first (written f.kind xs.0) refl (kind_read f.kind xs.0 h.0) q.1 there
    & each_told fs xs.1 (one_put f.of_field (written f.kind xs.0) ms) p.1 h.1 (still_absent f.of_field (written f.kind xs.0) fs ms q.0 absent.1))
  where
    first : (w : Option Given) → written f.kind xs.0 ≡ w → ReadsAs f.kind xs.0 w → is_left f.kind f.otherwise ≡ true
        → get_member (word_of f.of_field) (all_put fs xs.1 (one_put f.of_field w ms)) ≡ get_member (word_of f.of_field) (one_put f.of_field w ms)
        → Tells f xs.0 (object (all_put fs xs.1 (one_put f.of_field w ms)))
    first None is reads left there =
        not_told f.kind f.otherwise f.of_field (object (all_put fs xs.1 ms)) xs.0 (left_out f.kind f.otherwise xs.0 left is) (there ∙ absent.0)
    first (Some g) is reads left there =
        told f.kind f.otherwise f.of_field (object (all_put fs xs.1 (with_field (f.of_field, g) ms))) (data_of g) xs.0
        (there ∙ get_member-put (word_of f.of_field) (data_of g) ms) reads

-- ---- no other keys

put_words : (fields : List Field) (k : List ℕ) (d : Data) (ms : Members) → is_word_of fields k ≡ true → are_words_of fields ms ≡ true → are_words_of fields (put k d ms) ≡ true
put_words fields k d no_members known are = and_from (is_word_of fields k) true known refl
put_words fields k d (member l e ms) known are =
    by (slice_cmp nat_cmp k l) (and_parts (is_word_of fields l) (are_words_of fields ms) are) (put_words fields k d ms known)
  where
    by : (o : Ordering) → (is_word_of fields l ≡ true) × (are_words_of fields ms ≡ true) → (are_words_of fields ms ≡ true → are_words_of fields (put k d ms) ≡ true)
        → are_words_of fields (match_ordering o (member k d (member l e ms)) (member l d ms) (member l e (put k d ms))) ≡ true
    by Less p more = and_from (is_word_of fields k) (is_word_of fields l && are_words_of fields ms) known are
    by Equal p more = are
    by Greater p more = and_from (is_word_of fields l) (are_words_of fields (put k d ms)) p.0 (more p.1)

-- The words of some fields are those of others.
abbrev are_known : List Field → List Field → Bool
are_known fields fs = list_all (λ f. is_word_of fields (word_of f)) fs

all_words : (fields fs : List Field) (gs : List (Option Given)) (ms : Members) → are_known fields fs ≡ true → are_words_of fields ms ≡ true
    → are_words_of fields (with_fields (given_fields fs gs) ms) ≡ true
all_words fields fs [] ms known are = are
all_words fields [] (g ∷ gs) ms known are = are
all_words fields (f ∷ fs) (g ∷ gs) ms known are =
    let p = and_parts (is_word_of fields (word_of f)) (are_known fields fs) known in by g p.0 (λ ns kept. all_words fields fs gs ns p.1 kept)
  where
    by : (w : Option Given) → is_word_of fields (word_of f) ≡ true
        → ((ns : Members) → are_words_of fields ns ≡ true → are_words_of fields (with_fields (given_fields fs gs) ns) ≡ true)
        → are_words_of fields (with_fields (with_given f w (given_fields fs gs)) ms) ≡ true
    by None word more = more ms are
    by (Some h) word more = more (with_field (f, h) ms) (put_words fields (word_of f) (data_of h) ms word are)

-- ---- the rows

-- Whether the body of a row is read back.
abbrev RowReads : Row → Type 0
RowReads r = (is_readable r.form ≡ true) × (are_known (fields_in r.form) (fields_in r.form) ≡ true)

reads_each : (rows : List Row) → list_all (λ r. is_readable r.form && are_known (fields_in r.form) (fields_in r.form)) rows ≡ true → AllByRecursion RowReads rows
reads_each [] h = tt
reads_each (r ∷ rs) h =
    let p = and_parts (is_readable r.form && are_known (fields_in r.form) (fields_in r.form)) (list_all (λ r. is_readable r.form && are_known (fields_in r.form) (fields_in r.form)) rs) h in
    and_parts (is_readable r.form) (are_known (fields_in r.form) (fields_in r.form)) p.0 & reads_each rs p.1

rows_read : AllByRecursion RowReads all_rows
rows_read = reads_each all_rows refl

-- A command is made of its values under the row of its content type.
abbrev Back : (at : Option Row) → Values (form_under at) → Command → Type 0
Back None xs c = c ≡ command.Hello
Back (Some r) xs c = c ≡ made_of r.form r.make xs

back : (c : Command) → Back (row_at (content_of c)) (values_of c) c
back command.Hello = refl
back c = refl

pub other_than_hello : (c : Command) → (c ≡ command.Hello → ⊥) → (content_of c == 0) ≡ false
other_than_hello command.Hello other = absurd (other refl)
other_than_hello c other = refl

none_absent : (form : Form) → AreAbsent form no_members
none_absent [] = tt
none_absent (f ∷ fs) = refl & none_absent fs

-- The object of a command's fields says the command.
said_back : (r : Row) (xs : Values r.form) (c : Command) → RowHolds r → RowReads r → c ≡ made_of r.form r.make xs → is_spelled c ≡ true
    → said_in r (object_with (given_fields (fields_in r.form) (each_written r.form xs))) ≡ Ok c
said_back r xs c holds reads made h =
    let each = hold_parts (all_checks r.form xs) (sym (holds.spelled xs) ∙ ap is_spelled (sym made) ∙ h) in
    said_where r (object_with (given_fields (fields_in r.form) (each_written r.form xs))) xs
    (all_words (fields_in r.form) (fields_in r.form) (each_written r.form xs) no_members reads.1 refl)
    (each_told r.form xs no_members reads.0 each (none_absent r.form))
    ∙ ap (λ d. Ok d) (sym made)

-- What holds of the row at a content type, if there is one.
abbrev IsSound : Option Row → Type 0
IsSound None = ⊤
IsSound (Some r) = RowHolds r × RowReads r

sound_at : (content : ℕ) → IsSound (row_at content)
sound_at content = by (row_at content) refl
  where
    by : (at : Option Row) → row_at content ≡ at → IsSound at
    by None is = tt
    by (Some r) is = (row_of_all RowHolds all_rows rows_hold content r is, row_of_all RowReads all_rows rows_read content r is)

under_row : (at : Option Row) (xs : Values (form_under at)) (c : Command) (text : List ℕ) → IsSound at → Back at xs c → is_spelled c ≡ true → (c ≡ command.Hello → ⊥)
    → object_of_body text ≡ Some (object_with (given_fields (fields_in (form_under at)) (each_written (form_under at) xs))) → meaning_under at text ≡ Ok c
under_row None xs c text sound made h other is = absurd (other made)
under_row (Some r) xs c text sound made h other is = ap (said_by (said_in r)) is ∙ ap with_cause (said_back r xs c sound.0 sound.1 made h)

-- A body that is the object of a command's fields means the command.
pub means_back : (c : Command) → is_spelled c ≡ true → (c ≡ command.Hello → ⊥) → (text : List ℕ) → object_of_body text ≡ Some (body_object c)
    → meaning (content_of c) text ≡ Ok c
means_back c h other text is =
    ap (λ b. cond b (Ok command.Hello) (meaning_under (row_at (content_of c)) text)) (other_than_hello c other)
    ∙ under_row (row_at (content_of c)) (values_of c) c text (sound_at (content_of c)) (back c) h other is
