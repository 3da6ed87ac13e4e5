-- What the answer to an input is, and what saying it did.
use Rattle.std.specs.Prelude.{MatchOption, IsSomeAnd}
use Rattle.std.proofs.Common.{◌≡◌, ℕ, Bool, true, false, List, [], None, Some, Result, IfOk, sym, ap, ◌∙◌, subst, inr}
use Rattle.std.proofs.lemmas.Result.{IfOk-weaker}
use Rattle.std.specs.declared.alloc.AllocError.{AllocError}
use Rattle.std.specs.declared.option.Option.{Option}
use Rattle.std.specs.Option.{option_map}
use Rattle.ziti_outside.specs.Causes.{Rose}
use Rattle.ziti_outside.specs.Told.{Took, TookFront}
use Rattle.ziti_outside.specs.Views.{Seen}
use Rattle.zitiline.specs.declared.answers.Answer.{Answer}
use Rattle.zitiline.specs.declared.answers.Fault.{Fault}
use Rattle.zitiline.specs.declared.answers.Fault.TheVariants.{Frame}
use Rattle.frame_lines.specs.declared.told.DecodeFault.{DecodeFault}
use Rattle.frame_lines.specs.FaultTexts.{frame_text}
use Rattle.zitiline.specs.declared.status.Status.{Status}
use Rattle.zitiline.specs.declared.status.Status.TheVariants.{Done, Refused, BadInput, WriteFault}
use Rattle.zitiline.specs.declared.words.Whole.{Whole}
use Rattle.zitiline.specs.declared.words.Form.TheVariants as form
use Rattle.zitiline.specs.Answers.{said_of, fault_of, has_refusal, status_for}
use Rattle.zitiline.specs.Notes.{note_of, notes_of, fault_note, NotesLines}
use Rattle.zitiline.specs.Steps.{fault_text, note_bytes, note_in, answer_notes, IsAnswer, SaysAnswer, EndsTold}

-- A fault of a form is one of all forms.
pub one_of_all : {F : Type 0} (of : F → Fault) (fault : Option F) (told : Option Fault) → MatchOption fault (told ≡ None) (λ f. IsSomeAnd told (λ g. g ≡ of f)) → told ≡ option_map of fault
one_of_all of None told is = is
one_of_all of (Some f) None is = absurd is
one_of_all of (Some f) (Some g) is = ap Some is

-- What is said of an input, with the note of its fault, is the answer to it.
answers_with : {F : Type 0} (of : F → Fault) (words : F → List ℕ) (w : Whole) (input : List ℕ) (fault : Option F) (told : Option Fault) (a : Answer) → ((f : F) → fault_text (of f) ≡ words f)
    → fault_of (form.Whole w) input ≡ option_map words fault → told ≡ option_map of fault → a.said ≡ said_of (form.Whole w) input → note_in a ≡ option_map (λ f. note_of (fault_text f)) told → a.refused ≡ has_refusal (form.Whole w) input
    → IsAnswer w input a
answers_with of words w input None told a same has is says notes refuses =
    let none : note_in a ≡ None = notes ∙ ap (option_map (λ (f : Fault). note_of (fault_text f))) is in
    record {
      said = says;
      note = ap note_bytes none ∙ sym (ap fault_note has);
      status = ap (λ (n : Option (List ℕ)). status_for n a.refused) none ∙ ap (status_for None) refuses
          ∙ sym (ap (λ (n : Option (List ℕ)). status_for n (has_refusal (form.Whole w) input)) has);
    }
answers_with of words w input (Some f) told a same has is says notes refuses =
    let some : note_in a ≡ Some (note_of (words f)) = notes ∙ ap (option_map (λ (g : Fault). note_of (fault_text g))) is ∙ ap (λ (text : List ℕ). Some (note_of text)) (same f) in
    record {
      said = says;
      note = ap note_bytes some ∙ sym (ap fault_note has);
      status = ap (λ (n : Option (List ℕ)). status_for n a.refused) some ∙ sym (ap (λ (n : Option (List ℕ)). status_for n (has_refusal (form.Whole w) input)) has);
    }

-- So is one that was made, of the form that was asked for.
pub is_answered : {F : Type 0} (of : F → Fault) (words : F → List ℕ) (w asked : Whole) (input said : List ℕ) (fault : Option F) (told : Option Fault) (refused : Bool) (made : Result Answer AllocError)
    → ((f : F) → fault_text (of f) ≡ words f) → asked ≡ w → said ≡ said_of (form.Whole w) input → fault_of (form.Whole w) input ≡ option_map words fault
    → MatchOption fault (told ≡ None) (λ f. IsSomeAnd told (λ g. g ≡ of f)) → refused ≡ has_refusal (form.Whole w) input
    → IfOk made (λ a. (a.said ≡ said) × (note_in a ≡ option_map (λ f. note_of (fault_text f)) told) × (a.refused ≡ refused)) → IfOk made (λ a. IsAnswer asked input a)
is_answered of words w asked input said fault told refused made same asks says has each refuses =
    IfOk-weaker made (λ a. (a.said ≡ said) × (note_in a ≡ option_map (λ f. note_of (fault_text f)) told) × (a.refused ≡ refused)) (λ a. IsAnswer asked input a)
    (λ a is. subst (λ (v : Whole). IsAnswer v input a) (sym asks) (answers_with of words w input fault told a same has (one_of_all of fault told each) (is.0 ∙ says) is.1 (is.2 ∙ refuses)))

-- An answer that was said ends as its note decides.
pub says_by : (a : Answer) (note : Option (List ℕ)) (refused : Bool) (status : Status) (before now : Option (List ℕ)) → note_in a ≡ note → a.refused ≡ refused
    → status ≡ status_for note refused → Took before now a.said → SaysAnswer status a before now
says_by a None true status before now is r ends took =
    subst (λ (s : Status). SaysAnswer s a before now) (sym ends) (took, ap (λ (n : Option (List ℕ)). status_for n a.refused) is ∙ ap (status_for None) r)
says_by a None false status before now is r ends took =
    subst (λ (s : Status). SaysAnswer s a before now) (sym ends) (took, ap (λ (n : Option (List ℕ)). status_for n a.refused) is ∙ ap (status_for None) r)
says_by a (Some text) refused status before now is r ends took =
    subst (λ (s : Status). SaysAnswer s a before now) (sym ends) (took, ap (λ (n : Option (List ℕ)). status_for n a.refused) is)

-- An answer of which a front was taken.
pub says_cut : (a : Answer) (status : Status) (before now : Option (List ℕ)) → status ≡ WriteFault → TookFront before now a.said → SaysAnswer status a before now
says_cut a status before now ends took = subst (λ (s : Status). SaysAnswer s a before now) (sym ends) took

-- What was noted since a desk that had noted the same.
pub notes_from : (lines : List ℕ) (a b c : Seen) → b.noted ≡ a.noted → b.note_faults ≡ a.note_faults → NotesLines lines b c → NotesLines lines a c
notes_from lines a b c q r noted = record {
  part = subst (λ (x : Option (List ℕ)). TookFront x c.noted lines) q noted.part;
  whole = λ calm. subst (λ (x : Option (List ℕ)). Took x c.noted lines) q (noted.whole (λ rose. calm (subst (λ (n : ℕ). Rose n c.note_faults) r rose)));
}

-- An answer that was said, and the note of its fault.
pub noted_by : (a : Answer) (note : Option (List ℕ)) (refused : Bool) (status : Status) (old mid new : Seen) → note_in a ≡ note → status ≡ status_for note refused → mid.noted ≡ old.noted → mid.note_faults ≡ old.note_faults
    → NotesLines (note_bytes note) mid new → NotesLines (answer_notes a status) old new
noted_by a None true status old mid new is ends q r noted =
    subst (λ (s : Status). NotesLines (answer_notes a s) old new) (sym ends) (notes_from [] old mid new q r noted)
noted_by a None false status old mid new is ends q r noted =
    subst (λ (s : Status). NotesLines (answer_notes a s) old new) (sym ends) (notes_from [] old mid new q r noted)
noted_by a (Some text) refused status old mid new is ends q r noted =
    subst (λ (s : Status). NotesLines (answer_notes a s) old new) (sym ends)
    (notes_from (note_bytes (note_in a)) old mid new q r (subst (λ (n : Option (List ℕ)). NotesLines (note_bytes n) mid new) (sym is) noted))

-- One of which a front was taken.
pub noted_cut : (a : Answer) (status : Status) (old mid new : Seen) → status ≡ WriteFault → mid.noted ≡ old.noted → mid.note_faults ≡ old.note_faults
    → NotesLines (notes_of None WriteFault) mid new → NotesLines (answer_notes a status) old new
noted_cut a status old mid new ends q r noted =
    subst (λ (s : Status). NotesLines (answer_notes a s) old new) (sym ends) (notes_from (notes_of None WriteFault) old mid new q r noted)

-- The fault of an input that was told as it came, noted.
pub ends_noted : (fault : Option DecodeFault) (told : Option Fault) (note : Option (List ℕ)) (old new : Seen) (status : Status) → told ≡ option_map Frame fault
    → note ≡ option_map (λ f. note_of (fault_text f)) told → status ≡ status_for note false → NotesLines (note_bytes note) old new → EndsTold fault old new status
ends_noted None told note old new status is same ends noted =
    let none : note ≡ None = same ∙ ap (option_map (λ (f : Fault). note_of (fault_text f))) is in
    let done : status ≡ Done = ends ∙ ap (λ (n : Option (List ℕ)). status_for n false) none in
    record {
      ends = inr done;
      notes = subst (λ (s : Status). NotesLines (notes_of None s) old new) (sym done) (subst (λ (n : Option (List ℕ)). NotesLines (note_bytes n) old new) none noted);
    }
ends_noted (Some f) told note old new status is same ends noted =
    let some : note ≡ Some (note_of (frame_text f)) = same ∙ ap (option_map (λ (g : Fault). note_of (fault_text g))) is in
    let bad : status ≡ BadInput = ends ∙ ap (λ (n : Option (List ℕ)). status_for n false) some in
    record {
      ends = inr bad;
      notes = subst (λ (s : Status). NotesLines (notes_of (Some (frame_text f)) s) old new) (sym bad) (subst (λ (n : Option (List ℕ)). NotesLines (note_bytes n) old new) some noted);
    }
