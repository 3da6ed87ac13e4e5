-- What a run over an input did, by its parts.
use Rattle.std.proofs.Common.{◌≡◌, ◌⊎◌, ℕ, false, List, [], None, Some, Err, refl, sym, ap, subst, ◌∙◌, inl, inr}
use Rattle.std.specs.declared.option.Option.{Option}
use Rattle.std.specs.Option.{option_map}
use Rattle.std.specs.Io.KnownBytes.{IsAtEnd}
use Rattle.ziti_outside.specs.Told.{Took}
use Rattle.ziti_outside.specs.Untouched.{OnlySays, OnlyNotes}
use Rattle.ziti_outside.specs.Views.{Outside, Seen, Stopped}
use Rattle.ziti_outside.proofs.Moves.{IsFront-none, IsFront-all}
use Rattle.frame_lines.specs.declared.told.DecodeFault.{DecodeFault}
use Rattle.frame_lines.specs.FaultTexts.{frame_text}
use Rattle.frame_lines.specs.LineKinds.{Reading}
use Rattle.frame_lines.specs.TextTelling.{text_of}
use Rattle.live_lines.specs.declared.exchanges.Exchange.{Exchange}
use Rattle.live_lines.specs.Exchanges.{source_of}
use Rattle.live_lines.specs.declared.kinds.Kind.{Kind}
use Rattle.live_lines.specs.declared.watching.Cut.{Cut}
use Rattle.live_lines.specs.declared.watching.Cut.TheVariants as cut
use Rattle.live_lines.specs.LiveLines.{reading_of}
use Rattle.live_lines.specs.InTime.{IsInTime}
use Rattle.live_lines.specs.LiveTellings.{TellsAll, TellsSome, FailsToTake, FailsToSay}
use Rattle.zitiline.specs.declared.words.Page.{Page}
use Rattle.zitiline.specs.declared.words.Whole.{Whole}
use Rattle.zitiline.specs.declared.words.Form.{Form}
use Rattle.zitiline.specs.declared.words.Form.TheVariants as form
use Rattle.zitiline.specs.declared.words.Asked.TheVariants.{Turn, Tell}
use Rattle.zitiline.specs.declared.status.Status.{Status}
use Rattle.zitiline.specs.declared.status.Status.TheVariants.{Done, Refused, Usage, BadInput, ReadFault, WriteFault, NoMemory}
use Rattle.zitiline.specs.Answers.{fault_of, status_for}
use Rattle.zitiline.specs.Notes.{notes_of, NotesLines}
use Rattle.zitiline.specs.Headline.{Says, Answers, Runs}
use Rattle.zitiline.specs.declared.intake.Cut as taking
use Rattle.zitiline.specs.declared.intake.Cut.TheVariants as taken
use Rattle.zitiline.specs.Steps.{SaysInput, EndsTold, IsReadCaused, IsWriteCaused, LeavesFolder, taken_status, told_status}
use Rattle.zitiline.specs.Takings.{TookAll, GaveSome, FaultOf}
use Rattle.zitiline.proofs.AnswerLaws.{notes_from}

-- ---- the whole of a run

no_usage : (of : Form) (left left_now : Option (List ℕ)) (before now : Seen) (status : Status) → Answers of left left_now before now status → status ≡ Usage → ⊥
no_usage of left left_now before now status answers is = subst (λ (s : Status). Says s of answers.input left_now before.said now.said) is answers.says

pub not_live : (w : Whole) (kind : Kind) → form.Whole w ≡ form.Live kind → ⊥
not_live w kind is = cc

pub same_kind : (kind other : Kind) → form.Live kind ≡ form.Live other → kind ≡ other
same_kind kind other is = cc

same_form : (of other : Form) → Some (Turn of) ≡ Some (Turn other) → of ≡ other
same_form of other is = cc

-- A run that was asked for what is said of an input.
pub turn_runs : {S D : Type 0} (outside : Outside S D) (of : Form) (before now : Exchange S D) (status : Status)
    → Answers of (outside.left (source_of before)) (outside.left (source_of now)) (outside.seen before.desk) (outside.seen now.desk) status
    → ((kind : Kind) → of ≡ form.Live kind → IsInTime (reading_of kind) outside.left outside.seen before now)
    → IsReadCaused (outside.faults (source_of before)) (outside.faults (source_of now)) status
    → IsWriteCaused (outside.seen before.desk).say_faults (outside.seen now.desk).say_faults status
    → LeavesFolder outside.seen outside.stopped before.desk now.desk
    → Runs outside (Some (Turn of)) before now status
turn_runs outside of before now status answers in_time read caused left =
    let AnswersOf : Form → Type 0 = λ f. Answers f (outside.left (source_of before)) (outside.left (source_of now)) (outside.seen before.desk) (outside.seen now.desk) status in
    record {
      usage = (
        (λ (e : status ≡ Usage).
            absurd (no_usage of (outside.left (source_of before)) (outside.left (source_of now)) (outside.seen before.desk) (outside.seen now.desk) status answers e)),
        (λ (e : Some (Turn of) ≡ None). absurd cc),
      );
      usage_takes_nothing = λ (e : Some (Turn of) ≡ None). absurd cc;
      usage_says_nothing = λ (e : Some (Turn of) ≡ None). absurd cc;
      usage_note = λ (e : Some (Turn of) ≡ None). absurd cc;
      page_takes_nothing = λ (page : Page) (e : Some (Turn of) ≡ Some (Tell page)). absurd cc;
      pages = λ (page : Page) (e : Some (Turn of) ≡ Some (Tell page)). absurd cc;
      answers = λ other e. subst AnswersOf (same_form of other e) answers;
      in_time = λ kind e. in_time kind (same_form of (form.Live kind) e);
      read_fault = read.rose;
      no_read_fault = read.calm;
      write_fault = caused.rose;
      no_write_fault = caused.calm;
      parts = left.parts;
      found = left.found;
      failed_calls = left.failed_calls;
    }

-- What is said to a desk behind the last take changes nothing of the takes.
pub still_in_time : {S D : Type 0} (k : Reading) (left : S → Option (List ℕ)) (seen : D → Seen) (before now : Exchange S D) (desk : D) → IsInTime k left seen before now
    → IsInTime k left seen before (record now { desk = desk })
still_in_time k left seen before now desk t = record { starts = t.starts; ends = t.ends; begun = t.begun; ended = t.ended; takes = t.takes; each = t.each }

-- ---- an input that is read whole

says_whole : (w : Whole) (input : List ℕ) (left before now : Option (List ℕ)) (status : Status) → IsAtEnd left → SaysInput status w input before now
    → Says status (form.Whole w) input left before now
says_whole w input left before now Done end says = (end, says.0, says.1)
says_whole w input left before now Refused end says = (end, says.0, says.1)
says_whole w input left before now Usage end says = absurd says
says_whole w input left before now BadInput end says = (end, says.0, says.1)
says_whole w input left before now ReadFault end says = absurd says
says_whole w input left before now WriteFault end says = (end, says)
says_whole w input left before now NoMemory end says = ([], IsFront-none input, says)

pub whole_answers : (w : Whole) (input : List ℕ) (left left_now : Option (List ℕ)) (before now : Seen) (status : Status) → TookAll left left_now input
    → SaysInput status w input before.said now.said → NotesLines (notes_of (fault_of (form.Whole w) input) status) before now → Answers (form.Whole w) left left_now before now status
whole_answers w input left left_now before now status took says notes =
    record { input = input; gave = took.gave; says = says_whole w input left_now before.said now.said status took.end says; notes = notes }

-- It was not read to its end.
cut_bytes : (c : taking.Cut) (fault : Option (List ℕ)) → notes_of None (taken_status c) ≡ notes_of fault (taken_status c)
cut_bytes taken.NoMemory fault = refl
cut_bytes taken.Fault fault = refl

says_taken : (c : taking.Cut) (w : Whole) (input : List ℕ) (left before now : Option (List ℕ)) → now ≡ before → Says (taken_status c) (form.Whole w) input left before now
says_taken taken.NoMemory w input left before now same = ([], IsFront-none input, same)
says_taken taken.Fault w input left before now same = same

pub taken_answers : (c : taking.Cut) (w : Whole) (left left_now : Option (List ℕ)) (before now : Seen) (status : Status) → GaveSome left left_now → now.said ≡ before.said
    → status ≡ taken_status c → NotesLines (notes_of None (taken_status c)) before now → Answers (form.Whole w) left left_now before now status
taken_answers c w left left_now before now status gave same is notes =
    subst (λ (s : Status). Answers (form.Whole w) left left_now before now s) (sym is)
    (record {
      input = gave.bytes;
      gave = gave.gave;
      says = says_taken c w gave.bytes left_now before.said now.said same;
      notes = subst (λ (lines : List ℕ). NotesLines lines before now) (cut_bytes c (fault_of (form.Whole w) gave.bytes)) notes;
    })

-- ---- causes, and the folder

pub answered_read : (before now : ℕ) (w : Whole) (input : List ℕ) (said said_now : Option (List ℕ)) (status : Status) → now ≡ before → SaysInput status w input said said_now
    → IsReadCaused before now status
answered_read before now w input said said_now status same says =
    record { calm = λ other. same; rose = λ is. absurd (subst (λ (s : Status). SaysInput s w input said said_now) is says) }

pub taken_read : (c : taking.Cut) (before now : ℕ) (status : Status) → status ≡ taken_status c → FaultOf {T = List ℕ} before now (Err c) → IsReadCaused before now status
taken_read taken.NoMemory before now status is same = record { calm = λ other. same; rose = λ e. cc }
taken_read taken.Fault before now status is rose = record { calm = λ other. absurd (other is); rose = λ e. rose }

pub taken_write : (c : taking.Cut) (before now : ℕ) (status : Status) → status ≡ taken_status c → now ≡ before → IsWriteCaused before now status
taken_write taken.NoMemory before now status is same = record { calm = λ other. same; rose = λ e. cc }
taken_write taken.Fault before now status is same = record { calm = λ other. same; rose = λ e. cc }

decided : (fault : Option (List ℕ)) → status_for fault false ≡ ReadFault → ⊥
decided None is = cc
decided (Some text) is = cc

decided_said : (fault : Option (List ℕ)) → status_for fault false ≡ WriteFault → ⊥
decided_said None is = cc
decided_said (Some text) is = cc

no_read : (fault : Option (List ℕ)) (status : Status) → (status ≡ NoMemory) ⊎ (status ≡ status_for fault false) → status ≡ ReadFault → ⊥
no_read fault status (inl none) is = cc
no_read fault status (inr ends) is = decided fault (sym ends ∙ is)

no_write : (fault : Option (List ℕ)) (status : Status) → (status ≡ NoMemory) ⊎ (status ≡ status_for fault false) → status ≡ WriteFault → ⊥
no_write fault status (inl none) is = cc
no_write fault status (inr ends) is = decided_said fault (sym ends ∙ is)

pub ended_read : (fault : Option DecodeFault) (before now : ℕ) (old new : Seen) (status : Status) → now ≡ before → EndsTold fault old new status → IsReadCaused before now status
ended_read fault before now old new status same ends = record { calm = λ other. same; rose = λ is. absurd (no_read (option_map frame_text fault) status ends.ends is) }

pub ended_write : (fault : Option DecodeFault) (before now : ℕ) (old new : Seen) (status : Status) → now ≡ before → EndsTold fault old new status → IsWriteCaused before now status
ended_write fault before now old new status same ends = record { calm = λ other. same; rose = λ is. absurd (no_write (option_map frame_text fault) status ends.ends is) }

pub told_read : (c : Cut) (before now : ℕ) (status : Status) → status ≡ told_status c → FailsToTake {T = Option DecodeFault} before now (Err c) → IsReadCaused before now status
told_read cut.NoMemory before now status is same = record { calm = λ other. same; rose = λ e. cc }
told_read cut.Unread before now status is rose = record { calm = λ other. absurd (other is); rose = λ e. rose }
told_read cut.Unsaid before now status is same = record { calm = λ other. same; rose = λ e. cc }

told_said : (c : Cut) (before mid : ℕ) (status : Status) → status ≡ told_status c → FailsToSay {T = Option DecodeFault} before mid (Err c) → IsWriteCaused before mid status
told_said cut.NoMemory before mid status is same = record { calm = λ other. same; rose = λ e. cc }
told_said cut.Unread before mid status is same = record { calm = λ other. same; rose = λ e. cc }
told_said cut.Unsaid before mid status is rose = record { calm = λ other. absurd (other is); rose = λ e. rose }

pub told_write : (c : Cut) (before mid now : ℕ) (status : Status) → status ≡ told_status c → FailsToSay {T = Option DecodeFault} before mid (Err c) → now ≡ mid
    → IsWriteCaused before now status
told_write c before mid now status is fails same = subst (λ (n : ℕ). IsWriteCaused before n status) (sym same) (told_said c before mid status is fails)

pub noted_folder : {D : Type 0} {seen : D → Seen} {stopped : D → Stopped} (old new : D) → OnlyNotes seen stopped old new → LeavesFolder seen stopped old new
noted_folder old new others = record { parts = others.parts; found = others.found; failed_calls = others.failed_calls }

pub said_folder : {D : Type 0} {seen : D → Seen} {stopped : D → Stopped} (old mid new : D) → OnlySays seen stopped old mid → OnlyNotes seen stopped mid new → LeavesFolder seen stopped old new
said_folder old mid new says notes = record {
  parts = notes.parts ∙ says.parts;
  found = λ image p. says.found image (notes.found image p);
  failed_calls = notes.failed_calls ∙ says.failed_calls;
}

-- ---- an input that is told as it comes

says_told : (kind : Kind) (input : List ℕ) (left before now : Option (List ℕ)) (fault : Option (List ℕ)) (status : Status) → IsAtEnd left → Took before now (text_of (reading_of kind) input)
    → fault ≡ fault_of (form.Live kind) input → status ≡ status_for fault false → Says status (form.Live kind) input left before now
says_told kind input left before now None status end took same is =
    subst (λ (s : Status). Says s (form.Live kind) input left before now) (sym is) (end, took, ap (λ (f : Option (List ℕ)). status_for f false) (sym same))
says_told kind input left before now (Some text) status end took same is =
    subst (λ (s : Status). Says s (form.Live kind) input left before now) (sym is) (end, took, ap (λ (f : Option (List ℕ)). status_for f false) (sym same))

ends_told : (kind : Kind) (input : List ℕ) (left before now : Option (List ℕ)) (fault : Option (List ℕ)) (status : Status) → IsAtEnd left → Took before now (text_of (reading_of kind) input)
    → fault ≡ fault_of (form.Live kind) input → (status ≡ NoMemory) ⊎ (status ≡ status_for fault false) → Says status (form.Live kind) input left before now
ends_told kind input left before now fault status end took same (inl is) =
    subst (λ (s : Status). Says s (form.Live kind) input left before now) (sym is) (input, IsFront-all input, took)
ends_told kind input left before now fault status end took same (inr is) = says_told kind input left before now fault status end took same is

-- It was told to its end.
pub live_answers : (kind : Kind) (fault : Option DecodeFault) (left left_now : Option (List ℕ)) (before mid now : Seen) (status : Status)
    → TellsAll (reading_of kind) left left_now before.said mid.said fault → mid.noted ≡ before.noted → mid.note_faults ≡ before.note_faults → now.said ≡ mid.said → EndsTold fault mid now status
    → Answers (form.Live kind) left left_now before now status
live_answers kind fault left left_now before mid now status told q r same ended =
    let is : option_map frame_text fault ≡ fault_of (form.Live kind) told.input = ap (option_map frame_text) told.is_fault in
    record {
      input = told.input;
      gave = told.gave;
      says = ends_told kind told.input left_now before.said now.said (option_map frame_text fault) status told.end
          (subst (λ (s : Option (List ℕ)). Took before.said s (text_of (reading_of kind) told.input)) (sym same) told.lines) is ended.ends;
      notes = subst (λ (f : Option (List ℕ)). NotesLines (notes_of f status) before now) is (notes_from (notes_of (option_map frame_text fault) status) before mid now q r ended.notes);
    }

cut_notes : (c : Cut) (fault : Option (List ℕ)) → notes_of None (told_status c) ≡ notes_of fault (told_status c)
cut_notes cut.NoMemory fault = refl
cut_notes cut.Unread fault = refl
cut_notes cut.Unsaid fault = refl

cut_says : (c : Cut) (kind : Kind) (left left_now before now : Option (List ℕ)) → (some : TellsSome c (reading_of kind) left left_now before now)
    → Says (told_status c) (form.Live kind) some.came left_now before now
cut_says cut.NoMemory kind left left_now before now some = some.says
cut_says cut.Unread kind left left_now before now some = some.says
cut_says cut.Unsaid kind left left_now before now some = (tt, some.says)

-- It was cut short.
pub cut_answers : (c : Cut) (kind : Kind) (left left_now : Option (List ℕ)) (before mid now : Seen) (status : Status)
    → TellsSome c (reading_of kind) left left_now before.said mid.said → mid.noted ≡ before.noted → mid.note_faults ≡ before.note_faults → now.said ≡ mid.said
    → status ≡ told_status c → NotesLines (notes_of None (told_status c)) mid now → Answers (form.Live kind) left left_now before now status
cut_answers c kind left left_now before mid now status some q r same is notes =
    let here = subst (λ (s : Option (List ℕ)). TellsSome c (reading_of kind) left left_now before.said s) (sym same) some in
    subst (λ (s : Status). Answers (form.Live kind) left left_now before now s) (sym is)
    (record {
      input = here.came;
      gave = here.gave;
      says = cut_says c kind left left_now before.said now.said here;
      notes = subst (λ (lines : List ℕ). NotesLines lines before now) (cut_notes c (fault_of (form.Live kind) here.came)) (notes_from (notes_of None (told_status c)) before mid now q r notes);
    })
