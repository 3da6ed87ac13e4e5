-- What the taking of the input in pieces, and the answering of each, did. Only private contracts cite these.
use Rattle.std.specs.Prelude.{◌≡◌, ◌⊎◌, ℕ, ◌+◌, ◌<◌, ◌≤◌, Bool, true, false, IsTrue, is_some, List, length, take, Ok, Err}
use Rattle.std.specs.declared.option.Option.{Option}
use Rattle.std.specs.declared.result.Result.{Result}
use Rattle.std.specs.Io.KnownBytes.{IsAtEnd}
use Rattle.ziti_outside.specs.Moments.{Elapses}
use Rattle.ziti_outside.specs.Told.{Gave}
use Rattle.ziti_outside.specs.Causes.{Rose}
use Rattle.session_mux.specs.declared.sessions.Form.{Form}
use Rattle.session_mux.specs.declared.sessions.Form.TheVariants.{Plain, Trace}
use Rattle.session_mux.specs.Completion.{start_of, fed}
use Rattle.serve_loop.specs.Answerers.{Answerer, Serving}
use Rattle.run_notes.specs.declared.ends.End.{End}
use Rattle.run_notes.specs.declared.ends.End.TheVariants.{Whole, More, Fault}
use Rattle.run_notes.specs.declared.ends.Cut.{Cut}
use Rattle.run_notes.specs.declared.status.Status.{Status}
use Rattle.run_notes.specs.declared.status.Status.TheVariants.{ReadFault}
use Rattle.run_notes.specs.Inputs.{events_in}
use Rattle.run_notes.specs.KnownSessions.{known_in}
use Rattle.serve_loop.specs.Answering.{begun, Progress, Telling}
use Rattle.serve_loop.specs.AnsweredFrames.{last_machine}
use Rattle.serve_loop.specs.Reading.{is_decided, StaysNear}
use Rattle.serve_loop.specs.Turns.{Answers, AnswersAll, AnswersSome, StopsAlong}
use Rattle.ziti_outside.specs.Views.{Seen, Stopped}

-- Whether the answered bytes are decided, by the bad record that comes behind them, and by whether a session had a fault.
abbrev pub decided_by : Form → (bad : Option ℕ) → (faulty : Bool) → Bool
decided_by Plain bad faulty = faulty
decided_by Trace bad faulty = is_some bad

-- How much was taken where it ended so: at the end of the input and after a fault no more than is used, else more. A decided input is
-- taken no further.
abbrev pub EndsSo : End → (most : ℕ) → Option (List ℕ) → List ℕ → (decided : Bool) → Type 0
EndsSo Whole most now taken decided = (decided ≡ true) ⊎ ((length taken ≤ most) × IsAtEnd now)
EndsSo More most now taken decided = most < length taken
EndsSo Fault most now taken decided = length taken ≤ most

-- The count of faults rose where the source failed, and stayed where it did not.
abbrev pub HasFault : End → ℕ → ℕ → Type 0
HasFault Whole before now = now ≡ before
HasFault More before now = now ≡ before
HasFault Fault before now = Rose before now

-- A read fault came only where the count of failed takes rose, and that count stays where no read fault came.
pub record IsReadCaused (before now : ℕ) (status : Status) : Type 0 where
  pub calm : (status ≡ ReadFault → ⊥) → now ≡ before
  pub rose : status ≡ ReadFault → Rose before now

-- How an input is taken: its form, how many bytes of it are used at most, who answers it from which machine on, whether that has a folder,
-- and whether the desk tells it.
pub record Intake (M : Type 0) : Type 1 where
  pub form : Form
  pub most : ℕ
  pub answerer : Answerer M
  pub machine : M
  pub folder : Bool
  pub tells : Bool

-- It, by these.
abbrev pub intake_of : {B M : Type 0} → Form → ℕ → (B → Answerer M) → Serving B → M → Bool → Intake M
intake_of form most answers c machine tells = record { form = form; most = most; answerer = answers c.bounds; machine = machine; folder = c.folder; tells = tells }

-- What passes outside from the start of an input to a later moment: what the source had left, what was told at the start, and what a stop
-- may leave.
pub record Passage : Type 1 where
  pub left : Option (List ℕ)
  pub left_now : Option (List ℕ)
  pub told : Telling
  pub stopped : Stopped
  pub stopped_now : Stopped

-- It, by these.
abbrev pub passage_of : (left left_now : Option (List ℕ)) → (failed : Bool) → Seen → (stopped stopped_now : Stopped) → Passage
passage_of left left_now failed desk stopped stopped_now =
    record { left = left; left_now = left_now; told = record { failed = failed; desk = desk }; stopped = stopped; stopped_now = stopped_now }

-- What was taken of the source, at most a piece more than is used, and what a stop finds while it is answered.
pub record TakesPieces {M : Type 0} (i : Intake M) (o : Passage) : Type 0 where
  pub taken : List ℕ
  pub gave : Gave o.left o.left_now taken
  pub few : length taken ≤ i.most + 65536
  pub stops : IsTrue i.folder → IsTrue i.tells
      → Elapses o.stopped o.stopped_now (StopsAlong i.form i.answerer (known_in i.form) i.machine (fed (start_of i.form) (take i.most taken)) o.told.desk.said)

-- The events of all used bytes so far were answered, and these did not decide the input.
pub record AnswersPieces {M : Type 0} (i : Intake M) (o : Passage) (now : Progress M) (count : ℕ) : Type 0 where
  pub takes : TakesPieces i o
  pub counted : length takes.taken ≡ count
  pub answers : Answers i.form i.answerer (begun i.form i.machine (take i.most takes.taken) o.told) now
  pub undecided : is_decided i.form (take i.most takes.taken) ≡ false

-- The taking ended so, and the events of all used bytes were answered.
pub record EndsPieces {M : Type 0} (i : Intake M) (o : Passage) (now : Progress M) (end : End) : Type 0 where
  pub takes : TakesPieces i o
  pub answers : Answers i.form i.answerer (begun i.form i.machine (take i.most takes.taken) o.told) now
  pub near : StaysNear i.form i.most takes.taken (events_in i.form (take i.most takes.taken))
  pub ends : EndsSo end i.most o.left_now takes.taken (is_decided i.form (take i.most takes.taken))

-- The answering was cut short behind some events of the used bytes.
pub record CutsInput {M : Type 0} (cut : Cut) (i : Intake M) (o : Passage) (machine : M) (now : Telling) : Type 0 where
  pub takes : TakesPieces i o
  pub some : AnswersSome cut i.form i.answerer i.machine (take i.most takes.taken) o.told machine now
  pub near : StaysNear i.form i.most takes.taken some.answered

-- All events of the used bytes were answered, and the ending was told; the machine is the last one.
pub record EndsInput {M : Type 0} (status : Status) (i : Intake M) (o : Passage) (machine : M) (now : Telling) : Type 0 where
  pub takes : TakesPieces i o
  pub end : End
  pub all : AnswersAll i.form i.answerer i.machine (take i.most takes.taken) end status o.told now
  pub near : StaysNear i.form i.most takes.taken (events_in i.form (take i.most takes.taken))
  pub ends : EndsSo end i.most o.left_now takes.taken (is_decided i.form (take i.most takes.taken))
  pub last : machine ≡ last_machine i.form i.answerer i.machine (take i.most takes.taken)

-- What comes of the input, and what is so of its used bytes where all their events were answered.
abbrev pub AnswersInput : {M : Type 0} → Result Status Cut → (i : Intake M) (o : Passage) (machine : M) (now : Telling) (follows : List ℕ → Type 0) → Type 0
AnswersInput (Ok status) i o machine now follows = (ends : EndsInput status i o machine now) × follows (take i.most ends.takes.taken)
AnswersInput (Err cut) i o machine now follows = CutsInput cut i o machine now
