-- What a run over an input promises, whoever answers its frames (docs/PROMISES.md, "The headline").
use Rattle.std.specs.Prelude.{◌≡◌, ℕ, ◌+◌, ◌<◌, ◌≤◌, ◌⊎◌, nat_lt, true, false, IsTrue, List, [], ◌++◌, length, take}
use Rattle.std.specs.declared.option.Option.{Option}
use Rattle.std.specs.Io.KnownBytes.{IsAtEnd}
use Rattle.ziti_outside.specs.Told.{Gave, Took}
use Rattle.ziti_outside.specs.Moments.{Elapses}
use Rattle.ziti_outside.specs.Views.{Seen}
use Rattle.session_mux.specs.declared.events.Event.{Event}
use Rattle.session_mux.specs.declared.sessions.Form.{Form}
use Rattle.run_notes.specs.declared.status.Status.{Status}
use Rattle.run_notes.specs.declared.status.Status.TheVariants.{WriteFault, NoMemory}
use Rattle.run_notes.specs.Inputs.{events_in}
use Rattle.run_notes.specs.Endings.{ending, is_cut, is_kept}
use Rattle.run_notes.specs.KnownSessions.{known_in}
use Rattle.run_notes.specs.NotedLines.{NotesLines}
use Rattle.run_notes.specs.Notes.{notes_of}
use Rattle.serve_loop.specs.Answerers.{Answerer}
use Rattle.serve_loop.specs.AnsweredFrames.{replies, last_machine}
use Rattle.serve_loop.specs.FollowedFolders.{FollowsEvents}
use Rattle.serve_loop.specs.Pieces.{Intake, Passage}
use Rattle.serve_loop.specs.Reading.{is_decided, StaysNear}
use Rattle.serve_loop.specs.RunStops.{StopFinds}
use Rattle.serve_loop.specs.SaidReplies.{Says}
use Rattle.serve_loop.specs.UnsaidReplies.{IsOneAhead}

-- How an input is taken: its form, and how many bytes of it are used at most.
pub record Taking : Type 0 where
  pub form : Form
  pub most : ℕ

-- The taking of an input of this form, of so many bytes at most.
abbrev pub taking_of : Form → ℕ → Taking
taking_of form most = record { form = form; most = most }

-- A run over an input of a form, which is answered from a machine on. Of what the source gave, the first `most` bytes are used. Of their events
-- the run answered the first ones, and all of them unless memory was wanting, the disk failed or a say. What was said are the replies of the
-- machine's run along the frames that arrived by the answered events, each whole, and where a say failed a front of the next one beside them. A run
-- that was not cut short ends as the bytes decide, and only once they decide the input, nothing is left or more than `most` bytes were given. At
-- most a piece was taken past the byte at which the run ended. What was noted are the faults among the answered events, in the order in which the
-- bytes decide them, and then how the run ended. A call on the disk fails only while a frame is answered, and memory is not wanting once the
-- fault of plain input was noted.
pub record Serves {M : Type 0} (taking : Taking) (answerer : Answerer M) (machine : M) (left_before left_now : Option (List ℕ)) (before now : Seen) (status : Status) : Type 0 where
  pub taken : List ℕ
  pub gave : Gave left_before left_now taken
  pub few : length taken ≤ taking.most + 65536
  pub answered : List Event
  pub unanswered : List Event
  pub split : answered ++ unanswered ≡ events_in taking.form (take taking.most taken)
  pub all : is_kept status ≡ true → unanswered ≡ []
  pub said : List ℕ
  pub took : Took before.said now.said said
  pub says : Says taking.form answerer machine status said answered unanswered
  pub ends : is_cut status ≡ false → status ≡ ending taking.form (take taking.most taken) (nat_lt taking.most (length taken))
  pub read_on : is_cut status ≡ false → is_decided taking.form (take taking.most taken) ≡ false → IsAtEnd left_now ⊎ (taking.most < length taken)
  pub near : StaysNear taking.form taking.most taken answered
  pub notes : NotesLines (notes_of taking.form answered (take taking.most taken) status) before now

-- A complete run: it ended as the used bytes decide, all replies to their whole frames were said, and they decide the input, nothing is left
-- or more than `most` bytes were given.
pub record Completes {M : Type 0} (taking : Taking) (answerer : Answerer M) (machine : M) (left_before left_now : Option (List ℕ)) (before now : Seen) (status : Status) : Type 0 where
  pub taken : List ℕ
  pub gave : Gave left_before left_now taken
  pub ends : status ≡ ending taking.form (take taking.most taken) (nat_lt taking.most (length taken))
  pub said : Took before.said now.said (replies taking.form answerer machine (take taking.most taken))
  pub read_on : is_decided taking.form (take taking.most taken) ≡ false → IsAtEnd left_now ⊎ (taking.most < length taken)

-- A run without faults is complete, unless memory was wanting.
abbrev pub IsComplete : {M : Type 0} → Taking → Answerer M → M → (left_before left_now : Option (List ℕ)) (before now : Seen) → Status → Type 0
IsComplete taking answerer machine left_before left_now before now status = (status ≡ NoMemory) ⊎ Completes taking answerer machine left_before left_now before now status

-- A run from something that answers on, to the machine that it has now. A folder follows the machine along all events where the run kept all;
-- a stop at any moment finds the replies to the first frames, and the folder open to the machine behind them, as `StopFinds` says. Where the run
-- kept all, the machine is that behind all frames of the used bytes; where a say failed it is the one behind the frame whose reply was
-- not taken whole; and in both cases what answered can go on, which is `can_go_on`.
pub record RunsOn {M : Type 0} (i : Intake M) (o : Passage) (machine_now : M) (can_go_on : Type 0) (now : Seen) (status : Status) : Type 0 where
  pub serves : Serves (taking_of i.form i.most) i.answerer i.machine o.left o.left_now o.told.desk now status
  pub follows : IsTrue i.folder → is_kept status ≡ true → IsTrue i.tells
      → FollowsEvents i.answerer (events_in i.form (take i.most serves.taken)) (known_in i.form) i.machine o.told.desk.reads now.reads
  pub stops : IsTrue i.folder → IsTrue i.tells
      → Elapses o.stopped o.stopped_now (StopFinds i.form i.answerer i.machine (events_in i.form (take i.most serves.taken)) o.told.desk.said)
  pub last : is_kept status ≡ true → (machine_now ≡ last_machine i.form i.answerer i.machine (take i.most serves.taken)) × can_go_on
  pub ahead : status ≡ WriteFault → IsOneAhead i.form i.answerer i.machine serves.answered serves.unanswered machine_now × can_go_on
