-- The answer to a frame, and a run of the controller along the frames of one session or of many, with a folder or without
-- (docs/RULES.md, "The controller", "The controller with a folder"; docs/FORMATS.md, "Traces and tagged replies").
use Rattle.std.specs.Prelude.{ℕ, ◌+◌, ◌%◌, ◌^◌, List, [], ◌∷◌, None, Ok, Err}
use Rattle.std.specs.declared.result.Result.{Result}
use Rattle.std.specs.List.{flat_map}
use Rattle.channel_frame.specs.declared.frames.Frame.{Frame}
use Rattle.channel_frame.specs.FrameSpelling.{spelling}
use Rattle.ctrl_model.specs.declared.commands.Command.{Command}
use Rattle.ctrl_model.specs.declared.kinds.Who.{Who}
use Rattle.ctrl_model.specs.declared.replies.Reply.{Reply}
use Rattle.ctrl_model.specs.declared.replies.Reply.TheVariants.{Refused}
use Rattle.ctrl_model.specs.State.{State}
use Rattle.row_store.specs.declared.bounds.StoreBounds.{StoreBounds}
use Rattle.ctrl_keep.specs.KeptMachine.{Machine, step}
use Rattle.ctrl_keep.specs.KeptBatches.{batches_next, Follows}
use Rattle.row_store.specs.OpenedStates.{OpensToState}
use Rattle.serve_loop.specs.Answerers.{Answerer}
use Rattle.serve_loop.specs.AnsweredFrames as loop
use Rattle.reply_codec.specs.ReplyFrame.{reply_frame}
use Rattle.session_mux.specs.declared.events.Event.{Event}
use Rattle.session_mux.specs.declared.sessions.Form.{Form}
use Rattle.session_mux.specs.Completion.{completed}
use Rattle.command_codec.specs.declared.reading.CodecFault.{CodecFault}
use Rattle.command_codec.specs.BodyMeaning.{meaning, refusal_for}

-- The answer to what a frame spells, within the bounds of a folder: the machine's step on a command, and else the refusal, which leaves
-- the machine.
abbrev pub answer_to : StoreBounds → Who → Machine → Result Command CodecFault → Reply × Machine
answer_to bounds who m (Ok c) = step bounds who c m
answer_to bounds who m (Err e) = (Refused (refusal_for e), m)

-- The answer of a machine to a frame: the reply, and how the machine goes on.
abbrev pub frame_answer : StoreBounds → Who → Frame → Machine → Reply × Machine
frame_answer bounds who f m = answer_to bounds who m (meaning f.content f.body)

-- ---- one session alone

-- The bytes of the replies to some frames of one sender, one list a reply, from a sequence number and a machine on.
abbrev pub spoken_alone : StoreBounds → Who → ℕ → Machine → List Frame → List (List ℕ)
spoken_alone bounds who n m [] = []
spoken_alone bounds who n m (f ∷ fs) =
    spelling (reply_frame n f.sequence (frame_answer bounds who f m).0) ∷ spoken_alone bounds who ((n + 1) % 2 ^ 32) (frame_answer bounds who f m).1 fs

-- These bytes joined.
abbrev pub answers : StoreBounds → Who → ℕ → Machine → List Frame → List ℕ
answers bounds who n m fs = flat_map (λ bytes. bytes) (spoken_alone bounds who n m fs)

-- The machine behind some frames of one sender.
abbrev pub machine_behind_alone : StoreBounds → Who → Machine → List Frame → Machine
machine_behind_alone bounds who m [] = m
machine_behind_alone bounds who m (f ∷ fs) = machine_behind_alone bounds who (frame_answer bounds who f m).1 fs

-- ---- many sessions

-- The controller within the bounds of a folder, as who answers: its folder opens to the state of a machine, and follows it by its batches.
abbrev pub controller : StoreBounds → Answerer Machine
controller bounds = record {
  next = λ who f m. (frame_answer bounds who f m).1;
  reply = λ sequence who f m. spelling (reply_frame sequence f.sequence (frame_answer bounds who f m).0);
  opens = λ image m. OpensToState image m.state;
  follows = Follows;
}

-- The bytes of the replies to some frames, each with its session and who sent it: one list a reply, from counts of replies and a
-- machine on. Each session counts its own replies.
abbrev pub spoken : Form → StoreBounds → List ℕ → Machine → List (ℕ × (Who × Frame)) → List (List ℕ)
spoken form bounds counts m frames = loop.spoken form (controller bounds) counts m frames

-- The machine behind some frames.
abbrev pub machine_behind : StoreBounds → Machine → List (ℕ × (Who × Frame)) → Machine
machine_behind bounds m frames = loop.machine_behind (controller bounds) m frames

-- For which batches a folder stands behind some frames, that stood for these before them: each step adds its own, or leaves them, or
-- compacts them.
abbrev pub batches_behind : StoreBounds → Machine → List (ℕ × (Who × Frame)) → List (List ℕ) → List (List ℕ)
batches_behind bounds m [] batches = batches
batches_behind bounds m (x ∷ xs) batches = batches_behind bounds (frame_answer bounds x.1.0 x.1.1 m).1 xs (batches_next m (frame_answer bounds x.1.0 x.1.1 m).1 batches)

-- Each reply to the first events of an input: those of a machine's run along the frames that arrive by them.
abbrev pub replies_to : Form → StoreBounds → Machine → List Event → List (List ℕ)
replies_to form bounds m events = loop.replies_to form (controller bounds) m events

-- Each reply to an input, in the order in which its frames are completed.
abbrev pub each_reply : Form → StoreBounds → Machine → List ℕ → List (List ℕ)
each_reply form bounds m used = loop.each_reply form (controller bounds) m used

-- The bytes of all replies to an input.
abbrev pub replies : Form → StoreBounds → Machine → List ℕ → List ℕ
replies form bounds m used = loop.replies form (controller bounds) m used

-- The machine behind all frames of an input.
abbrev pub last_machine : Form → StoreBounds → Machine → List ℕ → Machine
last_machine form bounds m used = loop.last_machine form (controller bounds) m used

-- For which batches a folder stands behind all frames of an input, that stood for these before them.
abbrev pub last_batches : Form → StoreBounds → Machine → List ℕ → List (List ℕ) → List (List ℕ)
last_batches form bounds m used batches = batches_behind bounds m (completed form used) batches

-- The bounds where there is no folder. Such a machine asks for none.
abbrev pub no_bounds : StoreBounds
no_bounds = record { slot = 0; mark = 0 }

-- A machine without a folder.
abbrev pub alone : State → Machine
alone s = record { state = s; place = None }
