-- The replies to the frames of an input, and the machine behind them, whoever answers (docs/FORMATS.md, "Traces and tagged replies").
use Rattle.std.specs.Prelude.{ℕ, List, [], ◌∷◌, ◌++◌}
use Rattle.std.specs.List.{flat_map}
use Rattle.channel_frame.specs.declared.frames.Frame.{Frame}
use Rattle.ctrl_model.specs.declared.kinds.Who.{Who}
use Rattle.session_mux.specs.declared.events.Event.{Event}
use Rattle.session_mux.specs.declared.sessions.Form.{Form}
use Rattle.session_mux.specs.declared.sessions.Form.TheVariants.{Plain, Trace}
use Rattle.session_mux.specs.Completion.{completed}
use Rattle.run_notes.specs.Inputs.{frames_in, no_counts}
use Rattle.run_notes.specs.KnownSessions.{count_at, counted}
use Rattle.serve_loop.specs.Answerers.{Answerer}

-- What stands before the frame of a reply: in a trace a byte 4 and the session, in plain input nothing.
abbrev pub tag : Form → ℕ → List ℕ
tag Plain s = []
tag Trace s = 4 ∷ s ∷ []

-- The bytes of the reply to a frame of a sender in a session: the tag, and the reply's frame with its sequence number.
abbrev pub reply_text : {M : Type 0} → Form → Answerer M → (session sequence : ℕ) → Who → Frame → M → List ℕ
reply_text form answerer session sequence who f m = tag form session ++ answerer.reply sequence who f m

-- The bytes of the replies to some frames, each with its session and who sent it: one list a reply, from counts of replies and a
-- machine on. Each session counts its own replies.
abbrev pub spoken : {M : Type 0} → Form → Answerer M → List ℕ → M → List (ℕ × (Who × Frame)) → List (List ℕ)
spoken form answerer counts m [] = []
spoken form answerer counts m (x ∷ xs) =
    reply_text form answerer x.0 (count_at counts x.0) x.1.0 x.1.1 m ∷ spoken form answerer (counted counts x.0) (answerer.next x.1.0 x.1.1 m) xs

-- The machine behind some frames.
abbrev pub machine_behind : {M : Type 0} → Answerer M → M → List (ℕ × (Who × Frame)) → M
machine_behind answerer m [] = m
machine_behind answerer m (x ∷ xs) = machine_behind answerer (answerer.next x.1.0 x.1.1 m) xs

-- Each reply to the first events of an input: those of a machine's run along the frames that arrive by them.
abbrev pub replies_to : {M : Type 0} → Form → Answerer M → M → List Event → List (List ℕ)
replies_to form answerer m events = spoken form answerer no_counts m (frames_in form events)

-- Each reply to an input, in the order in which its frames are completed.
abbrev pub each_reply : {M : Type 0} → Form → Answerer M → M → List ℕ → List (List ℕ)
each_reply form answerer m used = spoken form answerer no_counts m (completed form used)

-- The bytes of all replies to an input.
abbrev pub replies : {M : Type 0} → Form → Answerer M → M → List ℕ → List ℕ
replies form answerer m used = flat_map (λ bytes. bytes) (each_reply form answerer m used)

-- The machine behind all frames of an input.
abbrev pub last_machine : {M : Type 0} → Form → Answerer M → M → List ℕ → M
last_machine form answerer m used = machine_behind answerer m (completed form used)
