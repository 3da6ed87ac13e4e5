-- The machine and the replies by what a run knows of the sessions of its input. Only private contracts cite these.
use Rattle.std.specs.Prelude.{ℕ, List, [], ◌∷◌, ◌++◌}
use Rattle.channel_frame.specs.declared.frames.Frame.{Frame}
use Rattle.session_mux.specs.declared.events.Event.{Event}
use Rattle.session_mux.specs.declared.events.Event.TheVariants as event
use Rattle.session_mux.specs.declared.sessions.Form.{Form}
use Rattle.run_notes.specs.KnownSessions.{Known, count_at, sender_at, known_after}
use Rattle.serve_loop.specs.Answerers.{Answerer}
use Rattle.serve_loop.specs.AnsweredFrames.{reply_text}

-- The machine once an event was answered: a frame that arrived is.
abbrev pub machine_after : {M : Type 0} → Answerer M → Event → Known → M → M
machine_after answerer (event.Opened s who) k m = m
machine_after answerer (event.Arrived s frame) k m = answerer.next (sender_at k s) frame m
machine_after answerer (event.Ended s fault at) k m = m
machine_after answerer (event.Closed s rest) k m = m

-- The reply to a frame of a session.
abbrev pub reply_by : {M : Type 0} → Form → Answerer M → ℕ → Frame → Known → M → List ℕ
reply_by form answerer s frame k m = reply_text form answerer s (count_at k.replied s) (sender_at k s) frame m

-- The replies to an event: one where a frame arrived.
abbrev pub replies_by : {M : Type 0} → Form → Answerer M → Event → Known → M → List (List ℕ)
replies_by form answerer (event.Opened s who) k m = []
replies_by form answerer (event.Arrived s frame) k m = reply_by form answerer s frame k m ∷ []
replies_by form answerer (event.Ended s fault at) k m = []
replies_by form answerer (event.Closed s rest) k m = []

-- The machine once some events were answered.
abbrev pub machine_along : {M : Type 0} → Answerer M → List Event → Known → M → M
machine_along answerer [] k m = m
machine_along answerer (e ∷ events) k m = machine_along answerer events (known_after e k) (machine_after answerer e k m)

-- The replies to some events.
abbrev pub replies_along : {M : Type 0} → Form → Answerer M → List Event → Known → M → List (List ℕ)
replies_along form answerer [] k m = []
replies_along form answerer (e ∷ events) k m = replies_by form answerer e k m ++ replies_along form answerer events (known_after e k) (machine_after answerer e k m)
