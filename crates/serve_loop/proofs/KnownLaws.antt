-- What is known, the machine and the replies behind some events, and that the replies are those of a run along their frames.
use Rattle.std.proofs.Common.{◌≡◌, ℕ, List, [], ◌∷◌, ◌++◌, refl, sym, ap, ◌∙◌, append_assoc}
use Rattle.serve_loop.specs.Answerers.{Answerer}
use Rattle.session_mux.specs.declared.events.Event.{Event}
use Rattle.session_mux.specs.declared.events.Event.TheVariants as event
use Rattle.session_mux.specs.declared.sessions.Form.{Form}
use Rattle.session_mux.specs.Completion.{frames_by}
use Rattle.serve_loop.specs.AnsweredFrames.{spoken, machine_behind, replies_to}
use Rattle.run_notes.specs.Inputs.{frames_in}
use Rattle.run_notes.specs.KnownSessions.{Known, known_in, known_after, known_along}
use Rattle.serve_loop.specs.KnownReplies.{machine_after, machine_along, reply_by, replies_by, replies_along}

-- ---- events in a row

pub machine_then : {M : Type 0} (answerer : Answerer M) (es later : List Event) (k : Known) (m : M) → machine_along answerer (es ++ later) k m ≡ machine_along answerer later (known_along es k) (machine_along answerer es k m)
machine_then answerer [] later k m = refl
machine_then answerer (e ∷ es) later k m = machine_then answerer es later (known_after e k) (machine_after answerer e k m)

pub replies_then : {M : Type 0} (form : Form) (answerer : Answerer M) (es later : List Event) (k : Known) (m : M)
    → replies_along form answerer (es ++ later) k m ≡ replies_along form answerer es k m ++ replies_along form answerer later (known_along es k) (machine_along answerer es k m)
replies_then form answerer [] later k m = refl
replies_then form answerer (e ∷ es) later k m =
    ap (λ (rs : List (List ℕ)). replies_by form answerer e k m ++ rs) (replies_then form answerer es later (known_after e k) (machine_after answerer e k m))
    ∙ sym (append_assoc (replies_by form answerer e k m) (replies_along form answerer es (known_after e k) (machine_after answerer e k m)) _)

-- ---- the run along the frames

pub along_spoken : {M : Type 0} (form : Form) (answerer : Answerer M) (es : List Event) (k : Known) (m : M) → replies_along form answerer es k m ≡ spoken form answerer k.replied m (frames_by es k.senders)
along_spoken form answerer [] k m = refl
along_spoken form answerer (event.Opened s who ∷ es) k m = along_spoken form answerer es (known_after (event.Opened s who) k) m
along_spoken form answerer (event.Arrived s frame ∷ es) k m =
    ap (λ (rs : List (List ℕ)). reply_by form answerer s frame k m ∷ rs)
    (along_spoken form answerer es (known_after (event.Arrived s frame) k) (machine_after answerer (event.Arrived s frame) k m))
along_spoken form answerer (event.Ended s fault at ∷ es) k m = along_spoken form answerer es (known_after (event.Ended s fault at) k) m
along_spoken form answerer (event.Closed s rest ∷ es) k m = along_spoken form answerer es (known_after (event.Closed s rest) k) m

pub along_machine : {M : Type 0} (answerer : Answerer M) (es : List Event) (k : Known) (m : M) → machine_along answerer es k m ≡ machine_behind answerer m (frames_by es k.senders)
along_machine answerer [] k m = refl
along_machine answerer (event.Opened s who ∷ es) k m = along_machine answerer es (known_after (event.Opened s who) k) m
along_machine answerer (event.Arrived s frame ∷ es) k m = along_machine answerer es (known_after (event.Arrived s frame) k) (machine_after answerer (event.Arrived s frame) k m)
along_machine answerer (event.Ended s fault at ∷ es) k m = along_machine answerer es (known_after (event.Ended s fault at) k) m
along_machine answerer (event.Closed s rest ∷ es) k m = along_machine answerer es (known_after (event.Closed s rest) k) m

-- From the start of an input they are the replies to these events, and the machine behind them.
pub replies_from_start : {M : Type 0} (form : Form) (answerer : Answerer M) (es : List Event) (m : M) → replies_along form answerer es (known_in form) m ≡ replies_to form answerer m es
replies_from_start form answerer es m = along_spoken form answerer es (known_in form) m

pub machine_from_start : {M : Type 0} (form : Form) (answerer : Answerer M) (es : List Event) (m : M) → machine_along answerer es (known_in form) m ≡ machine_behind answerer m (frames_in form es)
machine_from_start form answerer es m = along_machine answerer es (known_in form) m
