-- Plain input is one session, an administrator's: its replies are those to the frames of all its bytes.
use Rattle.std.proofs.Common.{◌≡◌, ℕ, ◌+◌, ◌<◌, ◌%◌, ◌^◌, List, [], ◌∷◌, ◌++◌, length, map, get_or, Option, None, Some, refl, ap, ◌∙◌, arith}
use Rattle.std.proofs.lemmas.List.{length-set, get_or-set_same}
use Rattle.channel_frame.specs.declared.frames.Frame.{Frame}
use Rattle.channel_frame.specs.declared.frames.FrameFault.{FrameFault}
use Rattle.channel_frame.specs.FrameSpelling.{spelling}
use Rattle.channel_frame.specs.StreamReading.{frames_of}
use Rattle.channel_frame.specs.SessionBytes.{fault_held}
use Rattle.ctrl_model.specs.declared.kinds.Who.{Who}
use Rattle.ctrl_model.specs.declared.kinds.Who.TheVariants.{Admin}
use Rattle.row_store.specs.declared.bounds.StoreBounds.{StoreBounds}
use Rattle.ctrl_keep.specs.KeptMachine.{Machine}
use Rattle.reply_codec.specs.ReplyFrame.{reply_frame}
use Rattle.session_mux.specs.declared.events.Event.{Event}
use Rattle.session_mux.specs.declared.events.Event.TheVariants as event
use Rattle.session_mux.specs.declared.sessions.Form.TheVariants.{Plain}
use Rattle.session_mux.specs.Completion.{ended, frames_by, completed}
use Rattle.run_notes.specs.Inputs.{senders_in, no_counts}
use Rattle.run_notes.specs.KnownSessions.{count_at, counted}
use Rattle.session_mux.proofs.FaultLaws.{all_of, plain_events}
use Rattle.ctrl_serve.specs.FrameAnswer.{frame_answer, spoken, spoken_alone, machine_behind, machine_behind_alone, each_reply, last_machine}

-- The frames of a session's events, each with its sender.
abbrev sent : Who → List Frame → List (ℕ × (Who × Frame))
sent who fs = map (λ (f : Frame). (0, (who, f))) fs

no_frames : (o : Option (FrameFault × ℕ)) (senders : List Who) → frames_by (ended 0 o) senders ≡ []
no_frames None senders = refl
no_frames (Some e) senders = refl

frames_sent : (fs : List Frame) (o : Option (FrameFault × ℕ)) (senders : List Who) → frames_by (map (event.Arrived 0) fs ++ ended 0 o) senders ≡ sent (get_or senders 0 Admin) fs
frames_sent [] o senders = no_frames o senders
frames_sent (f ∷ fs) o senders = ap (λ (xs : List (ℕ × (Who × Frame))). (0, (get_or senders 0 Admin, f)) ∷ xs) (frames_sent fs o senders)

plain_frames : (used : List ℕ) → completed Plain used ≡ sent Admin (frames_of used)
plain_frames used =
    ap (λ (es : List Event). frames_by es (senders_in Plain)) (plain_events used) ∙ frames_sent (frames_of used) (fault_held (all_of used)) (senders_in Plain)

-- ---- replies

sent_spoken : (bounds : StoreBounds) (counts : List ℕ) (n : ℕ) (m : Machine) (fs : List Frame) → 0 < length counts → count_at counts 0 ≡ n
    → spoken Plain bounds counts m (sent Admin fs) ≡ spoken_alone bounds Admin n m fs
sent_spoken bounds counts n m [] some e = refl
sent_spoken bounds counts n m (f ∷ fs) some e =
    let more : ℕ = (count_at counts 0 + 1) % 2 ^ 32 in
    let next : count_at (counted counts 0) 0 ≡ (n + 1) % 2 ^ 32 = get_or-set_same counts 0 more 0 some ∙ ap (λ (k : ℕ). (k + 1) % 2 ^ 32) e in
    let long : 0 < length (counted counts 0) = omega (arith, some, length-set counts 0 more) in
    ap (λ (k : ℕ). spelling (reply_frame k f.sequence (frame_answer bounds Admin f m).0) ∷ spoken Plain bounds (counted counts 0) (frame_answer bounds Admin f m).1 (sent Admin fs)) e
    ∙ ap (λ (rs : List (List ℕ)). spelling (reply_frame n f.sequence (frame_answer bounds Admin f m).0) ∷ rs)
    (sent_spoken bounds (counted counts 0) ((n + 1) % 2 ^ 32) (frame_answer bounds Admin f m).1 fs long next)

pub plain_replies : (bounds : StoreBounds) (m : Machine) (used : List ℕ) → each_reply Plain bounds m used ≡ spoken_alone bounds Admin 0 m (frames_of used)
plain_replies bounds m used = ap (spoken Plain bounds no_counts m) (plain_frames used) ∙ sent_spoken bounds no_counts 0 m (frames_of used) (omega arith) refl

sent_behind : (bounds : StoreBounds) (m : Machine) (fs : List Frame) → machine_behind bounds m (sent Admin fs) ≡ machine_behind_alone bounds Admin m fs
sent_behind bounds m [] = refl
sent_behind bounds m (f ∷ fs) = sent_behind bounds (frame_answer bounds Admin f m).1 fs

pub plain_last : (bounds : StoreBounds) (m : Machine) (used : List ℕ) → last_machine Plain bounds m used ≡ machine_behind_alone bounds Admin m (frames_of used)
plain_last bounds m used = ap (machine_behind bounds m) (plain_frames used) ∙ sent_behind bounds m (frames_of used)
