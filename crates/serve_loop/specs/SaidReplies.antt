-- What was said of some replies, and of those to the events of an input (docs/PROMISES.md, "The headline").
use Rattle.std.specs.Prelude.{◌≡◌, ℕ, false, List, [], ◌∷◌, ◌++◌}
use Rattle.std.specs.List.{flat_map, list_any}
use Rattle.ziti_outside.specs.Told.{IsFront}
use Rattle.channel_frame.specs.declared.frames.Frame.{Frame}
use Rattle.serve_loop.specs.Answerers.{Answerer}
use Rattle.session_mux.specs.declared.events.Event.{Event}
use Rattle.session_mux.specs.declared.events.Event.TheVariants.{Arrived}
use Rattle.session_mux.specs.declared.sessions.Form.{Form}
use Rattle.session_mux.specs.declared.sessions.Form.TheVariants.{Plain}
use Rattle.session_mux.specs.Completion.{is_fault}
use Rattle.run_notes.specs.declared.status.Status.{Status}
use Rattle.run_notes.specs.declared.status.Status.TheVariants.{Done, Usage, BadInput, Truncated, ReadFault, WriteFault, DiskFault, Damaged, NoMemory, InputTooLong, FolderFull}
use Rattle.serve_loop.specs.AnsweredFrames.{replies_to}

-- The bytes of some replies, one after the other.
abbrev pub joined : List (List ℕ) → List ℕ
joined replies = flat_map (λ bytes. bytes) replies

-- These bytes are the first of the replies, each of them whole.
pub record AreWhole (said : List ℕ) (all : List (List ℕ)) : Type 0 where
  pub done : List (List ℕ)
  pub rest : List (List ℕ)
  pub split : done ++ rest ≡ all
  pub same : said ≡ joined done

-- These bytes are the first of the replies, each of them whole, and a front of the next one.
pub record AreCut (said : List ℕ) (all : List (List ℕ)) : Type 0 where
  pub done : List (List ℕ)
  pub next : List ℕ
  pub rest : List (List ℕ)
  pub split : done ++ next ∷ rest ≡ all
  pub front : List ℕ
  pub is_front : IsFront front next
  pub same : said ≡ joined done ++ front

-- ---- the replies to the events of an input

-- What was said once these events were answered: their replies.
abbrev pub SaysAll : {M : Type 0} → Form → Answerer M → M → (said : List ℕ) → (answered : List Event) → Type 0
SaysAll form answerer m said answered = said ≡ joined (replies_to form answerer m answered)

-- What was said where the next reply was not taken whole: the replies to the answered events, and a front of the reply to the frame
-- that arrives by the next event.
pub record SaysFront {M : Type 0} (form : Form) (answerer : Answerer M) (m : M) (said : List ℕ) (answered unanswered : List Event) : Type 0 where
  pub session : ℕ
  pub frame : Frame
  pub later : List Event
  pub first : unanswered ≡ Arrived session frame ∷ later
  pub reply : List ℕ
  pub is_reply : replies_to form answerer m (answered ++ Arrived session frame ∷ []) ≡ replies_to form answerer m answered ++ reply ∷ []
  pub front : List ℕ
  pub is_front : IsFront front reply
  pub same : said ≡ joined (replies_to form answerer m answered) ++ front

-- What was said where a call on the disk failed, as only one does that a frame asks for: the replies to the answered events, and the
-- next event brings a frame.
pub record SaysBefore {M : Type 0} (form : Form) (answerer : Answerer M) (m : M) (said : List ℕ) (answered unanswered : List Event) : Type 0 where
  pub session : ℕ
  pub frame : Frame
  pub later : List Event
  pub first : unanswered ≡ Arrived session frame ∷ later
  pub same : SaysAll form answerer m said answered

-- What was said where memory was wanting: the replies to the answered events. Once the fault of plain input was told nothing is left
-- to do, and no memory is wanted any more.
pub record SaysStarved {M : Type 0} (form : Form) (answerer : Answerer M) (m : M) (said : List ℕ) (answered : List Event) : Type 0 where
  pub same : SaysAll form answerer m said answered
  pub calm : form ≡ Plain → list_any is_fault answered ≡ false

-- What a run over an input has said at a status, where these events were answered and the others were not: the replies to the
-- answered ones, each whole, and where a reply was not taken a front of the next one beside them. The other statuses never come.
abbrev pub Says : {M : Type 0} → Form → Answerer M → M → Status → (said : List ℕ) → (answered unanswered : List Event) → Type 0
Says form answerer m Done said answered unanswered = SaysAll form answerer m said answered
Says form answerer m Usage said answered unanswered = ⊥
Says form answerer m BadInput said answered unanswered = SaysAll form answerer m said answered
Says form answerer m Truncated said answered unanswered = SaysAll form answerer m said answered
Says form answerer m ReadFault said answered unanswered = SaysAll form answerer m said answered
Says form answerer m WriteFault said answered unanswered = SaysFront form answerer m said answered unanswered
Says form answerer m DiskFault said answered unanswered = SaysBefore form answerer m said answered unanswered
Says form answerer m Damaged said answered unanswered = ⊥
Says form answerer m NoMemory said answered unanswered = SaysStarved form answerer m said answered
Says form answerer m InputTooLong said answered unanswered = SaysAll form answerer m said answered
Says form answerer m FolderFull said answered unanswered = ⊥
