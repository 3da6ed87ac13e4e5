-- One turn of the serving loop, the loop, and what comes of the used bytes. Only private contracts cite these.
use Rattle.std.specs.Prelude.{◌≡◌, ◌⊎◌, ℕ, ⊤, List, [], ◌∷◌, ◌++◌, Some, Ok, Err}
use Rattle.std.specs.declared.option.Option.{Option}
use Rattle.std.specs.declared.result.Result.{Result}
use Rattle.ziti_outside.specs.Images.{Image}
use Rattle.ziti_outside.specs.Told.{Took, TookFront, IsFront}
use Rattle.channel_frame.specs.declared.frames.Frame.{Frame}
use Rattle.ctrl_model.specs.declared.kinds.Who.{Who}
use Rattle.serve_loop.specs.Answerers.{Answerer}
use Rattle.session_mux.specs.declared.events.Event.{Event}
use Rattle.session_mux.specs.declared.events.Event.TheVariants as event
use Rattle.session_mux.specs.declared.events.Event.TheVariants.{Arrived}
use Rattle.session_mux.specs.declared.sessions.Form.{Form}
use Rattle.session_mux.specs.Completion.{Standing, GoesTo}
use Rattle.session_mux.specs.MuxSteps.{MayWantMemory}
use Rattle.run_notes.specs.declared.ends.End.{End}
use Rattle.run_notes.specs.declared.ends.Cut.{Cut}
use Rattle.run_notes.specs.declared.ends.Cut.TheVariants.{NoMemory, Disk, Unsaid}
use Rattle.serve_loop.specs.Answering.{NotesNothing, Progress, Served, Telling}
use Rattle.serve_loop.specs.declared.serving.Address.{Address}
use Rattle.run_notes.specs.declared.status.Status.{Status}
use Rattle.serve_loop.specs.AnsweredFrames.{reply_text, replies_to}
use Rattle.serve_loop.specs.UnsaidReplies.{IsOneAhead}
use Rattle.run_notes.specs.Inputs.{events_in, is_bad_input, has_rest}
use Rattle.run_notes.specs.Endings.{status_at}
use Rattle.serve_loop.specs.SaidReplies.{SaysFront, SaysBefore, SaysStarved, joined}
use Rattle.run_notes.specs.KnownSessions.{Known, sender_at, known_after, known_along}
use Rattle.serve_loop.specs.KnownReplies.{machine_after, machine_along, reply_by, replies_by, replies_along}
use Rattle.run_notes.specs.Notes.{fault_lines, notes_of}
use Rattle.run_notes.specs.NotesSoFar.{NotesMore}

-- ---- a frame

-- The bytes of the reply to a frame of a sender, at an address.
abbrev pub reply_to_frame : {M : Type 0} → Answerer M → Address → Who → Frame → M → List ℕ
reply_to_frame answerer a who f m = reply_text a.form answerer a.session a.sequence who f m

-- What a stop within a turn finds: some front of the reply was taken, and the folder opens to the machine after the frame, or, where none
-- of the reply was taken, to that before it.
pub record Turn {M : Type 0} (answerer : Answerer M) (before next : M) (reply : List ℕ) (said : Option (List ℕ)) (image : Image) (taken : List ℕ) : Type 0 where
  pub front : List ℕ
  pub is_front : IsFront front reply
  pub replies : Took said (Some taken) front
  pub found : answerer.opens image next ⊎ ((front ≡ []) × answerer.opens image before)

-- A whole turn: the machine goes on as it does, and the reply was taken.
pub record TakesTurn {M : Type 0} (answerer : Answerer M) (a : Address) (who : Who) (f : Frame) (before now : M) (said_before said_now : Option (List ℕ)) : Type 0 where
  pub next : now ≡ answerer.next who f before
  pub said : Took said_before said_now (reply_to_frame answerer a who f before)

-- A turn that was cut short: nothing was said for want of memory or where the disk failed, or a front of the reply.
abbrev pub CutsTurn : {M : Type 0} → Cut → (answerer : Answerer M) → Address → Who → Frame → M → Option (List ℕ) → Option (List ℕ) → Type 0
CutsTurn NoMemory answerer a who f before said_before said_now = said_now ≡ said_before
CutsTurn Disk answerer a who f before said_before said_now = said_now ≡ said_before
CutsTurn Unsaid answerer a who f before said_before said_now = TookFront said_before said_now (reply_to_frame answerer a who f before)

-- The failure of a say, if that is what cut a turn short.
abbrev pub unsaid : {T : Type 0} → Result T Cut → Result ⊤ Cut
unsaid (Ok x) = Ok tt
unsaid (Err NoMemory) = Ok tt
unsaid (Err Disk) = Ok tt
unsaid (Err Unsaid) = Err Unsaid

-- The failure of a call on the disk, if that is what cut a turn short.
abbrev pub unkept : {T : Type 0} → Result T Cut → Result ⊤ Cut
unkept (Ok x) = Ok tt
unkept (Err NoMemory) = Ok tt
unkept (Err Disk) = Err Disk
unkept (Err Unsaid) = Ok tt

-- ---- an event

-- An answered event: what is known, the machine and the replies go on as the event says.
pub record TakesEvent {M : Type 0} (form : Form) (answerer : Answerer M) (e : Event) (old new : Served M) : Type 0 where
  pub known_is : new.known ≡ known_after e old.known
  pub next : new.machine ≡ machine_after answerer e old.known old.machine
  pub said : Took old.said new.said (joined (replies_by form answerer e old.known old.machine))

-- An event that was cut short: nothing was said for want of memory; or it brings a frame, and the disk failed before its reply, or a front of the
-- reply was said.
abbrev pub CutsEvent : {M : Type 0} → Cut → Form → (answerer : Answerer M) → Event → Known → M → Option (List ℕ) → Option (List ℕ) → Type 0
CutsEvent NoMemory form answerer e known before said_before said_now = said_now ≡ said_before
CutsEvent Disk form answerer e known before said_before said_now = (s : ℕ) × (f : Frame) × (e ≡ Arrived s f) × (said_now ≡ said_before)
CutsEvent Unsaid form answerer e known before said_before said_now =
    (s : ℕ) × (f : Frame) × (e ≡ Arrived s f) × TookFront said_before said_now (reply_by form answerer s f known before)

-- What a stop within an event finds: one within the turn of a frame that arrived; no other event leaves more to find.
abbrev pub StopsEvent : {M : Type 0} → Form → Answerer M → Event → Known → M → Option (List ℕ) → Image → List ℕ → Type 0
StopsEvent form answerer (event.Opened s who) known before said image taken = ⊥
StopsEvent form answerer (event.Arrived s f) known before said image taken =
    Turn answerer before (answerer.next (sender_at known s) f before) (reply_by form answerer s f known before) said image taken
StopsEvent form answerer (event.Ended s fault at) known before said image taken = ⊥
StopsEvent form answerer (event.Closed s rest) known before said image taken = ⊥

-- ---- the loop

-- So far: the answered events are the first ones, and what is known, the machine, the replies that were said and the faults that were noted
-- are those behind them.
pub record Answers {M : Type 0} (form : Form) (answerer : Answerer M) (old new : Progress M) : Type 0 where
  pub answered : List Event
  pub goes : GoesTo old.standing new.standing answered
  pub known_is : new.known ≡ known_along answered old.known
  pub machine_is : new.machine ≡ machine_along answerer answered old.known old.machine
  pub said : Took old.told.desk.said new.told.desk.said (joined (replies_along form answerer answered old.known old.machine))
  pub noted_is : NotesMore old.told.failed new.told.failed (fault_lines answered) old.told.desk new.told.desk

-- An event is next.
abbrev pub HasNext : Standing → Type 0
HasNext st = (e : Event) × (later : Standing) × GoesTo st later (e ∷ [])

-- Where the events were cut short: nothing was said for want of memory, where an event is next or memory may be wanted for it; or a frame is next,
-- and the disk failed before its reply, or a front of the reply was said, and the machine now is the one behind the frame.
abbrev pub CutsNext : {M : Type 0} → Cut → Form → (answerer : Answerer M) → (mid : Progress M) (machine_now : M) (said_now : Option (List ℕ)) → Type 0
CutsNext NoMemory form answerer mid machine_now said_now = (said_now ≡ mid.told.desk.said) × (HasNext mid.standing ⊎ MayWantMemory mid.standing)
CutsNext Disk form answerer mid machine_now said_now =
    (s : ℕ) × (f : Frame) × (later : Standing) × GoesTo mid.standing later (Arrived s f ∷ []) × (said_now ≡ mid.told.desk.said)
CutsNext Unsaid form answerer mid machine_now said_now =
    (s : ℕ) × (f : Frame) × (later : Standing) × GoesTo mid.standing later (Arrived s f ∷ [])
    × TookFront mid.told.desk.said said_now (reply_by form answerer s f mid.known mid.machine) × (machine_now ≡ machine_after answerer (Arrived s f) mid.known mid.machine)

-- The events were answered so far, and the next one was cut short, with nothing noted of it.
pub record IsCutShort {M : Type 0} (cut : Cut) (form : Form) (answerer : Answerer M) (old : Progress M) (machine_now : M) (now : Telling) : Type 0 where
  pub mid : Progress M
  pub first : Answers form answerer old mid
  pub cuts : CutsNext cut form answerer mid machine_now now.desk.said
  pub unnoted : NotesNothing mid.told now

-- What a stop within the loop finds: it fell within the turn of the frame that arrives behind some answered events.
pub record StopsAlong {M : Type 0} (form : Form) (answerer : Answerer M) (known : Known) (before : M) (st : Standing) (said : Option (List ℕ)) (image : Image) (taken : List ℕ) : Type 0 where
  pub answered : List Event
  pub mid : Standing
  pub goes : GoesTo st mid answered
  pub session : ℕ
  pub frame : Frame
  pub later : Standing
  pub next : GoesTo mid later (Arrived session frame ∷ [])
  pub said_mid : Option (List ℕ)
  pub replies : Took said said_mid (joined (replies_along form answerer answered known before))
  pub turn : StopsEvent form answerer (Arrived session frame) (known_along answered known) (machine_along answerer answered known before) said_mid image taken

-- ---- the used bytes

-- What was said where the answering was cut short.
abbrev pub SaysCut : {M : Type 0} → Cut → Form → Answerer M → M → (said : List ℕ) → (answered unanswered : List Event) → Type 0
SaysCut NoMemory form answerer m said answered unanswered = SaysStarved form answerer m said answered
SaysCut Disk form answerer m said answered unanswered = SaysBefore form answerer m said answered unanswered
SaysCut Unsaid form answerer m said answered unanswered = SaysFront form answerer m said answered unanswered

-- All events of the used bytes were answered, and the ending was told.
pub record AnswersAll {M : Type 0} (form : Form) (answerer : Answerer M) (m : M) (used : List ℕ) (end : End) (status : Status) (old new : Telling) : Type 0 where
  pub said : Took old.desk.said new.desk.said (joined (replies_to form answerer m (events_in form used)))
  pub ends : status ≡ status_at (is_bad_input form used) (has_rest form used) end
  pub noted_is : NotesMore old.failed new.failed (notes_of form (events_in form used) used status) old.desk new.desk

-- Or the answering was cut short behind some of them, and where a reply was not taken whole the machine now is one frame ahead.
pub record AnswersSome {M : Type 0} (cut : Cut) (form : Form) (answerer : Answerer M) (m : M) (used : List ℕ) (old : Telling) (machine_now : M) (new : Telling) : Type 0 where
  pub answered : List Event
  pub unanswered : List Event
  pub split : answered ++ unanswered ≡ events_in form used
  pub said : List ℕ
  pub took : Took old.desk.said new.desk.said said
  pub says : SaysCut cut form answerer m said answered unanswered
  pub ahead : cut ≡ Unsaid → IsOneAhead form answerer m answered unanswered machine_now
  pub noted_is : NotesMore old.failed new.failed (fault_lines answered) old.desk new.desk
