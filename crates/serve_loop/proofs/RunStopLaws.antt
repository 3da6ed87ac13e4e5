-- What a stop within a run over an input finds: how the turns of the loop make it up.
use Rattle.std.proofs.Common.{◌≡◌, ◌⊎◌, inl, inr, ℕ, List, [], ◌∷◌, ◌++◌, Some, refl, sym, ◌∙◌, subst}
use Rattle.std.specs.declared.option.Option.{Option}
use Rattle.ziti_outside.specs.Images.{Image}
use Rattle.ziti_outside.specs.Moments.{Elapses}
use Rattle.ziti_outside.proofs.Moves.{Took-then}
use Rattle.ziti_outside.proofs.MomentLaws.{Elapses-then, Elapses-weaker}
use Rattle.ziti_outside.specs.Views.{Stopped}
use Rattle.channel_frame.specs.declared.frames.Frame.{Frame}
use Rattle.ctrl_model.specs.declared.kinds.Who.{Who}
use Rattle.session_mux.specs.declared.events.Event.{Event}
use Rattle.session_mux.specs.declared.events.Event.TheVariants as event
use Rattle.session_mux.specs.declared.events.Event.TheVariants.{Arrived}
use Rattle.session_mux.specs.declared.sessions.Form.{Form}
use Rattle.session_mux.specs.Completion.{Standing, events_of, GoesTo}
use Rattle.run_notes.specs.Inputs.{events_in}
use Rattle.run_notes.specs.KnownSessions.{Known, count_at, sender_at, known_in, known_along}
use Rattle.serve_loop.specs.Answerers.{Answerer}
use Rattle.serve_loop.specs.AnsweredFrames.{replies_to}
use Rattle.serve_loop.specs.Answering.{Progress}
use Rattle.serve_loop.specs.KnownReplies.{machine_along, reply_by}
use Rattle.serve_loop.specs.RunStops.{StopFinds, machine_by}
use Rattle.serve_loop.specs.SaidReplies.{joined}
use Rattle.serve_loop.specs.Turns.{Answers, StopsAlong, StopsEvent, Turn, reply_to_frame}
use Rattle.serve_loop.proofs.KnownLaws.{machine_then, machine_from_start}
use Rattle.serve_loop.proofs.TurnLaws.{address_at}
use Rattle.serve_loop.proofs.UsedLaws.{at_start, split_so, next_first, next_reply, says_whole}

-- ---- an event

-- A turn of a frame that arrived is one of its event.
pub arrived_stops : {M : Type 0} {a b : Stopped} (form : Form) (answerer : Answerer M) (s n : ℕ) (f : Frame) (k : Known) (m : M) (who : Who) (said : Option (List ℕ))
    → n ≡ count_at k.replied s → who ≡ sender_at k s
    → Elapses a b (Turn answerer m (answerer.next who f m) (reply_to_frame answerer (record { form = form; session = s; sequence = n }) who f m) said)
    → Elapses a b (StopsEvent form answerer (Arrived s f) k m said)
arrived_stops {M} {a} {b} form answerer s n f k m who said count sender stops =
    subst (λ (w : Who). Elapses a b (Turn answerer m (answerer.next w f m) (reply_to_frame answerer (address_at form s k) w f m) said)) sender
    (subst (λ (i : ℕ). Elapses a b (Turn answerer m (answerer.next who f m) (reply_to_frame answerer (record { form = form; session = s; sequence = i }) who f m) said)) count stops)

-- A call after which a stop finds no more finds none of these pairs more.
pub finds_no_more : {a b : Stopped} (X : Image → List ℕ → Type 0) → Elapses a b (λ image taken. ⊥) → Elapses a b X
finds_no_more X stops = Elapses-weaker X stops (λ image taken none. absurd none)

-- Nor does it behind others.
pub no_more_behind : {a b c : Stopped} (X : Image → List ℕ → Type 0) → Elapses a b X → Elapses b c (λ image taken. ⊥) → Elapses a c X
no_more_behind X first stops = Elapses-then X first stops (λ image taken p. p) (λ image taken none. absurd none)

-- ---- the loop

-- A stop within the event behind the answered ones is one within the loop.
pub stops_next : {M : Type 0} {form : Form} {answerer here : Answerer M} (e : Event) {p q : Progress M} {later : Standing} → here ≡ answerer → Answers form answerer p q → GoesTo q.standing later (e ∷ [])
    → (image : Image) (taken : List ℕ) → StopsEvent form here e q.known q.machine q.told.desk.said image taken
    → StopsAlong form answerer p.known p.machine p.standing p.told.desk.said image taken
stops_next (event.Opened s who) within told goes image taken stop = absurd stop
stops_next {M} {form} {answerer} {here} (event.Arrived s frame) {p} {q} {later} within told goes image taken stop =
    let es : List Event = told.answered in
    let arrived : Event = event.Arrived s frame in
    let b : Option (List ℕ) = q.told.desk.said in
    record {
      answered = es;
      mid = q.standing;
      goes = told.goes;
      session = s;
      frame = frame;
      later = later;
      next = goes;
      said_mid = b;
      replies = told.said;
      turn = subst (λ (y : M). StopsEvent form answerer arrived (known_along es p.known) y b image taken) told.machine_is
          (subst (λ (y : Known). StopsEvent form answerer arrived y q.machine b image taken) told.known_is
          (subst (λ (y : Answerer M). StopsEvent form y arrived q.known q.machine b image taken) within stop));
    }
stops_next (event.Ended s fault at) within told goes image taken stop = absurd stop
stops_next (event.Closed s rest) within told goes image taken stop = absurd stop

-- The loop with one event more.
pub stops_more : {M : Type 0} {i j l : Stopped} {form : Form} {answerer here : Answerer M} {e : Event} {p q : Progress M} {later : Standing} → here ≡ answerer → Answers form answerer p q → GoesTo q.standing later (e ∷ [])
    → Elapses i j (StopsAlong form answerer p.known p.machine p.standing p.told.desk.said) → Elapses j l (StopsEvent form here e q.known q.machine q.told.desk.said)
    → Elapses i l (StopsAlong form answerer p.known p.machine p.standing p.told.desk.said)
stops_more {form = form} {answerer = answerer} {e = e} {p = p} within told goes before turn =
    Elapses-then (StopsAlong form answerer p.known p.machine p.standing p.told.desk.said) before turn (λ image taken stop. stop) (stops_next e within told goes)

-- ---- the used bytes

-- The machine behind one frame more.
behind_one_more : {M : Type 0} (form : Form) (answerer : Answerer M) (m : M) (es : List Event) (s : ℕ) (f : Frame)
    → answerer.next (sender_at (known_along es (known_in form)) s) f (machine_along answerer es (known_in form) m) ≡ machine_by form answerer m (es ++ Arrived s f ∷ [])
behind_one_more form answerer m es s f =
    sym (machine_then answerer es (Arrived s f ∷ []) (known_in form) m) ∙ machine_from_start form answerer (es ++ Arrived s f ∷ []) m

-- What a stop within a turn finds opens to these machines.
found_by : {M : Type 0} (form : Form) (answerer : Answerer M) (m : M) (es : List Event) (s : ℕ) (f : Frame) (front : List ℕ) (image : Image)
    → answerer.opens image (answerer.next (sender_at (known_along es (known_in form)) s) f (machine_along answerer es (known_in form) m))
    ⊎ ((front ≡ []) × answerer.opens image (machine_along answerer es (known_in form) m))
    → answerer.opens image (machine_by form answerer m (es ++ Arrived s f ∷ [])) ⊎ ((front ≡ []) × answerer.opens image (machine_by form answerer m es))
found_by {M} form answerer m es s f front image (inl after) = inl (subst (λ (y : M). answerer.opens image y) (behind_one_more form answerer m es s f) after)
found_by {M} form answerer m es s f front image (inr before) = inr (before.0, subst (λ (y : M). answerer.opens image y) (machine_from_start form answerer es m) before.1)

-- A stop within the loop over the used bytes is one within the run along their events.
along_found : {M : Type 0} (form : Form) (answerer : Answerer M) (m : M) (used : List ℕ) (said : Option (List ℕ)) (image : Image) (taken : List ℕ)
    → StopsAlong form answerer (known_in form) m (at_start form used) said image taken → StopFinds form answerer m (events_in form used) said image taken
along_found {M} form answerer m used said image taken stop =
    let es : List Event = stop.answered in
    let s : ℕ = stop.session in
    let f : Frame = stop.frame in
    let known : Known = known_along es (known_in form) in
    let machine : M = machine_along answerer es (known_in form) m in
    record {
      answered = es;
      unanswered = events_of stop.mid;
      split = split_so form used stop.mid es stop.goes;
      finds = inr (record {
        session = s;
        frame = f;
        later = events_of stop.later;
        first = next_first stop.mid stop.later (Arrived s f) stop.next;
        reply = reply_by form answerer s f known machine;
        is_reply = next_reply form answerer m machine known es s f refl refl;
        front = stop.turn.front;
        is_front = stop.turn.is_front;
        replies = Took-then said stop.said_mid (Some taken) (joined (replies_to form answerer m es)) stop.turn.front (says_whole form answerer m es said stop.said_mid stop.said_mid refl stop.replies) stop.turn.replies;
        found = found_by form answerer m es s f stop.turn.front image stop.turn.found;
      });
    }

-- So it is with the loop that begins at the start of an input.
stop_found : {M : Type 0} (form : Form) (answerer : Answerer M) (m : M) (used : List ℕ) (k0 : Known) (st0 : Standing) (said : Option (List ℕ)) → k0 ≡ known_in form → st0 ≡ at_start form used
    → (image : Image) (taken : List ℕ) → StopsAlong form answerer k0 m st0 said image taken → StopFinds form answerer m (events_in form used) said image taken
stop_found form answerer m used k0 st0 said known start image taken stop =
    along_found form answerer m used said image taken
    (subst (λ (y : Known). StopsAlong form answerer y m (at_start form used) said image taken) known
    (subst (λ (y : Standing). StopsAlong form answerer k0 m y said image taken) start stop))

pub used_stops : {M : Type 0} {a b : Stopped} (form : Form) (answerer : Answerer M) (m : M) (used : List ℕ) (k0 : Known) (st0 : Standing) (said : Option (List ℕ))
    → k0 ≡ known_in form → st0 ≡ at_start form used → Elapses a b (StopsAlong form answerer k0 m st0 said) → Elapses a b (StopFinds form answerer m (events_in form used) said)
used_stops form answerer m used k0 st0 said known start stops =
    Elapses-weaker (StopFinds form answerer m (events_in form used) said) stops (stop_found form answerer m used k0 st0 said known start)
