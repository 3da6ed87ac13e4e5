-- How the turns of the serving loop make up what comes of the events of an input.
use Rattle.std.specs.Prelude.{Bool, MatchOption, OnOk, Ok, Err}
use Rattle.std.specs.declared.result.Result.{Result}
use Rattle.std.proofs.Common.{◌≡◌, inl, inr, ℕ, ◌<◌, ◌++◌, List, [], ◌∷◌, length, None, Some, refl, sym, ap, ◌∙◌, subst, append-nil, arith}
use Rattle.std.specs.declared.option.Option.{Option}
use Rattle.std.proofs.lemmas.Grind.{flat_map-append}
use Rattle.ziti_outside.specs.Told.{Took, TookFront}
use Rattle.ziti_outside.proofs.Moves.{Took-none, Took-then}
use Rattle.channel_frame.specs.declared.frames.Frame.{Frame}
use Rattle.ctrl_model.specs.declared.kinds.Who.{Who}
use Rattle.serve_loop.specs.Answerers.{Answerer}
use Rattle.session_mux.specs.declared.events.Event.{Event}
use Rattle.session_mux.specs.declared.events.Event.TheVariants.{Arrived}
use Rattle.session_mux.specs.declared.sessions.Form.{Form}
use Rattle.session_mux.specs.Completion.{Standing, events_of, end_of, events_held, events_along, arrivals_of, begins_bad, GoesTo, IsBadAt}
use Rattle.session_mux.specs.MuxSteps.{GivesNone, MayWantMemory}
use Rattle.session_mux.proofs.GoingLaws.{goes_then}
use Rattle.session_mux.proofs.StepLaws.{no_more_input}
use Rattle.serve_loop.specs.declared.serving.Address.{Address}
use Rattle.serve_loop.specs.Answering.{served_at, NotesNothing, Progress, Served, Telling}
use Rattle.run_notes.specs.declared.ends.Cut.{Cut}
use Rattle.run_notes.specs.declared.ends.Cut.TheVariants.{NoMemory, Disk, Unsaid}
use Rattle.serve_loop.specs.AnsweredFrames.{tag}
use Rattle.run_notes.specs.KnownSessions.{count_at, Known, sender_at, known_after, known_along}
use Rattle.serve_loop.specs.KnownReplies.{machine_after, machine_along, reply_by, replies_by, replies_along}
use Rattle.run_notes.specs.Notes.{event_lines, fault_lines}
use Rattle.run_notes.specs.NotesSoFar.{NotesMore}
use Rattle.serve_loop.specs.SaidReplies.{joined}
use Rattle.serve_loop.specs.Turns.{TakesTurn, CutsTurn, TakesEvent, CutsEvent, CutsNext, Answers, IsCutShort, reply_to_frame}
use Rattle.run_notes.specs.Endings.{IsAllGiven, IsStuckAt, ComesToEnd}
use Rattle.run_notes.proofs.KnownLaws.{known_then}
use Rattle.serve_loop.proofs.KnownLaws.{machine_then, replies_then}
use Rattle.run_notes.proofs.NoteLaws.{more_none, more_then, more_left}
use Rattle.ziti_outside.specs.Views.{Seen}

-- ---- a frame

-- A reply that was taken.
pub turn_taken : {bytes reply : List ℕ} (a mid b : Option (List ℕ)) → bytes ≡ reply → mid ≡ a → Took mid b bytes → Took a b reply
turn_taken {reply = reply} a mid b same quiet took = subst (λ (x : Option (List ℕ)). Took x b reply) quiet (subst (λ (x : List ℕ). Took mid b x) same took)

-- A turn of which a front of the reply was taken.
pub turn_cut : {M : Type 0} (answerer : Answerer M) (at : Address) (who : Who) (f : Frame) (before : M) (bytes : List ℕ) (a mid b : Option (List ℕ))
    → bytes ≡ reply_to_frame answerer at who f before → mid ≡ a → TookFront mid b bytes → TookFront a b (reply_to_frame answerer at who f before)
turn_cut answerer at who f before bytes a mid b same quiet took =
    subst (λ (x : Option (List ℕ)). TookFront x b (reply_to_frame answerer at who f before)) quiet (subst (λ (x : List ℕ). TookFront mid b x) same took)

-- The bytes of a reply: its frame behind the tag.
pub reply_behind : {M : Type 0} (answerer : Answerer M) (at : Address) (who : Who) (f : Frame) (m : M) (before bytes : List ℕ)
    → before ≡ tag at.form at.session → bytes ≡ before ++ answerer.reply at.sequence who f m → bytes ≡ reply_to_frame answerer at who f m
reply_behind answerer at who f m before bytes is behind = behind ∙ ap (λ (x : List ℕ). x ++ answerer.reply at.sequence who f m) is

-- A turn that was cut short before its reply was said.
pub turn_unsaid : {M : Type 0} (cut : Cut) (answerer : Answerer M) (at : Address) (who : Who) (f : Frame) (before : M) (a b : Option (List ℕ)) → (cut ≡ Unsaid → ⊥) → b ≡ a → CutsTurn cut answerer at who f before a b
turn_unsaid NoMemory answerer at who f before a b said quiet = quiet
turn_unsaid Disk answerer at who f before a b said quiet = quiet
turn_unsaid Unsaid answerer at who f before a b said quiet = absurd (said refl)

-- ---- an event

-- One reply, joined.
one_joined : (reply : List ℕ) → joined (reply ∷ []) ≡ reply
one_joined reply = append-nil reply

-- The address of the next reply of a session.
abbrev pub address_at : Form → ℕ → Known → Address
address_at form s k = record { form = form; session = s; sequence = count_at k.replied s }

-- The turn of a frame that arrived, with its reply counted.
pub arrived_taken : {M : Type 0} (form : Form) (answerer : Answerer M) (s n : ℕ) (f : Frame) (who : Who) (old new : Served M) → n ≡ count_at old.known.replied s → who ≡ sender_at old.known s
    → new.known ≡ known_after (Arrived s f) old.known → TakesTurn answerer (record { form = form; session = s; sequence = n }) who f old.machine new.machine old.said new.said
    → TakesEvent form answerer (Arrived s f) old new
arrived_taken form answerer s n f who old new count sender known took =
    let turn = subst (λ (w : Who). TakesTurn answerer (address_at form s old.known) w f old.machine new.machine old.said new.said) sender
    (subst (λ (i : ℕ). TakesTurn answerer (record { form = form; session = s; sequence = i }) who f old.machine new.machine old.said new.said) count took) in
    record {
      known_is = known;
      next = turn.next;
      said = subst (λ (l : List ℕ). Took old.said new.said l) (sym (one_joined (reply_by form answerer s f old.known old.machine))) turn.said;
    }

arrived_unsaid : {M : Type 0} (cut : Cut) (form : Form) (answerer : Answerer M) (s : ℕ) (f : Frame) (k : Known) (m : M) (a b : Option (List ℕ))
    → CutsTurn cut answerer (address_at form s k) (sender_at k s) f m a b → CutsEvent cut form answerer (Arrived s f) k m a b
arrived_unsaid NoMemory form answerer s f k m a b cuts = cuts
arrived_unsaid Disk form answerer s f k m a b cuts = (s, f, refl, cuts)
arrived_unsaid Unsaid form answerer s f k m a b cuts = (s, f, refl, cuts)

pub arrived_cut : {M : Type 0} (cut : Cut) (form : Form) (answerer : Answerer M) (s n : ℕ) (f : Frame) (k : Known) (m : M) (who : Who) (a b : Option (List ℕ)) → n ≡ count_at k.replied s → who ≡ sender_at k s
    → CutsTurn cut answerer (record { form = form; session = s; sequence = n }) who f m a b → CutsEvent cut form answerer (Arrived s f) k m a b
arrived_cut cut form answerer s n f k m who a b count sender cuts =
    arrived_unsaid cut form answerer s f k m a b
    (subst (λ (w : Who). CutsTurn cut answerer (address_at form s k) w f m a b) sender
    (subst (λ (i : ℕ). CutsTurn cut answerer (record { form = form; session = s; sequence = i }) who f m a b) count cuts))

-- A frame that arrived has no note of its own.
pub arrived_noted : {T E : Type 0} (r : Result T E) (f : Bool) (a b : Seen) → b.noted ≡ a.noted → b.note_faults ≡ a.note_faults → OnOk r (NotesMore f f [] a b)
arrived_noted (Ok x) f a b q r = more_left f f a b refl q r
arrived_noted (Err e) f a b q r = tt

-- ---- the loop

-- Going nowhere gives nothing.
pub goes_nowhere : (st : Standing) → GoesTo st st []
goes_nowhere st = record { events = λ more. refl; ends = λ more. refl }

-- Nothing was answered at the start.
abbrev pub answers_start : {M : Type 0} (form : Form) (answerer : Answerer M) (p : Progress M) → Answers form answerer p p
answers_start form answerer p = record {
  answered = [];
  goes = goes_nowhere p.standing;
  known_is = refl;
  machine_is = refl;
  said = Took-none p.told.desk.said;
  noted_is = more_none p.told.failed p.told.desk;
}

-- The replies behind one event more.
pub one_more_replies : {M : Type 0} (form : Form) (answerer : Answerer M) (es : List Event) (e : Event) (k : Known) (m : M)
    → joined (replies_along form answerer (es ++ e ∷ []) k m)
    ≡ joined (replies_along form answerer es k m) ++ joined (replies_by form answerer e (known_along es k) (machine_along answerer es k m))
one_more_replies form answerer es e k m =
    let last : List (List ℕ) = replies_by form answerer e (known_along es k) (machine_along answerer es k m) in
    ap joined (replies_then form answerer es (e ∷ []) k m)
    ∙ flat_map-append (λ (x : List ℕ). x) (replies_along form answerer es k m) (last ++ [])
    ∙ ap (λ (rs : List (List ℕ)). joined (replies_along form answerer es k m) ++ joined rs) (append-nil last)

-- The lines of one event more.
pub one_more_lines : (es : List Event) (e : Event) → fault_lines es ++ event_lines e ≡ fault_lines (es ++ e ∷ [])
one_more_lines es e = ap (λ (l : List ℕ). fault_lines es ++ l) (sym (append-nil (event_lines e))) ∙ sym (flat_map-append event_lines es (e ∷ []))

-- One more event, within the same answerer.
abbrev pub answers_more : {M : Type 0} {form : Form} {answerer here : Answerer M} {e : Event} {p q r : Progress M}
    → here ≡ answerer → Answers form answerer p q → GoesTo q.standing r.standing (e ∷ []) → TakesEvent form here e (served_at q) (served_at r)
    → NotesMore q.told.failed r.told.failed (event_lines e) q.told.desk r.told.desk → Answers form answerer p r
answers_more {M} {form} {answerer} {here} {e} {p} {q} {r} within told goes took noted =
    let turn = subst (λ (y : Answerer M). TakesEvent form y e (served_at q) (served_at r)) within took in
    let es : List Event = told.answered in
    let k : Known = p.known in
    let m : M = p.machine in
    let a : Option (List ℕ) = p.told.desk.said in
    let b : Option (List ℕ) = q.told.desk.said in
    let c : Option (List ℕ) = r.told.desk.said in
    let said : Took b c (joined (replies_by form answerer e (known_along es k) (machine_along answerer es k m))) =
    subst (λ (y : Known). Took b c (joined (replies_by form answerer e y (machine_along answerer es k m)))) told.known_is
    (subst (λ (y : M). Took b c (joined (replies_by form answerer e q.known y))) told.machine_is turn.said) in
    record {
      answered = es ++ e ∷ [];
      goes = goes_then p.standing q.standing r.standing es (e ∷ []) told.goes goes;
      known_is = turn.known_is ∙ ap (known_after e) told.known_is ∙ sym (known_then es (e ∷ []) k);
      machine_is =
          turn.next ∙ ap (λ (y : Known). machine_after answerer e y q.machine) told.known_is
          ∙ ap (machine_after answerer e (known_along es k)) told.machine_is ∙ sym (machine_then answerer es (e ∷ []) k m);
      said =
          subst (λ (l : List ℕ). Took a c l) (sym (one_more_replies form answerer es e k m))
          (Took-then a b c (joined (replies_along form answerer es k m)) _ told.said said);
      noted_is = subst (λ (l : List ℕ). NotesMore p.told.failed r.told.failed l p.told.desk r.told.desk) (one_more_lines es e)
          (more_then p.told.failed q.told.failed r.told.failed (fault_lines es) (event_lines e) p.told.desk q.told.desk r.told.desk told.noted_is noted);
    }

-- The standing went on, and gave no event.
abbrev pub answers_still : {M : Type 0} {form : Form} {answerer : Answerer M} {p q : Progress M} {later : Standing} → Answers form answerer p q → GoesTo q.standing later []
    → Answers form answerer p (record { known = q.known; machine = q.machine; standing = later; told = q.told })
answers_still {M} {form} {answerer} {p} {q} {later} told goes = record {
  answered = told.answered;
  goes = subst (λ (es : List Event). GoesTo p.standing later es) (append-nil told.answered) (goes_then p.standing q.standing later told.answered [] told.goes goes);
  known_is = told.known_is;
  machine_is = told.machine_is;
  said = told.said;
  noted_is = told.noted_is;
}

-- What an answer with an event, and one without, says of where the sessions stand.
pub goes_on : (old new : Standing) (answer : Option Event) (e : Event) → answer ≡ Some e → MatchOption answer (GivesNone old new) (λ e. GoesTo old new (e ∷ [])) → GoesTo old new (e ∷ [])
goes_on old new answer e is gives = subst (λ (o : Option Event). MatchOption o (GivesNone old new) (λ e. GoesTo old new (e ∷ []))) is gives

pub gives_none : (old new : Standing) (answer : Option Event) → answer ≡ None → MatchOption answer (GivesNone old new) (λ e. GoesTo old new (e ∷ [])) → GivesNone old new
gives_none old new answer is gives = subst (λ (o : Option Event). MatchOption o (GivesNone old new) (λ e. GoesTo old new (e ∷ []))) is gives

-- ---- where the loop ends

-- An event less is left.
pub fewer_events : (old new : Standing) (e : Event) → GoesTo old new (e ∷ []) → length (events_of new) < length (events_of old)
fewer_events old new e goes =
    let same : events_of old ≡ e ∷ events_of new = ap events_of (sym (no_more_input old)) ∙ goes.events [] ∙ ap (λ (st : Standing). e ∷ events_of st) (no_more_input new) in
    omega (arith, ap length same)

-- What comes of both.
same_events : (old new : Standing) → GoesTo old new [] → events_of new ≡ events_of old
same_events old new goes = sym (ap events_of (sym (no_more_input old)) ∙ goes.events [] ∙ ap events_of (no_more_input new))

pub same_end : (old new : Standing) (es : List Event) → GoesTo old new es → end_of new ≡ end_of old
same_end old new es goes = sym (ap end_of (sym (no_more_input old)) ∙ goes.ends [] ∙ ap end_of (no_more_input new))

none_first : (x y : List Event) → x ++ y ≡ [] → x ≡ []
none_first [] y e = refl
none_first (a ∷ x) y e = absurd cc

pub all_given : (old new : Standing) → GivesNone old new → IsAllGiven new
all_given old new gives =
    let none : events_of new ≡ [] = same_events old new gives.goes ∙ gives.unfinished.none in
    record {
      none = none;
      good = ap begins_bad (same_end old new [] gives.goes) ∙ gives.unfinished.good;
      quiet = none_first (events_held 0 new.sessions) (events_along new.sessions (arrivals_of new)) none;
      moved = gives.moved;
    }

pub stuck_at : (old new : Standing) (at : ℕ) → GoesTo old new [] → IsBadAt old at → IsStuckAt new at
stuck_at old new at goes is = record {
  none = same_events old new goes ∙ ap events_of (sym (no_more_input old)) ∙ is.none [];
  bad = ap begins_bad (same_end old new [] goes) ∙ ap (λ (st : Standing). begins_bad (end_of st)) (sym (no_more_input old)) ∙ is.bad [];
  place = ap (λ (st : Standing). st.before) (same_end old new [] goes) ∙ ap (λ (st : Standing). (end_of st).before) (sym (no_more_input old)) ∙ is.place [];
}

-- ---- where it was cut short

-- The next event was.
next_cut : {M : Type 0} (cut : Cut) (form : Form) (answerer : Answerer M) (e : Event) (q : Progress M) (later : Standing) (m : M) (c : Option (List ℕ)) → GoesTo q.standing later (e ∷ [])
    → CutsEvent cut form answerer e q.known q.machine q.told.desk.said c → (cut ≡ Unsaid → m ≡ machine_after answerer e q.known q.machine) → CutsNext cut form answerer q m c
next_cut NoMemory form answerer e q later m c goes cuts next = (cuts, inl (e, later, goes))
next_cut Disk form answerer e q later m c goes cuts next =
    (cuts.0, cuts.1, later, subst (λ (x : Event). GoesTo q.standing later (x ∷ [])) cuts.2 goes, cuts.3)
next_cut Unsaid form answerer e q later m c goes cuts next =
    (cuts.0, cuts.1, later, subst (λ (x : Event). GoesTo q.standing later (x ∷ [])) cuts.2 goes, cuts.3, next refl ∙ ap (λ (x : Event). machine_after answerer x q.known q.machine) cuts.2)

pub cut_answers : {M : Type 0} {cut : Cut} {form : Form} {answerer here : Answerer M} {e : Event} {p q : Progress M} {later : Standing} {m : M} {now : Telling}
    → here ≡ answerer → Answers form answerer p q → GoesTo q.standing later (e ∷ []) → CutsEvent cut form here e q.known q.machine q.told.desk.said now.desk.said
    → (cut ≡ Unsaid → m ≡ machine_after here e q.known q.machine) → NotesNothing q.told now
    → IsCutShort cut form answerer p m now
cut_answers {M} {cut} {form} {answerer} {here} {e} {p} {q} {later} {m} {now} within told goes cuts next unnoted = record {
  mid = q;
  first = told;
  cuts = next_cut cut form answerer e q later m now.desk.said goes (subst (λ (y : Answerer M). CutsEvent cut form y e q.known q.machine q.told.desk.said now.desk.said) within cuts)
      (λ is. next is ∙ ap (λ (y : Answerer M). machine_after y e q.known q.machine) within);
  unnoted = unnoted;
}

-- For want of memory, before an event was found.
pub starved_answers : {M : Type 0} {form : Form} {answerer : Answerer M} {p q : Progress M} (m : M) → Answers form answerer p q → MayWantMemory q.standing → IsCutShort NoMemory form answerer p m q.told
starved_answers {M} {form} {answerer} {p} {q} m told may = record { mid = q; first = told; cuts = (refl, inr may); unnoted = record { failed = refl; notes = refl; failed_notes = refl } }

-- However the events came to their end, none is left.
pub none_left : (st : Standing) (bad : Option ℕ) → ComesToEnd st bad → events_of st ≡ []
none_left st None end = end.none
none_left st (Some at) end = end.none
