-- What comes of the used bytes of an input: of all their events, or of the first ones where the answering was cut short.
use Rattle.std.specs.Prelude.{Bool, true, false, ◌||◌}
use Rattle.std.proofs.lemmas.Bool.{false_from_ne_true, true≢false}
use Rattle.std.proofs.Common.{◌≡◌, ◌⊎◌, inl, inr, ℕ, ◌++◌, List, [], ◌∷◌, refl, sym, ap, ◌∙◌, subst, append-nil}
use Rattle.std.specs.List.{list_any}
use Rattle.std.specs.declared.option.Option.{Option}
use Rattle.ziti_outside.specs.Told.{Took}
use Rattle.ziti_outside.proofs.Moves.{Took-none, Took-then}
use Rattle.channel_frame.specs.declared.frames.Frame.{Frame}
use Rattle.serve_loop.specs.Answerers.{Answerer}
use Rattle.session_mux.specs.declared.events.Event.{Event}
use Rattle.session_mux.specs.declared.events.Event.TheVariants.{Arrived}
use Rattle.session_mux.specs.declared.sessions.Form.{Form}
use Rattle.session_mux.specs.Completion.{Standing, start_of, fed, events_of, end_of, begins_bad, GoesTo}
use Rattle.session_mux.specs.declared.sessions.Form.TheVariants.{Plain}
use Rattle.session_mux.specs.MuxSteps.{MayWantMemory}
use Rattle.session_mux.proofs.FaultLaws.{given_fault, no_fault_given}
use Rattle.session_mux.proofs.StepLaws.{no_more_input}
use Rattle.run_notes.specs.declared.ends.End.{End}
use Rattle.run_notes.specs.declared.ends.End.TheVariants.{Whole, More, Fault}
use Rattle.run_notes.specs.declared.ends.Cut.{Cut}
use Rattle.run_notes.specs.declared.ends.Cut.TheVariants.{NoMemory, Disk, Unsaid}
use Rattle.run_notes.specs.declared.status.Status.{Status}
use Rattle.run_notes.specs.declared.status.Status.TheVariants.{Truncated}
use Rattle.serve_loop.specs.SaidReplies.{joined}
use Rattle.serve_loop.specs.AnsweredFrames.{machine_behind, replies_to, last_machine}
use Rattle.run_notes.specs.Inputs.{events_in, end_in, frames_in, is_fault, closed_rests, leaves_some, no_counts, rests_along}
use Rattle.run_notes.specs.KnownSessions.{Known, known_in, known_along}
use Rattle.serve_loop.specs.KnownReplies.{machine_after, machine_along, reply_by, replies_along}
use Rattle.run_notes.specs.Notes.{ending_lines, fault_lines}
use Rattle.run_notes.specs.NotesSoFar.{NotesMore}
use Rattle.serve_loop.specs.Answering.{begun, NotesNothing, Progress, Telling}
use Rattle.serve_loop.specs.Turns.{Answers, AnswersAll, AnswersSome, CutsNext, HasNext, IsCutShort, SaysCut}
use Rattle.run_notes.specs.Endings.{status_at}
use Rattle.serve_loop.specs.UnsaidReplies.{IsOneAhead}
use Rattle.serve_loop.proofs.KnownLaws.{machine_then, replies_then, replies_from_start, machine_from_start}
use Rattle.run_notes.proofs.KnownLaws.{along_closed, along_faulty}
use Rattle.run_notes.proofs.NoteLaws.{more_none, more_still, more_then}

-- The used bytes before any event.
abbrev pub at_start : Form → List ℕ → Standing
at_start form used = fed (start_of form) used

-- The answered events and those that are left are all.
pub split_so : (form : Form) (used : List ℕ) (st : Standing) (es : List Event) → GoesTo (at_start form used) st es → es ++ events_of st ≡ events_in form used
split_so form used st es goes =
    sym (ap events_of (sym (no_more_input (at_start form used))) ∙ goes.events [] ∙ ap (λ (x : Standing). es ++ events_of x) (no_more_input st))

-- Where none is left they are all.
pub all_so : (form : Form) (used : List ℕ) (st : Standing) (es : List Event) → GoesTo (at_start form used) st es → events_of st ≡ [] → es ≡ events_in form used
all_so form used st es goes none = sym (append-nil es) ∙ ap (λ (l : List Event). es ++ l) (sym none) ∙ split_so form used st es goes

pub end_so : (form : Form) (used : List ℕ) (st : Standing) (es : List Event) → GoesTo (at_start form used) st es → end_of st ≡ end_in form used
end_so form used st es goes = sym (ap end_of (sym (no_more_input (at_start form used))) ∙ goes.ends [] ∙ ap end_of (no_more_input st))

-- ---- all of them

-- The replies are all replies.
all_said : {M : Type 0} (form : Form) (answerer : Answerer M) (m : M) (used : List ℕ) (es : List Event) → es ≡ events_in form used
    → joined (replies_along form answerer es (known_in form) m) ≡ joined (replies_to form answerer m (events_in form used))
all_said form answerer m used es all = ap joined (replies_from_start form answerer es m) ∙ ap (λ (l : List Event). joined (replies_to form answerer m l)) all

-- The status is that of the input.
all_ends : (form : Form) (used : List ℕ) (st : Standing) (k : Known) (es : List Event) (end : End) → k ≡ known_along es (known_in form) → es ≡ events_in form used → end_of st ≡ end_in form used
    → status_at (k.faulty || begins_bad (end_of st)) (leaves_some (end_of st) k.closed) end
    ≡ status_at (list_any is_fault (events_in form used) || begins_bad (end_in form used)) (leaves_some (end_in form used) (closed_rests form used)) end
all_ends form used st k es end known all ends =
    let faulty : k.faulty ≡ list_any is_fault (events_in form used) = ap (λ (x : Known). x.faulty) known ∙ along_faulty es (known_in form) ∙ ap (list_any is_fault) all in
    let closed : k.closed ≡ closed_rests form used = ap (λ (x : Known). x.closed) known ∙ along_closed es (known_in form) ∙ ap (λ (l : List Event). rests_along l no_counts) all in
    ap (λ (b : Bool). status_at (b || begins_bad (end_of st)) (leaves_some (end_of st) k.closed) end) faulty
    ∙ ap (λ (x : Standing). status_at (list_any is_fault (events_in form used) || begins_bad x) (leaves_some x k.closed) end) ends
    ∙ ap (λ (l : List ℕ). status_at (list_any is_fault (events_in form used) || begins_bad (end_in form used)) (leaves_some (end_in form used) l) end) closed

-- The lines are those of the input.
all_lines : (form : Form) (used : List ℕ) (st : Standing) (k : Known) (es : List Event) (status : Status) → k ≡ known_along es (known_in form) → es ≡ events_in form used → end_of st ≡ end_in form used
    → fault_lines es ++ ending_lines (end_of st) k.closed status ≡ fault_lines (events_in form used) ++ ending_lines (end_in form used) (closed_rests form used) status
all_lines form used st k es status known all ends =
    let closed : k.closed ≡ closed_rests form used = ap (λ (x : Known). x.closed) known ∙ along_closed es (known_in form) ∙ ap (λ (l : List Event). rests_along l no_counts) all in
    ap (λ (l : List Event). fault_lines l ++ ending_lines (end_of st) k.closed status) all
    ∙ ap (λ (x : Standing). fault_lines (events_in form used) ++ ending_lines x k.closed status) ends
    ∙ ap (λ (l : List ℕ). fault_lines (events_in form used) ++ ending_lines (end_in form used) l status) closed

-- The events of the input were answered, and its ending was told.
pub used_answered : {M : Type 0} (form : Form) (answerer : Answerer M) (m : M) (used : List ℕ) (end : End) (status : Status) {old now : Telling} {q : Progress M}
    → Answers form answerer (begun form m used old) q → events_of q.standing ≡ [] → now.desk.said ≡ q.told.desk.said
    → status ≡ status_at (q.known.faulty || begins_bad (end_of q.standing)) (leaves_some (end_of q.standing) q.known.closed) end
    → NotesMore q.told.failed now.failed (ending_lines (end_of q.standing) q.known.closed status) q.told.desk now.desk → AnswersAll form answerer m used end status old now
used_answered form answerer m used end status {old} {now} {q} told none still ended noted =
    let es : List Event = told.answered in
    let st : Standing = q.standing in
    let all : es ≡ events_in form used = all_so form used st es told.goes none in
    let ends : end_of st ≡ end_in form used = end_so form used st es told.goes in
    record {
      said =
          subst (λ (y : Option (List ℕ)). Took old.desk.said y (joined (replies_to form answerer m (events_in form used)))) (sym still)
          (subst (λ (l : List ℕ). Took old.desk.said q.told.desk.said l) (all_said form answerer m used es all) told.said);
      ends = ended ∙ all_ends form used st q.known es end told.known_is all ends;
      noted_is =
          subst (λ (l : List ℕ). NotesMore old.failed now.failed l old.desk now.desk) (all_lines form used st q.known es status told.known_is all ends)
          (more_then old.failed q.told.failed now.failed (fault_lines es) (ending_lines (end_of st) q.known.closed status) old.desk q.told.desk now.desk told.noted_is noted);
    }

-- And the machine is the last one.
pub used_last : {M : Type 0} (form : Form) (answerer : Answerer M) (m : M) (used : List ℕ) {old : Telling} {q : Progress M}
    → Answers form answerer (begun form m used old) q → events_of q.standing ≡ [] → q.machine ≡ last_machine form answerer m used
used_last form answerer m used {old} {q} told none =
    told.machine_is ∙ machine_from_start form answerer told.answered m
    ∙ ap (λ (l : List Event). machine_behind answerer m (frames_in form l)) (all_so form used q.standing told.answered told.goes none)

-- ---- the first of them

-- The event that is next is the first of those that are left.
pub next_first : (st later : Standing) (e : Event) → GoesTo st later (e ∷ []) → events_of st ≡ e ∷ events_of later
next_first st later e goes = ap events_of (sym (no_more_input st)) ∙ goes.events [] ∙ ap (λ (y : Standing). e ∷ events_of y) (no_more_input later)

-- Plain input has no fault among its first events where another event is next.
none_before : (used : List ℕ) (st : Standing) (es : List Event) → GoesTo (at_start Plain used) st es → HasNext st → list_any is_fault es ≡ true → ⊥
none_before used st es goes next told =
    let some : events_of st ≡ next.0 ∷ events_of next.1 = next_first st next.1 next.0 next.2 in
    let none : events_of st ≡ [] = (given_fault used st es goes told).0 in
    cc

-- Nor where memory may be wanted.
starved_calm : (used : List ℕ) (st : Standing) (es : List Event) → GoesTo (at_start Plain used) st es → HasNext st ⊎ MayWantMemory st → list_any is_fault es ≡ false
starved_calm used st es goes (inl next) = false_from_ne_true (list_any is_fault es) (none_before used st es goes next)
starved_calm used st es goes (inr may) = no_fault_given used st es goes (may.plain (ap (λ (x : Standing). x.form) (end_so Plain used st es goes)))

pub so_calm : (form : Form) (used : List ℕ) (st : Standing) (es : List Event) → GoesTo (at_start form used) st es → HasNext st ⊎ MayWantMemory st → form ≡ Plain → list_any is_fault es ≡ false
so_calm form used st es goes why is = starved_calm used st es (subst (λ (f : Form). GoesTo (at_start f used) st es) is goes) why

-- Want of memory is no failed say.
pub starved_said : NoMemory ≡ Unsaid → ⊥
starved_said e = cc

-- Nothing was answered.
abbrev pub used_none : {M : Type 0} (form : Form) (answerer : Answerer M) (m : M) (used : List ℕ) (told : Telling) (now : M) → AnswersSome NoMemory form answerer m used told now told
used_none form answerer m used told now = record {
  answered = [];
  unanswered = events_in form used;
  split = refl;
  said = [];
  took = Took-none told.desk.said;
  says = record { same = refl; calm = λ _. refl };
  ahead = λ e. absurd (starved_said e);
  noted_is = more_none told.failed told.desk;
}

-- What was said of the next reply.
pub record SaysSo {M : Type 0} (cut : Cut) (form : Form) (answerer : Answerer M) (m : M) (a c : Option (List ℕ)) (answered unanswered : List Event) : Type 0 where
  pub said : List ℕ
  pub took : Took a c said
  pub says : SaysCut cut form answerer m said answered unanswered

pub says_whole : {M : Type 0} (form : Form) (answerer : Answerer M) (m : M) (es : List Event) (a b c : Option (List ℕ)) → c ≡ b → Took a b (joined (replies_along form answerer es (known_in form) m))
    → Took a c (joined (replies_to form answerer m es))
says_whole form answerer m es a b c still took =
    subst (λ (y : Option (List ℕ)). Took a y (joined (replies_to form answerer m es))) (sym still)
    (subst (λ (rs : List (List ℕ)). Took a b (joined rs)) (replies_from_start form answerer es m) took)

-- The reply to the next event is the next one.
pub next_reply : {M : Type 0} (form : Form) (answerer : Answerer M) (m m1 : M) (k : Known) (es : List Event) (s : ℕ) (f : Frame) → k ≡ known_along es (known_in form) → m1 ≡ machine_along answerer es (known_in form) m
    → replies_to form answerer m (es ++ Arrived s f ∷ []) ≡ replies_to form answerer m es ++ reply_by form answerer s f k m1 ∷ []
next_reply {M} form answerer m m1 k es s f known same =
    sym (replies_from_start form answerer (es ++ Arrived s f ∷ []) m)
    ∙ replies_then form answerer es (Arrived s f ∷ []) (known_in form) m
    ∙ ap (λ (rs : List (List ℕ)). rs ++ reply_by form answerer s f (known_along es (known_in form)) (machine_along answerer es (known_in form) m) ∷ []) (replies_from_start form answerer es m)
    ∙ ap (λ (y : Known). replies_to form answerer m es ++ reply_by form answerer s f y (machine_along answerer es (known_in form) m) ∷ []) (sym known)
    ∙ ap (λ (y : M). replies_to form answerer m es ++ reply_by form answerer s f k y ∷ []) (sym same)

pub says_so : {M : Type 0} (cut : Cut) (form : Form) (answerer : Answerer M) (m : M) (used : List ℕ) {old : Telling} {q : Progress M} (now : M) {c : Option (List ℕ)}
    → (told : Answers form answerer (begun form m used old) q) → CutsNext cut form answerer q now c
    → SaysSo cut form answerer m old.desk.said c told.answered (events_of q.standing)
says_so NoMemory form answerer m used {old} {q} now {c} told cuts =
    let es : List Event = told.answered in
    record {
      said = joined (replies_to form answerer m es);
      took = says_whole form answerer m es old.desk.said q.told.desk.said c cuts.0 told.said;
      says = record { same = refl; calm = so_calm form used q.standing es told.goes cuts.1 };
    }
says_so Disk form answerer m used {old} {q} now {c} told cuts =
    let es : List Event = told.answered in
    record {
      said = joined (replies_to form answerer m es);
      took = says_whole form answerer m es old.desk.said q.told.desk.said c cuts.4 told.said;
      says = record { session = cuts.0; frame = cuts.1; later = events_of cuts.2; first = next_first q.standing cuts.2 (Arrived cuts.0 cuts.1) cuts.3; same = refl };
    }
says_so Unsaid form answerer m used {old} {q} now {c} told cuts =
    let es : List Event = told.answered in
    let s : ℕ = cuts.0 in
    let f : Frame = cuts.1 in
    let part = cuts.4 in
    let a : Option (List ℕ) = old.desk.said in
    let b : Option (List ℕ) = q.told.desk.said in
    record {
      said = joined (replies_to form answerer m es) ++ part.0;
      took = Took-then a b c (joined (replies_to form answerer m es)) part.0 (says_whole form answerer m es a b b refl told.said) part.2;
      says = record {
        session = s;
        frame = f;
        later = events_of cuts.2;
        first = next_first q.standing cuts.2 (Arrived s f) cuts.3;
        reply = reply_by form answerer s f q.known q.machine;
        is_reply = next_reply form answerer m q.machine q.known es s f told.known_is told.machine_is;
        front = part.0;
        is_front = part.1;
        same = refl;
      };
    }

-- Where it was not taken whole, the machine is one frame ahead.
pub one_ahead : {M : Type 0} (cut : Cut) (form : Form) (answerer : Answerer M) (m : M) (used : List ℕ) {old : Telling} {q : Progress M} {now : M} (c : Option (List ℕ))
    → (told : Answers form answerer (begun form m used old) q) → CutsNext cut form answerer q now c → cut ≡ Unsaid → IsOneAhead form answerer m told.answered (events_of q.standing) now
one_ahead NoMemory form answerer m used c told cuts is = absurd cc
one_ahead Disk form answerer m used c told cuts is = absurd cc
one_ahead Unsaid form answerer m used {old} {q} {now} c told cuts is =
    let es : List Event = told.answered in
    let e : Event = Arrived cuts.0 cuts.1 in
    record {
      session = cuts.0;
      frame = cuts.1;
      later = events_of cuts.2;
      first = next_first q.standing cuts.2 e cuts.3;
      behind =
          cuts.5 ∙ ap (λ (k : Known). machine_after answerer e k q.machine) told.known_is ∙ ap (machine_after answerer e (known_along es (known_in form))) told.machine_is
          ∙ sym (machine_then answerer es (e ∷ []) (known_in form) m) ∙ machine_from_start form answerer (es ++ e ∷ []) m;
    }

-- What was noted was noted still, where nothing was noted since.
pub noted_behind : (old : Telling) {mid now : Telling} (lines : List ℕ) → NotesNothing mid now → NotesMore old.failed mid.failed lines old.desk mid.desk → NotesMore old.failed now.failed lines old.desk now.desk
noted_behind old {mid} {now} lines none more =
    subst (λ (g : Bool). NotesMore old.failed g lines old.desk now.desk) (sym none.failed) (more_still old.failed mid.failed lines old.desk mid.desk now.desk none.notes none.failed_notes more)

-- The next event was cut short.
abbrev pub used_cut : {M : Type 0} (cut : Cut) (form : Form) (answerer : Answerer M) (m : M) (used : List ℕ) {old now : Telling} {machine : M}
    → IsCutShort cut form answerer (begun form m used old) machine now → AnswersSome cut form answerer m used old machine now
used_cut cut form answerer m used {old} {now} {machine} told =
    let es : List Event = told.first.answered in
    let says = says_so cut form answerer m used machine {c = now.desk.said} told.first told.cuts in
    record {
      answered = es;
      unanswered = events_of told.mid.standing;
      split = split_so form used told.mid.standing es told.first.goes;
      said = says.said;
      took = says.took;
      says = says.says;
      ahead = one_ahead cut form answerer m used now.desk.said told.first told.cuts;
      noted_is = noted_behind old (fault_lines es) told.unnoted told.first.noted_is;
    }

-- A run that is truncated has met no fault.
truncated_calm : (bad rest : Bool) (end : End) → status_at bad rest end ≡ Truncated → bad ≡ false
truncated_calm true rest Whole e = absurd cc
truncated_calm true rest More e = absurd cc
truncated_calm true rest Fault e = absurd cc
truncated_calm false rest end e = refl

-- So plain input has none where memory was wanted to tell how it ended.
ending_calm : (used : List ℕ) (st : Standing) (k : Known) (es : List Event) (end : End) → GoesTo (at_start Plain used) st es → k ≡ known_along es (known_in Plain)
    → (begins_bad (end_of st) ≡ true) ⊎ (status_at k.faulty (leaves_some (end_of st) k.closed) end ≡ Truncated) → list_any is_fault es ≡ false
ending_calm used st k es end goes known (inl bad) = absurd (true≢false (sym bad ∙ ap begins_bad (end_so Plain used st es goes)))
ending_calm used st k es end goes known (inr truncated) =
    sym (ap (λ (x : Known). x.faulty) known ∙ along_faulty es (known_in Plain)) ∙ truncated_calm k.faulty (leaves_some (end_of st) k.closed) end truncated

pub told_calm : (form : Form) (used : List ℕ) (st : Standing) (k : Known) (es : List Event) (end : End) → GoesTo (at_start form used) st es → k ≡ known_along es (known_in form)
    → (begins_bad (end_of st) ≡ true) ⊎ (status_at k.faulty (leaves_some (end_of st) k.closed) end ≡ Truncated) → form ≡ Plain → list_any is_fault es ≡ false
told_calm form used st k es end goes known why is =
    ending_calm used st k es end (subst (λ (f : Form). GoesTo (at_start f used) st es) is goes) (subst (λ (f : Form). k ≡ known_along es (known_in f)) is known) why

-- For want of memory behind them, to tell how the run ended, where nothing more was said.
abbrev pub used_starved : {M : Type 0} (form : Form) (answerer : Answerer M) (m : M) (used : List ℕ) (end : End) (machine : M) {old now : Telling} {q : Progress M}
    → Answers form answerer (begun form m used old) q
    → (begins_bad (end_of q.standing) ≡ true) ⊎ (status_at q.known.faulty (leaves_some (end_of q.standing) q.known.closed) end ≡ Truncated) → now.desk.said ≡ q.told.desk.said
    → NotesNothing q.told now → AnswersSome NoMemory form answerer m used old machine now
used_starved form answerer m used end machine {old} {now} {q} told why still none = record {
  answered = told.answered;
  unanswered = events_of q.standing;
  split = split_so form used q.standing told.answered told.goes;
  said = joined (replies_to form answerer m told.answered);
  took = says_whole form answerer m told.answered old.desk.said q.told.desk.said now.desk.said still told.said;
  says = record { same = refl; calm = told_calm form used q.standing q.known told.answered end told.goes told.known_is why };
  ahead = λ e. absurd (starved_said e);
  noted_is = noted_behind old (fault_lines told.answered) none told.noted_is;
}
