-- How the pieces of an input make it up: what was answered and found of each, one behind the other.
use Rattle.std.specs.Prelude.{Bool, true, false, ◌||◌, map, is_some, IsTrue}
use Rattle.std.proofs.Common.{◌≡◌, ℕ, ◌+◌, ◌-◌, ◌≤◌, ◌⊎◌, inl, List, [], ◌∷◌, ◌++◌, length, take, None, Some, refl, sym, ap, ◌∙◌, subst, append-nil, append_assoc, length-append, arith}
use Rattle.std.proofs.Math.Seq.{take-append-add}
use Rattle.std.proofs.lemmas.List.{take_all, length-take}
use Rattle.std.proofs.lemmas.Bool.{false≢true}
use Rattle.std.proofs.lemmas.Grind.{flat_map-append}
use Rattle.std.specs.List.{list_any}
use Rattle.std.specs.declared.option.Option.{Option}
use Rattle.ziti_outside.specs.Images.{Image}
use Rattle.ziti_outside.specs.Moments.{Elapses}
use Rattle.ziti_outside.specs.Told.{Gave, Took}
use Rattle.ziti_outside.proofs.Moves.{Gave-none, Gave-then, Took-none, Took-then}
use Rattle.ziti_outside.proofs.MomentLaws.{Elapses-none, Elapses-then, Elapses-weaker}
use Rattle.ziti_outside.specs.Views.{Stopped}
use Rattle.serve_loop.specs.Answerers.{Answerer}
use Rattle.session_mux.specs.declared.events.Event.{Event}
use Rattle.session_mux.specs.declared.events.Event.TheVariants.{Arrived}
use Rattle.session_mux.specs.declared.sessions.Form.{Form}
use Rattle.session_mux.specs.declared.sessions.Form.TheVariants.{Plain, Trace}
use Rattle.session_mux.specs.declared.sessions.Session.{Session}
use Rattle.session_mux.specs.Completion.{Standing, start_of, fed, stage_of, tail_in, events_held, events_of, end_of, begins_bad, is_fault, GoesTo}
use Rattle.session_mux.proofs.GoingLaws.{goes_then, plain_ends, trace_ends, plain_moved, trace_moved}
use Rattle.session_mux.proofs.RecordLaws.{tail_within}
use Rattle.session_mux.proofs.StepLaws.{no_more_input}
use Rattle.run_notes.specs.declared.status.Status.{Status}
use Rattle.run_notes.specs.declared.status.Status.TheVariants.{Truncated}
use Rattle.run_notes.specs.Endings.{status_at, ComesToEnd, IsAllGiven}
use Rattle.run_notes.specs.Inputs.{events_in, end_in, is_bad_input, leaves_some}
use Rattle.run_notes.specs.KnownSessions.{Known, known_in, known_along}
use Rattle.run_notes.specs.Notes.{ending_lines, event_lines, fault_lines}
use Rattle.run_notes.specs.NotesSoFar.{NotesMore}
use Rattle.run_notes.proofs.KnownLaws.{known_then, along_faulty}
use Rattle.run_notes.proofs.NoteLaws.{more_none, more_then}
use Rattle.serve_loop.specs.KnownReplies.{machine_along, replies_along}
use Rattle.serve_loop.specs.SaidReplies.{joined}
use Rattle.serve_loop.specs.Reading.{is_decided, StaysNear}
use Rattle.serve_loop.specs.Pieces.{decided_by, AnswersPieces, CutsInput, EndsInput, EndsPieces, EndsSo, Intake, Passage, TakesPieces}
use Rattle.serve_loop.specs.Turns.{Answers, IsCutShort, StopsAlong, StopsEvent}
use Rattle.run_notes.specs.declared.ends.Cut.{Cut}
use Rattle.run_notes.specs.declared.ends.Cut.TheVariants.{NoMemory}
use Rattle.run_notes.specs.declared.ends.End.{End}
use Rattle.run_notes.specs.declared.ends.End.TheVariants.{Whole}
use Rattle.serve_loop.specs.Answering.{begun, NotesNothing, Progress, Telling}
use Rattle.serve_loop.specs.AnsweredFrames.{replies_to}
use Rattle.serve_loop.proofs.KnownLaws.{machine_then, replies_then}
use Rattle.serve_loop.proofs.TurnLaws.{goes_nowhere, none_left}
use Rattle.serve_loop.proofs.UsedLaws.{at_start, all_so, end_so, says_whole, split_so, starved_said, used_answered, used_cut, used_last, used_none, used_starved}
use Rattle.serve_loop.proofs.RunStopLaws.{no_more_behind}

-- ---- more input comes

abbrev with_input : Standing → List ℕ → Standing
with_input st input = record { form = st.form; input = input; before = st.before; sessions = st.sessions }

-- Input that comes in two pieces is their join.
pub fed_twice : (st : Standing) (a b : List ℕ) → fed (fed st a) b ≡ fed st (a ++ b)
fed_twice st a b = ap (with_input st) (append_assoc st.input a b)

-- More input behind both leaves what comes first.
pub goes_fed : (old new : Standing) (es : List Event) (more : List ℕ) → GoesTo old new es → GoesTo (fed old more) (fed new more) es
goes_fed old new es more goes = record {
  events = λ later. ap events_of (fed_twice old more later) ∙ goes.events (more ++ later) ∙ ap (λ (st : Standing). es ++ events_of st) (sym (fed_twice new more later));
  ends = λ later. ap end_of (fed_twice old more later) ∙ goes.ends (more ++ later) ∙ ap end_of (sym (fed_twice new more later));
}

-- ---- some events behind others

two_replies : {M : Type 0} (form : Form) (answerer : Answerer M) (es later : List Event) (k : Known) (m : M)
    → joined (replies_along form answerer (es ++ later) k m)
    ≡ joined (replies_along form answerer es k m) ++ joined (replies_along form answerer later (known_along es k) (machine_along answerer es k m))
two_replies form answerer es later k m =
    ap joined (replies_then form answerer es later k m)
    ∙ flat_map-append (λ (x : List ℕ). x) (replies_along form answerer es k m) (replies_along form answerer later (known_along es k) (machine_along answerer es k m))

-- The replies to the later events, by what is known and the machine behind the first ones.
pub later_said : {M : Type 0} {form : Form} {answerer here : Answerer M} {p q : Progress M} (c : Option (List ℕ)) (later : List Event) → here ≡ answerer → (first : Answers form answerer p q)
    → Took q.told.desk.said c (joined (replies_along form here later q.known q.machine)) → Took p.told.desk.said c (joined (replies_along form answerer (first.answered ++ later) p.known p.machine))
later_said {M} {form} {answerer} {here} {p} {q} c later within first second =
    let es : List Event = first.answered in
    let k : Known = p.known in
    let m : M = p.machine in
    let a : Option (List ℕ) = p.told.desk.said in
    let b : Option (List ℕ) = q.told.desk.said in
    let at : Took b c (joined (replies_along form answerer later (known_along es k) (machine_along answerer es k m))) =
    subst (λ (y : M). Took b c (joined (replies_along form answerer later (known_along es k) y))) first.machine_is
    (subst (λ (y : Known). Took b c (joined (replies_along form answerer later y q.machine))) first.known_is
    (subst (λ (y : Answerer M). Took b c (joined (replies_along form y later q.known q.machine))) within second)) in
    subst (λ (l : List ℕ). Took a c l) (sym (two_replies form answerer es later k m)) (Took-then a b c (joined (replies_along form answerer es k m)) _ first.said at)

-- What is known, and the machine, behind the later ones.
pub later_known : {M : Type 0} {form : Form} {answerer : Answerer M} {p q : Progress M} (later : List Event) → (first : Answers form answerer p q) → known_along later q.known ≡ known_along (first.answered ++ later) p.known
later_known {M} {form} {answerer} {p} {q} later first = ap (known_along later) first.known_is ∙ sym (known_then first.answered later p.known)

pub later_machine : {M : Type 0} {form : Form} {answerer : Answerer M} {p q : Progress M} (later : List Event) → (first : Answers form answerer p q)
    → machine_along answerer later q.known q.machine ≡ machine_along answerer (first.answered ++ later) p.known p.machine
later_machine {M} {form} {answerer} {p} {q} later first =
    ap (λ (y : Known). machine_along answerer later y q.machine) first.known_is
    ∙ ap (machine_along answerer later (known_along first.answered p.known)) first.machine_is
    ∙ sym (machine_then answerer first.answered later p.known p.machine)

abbrev pub answers_then : {M : Type 0} {form : Form} {answerer here : Answerer M} {p q r : Progress M} → here ≡ answerer → Answers form answerer p q → Answers form here q r → Answers form answerer p r
answers_then {M} {form} {answerer} {here} {p} {q} {r} within first later =
    let es : List Event = first.answered in
    let fs : List Event = later.answered in
    record {
      answered = es ++ fs;
      goes = goes_then p.standing q.standing r.standing es fs first.goes later.goes;
      known_is = later.known_is ∙ later_known fs first;
      machine_is = later.machine_is ∙ ap (λ (y : Answerer M). machine_along y fs q.known q.machine) within ∙ later_machine fs first;
      said = later_said r.told.desk.said fs within first later.said;
      noted_is =
          subst (λ (l : List ℕ). NotesMore p.told.failed r.told.failed l p.told.desk r.told.desk) (sym (flat_map-append event_lines es fs))
          (more_then p.told.failed q.told.failed r.told.failed (fault_lines es) (fault_lines fs) p.told.desk q.told.desk r.told.desk first.noted_is later.noted_is);
    }

-- Where the later ones were cut short.
abbrev pub cut_behind : {M : Type 0} {cut : Cut} {form : Form} {answerer : Answerer M} {p q : Progress M} {m : M} {now : Telling} → Answers form answerer p q → IsCutShort cut form answerer q m now → IsCutShort cut form answerer p m now
cut_behind first cuts = record { mid = cuts.mid; first = answers_then refl first cuts.first; cuts = cuts.cuts; unnoted = cuts.unnoted }

-- ---- what a stop finds

-- A stop within some events is one within those of the input with more of it.
stop_fed : {M : Type 0} (form : Form) (answerer : Answerer M) (k : Known) (m : M) (st : Standing) (more : List ℕ) (said : Option (List ℕ)) (image : Image) (taken : List ℕ)
    → StopsAlong form answerer k m st said image taken → StopsAlong form answerer k m (fed st more) said image taken
stop_fed form answerer k m st more said image taken stop = record {
  answered = stop.answered;
  mid = fed stop.mid more;
  goes = goes_fed st stop.mid stop.answered more stop.goes;
  session = stop.session;
  frame = stop.frame;
  later = fed stop.later more;
  next = goes_fed stop.mid stop.later (Arrived stop.session stop.frame ∷ []) more stop.next;
  said_mid = stop.said_mid;
  replies = stop.replies;
  turn = stop.turn;
}

-- A stop within the later events.
stop_behind : {M : Type 0} {form : Form} {answerer here : Answerer M} {p q : Progress M} → here ≡ answerer → Answers form answerer p q
    → (image : Image) (taken : List ℕ) → StopsAlong form here q.known q.machine q.standing q.told.desk.said image taken
    → StopsAlong form answerer p.known p.machine p.standing p.told.desk.said image taken
stop_behind {M} {form} {answerer} {here} {p} {q} within first image taken later =
    let stop = subst (λ (y : Answerer M). StopsAlong form y q.known q.machine q.standing q.told.desk.said image taken) within later in
    let es : List Event = first.answered in
    let fs : List Event = stop.answered in
    let arrived : Event = Arrived stop.session stop.frame in
    record {
      answered = es ++ fs;
      mid = stop.mid;
      goes = goes_then p.standing q.standing stop.mid es fs first.goes stop.goes;
      session = stop.session;
      frame = stop.frame;
      later = stop.later;
      next = stop.next;
      said_mid = stop.said_mid;
      replies = later_said stop.said_mid fs refl first stop.replies;
      turn =
          subst (λ (y : M). StopsEvent form answerer arrived (known_along (es ++ fs) p.known) y stop.said_mid image taken) (later_machine fs first)
          (subst (λ (y : Known). StopsEvent form answerer arrived y (machine_along answerer fs q.known q.machine) stop.said_mid image taken) (later_known fs first) stop.turn);
    }

pub stops_fed : {M : Type 0} {i j : Stopped} (form : Form) (answerer : Answerer M) (k : Known) (m : M) (st : Standing) (more : List ℕ) (said : Option (List ℕ))
    → Elapses i j (StopsAlong form answerer k m st said) → Elapses i j (StopsAlong form answerer k m (fed st more) said)
stops_fed form answerer k m st more said stops = Elapses-weaker (StopsAlong form answerer k m (fed st more) said) stops (stop_fed form answerer k m st more said)

pub stops_behind : {M : Type 0} {i j l : Stopped} {form : Form} {answerer here : Answerer M} {p q : Progress M} → here ≡ answerer → Answers form answerer p q
    → Elapses i j (StopsAlong form answerer p.known p.machine p.standing p.told.desk.said) → Elapses j l (StopsAlong form here q.known q.machine q.standing q.told.desk.said)
    → Elapses i l (StopsAlong form answerer p.known p.machine p.standing p.told.desk.said)
stops_behind {form = form} {answerer = answerer} {p = p} within first before later =
    Elapses-then (StopsAlong form answerer p.known p.machine p.standing p.told.desk.said) before later (λ image taken stop. stop) (stop_behind within first)

-- ---- the start of an input

quiet_start : (form : Form) → events_held 0 (start_of form).sessions ≡ []
quiet_start Plain = refl
quiet_start Trace = refl

-- It gives nothing.
pub start_given : (form : Form) → IsAllGiven (start_of form)
start_given Plain =
    let is = plain_ends 0 (start_of Plain).sessions (quiet_start Plain) in
    record { none = is.none; good = is.good; quiet = quiet_start Plain; moved = plain_moved (start_of Plain).sessions }
start_given Trace =
    let is = trace_ends [] 0 (start_of Trace).sessions refl (quiet_start Trace) in
    record { none = is.none; good = is.good; quiet = quiet_start Trace; moved = trace_moved [] (start_of Trace).sessions refl }

-- No byte of it was taken.
pub no_bytes_used : (form : Form) (most : ℕ) → at_start form (take most []) ≡ start_of form
no_bytes_used form most = ap (at_start form) (take_all most [] (omega arith)) ∙ no_more_input (start_of form)

-- ---- where an input is decided

-- What has no fault is not decided.
pub or_left : (p q : Bool) → (p || q) ≡ false → p ≡ false
or_left true q e = e
or_left false q e = refl

pub or_right : (p q : Bool) → (p || q) ≡ false → q ≡ false
or_right true q e = absurd cc
or_right false q e = e

pub good_undecided : (form : Form) (used : List ℕ) → is_bad_input form used ≡ false → is_decided form used ≡ false
good_undecided Plain used good = or_left (list_any is_fault (events_in Plain used)) (begins_bad (end_in Plain used)) good
good_undecided Trace used good = or_right (list_any is_fault (events_in Trace used)) (begins_bad (end_in Trace used)) good

or_first : (p q : Bool) → p ≡ true → (p || q) ≡ true
or_first true q e = refl
or_first false q e = absurd cc

or_second : (p q : Bool) → q ≡ true → (p || q) ≡ true
or_second true q e = refl
or_second false q e = e

-- What is decided has a fault.
pub decided_bad : (form : Form) (used : List ℕ) → is_decided form used ≡ true → is_bad_input form used ≡ true
decided_bad Plain used is = or_first (list_any is_fault (events_in Plain used)) (begins_bad (end_in Plain used)) is
decided_bad Trace used is = or_second (list_any is_fault (events_in Trace used)) (begins_bad (end_in Trace used)) is

-- A bad record comes where it was found.
found_bad : (st : Standing) (bad : Option ℕ) → ComesToEnd st bad → is_some bad ≡ begins_bad (end_of st)
found_bad st None end = sym end.good
found_bad st (Some at) end = sym end.bad

-- Whether the answered bytes are decided is as the run knows it.
pub decided_so : (form : Form) (used : List ℕ) (st : Standing) (k : Known) (es : List Event) (bad : Option ℕ) → k ≡ known_along es (known_in form) → es ≡ events_in form used → end_of st ≡ end_in form used
    → ComesToEnd st bad → decided_by form bad k.faulty ≡ is_decided form used
decided_so Plain used st k es bad known all ends end = ap (λ (y : Known). y.faulty) known ∙ along_faulty es (known_in Plain) ∙ ap (list_any is_fault) all
decided_so Trace used st k es bad known all ends end = found_bad st bad end ∙ ap begins_bad ends

-- Plain input has no bad record.
plain_unstuck : (used : List ℕ) (st : Standing) → end_of st ≡ end_in Plain used → begins_bad (end_of st) ≡ false
plain_unstuck used st ends = ap begins_bad ends

-- Where they are not decided, all was given.
pub undecided_given : (form : Form) (used : List ℕ) (st : Standing) (bad : Option ℕ) (faulty : Bool) → end_of st ≡ end_in form used → ComesToEnd st bad → decided_by form bad faulty ≡ false → IsAllGiven st
undecided_given Plain used st None faulty ends end going = end
undecided_given Plain used st (Some at) faulty ends end going = absurd (false≢true (sym (plain_unstuck used st ends) ∙ end.bad))
undecided_given Trace used st None faulty ends end going = end
undecided_given Trace used st (Some at) faulty ends end going = absurd cc

-- ---- how much of an input came

all_came : (form : Form) (input : List ℕ) (before : ℕ) (sessions : List Session)
    → before + (length input - length (tail_in form sessions input)) + length (tail_in form sessions input) ≡ before + length input
all_came Plain input before sessions = omega arith
all_came Trace input before sessions = let few = tail_within input (map stage_of sessions) 0 in omega (arith, few)

abbrev came : Standing → ℕ
came st = st.before + length st.input

end_came : (st : Standing) → came (end_of st) ≡ came st
end_came st = all_came st.form st.input st.before st.sessions

came_from_start : (form : Form) (used : List ℕ) → came (at_start form used) ≡ length used
came_from_start Plain used = omega arith
came_from_start Trace used = omega arith

-- As many bytes came as are used.
pub came_so : (form : Form) (used : List ℕ) (st : Standing) (es : List Event) → GoesTo (at_start form used) st es → st.before + length st.input ≡ length used
came_so form used st es goes = sym (end_came st) ∙ ap came (end_so form used st es goes) ∙ end_came (at_start form used) ∙ came_from_start form used

-- ---- the pieces

pub undecided_start : (form : Form) (most : ℕ) → is_decided form (take most []) ≡ false
undecided_start Plain most = ap (λ (st : Standing). list_any is_fault (events_of st)) (no_bytes_used Plain most) ∙ ap (list_any is_fault) (start_given Plain).none
undecided_start Trace most = ap (λ (st : Standing). begins_bad (end_of st)) (no_bytes_used Trace most) ∙ (start_given Trace).good

pub near_none : (form : Form) (most : ℕ) → StaysNear form most [] []
near_none form most = record {
  first = [];
  last = [];
  split = refl;
  piece = omega arith;
  more = [];
  before = append-nil (events_in form (take most [])) ∙ ap events_of (no_bytes_used form most) ∙ (start_given form).none;
  undecided = undecided_start form most;
}

-- Before any of them, nothing was taken.
abbrev pub takes_nothing : {M : Type 0} (i : Intake M) (left : Option (List ℕ)) (told : Telling) (stopped : Stopped) → TakesPieces i (record { left = left; left_now = left; told = told; stopped = stopped; stopped_now = stopped })
takes_nothing i left told stopped = record {
  taken = [];
  gave = Gave-none left;
  few = omega arith;
  stops = λ some tells. Elapses-none stopped (StopsAlong i.form i.answerer (known_in i.form) i.machine (at_start i.form (take i.most [])) told.desk.said);
}

-- Nor was anything answered.
abbrev pub pieces_start : {M : Type 0} (i : Intake M) (left : Option (List ℕ)) (stopped : Stopped) (p : Progress M) → p.known ≡ known_in i.form → p.machine ≡ i.machine → p.standing ≡ start_of i.form
    → AnswersPieces i (record { left = left; left_now = left; told = p.told; stopped = stopped; stopped_now = stopped }) p 0
pieces_start i left stopped p known machine start = record {
  takes = takes_nothing i left p.told stopped;
  counted = refl;
  answers = record {
    answered = [];
    goes = subst (λ (st : Standing). GoesTo (at_start i.form (take i.most [])) st []) (no_bytes_used i.form i.most ∙ sym start) (goes_nowhere (at_start i.form (take i.most [])));
    known_is = known;
    machine_is = machine;
    said = Took-none p.told.desk.said;
    noted_is = more_none p.told.failed p.told.desk;
  };
  undecided = undecided_start i.form i.most;
}

-- Nothing was answered, and memory was wanting.
pub pieces_none : {M : Type 0} (i : Intake M) (left : Option (List ℕ)) (stopped : Stopped) (machine : M) (told : Telling)
    → CutsInput NoMemory i (record { left = left; left_now = left; told = told; stopped = stopped; stopped_now = stopped }) machine told
pieces_none i left stopped machine told = record {
  takes = takes_nothing i left told stopped;
  some = used_none i.form i.answerer i.machine (take i.most []) told machine;
  near = near_none i.form i.most;
}

-- The used bytes with one piece more.
pub two_used : (most count : ℕ) (taken piece part : List ℕ) → length taken ≡ count → count ≤ most → part ≡ take (most - count) piece → take most (taken ++ piece) ≡ take most taken ++ part
two_used most count taken piece part counted le is =
    let whole : most ≡ length taken + (most - count) = omega (arith, counted, le) in
    let few : length taken ≤ most = omega (arith, counted, le) in
    ap (λ (i : ℕ). take i (taken ++ piece)) whole
    ∙ take-append-add taken piece (most - count)
    ∙ ap (λ (later : List ℕ). taken ++ later) (sym is)
    ∙ ap (λ (first : List ℕ). first ++ part) (sym (take_all most taken few))

-- A piece is no longer than the room for it.
pub short_piece : (count : ℕ) (buf : List ℕ) → length buf ≤ 65536 → length (take count buf) ≤ 65536
short_piece count buf few = omega (arith, length-take count buf, few)

-- A piece came, and none of it was answered yet.
pub record FedPieces {M : Type 0} (i : Intake M) (o : Passage) (now : Progress M) (size : ℕ) : Type 0 where
  pub takes : TakesPieces i o
  pub counted : length takes.taken ≡ size
  pub answers : Answers i.form i.answerer (begun i.form i.machine (take i.most takes.taken) o.told) now
  pub near : (later : List Event) → StaysNear i.form i.most takes.taken (answers.answered ++ later)
  pub calm : i.form ≡ Plain → list_any is_fault answers.answered ≡ false

-- What passes outside until more of the source was taken, and until later.
abbrev pub taken_to : Passage → Option (List ℕ) → Passage
taken_to o left = record { left = o.left; left_now = left; told = o.told; stopped = o.stopped; stopped_now = o.stopped_now }

abbrev pub passed_to : Passage → Stopped → Passage
passed_to o stopped = record { left = o.left; left_now = o.left_now; told = o.told; stopped = o.stopped; stopped_now = stopped }

-- Where the answering stands, with the sessions elsewhere.
abbrev pub standing_at : {M : Type 0} → Progress M → Standing → Progress M
standing_at p st = record { known = p.known; machine = p.machine; standing = st; told = p.told }

-- Plain input that is not decided has no fault.
pub undecided_calm : (form : Form) (used : List ℕ) (es : List Event) → is_decided form used ≡ false → es ≡ events_in form used → form ≡ Plain → list_any is_fault es ≡ false
undecided_calm Plain used es going all is = ap (list_any is_fault) all ∙ going
undecided_calm Trace used es going all is = absurd cc

abbrev pub pieces_fed : {M : Type 0} {i : Intake M} {o : Passage} {p : Progress M} {count : ℕ} {left : Option (List ℕ)} {st : Standing} (piece : List ℕ) {part : List ℕ}
    → AnswersPieces i o p count → events_of p.standing ≡ [] → count ≤ i.most → Gave o.left_now left piece → length piece ≤ 65536 → part ≡ take (i.most - count) piece → st ≡ fed p.standing part
    → FedPieces i (taken_to o left) (standing_at p st) (count + length piece)
pieces_fed {M} {i} {o} {p} {count} {left} {st} piece {part} held none le gave few is now =
    let form : Form = i.form in
    let taken : List ℕ = held.takes.taken in
    let used : List ℕ = take i.most taken in
    let start : at_start form (take i.most (taken ++ piece)) ≡ fed (at_start form used) part =
    ap (at_start form) (two_used i.most count taken piece part held.counted le is) ∙ sym (fed_twice (start_of form) used part) in
    let es : List Event = held.answers.answered in
    let all : es ≡ events_in form used = all_so form used p.standing es held.answers.goes none in
    record {
      takes = record {
        taken = taken ++ piece;
        gave = Gave-then o.left o.left_now left taken piece held.takes.gave gave;
        few = omega (arith, length-append taken piece, held.counted, le, few);
        stops = λ some told. subst (λ (y : Standing). Elapses o.stopped o.stopped_now (StopsAlong form i.answerer (known_in form) i.machine y o.told.desk.said)) (sym start)
            (stops_fed form i.answerer (known_in form) i.machine (at_start form used) part o.told.desk.said (held.takes.stops some told));
      };
      counted = omega (arith, length-append taken piece, held.counted);
      answers = record {
        answered = es;
        goes = subst (λ (y : Standing). GoesTo y st es) (sym start) (subst (λ (y : Standing). GoesTo (fed (at_start form used) part) y es) (sym now) (goes_fed (at_start form used) p.standing es part held.answers.goes));
        known_is = held.answers.known_is;
        machine_is = held.answers.machine_is;
        said = held.answers.said;
        noted_is = held.answers.noted_is;
      };
      near = λ later. record { first = taken; last = piece; split = refl; piece = few; more = later; before = ap (λ (first : List Event). first ++ later) (sym all); undecided = held.undecided };
      calm = undecided_calm form used es held.undecided all;
    }

-- No memory was left to hold it.
pub fed_starved : {M : Type 0} {i : Intake M} {o : Passage} {p : Progress M} {size : ℕ} (machine : M) → FedPieces i o p size → CutsInput NoMemory i o machine p.told
fed_starved {M} {i} {o} {p} {size} machine fed =
    let es : List Event = fed.answers.answered in
    record {
      takes = fed.takes;
      some = record {
        answered = es;
        unanswered = events_of p.standing;
        split = split_so i.form (take i.most fed.takes.taken) p.standing es fed.answers.goes;
        said = joined (replies_to i.form i.answerer i.machine es);
        took = says_whole i.form i.answerer i.machine es o.told.desk.said p.told.desk.said p.told.desk.said refl fed.answers.said;
        says = record { same = refl; calm = fed.calm };
        ahead = λ e. absurd (starved_said e);
        noted_is = fed.answers.noted_is;
      };
      near = subst (λ (answered : List Event). StaysNear i.form i.most fed.takes.taken answered) (append-nil es) (fed.near []);
    }

-- What a stop finds while its events are answered, within the answerer of the controller that answers them.
abbrev takes_on : {M : Type 0} {i : Intake M} {o : Passage} {p : Progress M} {size : ℕ} {here : Answerer M} {later : Stopped} → FedPieces i o p size → here ≡ i.answerer
    → (IsTrue i.folder → IsTrue i.tells → Elapses o.stopped_now later (StopsAlong i.form here p.known p.machine p.standing p.told.desk.said)) → TakesPieces i (passed_to o later)
takes_on fed within stops = record {
  taken = fed.takes.taken;
  gave = fed.takes.gave;
  few = fed.takes.few;
  stops = λ some told. stops_behind within fed.answers (fed.takes.stops some told) (stops some told);
}

-- The answering of its events was cut short.
pub fed_cut : {M : Type 0} {by : Cut} {i : Intake M} {o : Passage} {p : Progress M} {size : ℕ} {here : Answerer M} {later : Stopped} {machine : M} {now : Telling} → FedPieces i o p size → here ≡ i.answerer
    → IsCutShort by i.form here p machine now → (IsTrue i.folder → IsTrue i.tells → Elapses o.stopped_now later (StopsAlong i.form here p.known p.machine p.standing p.told.desk.said))
    → CutsInput by i (passed_to o later) machine now
fed_cut {M} {by} {i} {o} {p} {size} {here} {later} {machine} {now} fed within short stops =
    let cuts = subst (λ (y : Answerer M). IsCutShort by i.form y p machine now) within short in
    record { takes = takes_on fed within stops; some = used_cut by i.form i.answerer i.machine (take i.most fed.takes.taken) (cut_behind fed.answers cuts); near = fed.near cuts.first.answered }

-- All its events were answered: the input is not decided and goes on, or it is.
abbrev pub fed_more : {M : Type 0} {i : Intake M} {o : Passage} {p q : Progress M} {here : Answerer M} {later : Stopped} (bad : Option ℕ) {size count : ℕ} → FedPieces i o p size → here ≡ i.answerer
    → Answers i.form here p q → (IsTrue i.folder → IsTrue i.tells → Elapses o.stopped_now later (StopsAlong i.form here p.known p.machine p.standing p.told.desk.said))
    → ComesToEnd q.standing bad → decided_by i.form bad q.known.faulty ≡ false → size ≡ count → AnswersPieces i (passed_to o later) q count
fed_more {M} {i} {o} {p} {q} {here} {later} bad {size} {count} fed within answers stops end going same =
    let used : List ℕ = take i.most fed.takes.taken in
    let told = answers_then within fed.answers answers in
    let all : told.answered ≡ events_in i.form used = all_so i.form used q.standing told.answered told.goes (none_left q.standing bad end) in
    record {
      takes = takes_on fed within stops;
      counted = fed.counted ∙ same;
      answers = told;
      undecided = sym (decided_so i.form used q.standing q.known told.answered bad told.known_is all (end_so i.form used q.standing told.answered told.goes) end) ∙ going;
    }

abbrev pub fed_decided : {M : Type 0} {i : Intake M} {o : Passage} {p q : Progress M} {here : Answerer M} {later : Stopped} (bad : Option ℕ) {size : ℕ} → FedPieces i o p size → here ≡ i.answerer
    → Answers i.form here p q → (IsTrue i.folder → IsTrue i.tells → Elapses o.stopped_now later (StopsAlong i.form here p.known p.machine p.standing p.told.desk.said))
    → ComesToEnd q.standing bad → decided_by i.form bad q.known.faulty ≡ true → EndsPieces i (passed_to o later) q Whole
fed_decided {M} {i} {o} {p} {q} {here} {later} bad {size} fed within answers stops end decided =
    let used : List ℕ = take i.most fed.takes.taken in
    let told = answers_then within fed.answers answers in
    let all : told.answered ≡ events_in i.form used = all_so i.form used q.standing told.answered told.goes (none_left q.standing bad end) in
    record {
      takes = takes_on fed within stops;
      answers = told;
      near = subst (λ (answered : List Event). StaysNear i.form i.most fed.takes.taken answered) all (fed.near answers.answered);
      ends = inl (sym (decided_so i.form used q.standing q.known told.answered bad told.known_is all (end_so i.form used q.standing told.answered told.goes) end) ∙ decided);
    }

-- Where it goes on, all was given.
pub more_given : {M : Type 0} {i : Intake M} {o : Passage} {p : Progress M} (bad : Option ℕ) {count : ℕ} → AnswersPieces i o p count → ComesToEnd p.standing bad → decided_by i.form bad p.known.faulty ≡ false → IsAllGiven p.standing
more_given {M} {i} {o} {p} bad {count} held end going =
    let used : List ℕ = take i.most held.takes.taken in
    undecided_given i.form used p.standing bad p.known.faulty (end_so i.form used p.standing held.answers.answered held.answers.goes) end going

-- No more bytes came than are used.
pub came_few : {M : Type 0} {i : Intake M} {o : Passage} {p : Progress M} {count : ℕ} → AnswersPieces i o p count → p.standing.before + length p.standing.input ≤ count
came_few {M} {i} {o} {p} {count} held =
    let taken : List ℕ = held.takes.taken in
    let used : List ℕ = take i.most taken in
    let all = came_so i.form used p.standing held.answers.answered held.answers.goes in
    let few : length used ≤ length taken = omega (arith, length-take i.most taken) in
    omega (arith, all, few, held.counted)

-- No more of it was taken.
abbrev pub pieces_end : {M : Type 0} {i : Intake M} {o : Passage} {p : Progress M} {end : End} {left : Option (List ℕ)} {count : ℕ} → (held : AnswersPieces i o p count) → Gave o.left left held.takes.taken
    → EndsSo end i.most left held.takes.taken (is_decided i.form (take i.most held.takes.taken)) → EndsPieces i (taken_to o left) p end
pieces_end {M} {i} {o} {p} {end} {left} {count} held gave ends = record {
  takes = record { taken = held.takes.taken; gave = gave; few = held.takes.few; stops = held.takes.stops };
  answers = held.answers;
  near = record {
    first = held.takes.taken;
    last = [];
    split = append-nil held.takes.taken;
    piece = omega arith;
    more = [];
    before = append-nil (events_in i.form (take i.most held.takes.taken));
    undecided = held.undecided;
  };
  ends = ends;
}

-- ---- the ending is told

-- The notes behind the answering leave a stop nothing more to find.
abbrev takes_still : {M : Type 0} {i : Intake M} {o : Passage} {later : Stopped} → TakesPieces i o → Elapses o.stopped_now later (λ image taken. ⊥) → TakesPieces i (passed_to o later)
takes_still {M} {i} {o} {later} takes noted = record {
  taken = takes.taken;
  gave = takes.gave;
  few = takes.few;
  stops = λ some told. no_more_behind (StopsAlong i.form i.answerer (known_in i.form) i.machine (at_start i.form (take i.most takes.taken)) o.told.desk.said) (takes.stops some told) noted;
}

-- Where all events were answered, and the ending was told.
abbrev pub input_ends : {M : Type 0} {i : Intake M} {o : Passage} {p : Progress M} {m : M} {later : Stopped} {now : Telling} (end : End) (bad : Option ℕ) (status : Status)
    → m ≡ p.machine → EndsPieces i o p end → ComesToEnd p.standing bad → Elapses o.stopped_now later (λ image taken. ⊥) → now.desk.said ≡ p.told.desk.said
    → status ≡ status_at (p.known.faulty || begins_bad (end_of p.standing)) (leaves_some (end_of p.standing) p.known.closed) end
    → NotesMore p.told.failed now.failed (ending_lines (end_of p.standing) p.known.closed status) p.told.desk now.desk
    → EndsInput status i (passed_to o later) m now
input_ends {M} {i} {o} {p} {m} {later} {now} end bad status same told comes quiet still is noted =
    let none : events_of p.standing ≡ [] = none_left p.standing bad comes in
    record {
      takes = takes_still told.takes quiet;
      end = end;
      all = used_answered i.form i.answerer i.machine (take i.most told.takes.taken) end status {now = now} told.answers none still is noted;
      near = told.near;
      ends = told.ends;
      last = same ∙ used_last i.form i.answerer i.machine (take i.most told.takes.taken) told.answers none;
    }

-- Where memory was wanting to tell it.
pub input_starved : {M : Type 0} {i : Intake M} {o : Passage} {p : Progress M} {later : Stopped} {now : Telling} (end : End) (bad : Option ℕ) (machine : M)
    → EndsPieces i o p end → ComesToEnd p.standing bad → Elapses o.stopped_now later (λ image taken. ⊥)
    → (begins_bad (end_of p.standing) ≡ true) ⊎ (status_at p.known.faulty (leaves_some (end_of p.standing) p.known.closed) end ≡ Truncated) → now.desk.said ≡ p.told.desk.said
    → NotesNothing p.told now → CutsInput NoMemory i (passed_to o later) machine now
input_starved {M} {i} {o} {p} {later} {now} end bad machine told comes quiet why still none =
    let used : List ℕ = take i.most told.takes.taken in
    let all : told.answers.answered ≡ events_in i.form used = all_so i.form used p.standing told.answers.answered told.answers.goes (none_left p.standing bad comes) in
    record {
      takes = takes_still told.takes quiet;
      some = used_starved i.form i.answerer i.machine used end machine {now = now} told.answers why still none;
      near = subst (λ (answered : List Event). StaysNear i.form i.most told.takes.taken answered) (sym all) told.near;
    }
