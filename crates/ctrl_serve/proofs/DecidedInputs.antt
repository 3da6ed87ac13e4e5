-- What comes behind the bytes that decide an input decides nothing more.
use Rattle.std.specs.Prelude.{true, Bool, map}
use Rattle.std.specs.List.{list_any}
use Rattle.std.proofs.Common.{◌≡◌, ℕ, zero, suc, ◌-◌, List, [], ◌∷◌, ◌++◌, Option, None, Some, refl, sym, ap, ◌∙◌, append-nil}
use Rattle.channel_frame.specs.declared.frames.Frame.{Frame}
use Rattle.channel_frame.specs.declared.frames.FrameFault.{FrameFault}
use Rattle.channel_frame.specs.StreamReading.{frames_of}
use Rattle.channel_frame.specs.SessionBytes.{SessionBytes, with_more, settled, placed, fault_held}
use Rattle.ctrl_model.specs.declared.kinds.Who.TheVariants.{Admin}
use Rattle.session_mux.specs.declared.events.Event.{Event}
use Rattle.session_mux.specs.declared.events.Event.TheVariants as event
use Rattle.session_mux.specs.declared.sessions.Form.{Form}
use Rattle.session_mux.specs.declared.sessions.Form.TheVariants.{Plain, Trace}
use Rattle.session_mux.specs.declared.sessions.Session.{Session}
use Rattle.session_mux.specs.declared.sessions.Session.TheVariants as session
use Rattle.session_mux.specs.declared.sessions.Stage.{Stage}
use Rattle.session_mux.specs.Arrivals.{Arrival, RecordFront, Unfinished, Bad, Whole, record_front, records_past, records_of, and_then_records, and_then_tail, tail_past, tail_of, is_bad, stages_after, stages_along}
use Rattle.session_mux.specs.Completion.{Standing, start_of, bytes_events, ended, events_of, end_of, begins_bad, is_fault, events_held, events_along, sessions_along, sessions_after, settled_session, stage_of}
use Rattle.session_mux.proofs.EventLaws.{events_met, held_fault, more_events, stage_settled}
use Rattle.session_mux.proofs.FaultLaws.{all_of, plain_events}
use Rattle.session_mux.proofs.GoingLaws.{stages_read}
use Rattle.session_mux.proofs.RecordLaws.{record_stays}
use Rattle.run_notes.specs.declared.status.Status.TheVariants.{BadInput}
use Rattle.run_notes.specs.Endings.{ending, ending_at}
use Rattle.run_notes.specs.Inputs.{events_in, has_rest}
use Rattle.ctrl_serve.specs.Reading.{is_decided}
use Rattle.serve_loop.proofs.PieceLaws.{decided_bad}

-- ---- plain input

-- Where a fault is among the events of a session, it has one.
told_fault : (fs : List Frame) (o : Option (FrameFault × ℕ)) → list_any is_fault (map (event.Arrived 0) fs ++ ended 0 o) ≡ true → o ≡ None → ⊥
told_fault [] None told none = absurd cc
told_fault [] (Some f) told none = cc
told_fault (f ∷ fs) o told none = told_fault fs o told none

met_fault : (o : Option FrameFault) (at : ℕ) → (placed o at ≡ None → ⊥) → (e : FrameFault) × (o ≡ Some e)
met_fault None at some = absurd (some refl)
met_fault (Some e) at some = (e, refl)

-- More bytes of a session that has met its fault give no event.
pub plain_decided : (used more : List ℕ) → is_decided Plain used ≡ true → events_in Plain (used ++ more) ≡ events_in Plain used
plain_decided used more is =
    let all : SessionBytes = all_of used in
    let left : SessionBytes = settled all in
    let some = told_fault (frames_of used) (fault_held all) (ap (list_any is_fault) (sym (plain_events used)) ∙ is) in
    let met = met_fault left.fault left.given some in
    let quiet : bytes_events 0 (with_more left more) ≡ [] = events_met 0 (with_more left more) met.0 (held_fault left.given left.held left.fault more ∙ met.1) in
    plain_events (used ++ more)
    ∙ more_events 0 (session.Open Admin all) more
    ∙ ap (λ (later : List Event). bytes_events 0 all ++ later) quiet
    ∙ append-nil (bytes_events 0 all)
    ∙ sym (plain_events used)

-- ---- a trace

-- The records before a bad one, and its place, stay whatever comes.
abbrev Stops : (bytes more : List ℕ) (stages : List Stage) (n : ℕ) → Type 0
Stops bytes more stages n = (records_past (bytes ++ more) stages n ≡ records_past bytes stages n) × (tail_past (bytes ++ more) stages n ≡ tail_past bytes stages n ++ more)

abbrev EndsBad : (bytes : List ℕ) (stages : List Stage) (n : ℕ) → Type 0
EndsBad bytes stages n = record_front (stages_along stages (records_past bytes stages n)) (tail_past bytes stages n) ≡ Bad

front_stops : (b : ℕ) (bytes more : List ℕ) (stages : List Stage) (at : RecordFront) → record_front stages (b ∷ bytes) ≡ at
    → ((later : List Stage) (n : ℕ) → EndsBad bytes later n → Stops bytes more later n)
    → record_front (stages_along stages (and_then_records stages at (records_past bytes))) (and_then_tail (b ∷ bytes) stages at (tail_past bytes)) ≡ Bad
    → (and_then_records stages (record_front stages (b ∷ (bytes ++ more))) (records_past (bytes ++ more)) ≡ and_then_records stages at (records_past bytes))
    × (and_then_tail (b ∷ (bytes ++ more)) stages (record_front stages (b ∷ (bytes ++ more))) (tail_past (bytes ++ more)) ≡ and_then_tail (b ∷ bytes) stages at (tail_past bytes) ++ more)
front_stops b bytes more stages Unfinished is later bad = absurd (let both : Unfinished ≡ Bad = sym is ∙ bad in cc)
front_stops b bytes more stages Bad is later bad =
    let same : record_front stages (b ∷ (bytes ++ more)) ≡ Bad = record_stays stages (b ∷ bytes) more (λ none. let both : Bad ≡ Unfinished = sym is ∙ none in cc) ∙ is in (
      ap (λ (x : RecordFront). and_then_records stages x (records_past (bytes ++ more))) same,
      ap (λ (x : RecordFront). and_then_tail (b ∷ (bytes ++ more)) stages x (tail_past (bytes ++ more))) same,
    )
front_stops b bytes more stages (Whole a n) is later bad =
    let same : record_front stages (b ∷ (bytes ++ more)) ≡ Whole a n = record_stays stages (b ∷ bytes) more (λ none. let both : Whole a n ≡ Unfinished = sym is ∙ none in cc) ∙ is in
    let rest = later (stages_after a stages) (n - 1) bad in (
      ap (λ (x : RecordFront). and_then_records stages x (records_past (bytes ++ more))) same ∙ ap (λ (others : List Arrival). a ∷ others) rest.0,
      ap (λ (x : RecordFront). and_then_tail (b ∷ (bytes ++ more)) stages x (tail_past (bytes ++ more))) same ∙ rest.1,
    )

trace_stops : (bytes more : List ℕ) (stages : List Stage) (n : ℕ) → EndsBad bytes stages n → Stops bytes more stages n
trace_stops [] more stages n bad = absurd (let both : Unfinished ≡ Bad = bad in cc)
trace_stops (b ∷ bytes) more stages (suc n) bad = trace_stops bytes more stages n bad
trace_stops (b ∷ bytes) more stages zero bad = front_stops b bytes more stages (record_front stages (b ∷ bytes)) refl (λ later n. trace_stops bytes more later n) bad

-- The stages of the sessions are those of the records.
stages_run : (arrivals : List Arrival) (xs : List Session) → map stage_of (sessions_along xs arrivals) ≡ stages_along (map stage_of xs) arrivals
stages_run [] xs = refl
stages_run (a ∷ arrivals) xs = stages_run arrivals (sessions_after a xs) ∙ ap (λ (stages : List Stage). stages_along stages arrivals) (stages_read a xs)

settled_stages : (xs : List Session) → map stage_of (map settled_session xs) ≡ map stage_of xs
settled_stages [] = refl
settled_stages (x ∷ xs) = ap (λ (s : Stage). s ∷ map stage_of (map settled_session xs)) (stage_settled x) ∙ ap (λ (stages : List Stage). stage_of x ∷ stages) (settled_stages xs)

is_bad_is : (front : RecordFront) → is_bad front ≡ true → front ≡ Bad
is_bad_is Unfinished is = absurd cc
is_bad_is Bad is = refl
is_bad_is (Whole a n) is = absurd cc

abbrev at_trace : List ℕ → ℕ → List Session → Standing
at_trace input before xs = record { form = Trace; input = input; before = before; sessions = xs }

-- Where it ends, by the stages.
trace_end : (input : List ℕ) (before : ℕ) (xs : List Session)
    → begins_bad (end_of (at_trace input before xs)) ≡ is_bad (record_front (stages_along (map stage_of xs) (records_of (map stage_of xs) input)) (tail_of (map stage_of xs) input))
trace_end input before xs =
    let arrivals : List Arrival = records_of (map stage_of xs) input in
    ap (λ (stages : List Stage). is_bad (record_front stages (tail_of (map stage_of xs) input))) (settled_stages (sessions_along xs arrivals) ∙ stages_run arrivals xs)

trace_decided : (used more : List ℕ) (before : ℕ) (xs : List Session) → begins_bad (end_of (at_trace used before xs)) ≡ true
    → (events_of (at_trace (used ++ more) before xs) ≡ events_of (at_trace used before xs)) × (begins_bad (end_of (at_trace (used ++ more) before xs)) ≡ true)
trace_decided used more before xs is =
    let stages : List Stage = map stage_of xs in
    let bad : EndsBad used stages 0 = is_bad_is _ (sym (trace_end used before xs) ∙ is) in
    let stops = trace_stops used more stages 0 bad in
    let last : List Stage = stages_along stages (records_of stages used) in
    let some : record_front last (tail_of stages used) ≡ Unfinished → ⊥ = λ none. let both : Bad ≡ Unfinished = sym bad ∙ none in cc in (
      ap (λ (others : List Arrival). events_held 0 xs ++ events_along xs others) stops.0,
      trace_end (used ++ more) before xs
          ∙ ap (λ (others : List Arrival). is_bad (record_front (stages_along stages others) (tail_of stages (used ++ more)))) stops.0
          ∙ ap (λ (tail : List ℕ). is_bad (record_front last tail)) stops.1
          ∙ ap is_bad (record_stays last (tail_of stages used) more some ∙ bad),
    )

-- ---- both

pub decided_events : (form : Form) (used more : List ℕ) → is_decided form used ≡ true → events_in form (used ++ more) ≡ events_in form used
decided_events Plain used more is = plain_decided used more is
decided_events Trace used more is = (trace_decided used more 0 (start_of Trace).sessions is).0

pub decided_still : (form : Form) (used more : List ℕ) → is_decided form used ≡ true → is_decided form (used ++ more) ≡ true
decided_still Plain used more is = ap (list_any is_fault) (plain_decided used more is) ∙ is
decided_still Trace used more is = (trace_decided used more 0 (start_of Trace).sessions is).1

pub decided_ending : (form : Form) (used more : List ℕ) (over : Bool) → is_decided form used ≡ true → ending form (used ++ more) over ≡ BadInput
decided_ending form used more over is = ap (λ (bad : Bool). ending_at bad (has_rest form (used ++ more)) over) (decided_bad form (used ++ more) (decided_still form used more is))
