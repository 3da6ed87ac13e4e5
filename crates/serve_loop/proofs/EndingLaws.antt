-- What a status that the input decides says of a told input.
use Rattle.std.specs.Prelude.{Bool, true, false, cond, ◌||◌, nat_lt}
use Rattle.std.proofs.Common.{◌≡◌, ℕ, zero, suc, ◌<◌, ◌≤◌, ◌⊎◌, inl, inr, List, [], ◌∷◌, ◌++◌, codes, decimal, length, take, None, Some, refl, sym, ap, ◌∙◌, subst, append-nil, arith}
use Rattle.std.specs.List.{list_any, flat_map, range_with_len}
use Rattle.std.proofs.Math.Dec.{ltb}
use Rattle.std.proofs.lemmas.Bool.{lt-ltb, cases_lt, false≢true}
use Rattle.std.proofs.lemmas.List.{nil_from_length, take_all}
use Rattle.std.specs.declared.option.Option.{Option}
use Rattle.std.specs.Io.KnownBytes.{IsAtEnd}
use Rattle.ziti_outside.specs.Causes.{Rose}
use Rattle.ziti_outside.specs.Told.{Gave, Took, IsFront}
use Rattle.channel_frame.specs.StreamReading.{fault_of, rest_of}
use Rattle.serve_loop.specs.Answerers.{Answerer}
use Rattle.session_mux.specs.declared.events.Event.{Event}
use Rattle.session_mux.specs.declared.events.Event.TheVariants as event
use Rattle.session_mux.specs.declared.sessions.Form.{Form}
use Rattle.session_mux.specs.declared.sessions.Form.TheVariants.{Plain}
use Rattle.session_mux.specs.Completion.{Standing, begins_bad}
use Rattle.run_notes.specs.declared.status.Status.TheVariants.{Done, Truncated}
use Rattle.run_notes.specs.Endings.{ending_at}
use Rattle.serve_loop.specs.SaidReplies.{SaysAll, joined}
use Rattle.serve_loop.specs.AnsweredFrames.{replies, replies_to}
use Rattle.serve_loop.specs.ServedInputs.{Serves, Taking, taking_of}
use Rattle.serve_loop.specs.Reading.{is_decided}
use Rattle.run_notes.specs.Inputs.{events_in, end_in, is_fault, is_bad_input, closed_rests, rest_at, has_rest}
use Rattle.run_notes.specs.Notes.{session_note, session_rest_lines, trace_note, fault_lines, bad_lines, rest_lines, notes_of}
use Rattle.run_notes.proofs.NoteLaws.{some_rest}
use Rattle.run_notes.proofs.PlainInputs.{plain_good, plain_rest, plain_no_rest}
use Rattle.run_notes.proofs.RestLaws.{none_any, no_lines}
use Rattle.serve_loop.proofs.PieceLaws.{good_undecided, or_left, or_right}
use Rattle.ziti_outside.specs.Views.{Seen}

-- ---- the input that a status decides

-- Done comes where there is no fault, no rest and no longer input; Truncated where there is a rest.
pub record Decided (bad rest more wanted : Bool) : Type 0 where
  pub good : bad ≡ false
  pub rests : rest ≡ wanted
  pub whole : more ≡ false

pub done_is : (bad rest more : Bool) → Done ≡ ending_at bad rest more → Decided bad rest more false
done_is true rest more e = absurd cc
done_is false rest true e = absurd cc
done_is false true false e = absurd cc
done_is false false false e = record { good = refl; rests = refl; whole = refl }

truncated_at : (bad rest more : Bool) → Truncated ≡ ending_at bad rest more → Decided bad rest more true
truncated_at true rest more e = absurd cc
truncated_at false rest true e = absurd cc
truncated_at false true false e = record { good = refl; rests = refl; whole = refl }
truncated_at false false false e = absurd cc

-- ---- a told input that was read to its end

-- Nothing is left of it, it is no longer than is used, and all of it is used.
record WasRead (most : ℕ) (bytes taken : List ℕ) (left : Option (List ℕ)) : Type 0 where
  pub none_left : left ≡ Some []
  pub few : length bytes ≤ most
  pub used : take most taken ≡ bytes

-- Where no more was given than is used, nothing is left.
pub at_end : (most : ℕ) (left : Option (List ℕ)) (taken : List ℕ) → ltb most (length taken) ≡ false → IsAtEnd left ⊎ (most < length taken) → IsAtEnd left
at_end most left taken whole (inl stop) = stop
at_end most left taken whole (inr more) = absurd (false≢true (sym whole ∙ lt-ltb most (length taken) more))

no_more : (most n : ℕ) → ltb most n ≡ false → (most < n) ⊎ (n ≤ most) → n ≤ most
no_more most n whole (inl more) = absurd (false≢true (sym whole ∙ lt-ltb most n more))
no_more most n whole (inr few) = few

was_read : (most : ℕ) (bytes taken : List ℕ) (left : Option (List ℕ)) → Gave (Some bytes) left taken → IsAtEnd left → ltb most (length taken) ≡ false → WasRead most bytes taken left
was_read most bytes taken None gave stop whole = absurd gave
was_read most bytes taken (Some rest) gave stop whole =
    let same : bytes ≡ taken = gave ∙ ap (λ (l : List ℕ). taken ++ l) stop ∙ append-nil taken in
    let few : length taken ≤ most = no_more most (length taken) whole (cases_lt most (length taken)) in
    record { none_left = ap Some stop; few = omega (arith, few, ap length same); used = take_all most taken few ∙ sym same }

-- A desk that told what it had taken tells what it took.
pub told_took : (before said : List ℕ) (after : Option (List ℕ)) → Took (Some before) after said → after ≡ Some (before ++ said)
told_took before said None took = absurd took
told_took before said (Some bytes) took = ap Some took

-- Nothing is the only front of nothing.
pub nothing_is_front : (a b : Option (List ℕ)) (part : List ℕ) → IsFront part [] → Took a b part → Took a b []
nothing_is_front a b [] front took = took
nothing_is_front a b (x ∷ part) front took = absurd (let e = front.1 in cc)

-- ---- all events were answered

all_events : (form : Form) (used : List ℕ) (answered unanswered : List Event) → answered ++ unanswered ≡ events_in form used → unanswered ≡ [] → answered ≡ events_in form used
all_events form used answered unanswered split none = sym (append-nil answered) ∙ ap (λ (es : List Event). answered ++ es) (sym none) ∙ split

pub all_replies : {M : Type 0} (form : Form) (answerer : Answerer M) (m : M) (used said : List ℕ) (answered unanswered : List Event) → answered ++ unanswered ≡ events_in form used → unanswered ≡ []
    → SaysAll form answerer m said answered → said ≡ replies form answerer m used
all_replies form answerer m used said answered unanswered split none says =
    says ∙ ap (λ (es : List Event). joined (replies_to form answerer m es)) (all_events form used answered unanswered split none)

-- ---- no line

pub no_fault_lines : (es : List Event) → list_any is_fault es ≡ false → fault_lines es ≡ []
no_fault_lines [] none = refl
no_fault_lines (event.Opened s who ∷ es) none = no_fault_lines es none
no_fault_lines (event.Arrived s frame ∷ es) none = no_fault_lines es none
no_fault_lines (event.Ended s fault at ∷ es) none = absurd (let e : true ≡ false = none in cc)
no_fault_lines (event.Closed s rest ∷ es) none = no_fault_lines es none

no_bad_lines : (st : Standing) → begins_bad st ≡ false → bad_lines st ≡ []
no_bad_lines st good = ap (λ (b : Bool). cond b (trace_note (codes "BadRecord at " ++ decimal st.before)) []) good

-- What is noted where an input without faults was answered: the lines of its rests, or none.
good_lines : (form : Form) (used : List ℕ) (answered : List Event) (more : List ℕ) → answered ≡ events_in form used → is_bad_input form used ≡ false
    → fault_lines answered ++ (bad_lines (end_in form used) ++ more) ≡ more
good_lines form used answered more all good =
    let none : list_any is_fault answered ≡ false = ap (list_any is_fault) all ∙ or_left (list_any is_fault (events_in form used)) (begins_bad (end_in form used)) good in
    ap (λ (l : List ℕ). l ++ (bad_lines (end_in form used) ++ more)) (no_fault_lines answered none)
    ∙ ap (λ (l : List ℕ). l ++ more) (no_bad_lines (end_in form used) (or_right (list_any is_fault (events_in form used)) (begins_bad (end_in form used)) good))

-- ---- Done

-- An input without a fault was read to its end, with a rest or without one.
record ReadsWell (form : Form) (most : ℕ) (bytes taken : List ℕ) (left : Option (List ℕ)) (rest : Bool) : Type 0 where
  pub read : WasRead most bytes taken left
  pub good : is_bad_input form bytes ≡ false
  pub rests : has_rest form bytes ≡ rest

reads_well : (form : Form) (most : ℕ) (bytes taken : List ℕ) (left : Option (List ℕ)) (rest : Bool)
    → Decided (is_bad_input form (take most taken)) (has_rest form (take most taken)) (ltb most (length taken)) rest
    → Gave (Some bytes) left taken → (is_decided form (take most taken) ≡ false → IsAtEnd left ⊎ (most < length taken)) → ReadsWell form most bytes taken left rest
reads_well form most bytes taken left rest is gave read_on =
    let read = was_read most bytes taken left gave (at_end most left taken is.whole (read_on (good_undecided form (take most taken) is.good))) is.whole in
    record { read = read; good = ap (is_bad_input form) (sym read.used) ∙ is.good; rests = ap (has_rest form) (sym read.used) ∙ is.rests }

done_reads : {M : Type 0} (taking : Taking) (answerer : Answerer M) (m : M) (bytes : List ℕ) (left : Option (List ℕ)) (b c : Seen) (s : Serves taking answerer m (Some bytes) left b c Done)
    → ReadsWell taking.form taking.most bytes s.taken left false
done_reads taking answerer m bytes left b c s = reads_well taking.form taking.most bytes s.taken left false (done_is _ _ _ (s.ends refl)) s.gave (s.read_on refl)

pub done_read : {M : Type 0} (taking : Taking) (answerer : Answerer M) (m : M) (bytes : List ℕ) (left : Option (List ℕ)) (b c : Seen) → Serves taking answerer m (Some bytes) left b c Done
    → (left ≡ Some []) × (length bytes ≤ taking.most)
done_read taking answerer m bytes left b c s = let r = (done_reads taking answerer m bytes left b c s).read in (r.none_left, r.few)

none_above : (n : ℕ) → nat_lt 0 n ≡ false → n ≡ 0
none_above zero e = refl
none_above (suc n) e = absurd (false≢true (sym e ∙ lt-ltb 0 (suc n) (omega arith)))

-- All that the source had was used.
pub done_used : {M : Type 0} (taking : Taking) (answerer : Answerer M) (m : M) (bytes : List ℕ) (left left_now : Option (List ℕ)) (b c : Seen) → left ≡ Some bytes
    → (s : Serves taking answerer m left left_now b c Done) → take taking.most s.taken ≡ bytes
done_used taking answerer m bytes left left_now b c told s =
    (reads_well taking.form taking.most bytes s.taken left_now false (done_is _ _ _ (s.ends refl)) (subst (λ (x : Option (List ℕ)). Gave x left_now s.taken) told s.gave) (s.read_on refl)).read.used

-- Without a rest of any session there is none of session 0.
plain_whole : (bytes : List ℕ) → is_bad_input Plain bytes ≡ false → has_rest Plain bytes ≡ false → rest_of bytes ≡ []
plain_whole bytes good rests =
    let left : ℕ → Bool = λ (s : ℕ). nat_lt 0 (rest_at (end_in Plain bytes) (closed_rests Plain bytes) s) in
    let none : left 0 ≡ false = or_left (left 0) (list_any left (range_with_len 1 255)) (or_left (list_any left (range_with_len 0 256)) (nat_lt 0 (length (end_in Plain bytes).input)) rests) in
    nil_from_length (rest_of bytes) (none_above (length (rest_of bytes)) (ap (nat_lt 0) (sym (plain_rest bytes (plain_good bytes good))) ∙ none))

pub done_whole : {M : Type 0} (answerer : Answerer M) (m : M) (most : ℕ) (bytes : List ℕ) (left : Option (List ℕ)) (b c : Seen) → Serves (taking_of Plain most) answerer m (Some bytes) left b c Done → rest_of bytes ≡ []
done_whole answerer m most bytes left b c s =
    let r = done_reads (taking_of Plain most) answerer m bytes left b c s in
    plain_whole bytes r.good r.rests

pub done_said : {M : Type 0} (taking : Taking) (answerer : Answerer M) (m : M) (bytes before : List ℕ) (left : Option (List ℕ)) (b c : Seen) → b.said ≡ Some before → Serves taking answerer m (Some bytes) left b c Done
    → c.said ≡ Some (before ++ replies taking.form answerer m bytes)
done_said taking answerer m bytes before left b c told s =
    let r = (done_reads taking answerer m bytes left b c s).read in
    let all = all_replies taking.form answerer m (take taking.most s.taken) s.said s.answered s.unanswered s.split (s.all refl) s.says in
    told_took before s.said c.said (subst (λ (x : Option (List ℕ)). Took x c.said s.said) told s.took) ∙ ap (λ (l : List ℕ). Some (before ++ l)) (all ∙ ap (replies taking.form answerer m) r.used)

pub done_noted : {M : Type 0} (taking : Taking) (answerer : Answerer M) (m : M) (bytes : List ℕ) (left : Option (List ℕ)) (b c : Seen) → Serves taking answerer m (Some bytes) left b c Done → Took b.noted c.noted []
done_noted taking answerer m bytes left b c s =
    let r = done_reads taking answerer m bytes left b c s in
    let first : List ℕ = take taking.most s.taken in
    let none : notes_of taking.form s.answered first Done ≡ [] =
    good_lines taking.form first s.answered [] (all_events taking.form first s.answered s.unanswered s.split (s.all refl)) (ap (is_bad_input taking.form) r.read.used ∙ r.good) in
    nothing_is_front b.noted c.noted s.notes.part.0 (subst (λ (l : List ℕ). IsFront s.notes.part.0 l) none s.notes.part.1) s.notes.part.2

-- ---- Truncated

truncated_reads : {M : Type 0} (taking : Taking) (answerer : Answerer M) (m : M) (bytes : List ℕ) (left : Option (List ℕ)) (b c : Seen) (s : Serves taking answerer m (Some bytes) left b c Truncated)
    → ReadsWell taking.form taking.most bytes s.taken left true
truncated_reads taking answerer m bytes left b c s = reads_well taking.form taking.most bytes s.taken left true (truncated_at _ _ _ (s.ends refl)) s.gave (s.read_on refl)

pub truncated_read : {M : Type 0} (taking : Taking) (answerer : Answerer M) (m : M) (bytes : List ℕ) (left : Option (List ℕ)) (b c : Seen) → Serves taking answerer m (Some bytes) left b c Truncated
    → (left ≡ Some []) × (length bytes ≤ taking.most)
truncated_read taking answerer m bytes left b c s = let r = (truncated_reads taking answerer m bytes left b c s).read in (r.none_left, r.few)

-- The rest of each session but session 0 is none, and there is none of session 0 where the bytes have none.
no_rest_at : (bytes : List ℕ) → is_bad_input Plain bytes ≡ false → rest_of bytes ≡ [] → (s : ℕ) → nat_lt 0 (rest_at (end_in Plain bytes) (closed_rests Plain bytes) s) ≡ false
no_rest_at bytes good none zero = ap (nat_lt 0) (plain_rest bytes (plain_good bytes good) ∙ ap length none)
no_rest_at bytes good none (suc s) = ap (nat_lt 0) (plain_no_rest bytes (suc s) (λ e. omega (arith, e)))

plain_some : (bytes : List ℕ) → is_bad_input Plain bytes ≡ false → has_rest Plain bytes ≡ true → rest_of bytes ≡ [] → ⊥
plain_some bytes good rests none =
    let left : ℕ → Bool = λ (s : ℕ). nat_lt 0 (rest_at (end_in Plain bytes) (closed_rests Plain bytes) s) in
    let no : has_rest Plain bytes ≡ false = ap (λ (p : Bool). p || false) (none_any left 0 256 (λ s le. no_rest_at bytes good none s)) in
    false≢true (sym no ∙ rests)

pub truncated_rest : {M : Type 0} (answerer : Answerer M) (m : M) (most : ℕ) (bytes : List ℕ) (left : Option (List ℕ)) (b c : Seen) → Serves (taking_of Plain most) answerer m (Some bytes) left b c Truncated
    → (fault_of bytes ≡ None) × (rest_of bytes ≡ [] → ⊥)
truncated_rest answerer m most bytes left b c s =
    let r = truncated_reads (taking_of Plain most) answerer m bytes left b c s in
    (plain_good bytes r.good, plain_some bytes r.good r.rests)

pub truncated_said : {M : Type 0} (taking : Taking) (answerer : Answerer M) (m : M) (bytes before : List ℕ) (left : Option (List ℕ)) (b c : Seen) → b.said ≡ Some before → Serves taking answerer m (Some bytes) left b c Truncated
    → c.said ≡ Some (before ++ replies taking.form answerer m bytes)
truncated_said taking answerer m bytes before left b c told s =
    let r = (truncated_reads taking answerer m bytes left b c s).read in
    let all = all_replies taking.form answerer m (take taking.most s.taken) s.said s.answered s.unanswered s.split (s.all refl) s.says in
    told_took before s.said c.said (subst (λ (x : Option (List ℕ)). Took x c.said s.said) told s.took) ∙ ap (λ (l : List ℕ). Some (before ++ l)) (all ∙ ap (replies taking.form answerer m) r.used)

-- Plain input has one line of rests.
plain_lines : (bytes : List ℕ) → fault_of bytes ≡ None → (rest_of bytes ≡ [] → ⊥)
    → rest_lines (end_in Plain bytes) (closed_rests Plain bytes) ≡ session_note 0 (decimal (length (rest_of bytes)) ++ codes " bytes left")
plain_lines bytes none some =
    let line : ℕ → List ℕ = λ (s : ℕ). session_rest_lines s (rest_at (end_in Plain bytes) (closed_rests Plain bytes) s) in
    append-nil (line 0 ++ flat_map line (range_with_len 1 255))
    ∙ ap (λ (l : List ℕ). line 0 ++ l) (no_lines line 1 255 (λ s le. ap (session_rest_lines s) (plain_no_rest bytes s (λ e. omega (arith, le, e)))))
    ∙ append-nil (line 0)
    ∙ ap (session_rest_lines 0) (plain_rest bytes none)
    ∙ some_rest 0 (length (rest_of bytes)) (λ e. some (nil_from_length (rest_of bytes) e))

pub truncated_noted : {M : Type 0} (answerer : Answerer M) (m : M) (most : ℕ) (bytes : List ℕ) (left : Option (List ℕ)) (b c : Seen) → Serves (taking_of Plain most) answerer m (Some bytes) left b c Truncated → (Rose b.note_faults c.note_faults → ⊥)
    → Took b.noted c.noted (session_note 0 (decimal (length (rest_of bytes)) ++ codes " bytes left"))
truncated_noted answerer m most bytes left b c s calm =
    let r = truncated_reads (taking_of Plain most) answerer m bytes left b c s in
    let is = truncated_rest answerer m most bytes left b c s in
    let first : List ℕ = take most s.taken in
    let lines : notes_of Plain s.answered first Truncated ≡ rest_lines (end_in Plain first) (closed_rests Plain first) =
    good_lines Plain first s.answered (rest_lines (end_in Plain first) (closed_rests Plain first)) (all_events Plain first s.answered s.unanswered s.split (s.all refl)) (ap (is_bad_input Plain) r.read.used ∙ r.good) in
    subst (λ (l : List ℕ). Took b.noted c.noted l) (lines ∙ ap (λ (u : List ℕ). rest_lines (end_in Plain u) (closed_rests Plain u)) r.read.used ∙ plain_lines bytes is.0 is.1) (s.notes.whole calm)
