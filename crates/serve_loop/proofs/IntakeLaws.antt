-- How what was taken, answered and noted makes up a run over an input.
use Rattle.std.specs.Prelude.{⊤, false, true, Bool}
use Rattle.std.proofs.Common.{◌≡◌, ℕ, ◌<◌, ◌⊎◌, inl, inr, List, [], ◌++◌, length, take, None, Err, refl, sym, ap, ◌∙◌, subst, append-nil, arith}
use Rattle.std.proofs.lemmas.Bool.{lt-ltb, le-ltb, false≢true, true≢false}
use Rattle.std.proofs.Math.Dec.{ltb}
use Rattle.std.specs.declared.option.Option.{Option}
use Rattle.std.specs.declared.result.Result.{Result}
use Rattle.std.specs.Io.KnownBytes.{IsAtEnd}
use Rattle.ziti_outside.specs.Causes.{HasCause, Rose}
use Rattle.ziti_outside.specs.Told.{Took}
use Rattle.serve_loop.specs.Answerers.{Answerer}
use Rattle.ziti_outside.proofs.Moves.{Gave-none, Took-none}
use Rattle.run_notes.specs.declared.ends.End.{End}
use Rattle.run_notes.specs.declared.ends.End.TheVariants.{Whole, More, Fault}
use Rattle.run_notes.specs.declared.ends.Cut.{Cut}
use Rattle.run_notes.specs.declared.ends.Cut.TheVariants as cut
use Rattle.run_notes.specs.declared.status.Status.{Status}
use Rattle.run_notes.specs.declared.status.Status.TheVariants.{Truncated, ReadFault, WriteFault, DiskFault, NoMemory}
use Rattle.session_mux.specs.declared.events.Event.{Event}
use Rattle.session_mux.specs.declared.sessions.Form.{Form}
use Rattle.session_mux.specs.Completion.{Standing, begins_bad, end_of}
use Rattle.run_notes.specs.Endings.{ComesToEnd, ending_at, is_cut, is_kept, IsAllGiven, status_of_cut, status_at}
use Rattle.serve_loop.specs.SaidReplies.{Says, SaysAll, joined}
use Rattle.run_notes.specs.NotedLines.{NotesLines, RisesOnce}
use Rattle.serve_loop.specs.Answering.{Telling}
use Rattle.serve_loop.specs.AnsweredFrames.{replies_to}
use Rattle.serve_loop.specs.ServedInputs.{Serves, taking_of}
use Rattle.serve_loop.specs.Pieces.{CutsInput, EndsInput, EndsSo, HasFault, Intake, IsReadCaused, Passage}
use Rattle.serve_loop.specs.Reading.{is_decided}
use Rattle.run_notes.specs.Inputs.{events_in, is_bad_input, has_rest}
use Rattle.run_notes.specs.Notes.{fault_lines, status_lines, notes_of}
use Rattle.run_notes.specs.NotesSoFar.{NotesMore}
use Rattle.serve_loop.specs.FaultCounts.{IsWriteCaused, IsDiskCaused}
use Rattle.serve_loop.specs.Turns.{AnswersAll, AnswersSome, SaysCut, unsaid, unkept}
use Rattle.run_notes.proofs.NoteLaws.{noted_none, noted_lines, more_then}
use Rattle.serve_loop.proofs.PieceLaws.{decided_bad, near_none}
use Rattle.ziti_outside.specs.Views.{Seen}

-- ---- the status of an input and of how the taking ended

-- It is told once all events were answered, and then all was kept.
pub says_all : {M : Type 0} (form : Form) (answerer : Answerer M) (m : M) (bad rest : Bool) (end : End) (said : List ℕ) (answered unanswered : List Event) → SaysAll form answerer m said answered
    → Says form answerer m (status_at bad rest end) said answered unanswered
says_all form answerer m true rest Whole said answered unanswered says = says
says_all form answerer m false true Whole said answered unanswered says = says
says_all form answerer m false false Whole said answered unanswered says = says
says_all form answerer m true rest More said answered unanswered says = says
says_all form answerer m false rest More said answered unanswered says = says
says_all form answerer m bad rest Fault said answered unanswered says = says

-- It is no write fault.
no_write_fault : (bad rest : Bool) (end : End) → status_at bad rest end ≡ WriteFault → ⊥
no_write_fault true rest Whole e = cc
no_write_fault false true Whole e = cc
no_write_fault false false Whole e = cc
no_write_fault true rest More e = cc
no_write_fault false rest More e = cc
no_write_fault bad rest Fault e = cc

-- It is no disk fault.
no_disk_fault : (bad rest : Bool) (end : End) → status_at bad rest end ≡ DiskFault → ⊥
no_disk_fault true rest Whole e = cc
no_disk_fault false true Whole e = cc
no_disk_fault false false Whole e = cc
no_disk_fault true rest More e = cc
no_disk_fault false rest More e = cc
no_disk_fault bad rest Fault e = cc

-- What the bytes decide is no read fault.
no_read_fault : (bad rest more : Bool) → ReadFault ≡ ending_at bad rest more → ⊥
no_read_fault true rest more e = cc
no_read_fault false rest true e = cc
no_read_fault false true false e = cc
no_read_fault false false false e = cc

-- It is a read fault exactly where the source failed.
pub read_caused : (bad rest : Bool) (end : End) (status : Status) (before now : ℕ) → status ≡ status_at bad rest end → HasFault end before now → IsReadCaused before now status
read_caused bad rest Whole status before now is calm = record { calm = λ _. calm; rose = λ r. absurd (no_read_fault bad rest false (sym r ∙ is)) }
read_caused bad rest More status before now is calm = record { calm = λ _. calm; rose = λ r. absurd (no_read_fault bad rest true (sym r ∙ is)) }
read_caused bad rest Fault status before now is faulty = record { calm = λ other. absurd (other is); rose = λ r. faulty }

-- Where memory was wanting to tell how a run ended the source had not failed: a read fault is told without memory.
pub starved_faultless : (end : End) (bad : Option ℕ) (st : Standing) (faulty rest : Bool) (before now : ℕ) → ComesToEnd st bad → (end ≡ Fault → bad ≡ None)
    → (begins_bad (end_of st) ≡ true) ⊎ (status_at faulty rest end ≡ Truncated) → HasFault end before now → now ≡ before
starved_faultless Whole bad st faulty rest before now comes last why calm = calm
starved_faultless More bad st faulty rest before now comes last why calm = calm
starved_faultless Fault bad st faulty rest before now comes last (inl found) faulted =
    let given : IsAllGiven st = subst (ComesToEnd st) (last refl) comes in
    absurd (true≢false (sym found ∙ given.good))
starved_faultless Fault bad st faulty rest before now comes last (inr truncated) faulted = absurd cc

-- ---- what answering the used bytes said and noted

-- Such a status is no fault of the desk.
pub all_no_fault : {M : Type 0} {form : Form} {answerer : Answerer M} {m : M} {used : List ℕ} {end : End} {status : Status} {old now : Telling}
    → AnswersAll form answerer m used end status old now → (status ≡ WriteFault → ⊥) × (status ≡ DiskFault → ⊥)
all_no_fault {M} {form} {used = used} {end = end} told =
    (λ w. no_write_fault (is_bad_input form used) (has_rest form used) end (sym told.ends ∙ w), λ w. no_disk_fault (is_bad_input form used) (has_rest form used) end (sym told.ends ∙ w))

-- Where the answering was cut short, and that was told.
pub cut_notes : (by : Cut) (form : Form) (answered : List Event) (used : List ℕ) → fault_lines answered ++ status_lines [] (status_of_cut by) ≡ notes_of form answered used (status_of_cut by)
cut_notes cut.NoMemory form answered used = refl
cut_notes cut.Disk form answered used = refl
cut_notes cut.Unsaid form answered used = refl

pub cut_all : (by : Cut) (unanswered : List Event) → is_kept (status_of_cut by) ≡ true → unanswered ≡ []
cut_all cut.NoMemory unanswered e = absurd cc
cut_all cut.Disk unanswered e = absurd cc
cut_all cut.Unsaid unanswered e = absurd cc

pub cut_is_cut : (by : Cut) → is_cut (status_of_cut by) ≡ false → ⊥
cut_is_cut cut.NoMemory e = cc
cut_is_cut cut.Disk e = cc
cut_is_cut cut.Unsaid e = cc

pub cut_says_so : {M : Type 0} (by : Cut) (form : Form) (answerer : Answerer M) (m : M) (said : List ℕ) (answered unanswered : List Event) → SaysCut by form answerer m said answered unanswered
    → Says form answerer m (status_of_cut by) said answered unanswered
cut_says_so cut.NoMemory form answerer m said answered unanswered says = says
cut_says_so cut.Disk form answerer m said answered unanswered says = says
cut_says_so cut.Unsaid form answerer m said answered unanswered says = says

-- ---- the causes

-- No say failed where the status is no write fault.
pub write_calm : (before now : ℕ) (status : Status) → now ≡ before → (status ≡ WriteFault → ⊥) → IsWriteCaused before now status
write_calm before now status calm other = record {
  counted = record { later = omega (arith, calm); once = omega (arith, calm) };
  calm = λ _. calm;
  rose = λ w. absurd (other w);
}

-- Where the answering was cut short, the cause is that of the cut.
cut_cause : (by : Cut) (before mid now : ℕ) (result : Result ⊤ Cut) → HasCause before mid result → result ≡ unsaid {T = Status} (Err by) → now ≡ mid → IsWriteCaused before now (status_of_cut by)
cut_cause cut.NoMemory before mid now result cause is still = write_calm before now NoMemory (still ∙ (subst (λ (r : Result ⊤ Cut). HasCause before mid r) is cause).calm) (λ w. cc)
cut_cause cut.Disk before mid now result cause is still = write_calm before now DiskFault (still ∙ (subst (λ (r : Result ⊤ Cut). HasCause before mid r) is cause).calm) (λ w. cc)
cut_cause cut.Unsaid before mid now result cause is still =
    let c = subst (λ (r : Result ⊤ Cut). HasCause before mid r) is cause in
    record {
      counted = record { later = omega (arith, still, c.later); once = omega (arith, still, c.once) };
      calm = λ other. absurd (other refl);
      rose = λ _. subst (λ (n : ℕ). Rose before n) (sym still) c.failed;
    }

pub cut_write : (by : Cut) (before mid now : ℕ) (result : Status) → HasCause before mid (unsaid {T = Status} (Err by)) → now ≡ mid → result ≡ status_of_cut by → IsWriteCaused before now result
cut_write by before mid now result cause still is = subst (λ (u : Status). IsWriteCaused before now u) (sym is) (cut_cause by before mid now (unsaid {T = Status} (Err by)) cause refl still)

-- No call on the disk failed where the status is no disk fault.
pub disk_calm : (before now : ℕ) (status : Status) → now ≡ before → (status ≡ DiskFault → ⊥) → IsDiskCaused before now status
disk_calm before now status calm other = record {
  counted = record { later = omega (arith, calm); once = omega (arith, calm) };
  calm = λ _. calm;
  rose = λ w. absurd (other w);
}

-- A disk fault whose call failed.
pub disk_fault : {E : Type 0} (before mid now : ℕ) (e : E) (r : Result ⊤ E) → r ≡ Err e → HasCause before mid r → now ≡ mid → IsDiskCaused before now DiskFault
disk_fault {E} before mid now e r is cause still =
    let c = subst (λ (u : Result ⊤ E). HasCause before mid u) is cause in
    record {
      counted = record { later = omega (arith, still, c.later); once = omega (arith, still, c.once) };
      calm = λ other. absurd (other refl);
      rose = λ _. subst (λ (n : ℕ). Rose before n) (sym still) c.failed;
    }

-- Where the answering was cut short, the cause is that of the cut.
pub cut_disk : (by : Cut) (before mid now : ℕ) (result : Status) → HasCause before mid (unkept {T = Status} (Err by)) → now ≡ mid → result ≡ status_of_cut by → IsDiskCaused before now result
cut_disk cut.NoMemory before mid now result cause still is = disk_calm before now result (still ∙ cause.calm) (λ w. cc)
cut_disk cut.Disk before mid now result cause still is = subst (λ (u : Status). IsDiskCaused before now u) (sym is) (disk_fault before mid now cut.Disk (unkept {T = Status} (Err cut.Disk)) refl cause still)
cut_disk cut.Unsaid before mid now result cause still is = disk_calm before now result (still ∙ cause.calm) (λ w. cc)

-- ---- the run

-- How the taking ended says whether more was given than is used, and that nothing is left where no more was, unless the input is decided.
pub record Ended (most : ℕ) (end : End) (now : Option (List ℕ)) (bytes : List ℕ) (bad rest decided : Bool) : Type 0 where
  pub ends : is_cut (status_at bad rest end) ≡ false → status_at bad rest end ≡ ending_at bad rest (ltb most (length bytes))
  pub read_on : is_cut (status_at bad rest end) ≡ false → decided ≡ false → IsAtEnd now ⊎ (most < length bytes)

bad_ends : (bad rest : Bool) (more : Bool) → bad ≡ true → ending_at bad rest false ≡ ending_at bad rest more
bad_ends true rest more is = refl
bad_ends false rest more is = absurd cc

pub ended : (most : ℕ) (end : End) (now : Option (List ℕ)) (bytes : List ℕ) (bad rest decided : Bool) → (decided ≡ true → bad ≡ true) → EndsSo end most now bytes decided → Ended most end now bytes bad rest decided
ended most Whole now bytes bad rest decided is (inl known) = record {
  ends = λ _. bad_ends bad rest (ltb most (length bytes)) (is known);
  read_on = λ e going. absurd (false≢true (sym going ∙ known));
}
ended most Whole now bytes bad rest decided is (inr so) = record { ends = λ _. ap (ending_at bad rest) (sym (le-ltb most (length bytes) so.0)); read_on = λ e going. inl so.1 }
ended most More now bytes bad rest decided is so = record { ends = λ _. ap (ending_at bad rest) (sym (lt-ltb most (length bytes) so)); read_on = λ e going. inr so }
ended most Fault now bytes bad rest decided is so = record { ends = λ e. absurd cc; read_on = λ e going. absurd cc }

-- What was noted since no note had failed.
pub noted_since : (old now : Telling) (lines : List ℕ) → old.failed ≡ false → NotesMore old.failed now.failed lines old.desk now.desk → NotesLines lines old.desk now.desk × RisesOnce old.desk.note_faults now.desk.note_faults
noted_since old now lines calm more =
    noted_lines now.failed lines old.desk now.desk (subst (λ (f : Bool). NotesMore f now.failed lines old.desk now.desk) calm more [] old.desk (noted_none old.desk))

-- A run that answered all events of the used bytes serves its input.
abbrev pub input_serves : {M : Type 0} {i : Intake M} {o : Passage} {m : M} {now : Telling} (status : Status) → EndsInput status i o m now → o.told.failed ≡ false
    → Serves (taking_of i.form i.most) i.answerer i.machine o.left o.left_now o.told.desk now.desk status
input_serves {M} {i} {o} {m} {now} status told calm =
    let form : Form = i.form in
    let first : List ℕ = take i.most told.takes.taken in
    let events : List Event = events_in form first in
    let bad : Bool = is_bad_input form first in
    let rest : Bool = has_rest form first in
    let so = ended i.most told.end o.left_now told.takes.taken bad rest (is_decided form first) (decided_bad form first) told.ends in
    let is = told.all.ends in
    let replies : List ℕ = joined (replies_to form i.answerer i.machine events) in
    record {
      taken = told.takes.taken;
      gave = told.takes.gave;
      few = told.takes.few;
      answered = events;
      unanswered = [];
      split = append-nil events;
      all = λ _. refl;
      said = replies;
      took = told.all.said;
      says = subst (λ (u : Status). Says form i.answerer i.machine u replies events []) (sym is) (says_all form i.answerer i.machine bad rest told.end _ events [] refl);
      ends = λ e. is ∙ so.ends (sym (ap is_cut is) ∙ e);
      read_on = λ e going. so.read_on (sym (ap is_cut is) ∙ e) going;
      near = told.near;
      notes = (noted_since o.told now (notes_of form events first status) calm told.all.noted_is).0;
    }

-- A failed note was the only one.
pub input_counted : {M : Type 0} {i : Intake M} {o : Passage} {m : M} {now : Telling} (status : Status) → EndsInput status i o m now → o.told.failed ≡ false
    → RisesOnce o.told.desk.note_faults now.desk.note_faults
input_counted {M} {i} {o} {m} {now} status told calm =
    let first : List ℕ = take i.most told.takes.taken in
    (noted_since o.told now (notes_of i.form (events_in i.form first) first status) calm told.all.noted_is).1

-- What was noted where it was cut short, and that was told.
pub some_noted : {M : Type 0} (by : Cut) {form : Form} {answerer : Answerer M} {m : M} {used : List ℕ} {old : Telling} {machine : M} {mid : Telling} (now : Telling)
    → (told : AnswersSome by form answerer m used old machine mid) → old.failed ≡ false → NotesMore mid.failed now.failed (status_lines [] (status_of_cut by)) mid.desk now.desk
    → NotesLines (fault_lines told.answered ++ status_lines [] (status_of_cut by)) old.desk now.desk × RisesOnce old.desk.note_faults now.desk.note_faults
some_noted by {old = old} {mid = mid} now told calm more =
    let lines : List ℕ = status_lines [] (status_of_cut by) in
    noted_since old now (fault_lines told.answered ++ lines) calm
    (more_then old.failed mid.failed now.failed (fault_lines told.answered) lines old.desk mid.desk now.desk told.noted_is more)

-- So does one that was cut short.
abbrev pub cut_serves : {M : Type 0} (by : Cut) {i : Intake M} {o : Passage} {machine : M} {mid : Telling} (now : Telling) → CutsInput by i o machine mid → o.told.failed ≡ false → now.desk.said ≡ mid.desk.said
    → NotesMore mid.failed now.failed (status_lines [] (status_of_cut by)) mid.desk now.desk
    → Serves (taking_of i.form i.most) i.answerer i.machine o.left o.left_now o.told.desk now.desk (status_of_cut by)
cut_serves by {i} {o} {machine} {mid} now told calm still more =
    let first : List ℕ = take i.most told.takes.taken in
    record {
      taken = told.takes.taken;
      gave = told.takes.gave;
      few = told.takes.few;
      answered = told.some.answered;
      unanswered = told.some.unanswered;
      split = told.some.split;
      all = cut_all by told.some.unanswered;
      said = told.some.said;
      took = subst (λ (u : Option (List ℕ)). Took o.told.desk.said u told.some.said) (sym still) told.some.took;
      says = cut_says_so by i.form i.answerer i.machine told.some.said told.some.answered told.some.unanswered told.some.says;
      ends = λ e. absurd (cut_is_cut by e);
      read_on = λ e going. absurd (cut_is_cut by e);
      near = told.near;
      notes = subst (λ (lines : List ℕ). NotesLines lines o.told.desk now.desk) (cut_notes by i.form told.some.answered first) (some_noted by now told.some calm more).0;
    }

pub cut_counted : {M : Type 0} (by : Cut) {i : Intake M} {o : Passage} {machine : M} {mid : Telling} (now : Telling) → CutsInput by i o machine mid → o.told.failed ≡ false → NotesMore mid.failed now.failed (status_lines [] (status_of_cut by)) mid.desk now.desk
    → RisesOnce o.told.desk.note_faults now.desk.note_faults
cut_counted by now told calm more = (some_noted by now told.some calm more).1

-- So does a run for which memory was wanting before it took its input.
starved_serves : {M : Type 0} (form : Form) (answerer : Answerer M) (machine : M) (most : ℕ) (l : Option (List ℕ)) (n n1 : Seen) → n1.said ≡ n.said → NotesLines (status_lines [] NoMemory) n n1
    → Serves (taking_of form most) answerer machine l l n n1 NoMemory
starved_serves form answerer machine most l n n1 still noted = record {
  taken = [];
  gave = Gave-none l;
  few = omega arith;
  answered = [];
  unanswered = events_in form (take most []);
  split = refl;
  all = λ e. absurd cc;
  said = [];
  took = subst (λ (o : Option (List ℕ)). Took n.said o []) (sym still) (Took-none n.said);
  says = record { same = refl; calm = λ _. refl };
  ends = λ e. absurd cc;
  read_on = λ e going. absurd cc;
  near = near_none form most;
  notes = noted;
}

pub none_serves : {M : Type 0} (form : Form) (answerer : Answerer M) (machine : M) (most : ℕ) (l : Option (List ℕ)) (n n1 : Seen) (status : Status) → status ≡ NoMemory → n1.said ≡ n.said
    → NotesLines (status_lines [] status) n n1 → Serves (taking_of form most) answerer machine l l n n1 status
none_serves form answerer machine most l n n1 status same still noted =
    subst (λ (u : Status). Serves (taking_of form most) answerer machine l l n n1 u) (sym same)
    (starved_serves form answerer machine most l n n1 still (subst (λ (u : Status). NotesLines (status_lines [] u) n n1) same noted))
