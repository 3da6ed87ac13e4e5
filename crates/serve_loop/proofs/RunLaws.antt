-- How what was taken, answered and noted makes up a run, with the counts of its faults.
use Rattle.std.specs.Prelude.{true, false, Bool, IsTrue}
use Rattle.std.proofs.Common.{◌≡◌, ℕ, List, [], take, refl, sym, subst}
use Rattle.std.specs.declared.option.Option.{Option}
use Rattle.ziti_outside.specs.Views.{Seen, Stopped}
use Rattle.ziti_outside.specs.Moments.{Elapses}
use Rattle.run_notes.specs.declared.ends.Cut.{Cut}
use Rattle.run_notes.specs.declared.ends.Cut.TheVariants as cut
use Rattle.run_notes.specs.declared.status.Status.{Status}
use Rattle.run_notes.specs.declared.status.Status.TheVariants.{WriteFault, DiskFault}
use Rattle.run_notes.specs.Inputs.{events_in}
use Rattle.run_notes.specs.Endings.{is_kept, status_of_cut}
use Rattle.run_notes.specs.KnownSessions.{known_in}
use Rattle.run_notes.specs.NotedLines.{RisesOnce}
use Rattle.run_notes.specs.Notes.{status_lines}
use Rattle.run_notes.specs.NotesSoFar.{NotesMore}
use Rattle.serve_loop.specs.Answering.{Telling}
use Rattle.serve_loop.specs.Failures.{TakesUntilFailure}
use Rattle.serve_loop.specs.FaultCounts.{CountsFaults, IsDiskCaused, IsWriteCaused}
use Rattle.serve_loop.specs.FollowedFolders.{FollowsEvents}
use Rattle.serve_loop.specs.Pieces.{CutsInput, EndsInput, Intake, IsReadCaused, Passage, passage_of}
use Rattle.serve_loop.specs.ServedInputs.{RunsOn}
use Rattle.serve_loop.proofs.IntakeLaws.{all_no_fault, cut_counted, cut_serves, input_serves}
use Rattle.serve_loop.proofs.PieceLaws.{passed_to}
use Rattle.serve_loop.proofs.RunStopLaws.{no_more_behind, used_stops}
use Rattle.serve_loop.proofs.UsedLaws.{at_start}

-- ---- the counts of faults

-- Where all events of the input were answered.
pub input_counts : {S D : Type 0} {left : S → Option (List ℕ)} {faults : S → ℕ} {seen : D → Seen} (source source_now : S) (desk desk_now : D) (status : Status)
    → IsReadCaused (faults source) (faults source_now) status → RisesOnce (faults source) (faults source_now) → TakesUntilFailure left faults source source_now
    → IsWriteCaused (seen desk).say_faults (seen desk_now).say_faults status → IsDiskCaused (seen desk).disk_faults (seen desk_now).disk_faults status → RisesOnce (seen desk).note_faults (seen desk_now).note_faults
    → CountsFaults left faults seen source source_now desk desk_now status
input_counts source source_now desk desk_now status read once until write disk noted = record {
  read_fault = read.rose;
  failed_take = read.calm;
  write = write;
  disk = disk;
  read_faults_once = once;
  note_faults_once = noted;
  takes_until_failure = until;
}

-- A run that was cut short meets no read fault, and then no take had failed.
cut_read : (by : Cut) (before now : ℕ) → now ≡ before → IsReadCaused before now (status_of_cut by)
cut_read cut.NoMemory before now calm = record { calm = λ _. calm; rose = λ r. absurd cc }
cut_read cut.Disk before now calm = record { calm = λ _. calm; rose = λ r. absurd cc }
cut_read cut.Unsaid before now calm = record { calm = λ _. calm; rose = λ r. absurd cc }

pub cut_is_read : (by : Cut) (before now : ℕ) (status : Status) → status ≡ status_of_cut by → now ≡ before → IsReadCaused before now status
cut_is_read by before now status is calm = subst (λ (u : Status). IsReadCaused before now u) (sym is) (cut_read by before now calm)

-- ---- how a run ends

-- Nothing is promised of it where the answering was cut short.
not_kept : (by : Cut) → is_kept (status_of_cut by) ≡ true → ⊥
not_kept cut.NoMemory e = cc
not_kept cut.Disk e = cc
not_kept cut.Unsaid e = cc

-- A reply was not taken whole where the status tells that.
by_unsaid : (by : Cut) → status_of_cut by ≡ WriteFault → by ≡ cut.Unsaid
by_unsaid cut.NoMemory is = absurd cc
by_unsaid cut.Disk is = absurd cc
by_unsaid cut.Unsaid is = refl

-- A run that was cut short ends with a disk fault only where the disk failed.
pub cut_undisked : (by : Cut) (result : Status) → result ≡ status_of_cut by → (by ≡ cut.Disk → ⊥) → result ≡ DiskFault → ⊥
cut_undisked cut.NoMemory result is other w = cc
cut_undisked cut.Disk result is other w = other refl
cut_undisked cut.Unsaid result is other w = cc

-- Where all events of the input were answered.
pub input_runs : {M : Type 0} {i : Intake M} {o : Passage} {m : M} {now : Telling} {go_on : Type 0} (status : Status) → (answered : EndsInput status i o m now) → o.told.failed ≡ false
    → (IsTrue i.folder → IsTrue i.tells → FollowsEvents i.answerer (events_in i.form (take i.most answered.takes.taken)) (known_in i.form) i.machine o.told.desk.reads now.desk.reads)
    → go_on → RunsOn i o m go_on now.desk status
input_runs {M} {i} {o} {m} {now} {go_on} status told calm follows on =
    let used : List ℕ = take i.most told.takes.taken in
    record {
      serves = input_serves status told calm;
      follows = λ some kept tell. follows some tell;
      stops = λ some tell. used_stops i.form i.answerer i.machine used (known_in i.form) (at_start i.form used) o.told.desk.said refl refl (told.takes.stops some tell);
      last = λ kept. (told.last, on);
      ahead = λ is. absurd ((all_no_fault told.all).0 is);
    }

-- And where it was cut short, and that was told.
cut_runs_by : {M : Type 0} (by : Cut) {i : Intake M} {o : Passage} {machine : M} {mid : Telling} {later : Stopped} {go_on : Type 0} (now : Telling)
    → CutsInput by i o machine mid → o.told.failed ≡ false → (by ≡ cut.Unsaid → go_on)
    → now.desk.said ≡ mid.desk.said → Elapses o.stopped_now later (λ image taken. ⊥) → NotesMore mid.failed now.failed (status_lines [] (status_of_cut by)) mid.desk now.desk
    → RunsOn i (passed_to o later) machine go_on now.desk (status_of_cut by)
cut_runs_by {M} by {i} {o} {machine} {mid} {later} {go_on} now told calm on still no_more more =
    let used : List ℕ = take i.most told.takes.taken in
    record {
      serves = cut_serves by now told calm still more;
      follows = λ some kept tell. absurd (not_kept by kept);
      stops = λ some tell. used_stops i.form i.answerer i.machine used (known_in i.form) (at_start i.form used) o.told.desk.said refl refl (no_more_behind _ (told.takes.stops some tell) no_more);
      last = λ kept. absurd (not_kept by kept);
      ahead = λ is. (told.some.ahead (by_unsaid by is), on (by_unsaid by is));
    }

pub cut_runs : {M : Type 0} (by : Cut) {i : Intake M} {o : Passage} {machine : M} {mid : Telling} {later : Stopped} {go_on : Type 0} (now : Telling) (status : Status) → status ≡ status_of_cut by
    → CutsInput by i o machine mid → o.told.failed ≡ false → (by ≡ cut.Unsaid → go_on)
    → now.desk.said ≡ mid.desk.said → Elapses o.stopped_now later (λ image taken. ⊥) → NotesMore mid.failed now.failed (status_lines [] status) mid.desk now.desk
    → RunsOn i (passed_to o later) machine go_on now.desk status
cut_runs {M} by {i} {o} {machine} {mid} {later} {go_on} now status is told calm on still no_more more =
    let behind = subst (λ (u : Status). NotesMore mid.failed now.failed (status_lines [] u) mid.desk now.desk) is more in
    subst (λ (u : Status). RunsOn i (passed_to o later) machine go_on now.desk u) (sym is) (cut_runs_by by now told calm on still no_more behind)

-- Before anything was noted no note had failed.
pub runs_calm : {M : Type 0} {i : Intake M} {left left_now : Option (List ℕ)} {failed : Bool} {desk : Seen} {stopped stopped_now : Stopped} {machine : M} {go_on : Type 0} {now : Seen} {status : Status} → failed ≡ false
    → RunsOn i (passage_of left left_now failed desk stopped stopped_now) machine go_on now status → RunsOn i (passage_of left left_now false desk stopped stopped_now) machine go_on now status
runs_calm {i = i} {left = left} {left_now = left_now} {desk = desk} {stopped = stopped} {stopped_now = stopped_now} {machine = machine} {go_on = go_on} {now = now} {status = status} calm runs =
    subst (λ (f : Bool). RunsOn i (passage_of left left_now f desk stopped stopped_now) machine go_on now status) calm runs

-- The machine may be called otherwise.
pub runs_at : {M : Type 0} {i : Intake M} {o : Passage} {machine now : M} {go_on : Type 0} {seen : Seen} {status : Status} → now ≡ machine → RunsOn i o machine go_on seen status → RunsOn i o now go_on seen status
runs_at {M} {i} {o} {machine} {now} {go_on} {seen} {status} same runs = subst (λ (m : M). RunsOn i o m go_on seen status) (sym same) runs

-- The notes of such a run failed once at most.
pub cut_run_counted : {M : Type 0} (by : Cut) {i : Intake M} {o : Passage} {machine : M} {mid : Telling} (now : Telling) (status : Status) → status ≡ status_of_cut by → CutsInput by i o machine mid → o.told.failed ≡ false
    → NotesMore mid.failed now.failed (status_lines [] status) mid.desk now.desk → RisesOnce o.told.desk.note_faults now.desk.note_faults
cut_run_counted by {mid = mid} now status is cuts calm more =
    cut_counted by now cuts calm (subst (λ (u : Status). NotesMore mid.failed now.failed (status_lines [] u) mid.desk now.desk) is more)
