-- How what the parts of a run promise makes up what the run promises.
use Rattle.std.specs.Prelude.{true, false, Bool}
use Rattle.std.proofs.Common.{◌≡◌, ℕ, ◌⊎◌, inl, inr, List, [], ◌∷◌, codes, None, Some, refl, sym, ap, ◌∙◌, subst, arith}
use Rattle.std.proofs.lemmas.Bool.{false≢true}
use Rattle.std.specs.declared.option.Option.{Option}
use Rattle.std.specs.Io.KnownBytes.{IsAtEnd}
use Rattle.ziti_outside.specs.Told.{Took}
use Rattle.ziti_outside.specs.Untouched.{OnlyNotes}
use Rattle.ziti_outside.specs.Views.{Outside, Seen, Stopped}
use Rattle.journal_core.specs.Room.{HoldsRoom}
use Rattle.journal_core.proofs.RoomLaws.{held_none}
use Rattle.channel_frame.specs.declared.frames.Frame.{Frame}
use Rattle.ctrl_model.specs.State.{State, start}
use Rattle.policy_advisor.specs.Reports.{report_of}
use Rattle.row_store.specs.declared.bounds.StoreBounds.{StoreBounds}
use Rattle.ctrl_keep.specs.KeptMachine.{Machine}
use Rattle.ctrl_serve.specs.declared.bounds.Bounds.{Bounds}
use Rattle.ctrl_serve.specs.declared.command_line.Form as command
use Rattle.session_mux.specs.declared.sessions.Form.{Form}
use Rattle.session_mux.specs.declared.sessions.Form.TheVariants.{Plain}
use Rattle.ctrl_serve.specs.declared.command_line.Form.TheVariants.{Dry, Replay, Audit, Compact, Load, Advise, Ship, Follow}
use Rattle.run_notes.specs.declared.status.Status.{Status}
use Rattle.run_notes.specs.declared.status.Status.TheVariants.{Done, Usage, BadInput, Truncated, ReadFault, WriteFault, DiskFault, Damaged, NoMemory, InputTooLong, FolderFull}
use Rattle.ctrl_serve.specs.CommandLine.{reads_input}
use Rattle.run_notes.specs.NotedLines.{FindsNoMore, RisesOnce, NotesLines}
use Rattle.ctrl_serve.specs.FrameAnswer.{no_bounds, alone}
use Rattle.ctrl_serve.specs.Headline.{OnlySaysAndNotes, folder_bounds, taking_of, Serves, Taking, IsLeftAlone, IsUnopened, StaysClosed, Refuses, Replays, Runs}
use Rattle.ctrl_serve.specs.FolderWords.{Advises, Audits, Compacts, EndsCompaction, Looks}
use Rattle.ctrl_serve.specs.FollowWords.{Copies}
use Rattle.ctrl_serve.specs.ShipWords.{SaysShipped, Ships}
use Rattle.ctrl_serve.specs.Loads.{counts_line, state_of_load, SaysOneLine, IsSaid}
use Rattle.run_notes.specs.Notes.{usage_note}
use Rattle.ctrl_serve.specs.Runs.{CountsFaults, IsDiskCaused, IsWriteCaused}
use Rattle.ctrl_serve.proofs.AdviseWords.{AreAdviseWords}
use Rattle.serve_loop.proofs.CompleteLaws.{ends_otherwise, serves_completely, serves_no_usage, serves_to_end}
use Rattle.serve_loop.proofs.DeskLaws.{noted_alone}
use Rattle.serve_loop.proofs.FailureLaws.{takes_none}

-- ---- a run as it was asked for

-- What is asked for is a line of the table.
pub asks_for : (form : Option command.Form) (asked is : command.Form) → form ≡ Some asked → asked ≡ is → form ≡ Some is
asks_for form asked is e same = e ∙ ap Some same

-- An input is asked for in one form.
abbrev asked_form : Form → Option command.Form → Form
asked_form of None = of
asked_form of (Some Dry) = of
asked_form of (Some (Replay form)) = form
asked_form of (Some Audit) = of
asked_form of (Some Compact) = of
asked_form of (Some (Load number)) = of
asked_form of (Some Advise) = of
asked_form of (Some (Ship from)) = of
asked_form of (Some Follow) = of

same_form : (of other : Form) → ◌≡◌ {A = Option command.Form} (Some (Replay of)) (Some (Replay other)) → of ≡ other
same_form of other e = ap (asked_form of) e

-- A word that reads no input is not another one that does.
reads_nothing : (form : Option command.Form) (word asked : command.Form) → reads_input word ≡ false → form ≡ Some word → form ≡ Some asked → reads_input asked ≡ true → ⊥
reads_nothing form word asked none is e reads =
    let same : word ≡ asked = cc in
    false≢true (sym none ∙ ap reads_input same ∙ reads)

-- A run without a folder.
pub dry_runs : {S D : Type 0} (o : Outside S D) (bounds : Bounds) (words : List (List ℕ)) (form : Option command.Form) (source source_now : S) (desk desk_now : D) (status : Status) → form ≡ Some Dry
    → Serves (taking_of Plain bounds.input) no_bounds (alone start) (o.left source) (o.left source_now) (o.seen desk) (o.seen desk_now) status
    → CountsFaults o.left o.faults o.seen source source_now desk desk_now status
    → (status ≡ DiskFault → ⊥) → OnlySaysAndNotes o.seen o.stopped desk desk_now
    → Runs o bounds words form source source_now desk desk_now status
dry_runs o bounds words form source source_now desk desk_now status is serves counts calm others = record {
  usage = (λ u. absurd (serves_no_usage serves u), λ n. cc);
  usage_takes_nothing = λ n. cc;
  usage_notes_alone = λ n. cc;
  usage_changes_nothing = λ n. cc;
  usage_note = λ n. cc;
  read_fault = counts.read_fault;
  write_fault = counts.write.rose;
  failed_take = counts.failed_take;
  failed_say = counts.write.calm;
  read_faults_once = counts.read_faults_once;
  say_faults_once = counts.write.counted;
  disk_fault = counts.disk.rose;
  failed_disk = counts.disk.calm;
  disk_faults_once = counts.disk.counted;
  note_faults_once = counts.note_faults_once;
  takes_until_failure = counts.takes_until_failure;
  dry = λ _. serves;
  dry_says_and_notes_alone = λ _. others;
  complete = λ _ read say. serves_completely status serves (λ r. read (counts.read_fault r)) (λ w. say (counts.write.rose w)) calm;
  read_to_the_end = λ asked e reads done. serves_to_end serves done;
  replay = λ of e. cc;
  load = λ number e. cc;
  load_takes_nothing = λ number e. cc;
  load_says_and_notes_alone = λ number e. cc;
  load_complete = λ number e. cc;
  audit = λ e. cc;
  audit_takes_nothing = λ e. cc;
  audit_changes_nothing = λ e. cc;
  advise = λ i s w e. cc;
  advise_takes_nothing = λ e. cc;
  advise_changes_nothing = λ e. cc;
  ship = λ from e. cc;
  ship_takes_nothing = λ from e. cc;
  ship_changes_nothing = λ from e. cc;
  ship_complete = λ from e. cc;
  follow = λ e. cc;
  compact = λ e. cc;
  compact_takes_nothing = λ e. cc;
  compact_says_nothing = λ e. cc;
  room = held_none o.tells (folder_bounds bounds).slot others.folder.parts others.folder.found;
}

-- Where a folder was not opened the run ends with none of these.
closed_status : (within : Option StoreBounds) (tells : Bool) (before now : Seen) (status : Status) → StaysClosed within tells before now status
    → (status ≡ Usage → ⊥) × (status ≡ Done → ⊥) × (status ≡ ReadFault → ⊥) × (status ≡ WriteFault → ⊥)
closed_status within tells before now status why =
    let not = ends_otherwise (λ (u : Status). StaysClosed within tells before now u) status why in
    (not Usage (λ w. w), not Done (λ w. w), not ReadFault (λ w. w), not WriteFault (λ w. w))

-- A run on the folder, which was not opened or from which the run went on.
replays_status : {S D : Type 0} (o : Outside S D) {taking : Taking} {bounds : StoreBounds} (source source_now : S) (desk desk_now : D) (status : Status)
    → Refuses bounds o.tells o.seen o.stopped source source_now desk desk_now status ⊎ Replays taking bounds o source source_now desk desk_now status
    → (status ≡ Usage → ⊥) × (status ≡ Done → IsAtEnd (o.left source_now))
replays_status o {bounds = bounds} source source_now desk desk_now status (inl closed) =
    let none = closed_status (Some bounds) o.tells _ _ status closed.unopened.why in (none.0, λ done. absurd (none.1 done))
replays_status o source source_now desk desk_now status (inr on) =
    (serves_no_usage on.serves, serves_to_end on.serves)

pub replay_runs : {S D : Type 0} (o : Outside S D) (of : Form) (bounds : Bounds) (words : List (List ℕ)) (form : Option command.Form) (source source_now : S) (desk desk_now : D) (status : Status) → form ≡ Some (Replay of)
    → Refuses (folder_bounds bounds) o.tells o.seen o.stopped source source_now desk desk_now status
    ⊎ Replays (taking_of of bounds.input) (folder_bounds bounds) o source source_now desk desk_now status
    → CountsFaults o.left o.faults o.seen source source_now desk desk_now status
    → HoldsRoom o.tells (folder_bounds bounds).slot o.seen o.stopped desk desk_now
    → Runs o bounds words form source source_now desk desk_now status
replay_runs o of bounds words form source source_now desk desk_now status is replays counts room =
    let at : (status ≡ Usage → ⊥) × (status ≡ Done → IsAtEnd (o.left source_now)) = replays_status o source source_now desk desk_now status replays in
    record {
      usage = (λ u. absurd (at.0 u), λ n. cc);
      usage_takes_nothing = λ n. cc;
      usage_notes_alone = λ n. cc;
      usage_changes_nothing = λ n. cc;
      usage_note = λ n. cc;
      read_fault = counts.read_fault;
      write_fault = counts.write.rose;
      failed_take = counts.failed_take;
      failed_say = counts.write.calm;
      read_faults_once = counts.read_faults_once;
      say_faults_once = counts.write.counted;
      disk_fault = counts.disk.rose;
      failed_disk = counts.disk.calm;
      disk_faults_once = counts.disk.counted;
      note_faults_once = counts.note_faults_once;
      takes_until_failure = counts.takes_until_failure;
      dry = λ e. cc;
      dry_says_and_notes_alone = λ e. cc;
      complete = λ e. cc;
      read_to_the_end = λ asked e reads. at.1;
      replay = λ other asked. subst (λ (f : Form). Refuses (folder_bounds bounds) o.tells o.seen o.stopped source source_now desk desk_now status
          ⊎ Replays (taking_of f bounds.input) (folder_bounds bounds) o source source_now desk desk_now status)
          (same_form of other (sym is ∙ asked)) replays;
      load = λ number e. cc;
      load_takes_nothing = λ number e. cc;
      load_says_and_notes_alone = λ number e. cc;
      load_complete = λ number e. cc;
      audit = λ e. cc;
      audit_takes_nothing = λ e. cc;
      audit_changes_nothing = λ e. cc;
      advise = λ i s w e. cc;
      advise_takes_nothing = λ e. cc;
      advise_changes_nothing = λ e. cc;
      ship = λ from e. cc;
      ship_takes_nothing = λ from e. cc;
      ship_changes_nothing = λ from e. cc;
      ship_complete = λ from e. cc;
      follow = λ e. cc;
      compact = λ e. cc;
      compact_takes_nothing = λ e. cc;
      compact_says_nothing = λ e. cc;
      room = room;
    }

-- A run that follows, on a folder which was not opened or from which the run went on.
follows_status : {S D : Type 0} (o : Outside S D) {taking : Taking} {bounds : StoreBounds} (source source_now : S) (desk desk_now : D) (status : Status)
    → Refuses bounds o.tells o.seen o.stopped source source_now desk desk_now status ⊎ Copies taking bounds o source source_now desk desk_now status
    → (status ≡ Usage → ⊥) × (status ≡ Done → IsAtEnd (o.left source_now))
follows_status o {bounds = bounds} source source_now desk desk_now status (inl closed) =
    let none = closed_status (Some bounds) o.tells _ _ status closed.unopened.why in (none.0, λ done. absurd (none.1 done))
follows_status o source source_now desk desk_now status (inr on) =
    (serves_no_usage on.serves, serves_to_end on.serves)

pub follow_runs : {S D : Type 0} (o : Outside S D) (bounds : Bounds) (words : List (List ℕ)) (form : Option command.Form) (source source_now : S) (desk desk_now : D) (status : Status) → form ≡ Some Follow
    → Refuses (folder_bounds bounds) o.tells o.seen o.stopped source source_now desk desk_now status
    ⊎ Copies (taking_of Plain bounds.input) (folder_bounds bounds) o source source_now desk desk_now status
    → CountsFaults o.left o.faults o.seen source source_now desk desk_now status
    → HoldsRoom o.tells (folder_bounds bounds).slot o.seen o.stopped desk desk_now
    → Runs o bounds words form source source_now desk desk_now status
follow_runs o bounds words form source source_now desk desk_now status is follows counts room =
    let at : (status ≡ Usage → ⊥) × (status ≡ Done → IsAtEnd (o.left source_now)) = follows_status o source source_now desk desk_now status follows in
    record {
      usage = (λ u. absurd (at.0 u), λ n. cc);
      usage_takes_nothing = λ n. cc;
      usage_notes_alone = λ n. cc;
      usage_changes_nothing = λ n. cc;
      usage_note = λ n. cc;
      read_fault = counts.read_fault;
      write_fault = counts.write.rose;
      failed_take = counts.failed_take;
      failed_say = counts.write.calm;
      read_faults_once = counts.read_faults_once;
      say_faults_once = counts.write.counted;
      disk_fault = counts.disk.rose;
      failed_disk = counts.disk.calm;
      disk_faults_once = counts.disk.counted;
      note_faults_once = counts.note_faults_once;
      takes_until_failure = counts.takes_until_failure;
      dry = λ e. cc;
      dry_says_and_notes_alone = λ e. cc;
      complete = λ e. cc;
      read_to_the_end = λ asked e reads. at.1;
      replay = λ of e. cc;
      load = λ number e. cc;
      load_takes_nothing = λ number e. cc;
      load_says_and_notes_alone = λ number e. cc;
      load_complete = λ number e. cc;
      audit = λ e. cc;
      audit_takes_nothing = λ e. cc;
      audit_changes_nothing = λ e. cc;
      advise = λ i s w e. cc;
      advise_takes_nothing = λ e. cc;
      advise_changes_nothing = λ e. cc;
      ship = λ from e. cc;
      ship_takes_nothing = λ from e. cc;
      ship_changes_nothing = λ from e. cc;
      ship_complete = λ from e. cc;
      follow = λ e. follows;
      compact = λ e. cc;
      compact_takes_nothing = λ e. cc;
      compact_says_nothing = λ e. cc;
      room = room;
    }

-- A run that only wrote the usage note, where the words are no line of the table.
pub usage_runs : {S D : Type 0} (o : Outside S D) (bounds : Bounds) (words : List (List ℕ)) (form : Option command.Form) (source : S) (desk desk_now : D) → form ≡ None → OnlyNotes o.seen o.stopped desk desk_now → FindsNoMore o.stopped desk desk_now
    → NotesLines usage_note (o.seen desk) (o.seen desk_now) → RisesOnce (o.seen desk).note_faults (o.seen desk_now).note_faults
    → Runs o bounds words form source source desk desk_now Usage
usage_runs o bounds words form source desk desk_now is others more note counted = record {
  usage = (λ _. is, λ _. refl);
  usage_takes_nothing = λ _. refl;
  usage_notes_alone = λ _. others;
  usage_changes_nothing = λ _. noted_alone others more;
  usage_note = λ _. note;
  read_fault = λ e. cc;
  write_fault = λ e. cc;
  failed_take = λ _. refl;
  failed_say = λ _. others.failed_says;
  read_faults_once = record { later = omega arith; once = omega arith };
  say_faults_once = record { later = omega (arith, others.failed_says); once = omega (arith, others.failed_says) };
  disk_fault = λ e. cc;
  failed_disk = λ _. others.failed_calls;
  disk_faults_once = record { later = omega (arith, others.failed_calls); once = omega (arith, others.failed_calls) };
  note_faults_once = counted;
  takes_until_failure = takes_none source;
  dry = λ e. cc;
  dry_says_and_notes_alone = λ e. cc;
  complete = λ e. cc;
  read_to_the_end = λ asked e reads done. cc;
  replay = λ of e. cc;
  load = λ number e. cc;
  load_takes_nothing = λ number e. refl;
  load_says_and_notes_alone = λ number e. cc;
  load_complete = λ number e. cc;
  audit = λ e. cc;
  audit_takes_nothing = λ e. cc;
  audit_changes_nothing = λ e. cc;
  advise = λ i s w e. cc;
  advise_takes_nothing = λ e. cc;
  advise_changes_nothing = λ e. cc;
  ship = λ from e. cc;
  ship_takes_nothing = λ from e. cc;
  ship_changes_nothing = λ from e. cc;
  ship_complete = λ from e. cc;
  follow = λ e. cc;
  compact = λ e. cc;
  compact_takes_nothing = λ e. cc;
  compact_says_nothing = λ e. cc;
  room = held_none o.tells (folder_bounds bounds).slot others.parts others.found;
}

-- ---- a run of a generated load

-- It ends with none of these.
pub line_statuses : (status : Status) (line : List ℕ) (a b : Seen) → SaysOneLine line a b status
    → (status ≡ Usage → ⊥) × (status ≡ ReadFault → ⊥) × (status ≡ DiskFault → ⊥)
line_statuses status line a b s =
    let not = ends_otherwise (λ (u : Status). SaysOneLine line a b u) status s in
    (not Usage (λ t. t.says), not ReadFault (λ t. t.says), not DiskFault (λ t. t.says))

-- Where no say failed the line was said, unless memory was wanting.
pub line_said : (status : Status) (line : List ℕ) (a b : Seen) → SaysOneLine line a b status → (status ≡ WriteFault → ⊥) → IsSaid line a.said b.said status
line_said Done line a b s write = inr (refl, subst (λ (l : List ℕ). Took a.said b.said l) s.says s.took)
line_said Usage line a b s write = absurd s.says
line_said BadInput line a b s write = absurd s.says
line_said Truncated line a b s write = absurd s.says
line_said ReadFault line a b s write = absurd s.says
line_said WriteFault line a b s write = absurd (write refl)
line_said DiskFault line a b s write = absurd s.says
line_said Damaged line a b s write = absurd s.says
line_said NoMemory line a b s write = inl refl
line_said InputTooLong line a b s write = absurd s.says
line_said FolderFull line a b s write = absurd s.says

-- A load is the load of one number.
one_load : (form : Option command.Form) (m n : ℕ) → form ≡ Some (Load m) → form ≡ Some (Load n) → m ≡ n
one_load form m n is e = cc

pub load_runs : {S D : Type 0} (o : Outside S D) (bounds : Bounds) (words : List (List ℕ)) (form : Option command.Form) (number : ℕ) (source : S) (desk desk_now : D) (status : Status) → form ≡ Some (Load number)
    → SaysOneLine (counts_line (state_of_load number)) (o.seen desk) (o.seen desk_now) status
    → IsWriteCaused (o.seen desk).say_faults (o.seen desk_now).say_faults status → RisesOnce (o.seen desk).note_faults (o.seen desk_now).note_faults → OnlySaysAndNotes o.seen o.stopped desk desk_now
    → Runs o bounds words form source source desk desk_now status
load_runs o bounds words form number source desk desk_now status is says write counted others =
    let not = line_statuses status _ _ _ says in
    let same : (other : ℕ) → form ≡ Some (Load other) → number ≡ other = λ other e. one_load form number other is e in
    record {
      usage = (λ u. absurd (not.0 u), λ n. cc);
      usage_takes_nothing = λ n. cc;
      usage_notes_alone = λ n. cc;
      usage_changes_nothing = λ n. cc;
      usage_note = λ n. cc;
      read_fault = λ r. absurd (not.1 r);
      write_fault = write.rose;
      failed_take = λ _. refl;
      failed_say = write.calm;
      read_faults_once = record { later = omega arith; once = omega arith };
      say_faults_once = write.counted;
      disk_fault = λ d. absurd (not.2 d);
      failed_disk = λ _. others.failed_calls;
      disk_faults_once = record { later = omega (arith, others.failed_calls); once = omega (arith, others.failed_calls) };
      note_faults_once = counted;
      takes_until_failure = takes_none source;
      dry = λ e. cc;
      dry_says_and_notes_alone = λ e. cc;
      complete = λ e. cc;
      read_to_the_end = λ asked e reads. absurd (reads_nothing form (Load number) asked refl is e reads);
      replay = λ of e. cc;
      load = λ other e. subst (λ (n : ℕ). SaysOneLine (counts_line (state_of_load n)) (o.seen desk) (o.seen desk_now) status) (same other e) says;
      load_takes_nothing = λ other e. refl;
      load_says_and_notes_alone = λ other e. others;
      load_complete = λ other e calm. subst (λ (n : ℕ). IsSaid (counts_line (state_of_load n)) (o.seen desk).said (o.seen desk_now).said status) (same other e) (line_said status _ _ _ says (λ w. calm (write.rose w)));
      audit = λ e. cc;
      audit_takes_nothing = λ e. cc;
      audit_changes_nothing = λ e. cc;
      advise = λ i s w e. cc;
      advise_takes_nothing = λ e. cc;
      advise_changes_nothing = λ e. cc;
      ship = λ from e. cc;
      ship_takes_nothing = λ from e. cc;
      ship_changes_nothing = λ from e. cc;
      ship_complete = λ from e. cc;
      follow = λ e. cc;
      compact = λ e. cc;
      compact_takes_nothing = λ e. cc;
      compact_says_nothing = λ e. cc;
      room = held_none o.tells (folder_bounds bounds).slot others.folder.parts others.folder.found;
    }

-- ---- a look at a folder

-- Whether a word looks at a folder.
abbrev is_look : command.Form → Bool
is_look Dry = false
is_look (Replay form) = false
is_look Audit = true
is_look Compact = false
is_look (Load number) = false
is_look Advise = true
is_look (Ship from) = true
is_look Follow = false

-- It reads no input, and is no word that does not look.
look_reads_nothing : (word : command.Form) → is_look word ≡ true → reads_input word ≡ false
look_reads_nothing Dry looks = absurd (false≢true looks)
look_reads_nothing (Replay form) looks = absurd (false≢true looks)
look_reads_nothing Audit looks = refl
look_reads_nothing Compact looks = absurd (false≢true looks)
look_reads_nothing (Load number) looks = absurd (false≢true looks)
look_reads_nothing Advise looks = refl
look_reads_nothing (Ship from) looks = refl
look_reads_nothing Follow looks = absurd (false≢true looks)

looks_not : (form : Option command.Form) (word other : command.Form) → is_look word ≡ true → is_look other ≡ false → form ≡ Some word → form ≡ Some other → ⊥
looks_not form word other looks not is e =
    let same : word ≡ other = cc in
    false≢true (sym not ∙ sym (ap is_look same) ∙ looks)

-- A run of such a word ends with none of these.
look_statuses : {D : Type 0} {seen : D → Seen} {stopped : D → Stopped}
    (line : State → List ℕ) (tells : Bool) (desk desk_now : D) (status : Status) → IsUnopened None tells seen stopped desk desk_now status
    ⊎ Looks line tells (seen desk) (seen desk_now) status
    → (status ≡ Usage → ⊥) × (status ≡ ReadFault → ⊥)
look_statuses line tells desk desk_now status (inl closed) = let not = closed_status None tells _ _ status closed.why in (not.0, not.2)
look_statuses line tells desk desk_now status (inr on) = let not = line_statuses status _ _ _ on.says in (not.0, not.1)

-- What a shipping ends with, and that it ends with one of three statuses where no call failed.
abbrev EndsShipping : {D : Type 0} → Bool → (D → Seen) → (D → Stopped) → (from : ℕ) (desk desk_now : D) → Status → Type 0
EndsShipping tells seen stopped from desk desk_now status =
    (IsUnopened None tells seen stopped desk desk_now status ⊎ Ships from tells (seen desk) (seen desk_now) status)
    × ((status ≡ WriteFault → ⊥) → (status ≡ DiskFault → ⊥) → (status ≡ Done) ⊎ (status ≡ Damaged) ⊎ (status ≡ NoMemory))

look_runs : {S D : Type 0} (o : Outside S D) (bounds : Bounds) (words : List (List ℕ)) (form : Option command.Form) (word : command.Form) (source : S) (desk desk_now : D) (status : Status)
    → is_look word ≡ true → form ≡ Some word → (status ≡ Usage → ⊥) × (status ≡ ReadFault → ⊥)
    → (form ≡ Some Audit → IsUnopened None o.tells o.seen o.stopped desk desk_now status ⊎ Audits o.tells (o.seen desk) (o.seen desk_now) status)
    → ((i s : List ℕ) → words ≡ codes "advise" ∷ i ∷ s ∷ [] → form ≡ Some Advise
    → IsUnopened None o.tells o.seen o.stopped desk desk_now status ⊎ Advises i s o.tells (o.seen desk) (o.seen desk_now) status)
    → ((from : ℕ) → form ≡ Some (Ship from) → EndsShipping o.tells o.seen o.stopped from desk desk_now status)
    → IsLeftAlone o.seen o.stopped desk desk_now → IsWriteCaused (o.seen desk).say_faults (o.seen desk_now).say_faults status → IsDiskCaused (o.seen desk).disk_faults (o.seen desk_now).disk_faults status
    → RisesOnce (o.seen desk).note_faults (o.seen desk_now).note_faults
    → Runs o bounds words form source source desk desk_now status
look_runs o bounds words form word source desk desk_now status looks is not audits advises ships alone write disk counted =
    let other : (asked : command.Form) → is_look asked ≡ false → form ≡ Some asked → ⊥ = λ asked none e. looks_not form word asked looks none is e in
    record {
      usage = (λ u. absurd (not.0 u), λ n. cc);
      usage_takes_nothing = λ n. cc;
      usage_notes_alone = λ n. cc;
      usage_changes_nothing = λ n. cc;
      usage_note = λ n. cc;
      read_fault = λ r. absurd (not.1 r);
      write_fault = write.rose;
      failed_take = λ _. refl;
      failed_say = write.calm;
      read_faults_once = record { later = omega arith; once = omega arith };
      say_faults_once = write.counted;
      disk_fault = disk.rose;
      failed_disk = disk.calm;
      disk_faults_once = disk.counted;
      note_faults_once = counted;
      takes_until_failure = takes_none source;
      dry = λ e. absurd (other Dry refl e);
      dry_says_and_notes_alone = λ e. absurd (other Dry refl e);
      complete = λ e. absurd (other Dry refl e);
      read_to_the_end = λ asked e reads. absurd (reads_nothing form word asked (look_reads_nothing word looks) is e reads);
      replay = λ of e. absurd (other (Replay of) refl e);
      load = λ number e. absurd (other (Load number) refl e);
      load_takes_nothing = λ number e. refl;
      load_says_and_notes_alone = λ number e. absurd (other (Load number) refl e);
      load_complete = λ number e. absurd (other (Load number) refl e);
      audit = audits;
      audit_takes_nothing = λ _. refl;
      audit_changes_nothing = λ _. alone;
      advise = advises;
      advise_takes_nothing = λ _. refl;
      advise_changes_nothing = λ _. alone;
      ship = λ from e. (ships from e).0;
      ship_takes_nothing = λ from _. refl;
      ship_changes_nothing = λ from _. alone;
      ship_complete = λ from e says calls. (ships from e).1 (λ w. says (write.rose w)) (λ d. calls (disk.rose d));
      follow = λ e. absurd (other Follow refl e);
      compact = λ e. absurd (other Compact refl e);
      compact_takes_nothing = λ e. refl;
      compact_says_nothing = λ e. absurd (other Compact refl e);
      room = held_none o.tells (folder_bounds bounds).slot alone.parts alone.found;
    }

pub audit_runs : {S D : Type 0} (o : Outside S D) (bounds : Bounds) (words : List (List ℕ)) (form : Option command.Form) (source : S) (desk desk_now : D) (status : Status) → form ≡ Some Audit
    → IsUnopened None o.tells o.seen o.stopped desk desk_now status
    ⊎ Audits o.tells (o.seen desk) (o.seen desk_now) status
    → IsLeftAlone o.seen o.stopped desk desk_now → IsWriteCaused (o.seen desk).say_faults (o.seen desk_now).say_faults status → IsDiskCaused (o.seen desk).disk_faults (o.seen desk_now).disk_faults status
    → RisesOnce (o.seen desk).note_faults (o.seen desk_now).note_faults
    → Runs o bounds words form source source desk desk_now status
audit_runs o bounds words form source desk desk_now status is audits alone write disk counted =
    look_runs o bounds words form Audit source desk desk_now status refl is (look_statuses {seen = o.seen} {stopped = o.stopped} counts_line o.tells desk desk_now status audits)
    (λ _. audits) (λ i s w e. cc) (λ from e. cc) alone write disk counted

pub advise_runs : {S D : Type 0} (o : Outside S D) (bounds : Bounds) (words : List (List ℕ)) (form : Option command.Form) (source : S) (desk desk_now : D) (status : Status) → form ≡ Some Advise
    → AreAdviseWords words
    → ((i s : List ℕ) → words ≡ codes "advise" ∷ i ∷ s ∷ []
    → IsUnopened None o.tells o.seen o.stopped desk desk_now status ⊎ Advises i s o.tells (o.seen desk) (o.seen desk_now) status)
    → IsLeftAlone o.seen o.stopped desk desk_now → IsWriteCaused (o.seen desk).say_faults (o.seen desk_now).say_faults status → IsDiskCaused (o.seen desk).disk_faults (o.seen desk_now).disk_faults status
    → RisesOnce (o.seen desk).note_faults (o.seen desk_now).note_faults
    → Runs o bounds words form source source desk desk_now status
advise_runs o bounds words form source desk desk_now status is named advises alone write disk counted =
    look_runs o bounds words form Advise source desk desk_now status refl is
    (look_statuses {seen = o.seen} {stopped = o.stopped} (λ s. report_of s named.identity named.service) o.tells desk desk_now status (advises named.identity named.service named.are))
    (λ e. cc) (λ i s w _. advises i s w) (λ from e. cc) alone write disk counted

-- ---- a shipping of a folder

-- A shipping ships from one serial on.
one_serial : (form : Option command.Form) (m n : ℕ) → form ≡ Some (Ship m) → form ≡ Some (Ship n) → m ≡ n
one_serial form m n is e = cc

-- What it says comes with none of these statuses.
shipped_statuses : (tells : Bool) (from : ℕ) (before now : Seen) (status : Status) → Ships from tells before now status → (status ≡ Usage → ⊥) × (status ≡ ReadFault → ⊥)
shipped_statuses tells from before now status ships =
    let not = ends_otherwise (λ (u : Status). Ships from tells before now u) status ships in
    (not Usage (λ t. t.frames.said), not ReadFault (λ t. t.frames.said))

ship_statuses : {D : Type 0} {seen : D → Seen} {stopped : D → Stopped}
    (tells : Bool) (from : ℕ) (desk desk_now : D) (status : Status) → IsUnopened None tells seen stopped desk desk_now status ⊎ Ships from tells (seen desk) (seen desk_now) status
    → (status ≡ Usage → ⊥) × (status ≡ ReadFault → ⊥)
ship_statuses tells from desk desk_now status (inl closed) = let not = closed_status None tells _ _ status closed.why in (not.0, not.2)
ship_statuses {seen = seen} tells from desk desk_now status (inr on) = shipped_statuses tells from (seen desk) (seen desk_now) status on

-- Where no call failed it ends with one of three.
closed_calmly : (tells : Bool) (before now : Seen) (status : Status) → StaysClosed None tells before now status → (status ≡ DiskFault → ⊥) → (status ≡ Done) ⊎ (status ≡ Damaged) ⊎ (status ≡ NoMemory)
closed_calmly tells before now Done why disk = absurd why
closed_calmly tells before now Usage why disk = absurd why
closed_calmly tells before now BadInput why disk = absurd why
closed_calmly tells before now Truncated why disk = absurd why
closed_calmly tells before now ReadFault why disk = absurd why
closed_calmly tells before now WriteFault why disk = absurd why
closed_calmly tells before now DiskFault why disk = absurd (disk refl)
closed_calmly tells before now Damaged why disk = inr (inl refl)
closed_calmly tells before now NoMemory why disk = inr (inr refl)
closed_calmly tells before now InputTooLong why disk = absurd why
closed_calmly tells before now FolderFull why disk = absurd why.1

shipped_calmly : (before now : Option (List ℕ)) (all : List Frame) (status : Status) → SaysShipped status before now all → (status ≡ WriteFault → ⊥) → (status ≡ DiskFault → ⊥)
    → (status ≡ Done) ⊎ (status ≡ Damaged) ⊎ (status ≡ NoMemory)
shipped_calmly before now all Done says write disk = inl refl
shipped_calmly before now all Usage says write disk = absurd says
shipped_calmly before now all BadInput says write disk = absurd says
shipped_calmly before now all Truncated says write disk = absurd says
shipped_calmly before now all ReadFault says write disk = absurd says
shipped_calmly before now all WriteFault says write disk = absurd (write refl)
shipped_calmly before now all DiskFault says write disk = absurd (disk refl)
shipped_calmly before now all Damaged says write disk = inr (inl refl)
shipped_calmly before now all NoMemory says write disk = inr (inr refl)
shipped_calmly before now all InputTooLong says write disk = absurd says
shipped_calmly before now all FolderFull says write disk = absurd says

ships_calmly : {D : Type 0} {seen : D → Seen} {stopped : D → Stopped}
    (tells : Bool) (from : ℕ) (desk desk_now : D) (status : Status) → IsUnopened None tells seen stopped desk desk_now status ⊎ Ships from tells (seen desk) (seen desk_now) status
    → (status ≡ WriteFault → ⊥) → (status ≡ DiskFault → ⊥) → (status ≡ Done) ⊎ (status ≡ Damaged) ⊎ (status ≡ NoMemory)
ships_calmly {seen = seen} tells from desk desk_now status (inl closed) write disk = closed_calmly tells (seen desk) (seen desk_now) status closed.why disk
ships_calmly tells from desk desk_now status (inr on) write disk = shipped_calmly _ _ on.frames.all status on.frames.said write disk

pub ship_runs : {S D : Type 0} (o : Outside S D) (bounds : Bounds) (words : List (List ℕ)) (form : Option command.Form) (number : ℕ) (source : S) (desk desk_now : D) (status : Status) → form ≡ Some (Ship number)
    → IsUnopened None o.tells o.seen o.stopped desk desk_now status
    ⊎ Ships number o.tells (o.seen desk) (o.seen desk_now) status
    → IsLeftAlone o.seen o.stopped desk desk_now → IsWriteCaused (o.seen desk).say_faults (o.seen desk_now).say_faults status → IsDiskCaused (o.seen desk).disk_faults (o.seen desk_now).disk_faults status
    → RisesOnce (o.seen desk).note_faults (o.seen desk_now).note_faults
    → Runs o bounds words form source source desk desk_now status
ship_runs o bounds words form number source desk desk_now status is ships alone write disk counted =
    look_runs o bounds words form (Ship number) source desk desk_now status refl is (ship_statuses {seen = o.seen} {stopped = o.stopped} o.tells number desk desk_now status ships)
    (λ e. cc) (λ i s w e. cc)
    (λ from e. subst (λ (n : ℕ). EndsShipping o.tells o.seen o.stopped n desk desk_now status) (one_serial form number from is e)
    (ships, ships_calmly {seen = o.seen} {stopped = o.stopped} o.tells number desk desk_now status ships))
    alone write disk counted

-- ---- the compaction of a folder

-- It ends with none of these.
ends_statuses : (status : Status) (bounds : StoreBounds) (m : Machine) (tells : Bool) (before now : Seen) → EndsCompaction status bounds m tells before now
    → (status ≡ Usage → ⊥) × (status ≡ ReadFault → ⊥) × (status ≡ WriteFault → ⊥)
ends_statuses status bounds m tells before now ends =
    let not = ends_otherwise (λ (u : Status). EndsCompaction u bounds m tells before now) status ends in
    (not Usage (λ e. e), not ReadFault (λ e. e), not WriteFault (λ e. e))

compact_statuses : {D : Type 0} {seen : D → Seen} {stopped : D → Stopped}
    (tells : Bool) (bounds : StoreBounds) (desk desk_now : D) (status : Status) → IsUnopened (Some bounds) tells seen stopped desk desk_now status
    ⊎ Compacts bounds tells (seen desk) (seen desk_now) (stopped desk) (stopped desk_now) status
    → (status ≡ Usage → ⊥) × (status ≡ ReadFault → ⊥) × (status ≡ WriteFault → ⊥)
compact_statuses tells bounds desk desk_now status (inl closed) = let not = closed_status (Some bounds) tells _ _ status closed.why in (not.0, not.2, not.3)
compact_statuses tells bounds desk desk_now status (inr on) = ends_statuses status bounds on.machine tells _ _ on.ends

pub compact_runs : {S D : Type 0} (o : Outside S D) (bounds : Bounds) (words : List (List ℕ)) (form : Option command.Form) (source : S) (desk desk_now : D) (status : Status) → form ≡ Some Compact
    → IsUnopened (Some (folder_bounds bounds)) o.tells o.seen o.stopped desk desk_now status
    ⊎ Compacts (folder_bounds bounds) o.tells (o.seen desk) (o.seen desk_now) (o.stopped desk) (o.stopped desk_now) status
    → (o.seen desk_now).said ≡ (o.seen desk).said → (o.seen desk_now).say_faults ≡ (o.seen desk).say_faults → IsDiskCaused (o.seen desk).disk_faults (o.seen desk_now).disk_faults status → RisesOnce (o.seen desk).note_faults (o.seen desk_now).note_faults
    → HoldsRoom o.tells (folder_bounds bounds).slot o.seen o.stopped desk desk_now
    → Runs o bounds words form source source desk desk_now status
compact_runs o bounds words form source desk desk_now status is compacts quiet says disk counted room =
    let not : (status ≡ Usage → ⊥) × (status ≡ ReadFault → ⊥) × (status ≡ WriteFault → ⊥) =
    compact_statuses {seen = o.seen} {stopped = o.stopped} o.tells (folder_bounds bounds) desk desk_now status compacts in
    record {
      usage = (λ u. absurd (not.0 u), λ n. cc);
      usage_takes_nothing = λ n. cc;
      usage_notes_alone = λ n. cc;
      usage_changes_nothing = λ n. cc;
      usage_note = λ n. cc;
      read_fault = λ r. absurd (not.1 r);
      write_fault = λ w. absurd (not.2 w);
      failed_take = λ _. refl;
      failed_say = λ _. says;
      read_faults_once = record { later = omega arith; once = omega arith };
      say_faults_once = record { later = omega (arith, says); once = omega (arith, says) };
      disk_fault = disk.rose;
      failed_disk = disk.calm;
      disk_faults_once = disk.counted;
      note_faults_once = counted;
      takes_until_failure = takes_none source;
      dry = λ e. cc;
      dry_says_and_notes_alone = λ e. cc;
      complete = λ e. cc;
      read_to_the_end = λ asked e reads. absurd (reads_nothing form Compact asked refl is e reads);
      replay = λ of e. cc;
      load = λ number e. cc;
      load_takes_nothing = λ number e. cc;
      load_says_and_notes_alone = λ number e. cc;
      load_complete = λ number e. cc;
      audit = λ e. cc;
      audit_takes_nothing = λ e. cc;
      audit_changes_nothing = λ e. cc;
      advise = λ i s w e. cc;
      advise_takes_nothing = λ e. cc;
      advise_changes_nothing = λ e. cc;
      ship = λ from e. cc;
      ship_takes_nothing = λ from e. cc;
      ship_changes_nothing = λ from e. cc;
      ship_complete = λ from e. cc;
      follow = λ e. cc;
      compact = λ _. compacts;
      compact_takes_nothing = λ _. refl;
      compact_says_nothing = λ _. quiet;
      room = room;
    }
