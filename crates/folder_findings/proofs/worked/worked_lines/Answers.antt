use Rattle.std.proofs.Common.{refl}
use Rattle.std.specs.Fmt.{digits}
use Rattle.folder_findings.proofs.worked.worked_lines.Goals as goal

pub returns : goal.returns
unfolding digits
returns c = record {
  well = refl;
  lost_mark = refl;
  lost_second = refl;
  lost_of_two = refl;
  no_files = refl;
  changed_gate = refl;
  other_slot = refl;
  no_last_gate = refl;
  cut_record = refl;
  no_header = refl;
  no_batch = refl;
  no_next = refl;
  no_state = refl;
}
