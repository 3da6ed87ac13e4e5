use Rattle.dump_lines.proofs.MadeRecords.{link_found, terminator_found}
use Rattle.dump_lines.proofs.laws.ends_are_found_by_name.Goals as goal

pub returns : goal.returns
returns c = record { links = link_found; terminators = terminator_found }
