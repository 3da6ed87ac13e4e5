use Rattle.std.proofs.Common.{rules}
use Rattle.slot_files.proofs.opening.open.Goals as goal

pub create-requires-clause-stable : goal.create-requires-clause-stable
create-requires-clause-stable g c = search rules

pub returns-in_ok-sync-in-Some-clause-opened : goal.returns-in_ok-sync-in-Some-clause-opened
returns-in_ok-sync-in-Some-clause-opened g c = search rules
