-- The numbers of the statuses (docs/FORMATS.md, "Statuses").
use Rattle.std.specs.Prelude.{ℕ}
use Rattle.run_notes.specs.declared.status.Status.{Status}
use Rattle.run_notes.specs.declared.status.Status.TheVariants.{Done, Usage, BadInput, Truncated, ReadFault, WriteFault, DiskFault, Damaged, NoMemory, InputTooLong, FolderFull}

-- The number with which the program ends at a status.
abbrev pub number_of : Status → ℕ
number_of Done = 0
number_of Usage = 1
number_of BadInput = 2
number_of Truncated = 3
number_of ReadFault = 4
number_of WriteFault = 5
number_of DiskFault = 6
number_of Damaged = 7
number_of NoMemory = 8
number_of InputTooLong = 9
number_of FolderFull = 10
