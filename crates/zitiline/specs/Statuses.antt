-- The numbers of the statuses. Refused has one of its own; the others have those that zitictl has for the same causes
-- (docs/FORMATS.md, "Statuses").
use Rattle.std.specs.Prelude.{ℕ}
use Rattle.zitiline.specs.declared.status.Status.{Status}
use Rattle.zitiline.specs.declared.status.Status.TheVariants.{Done, Refused, Usage, BadInput, ReadFault, WriteFault, NoMemory}

-- The number with which the program ends at a status.
abbrev pub number_of : Status → ℕ
number_of Done = 0
number_of Usage = 1
number_of BadInput = 2
number_of Refused = 3
number_of ReadFault = 4
number_of WriteFault = 5
number_of NoMemory = 8
