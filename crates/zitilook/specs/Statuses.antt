-- The numbers of the statuses, which are those that zitictl has for the same causes (docs/FORMATS.md, "Statuses"). Only `diff` and `plan` end with
-- Differs, and `diff` never ends with Unknown. Refused, which only `plan` ends with, has the number that it has in zitiline.
use Rattle.std.specs.Prelude.{ℕ}
use Rattle.zitilook.specs.declared.status.Status.{Status}
use Rattle.zitilook.specs.declared.status.Status.TheVariants.{Done, Usage, Found, Unknown, Differs, Refused, ReadFault, WriteFault, DiskFault, Damaged, NoMemory}

-- The number with which the program ends at a status.
abbrev pub number_of : Status → ℕ
number_of Done = 0
number_of Usage = 1
number_of Found = 2
number_of Unknown = 2
number_of Differs = 2
number_of Refused = 3
number_of ReadFault = 4
number_of WriteFault = 5
number_of DiskFault = 6
number_of Damaged = 7
number_of NoMemory = 8
