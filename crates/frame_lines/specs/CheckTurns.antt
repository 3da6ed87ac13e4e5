-- What the check of one line does to what was put down. Only private contracts cite these.
use Rattle.std.specs.Prelude.{◌≡◌, ℕ, ◌+◌, List, ◌∷◌, ◌++◌}
use Rattle.std.specs.declared.option.Option.{Option}
use Rattle.std.specs.List.{flat_map}
use Rattle.std.specs.Option.{option_or}
use Rattle.frame_lines.specs.declared.lines.LineFault.{LineFault}
use Rattle.frame_lines.specs.TextReading.{fault_from}
use Rattle.frame_lines.specs.TextFaults.{faults_from, fault_line}

-- The fault of the line was put down, if it has one: what is put down and what the lines behind give is what the line and they gave.
pub record ChecksLine (number : ℕ) (line before now : List ℕ) (found : Option LineFault) : Type 0 where
  pub told : (lines : List (List ℕ)) → now ++ flat_map fault_line (faults_from lines (number + 1)) ≡ before ++ flat_map fault_line (faults_from (line ∷ lines) number)
  pub first : (lines : List (List ℕ)) → option_or found (fault_from lines (number + 1)) ≡ fault_from (line ∷ lines) number
