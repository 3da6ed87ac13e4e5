use Rattle.std.proofs.Common.{ℕ, ◌+◌, List, ◌++◌, sym, ap, ◌∙◌, arith}
use Rattle.std.specs.declared.option.Option.{Option}
use Rattle.std.specs.List.{flat_map}
use Rattle.std.specs.Option.{option_or}
use Rattle.frame_lines.specs.declared.lines.LineFault.{LineFault}
use Rattle.frame_lines.specs.TextLines.{lines_of}
use Rattle.frame_lines.specs.TextReading.{fault_from}
use Rattle.frame_lines.specs.TextFaults.{faults_from, fault_line}
use Rattle.frame_lines.proofs.CheckLaws.{first_of_three}
use Rattle.frame_lines.proofs.checking.check.Goals as goal

pub lines-preserved : goal.lines-preserved
lines-preserved c =
    let number = c.lines.number in
    let behind : List (List ℕ) = lines_of c.cut_line.result.1.now in
    let turn = c.in_ok-found.ensures in
    let cut = c.cut_line.ensures in
    record {
      told =
          turn.told behind ∙ ap (λ (ls : List (List ℕ)). c.lines.out.items ++ flat_map fault_line (faults_from ls number)) (sym cut.lines)
          ∙ c.lines.invariant.told;
      first =
          ap (λ (r : Option LineFault). option_or r (fault_from behind (number + 1))) c.or-fault.ensures
          ∙ first_of_three c.lines.fault c.in_ok-found.found (fault_from behind (number + 1))
          ∙ ap (option_or c.lines.fault) (turn.first behind)
          ∙ ap (λ (ls : List (List ℕ)). option_or c.lines.fault (fault_from ls number)) (sym cut.lines)
          ∙ c.lines.invariant.first;
      few = omega (arith, cut.shorter, c.lines.invariant.few);
    }
