use Rattle.std.proofs.Common.{◌≡◌, drop}
use Rattle.frame_lines.specs.TextLines.{passes}
use Rattle.frame_lines.proofs.reading.passes.Given as goal

-- the bytes from the index on pass exactly where the line does
abbrev pub invariant-bytes : goal.invariant-bytes
invariant-bytes l = passes (drop l.byte-index l.line) ≡ passes l.line
