use Rattle.std.proofs.Common.{subst, arith}
use Rattle.slot_files.specs.FolderImage.{BeginsAs}
use Rattle.slot_files.proofs.HeaderLaws.{begins_read, begins_short}
use Rattle.slot_files.proofs.standing.begins_as.Goals as goal

pub returns-then-branch-lt-HEADER_LEN-clause-begins : goal.returns-then-branch-lt-HEADER_LEN-clause-begins
returns-then-branch-lt-HEADER_LEN-clause-begins g c = λ told. begins_short _ (omega (arith, c.in_ok-len.ensures.length told, c.if-branch-lt-HEADER_LEN.true))

pub returns-clause-begins : goal.returns-clause-begins
returns-clause-begins g c = λ told.
    subst (λ image. BeginsAs (image c.args.part) c.format_of.result) c.in_ok-len.ensures.parts
    (begins_read c.format_of.result c.read_at.new.buf _ c.read_at.auto.buf (c.in_ok-read_at.ensures.read told) c.format_of.ensures)
