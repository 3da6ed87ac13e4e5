use Rattle.std.proofs.Common.{arith, sym, ap, ◌∙◌}
use Rattle.folder_findings.specs.FoundFiles.{header_format}
use Rattle.folder_findings.proofs.SpanLaws.{front_read, short_format}
use Rattle.folder_findings.proofs.finding.format_of.Goals as goal

pub returns-then-len-lt-HEADER_LEN-clause-format : goal.returns-then-len-lt-HEADER_LEN-clause-format
returns-then-len-lt-HEADER_LEN-clause-format g c = λ told.
    sym (short_format ((g.D.Desk.seen c.args.desk.now).reads c.args.part) (omega (arith, c.requires.len told, c.if-len-lt-HEADER_LEN.true)))

pub returns-clause-format : goal.returns-clause-format
returns-clause-format g c = λ told.
    c.header_format.ensures ∙ ap header_format (sym (front_read c.read_at.new.buf _ c.read_at.auto.buf (c.in_ok-read_at.ensures.read told)))
