use Rattle.std.proofs.Common.{ap, ◌∙◌}
use Rattle.record_lines.specs.RowTexts.{behind}
use Rattle.record_lines.proofs.RowRecords.{behind_rows}
use Rattle.record_lines.proofs.naming.router_behind.Goals as goal

pub returns : goal.returns
returns c = c.behind.ensures ∙ ap (behind c.args.from) c.ends_among.ensures ∙ behind_rows c.args.rows.now c.args.from c.args.link
