use Rattle.std.proofs.Common.{Some, None, ap, ◌∙◌}
use Rattle.channel_frame.specs.HeaderValues.{last_header}
use Rattle.channel_frame.proofs.LookupLaws.{none_without}
use Rattle.channel_frame.proofs.lookups.last_of.Goals as goal

pub returns-in-Some-clause-none : goal.returns-in-Some-clause-none
returns-in-Some-clause-none c =
    let key = c.args.key in
    none_without key c.args.frame.now.headers (Some c.in-Some.header.now) (c.in-Some.ensures ∙ ap (last_header key) c.as_slice.ensures)

pub returns-in-None-clause-none : goal.returns-in-None-clause-none
returns-in-None-clause-none c =
    let key = c.args.key in
    none_without key c.args.frame.now.headers None (c.in-None.ensures ∙ ap (last_header key) c.as_slice.ensures)
