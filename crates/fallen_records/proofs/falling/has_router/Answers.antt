use Rattle.std.proofs.Common.{is_some, ◌∙◌, ap}
use Rattle.fallen_records.proofs.falling.has_router.Goals as goal

pub returns : goal.returns
returns c = c.is_some.ensures ∙ ap is_some c.router.ensures
