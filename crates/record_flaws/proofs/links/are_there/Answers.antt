use Rattle.std.proofs.Common.{◌&&◌, is_some, sym, ◌∙◌, ap}
use Rattle.ctrl_model.specs.Numbered.{is_present}
use Rattle.record_flaws.proofs.links.are_there.Goals as goal

pub returns-then-is_some : goal.returns-then-is_some
returns-then-is_some c =
    let rows = c.args.entities.now.routers.rows in
    c.is_some-then-is_some.ensures ∙ ap is_some c.router-then-is_some.ensures
    ∙ ap (λ b. b && is_present rows c.args.b.0) (sym c.if-is_some.true ∙ c.is_some.ensures ∙ ap is_some c.router.ensures)
