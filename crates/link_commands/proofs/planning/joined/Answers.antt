use Rattle.std.proofs.Common.{Err, sym, ◌∙◌, ap}
use Rattle.link_commands.proofs.JoinLaws.{same_router_refused}
use Rattle.link_commands.proofs.planning.joined.Goals as goal

pub returns-in-Err-SameRouter-clause-refuses : goal.returns-in-Err-SameRouter-clause-refuses
returns-in-Err-SameRouter-clause-refuses c =
    same_router_refused c.args.name.now c.args.a.now c.args.b.now c.args.entities.now c.args.fabric.now c.in-Some.from c.in-Some-router_named.to
    (sym c.in-Some.ensures) (sym c.in-Some-router_named.ensures) (sym c.in-Err-SameRouter.ensures ∙ ap (λ f. Err f) c.in-Err-SameRouter.field-0-is)
