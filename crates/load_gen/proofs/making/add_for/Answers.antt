use Rattle.std.proofs.lemmas.Result.{on_ok_weaker}
use Rattle.load_gen.specs.LoadCommands.{made_for}
use Rattle.load_gen.proofs.LoadLaws.{adds_drawn, adds_routers}
use Rattle.load_gen.proofs.making.add_for.Goals as goal

pub push-requires : goal.push-requires
push-requires c = let drawn = rw c.in-Some.is at c.in_ok-command.ensures in drawn.spelled

pub returns-in-Some : goal.returns-in-Some
returns-in-Some c =
    let drawn = rw c.in-Some.is at c.in_ok-command.ensures in
    on_ok_weaker c.push.result (λ p. adds_drawn _ _ _ _ _ (made_for c.args.group c.args.i) p drawn) c.push.ensures

pub returns-in-None : goal.returns-in-None
returns-in-None c =
    let none = rw c.in-None.is at c.in_ok-command.ensures in
    on_ok_weaker c.add_router.result (λ a. adds_routers _ _ _ _ _ c.args.group c.args.i none.0 none.1 a) c.add_router.ensures
