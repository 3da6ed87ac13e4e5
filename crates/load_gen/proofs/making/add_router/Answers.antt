use Rattle.std.proofs.Common.{refl}
use Rattle.std.proofs.lemmas.Result.{on_ok_weaker}
use Rattle.load_gen.specs.LoadCommands.{a_router}
use Rattle.load_gen.proofs.LoadLaws.{adds_pushed, pushes_both}
use Rattle.load_gen.proofs.making.add_router.Goals as goal

pub push_made_router-requires : goal.push_made_router-requires
push_made_router-requires c = c.draw-cost.ensures.below

pub returns : goal.returns
returns c =
    on_ok_weaker c.push_connected_router.result
    (λ p. adds_pushed _ _ _ c.args.rng.now _ (a_router c.args.i) (pushes_both _ _ _ _ _ c.in_ok-push_made_router.ensures p)
    (rw (c.draw-passed.ensures.value, c.draw-cost.ensures.value, c.draw-e.ensures.value, c.draw-cost.ensures.left, c.draw-e.ensures.left) refl)
    (rw (c.draw-passed.ensures.left, c.draw-cost.ensures.left, c.draw-e.ensures.left) refl)) c.push_connected_router.ensures
