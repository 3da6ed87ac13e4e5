use Rattle.load_gen.specs.LoadCommands.{made_for}
use Rattle.load_gen.proofs.LoadLaws.{adds_none, adds_one_more}
use Rattle.load_gen.proofs.making.add_group.Goals as goal

pub places-init : goal.places-init
places-init c = adds_none (made_for c.args.group) c.args.frames.now.items c.args.rng.now

pub places-preserved : goal.places-preserved
places-preserved c = adds_one_more (made_for c.args.group) c.places.place _ _ _ _ _ _ c.places.invariant c.in_ok-add_for.ensures
