use Rattle.load_gen.specs.Draws.{for_each_to}
use Rattle.load_gen.specs.LoadCommands.{made_for}
use Rattle.load_gen.specs.LoadSteps.{Adds}
use Rattle.load_gen.proofs.making.add_group.Given as goal

-- what was made for the places before this one was added
abbrev pub invariant-places : goal.invariant-places
invariant-places l = Adds l.fn.frames.items l.fn.rng l.frames.items l.rng (for_each_to l.place (made_for l.group))
