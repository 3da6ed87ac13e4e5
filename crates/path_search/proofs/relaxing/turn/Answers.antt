use Rattle.path_search.specs.Supports.{places_of}
use Rattle.path_search.proofs.WaitingPlaces.{waiting_stale}
use Rattle.path_search.proofs.relaxing.turn.Goals as goal

pub returns-else-potentials-place-clause-waiting : goal.returns-else-potentials-place-clause-waiting
returns-else-potentials-place-clause-waiting c =
    waiting_stale c.args.potentials.now c.args.fixed.now (places_of c.args.waiting.now) c.args.place c.if-potentials-place.false c.requires.waiting
