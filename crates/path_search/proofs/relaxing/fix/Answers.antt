use Rattle.std.proofs.Common.{◌<◌, ℕ, sym, subst}
use Rattle.std.proofs.lemmas.Result.{on_ok_weaker}
use Rattle.path_search.specs.Supports.{places_of}
use Rattle.path_search.proofs.Relaxations.{spread_fixed}
use Rattle.path_search.proofs.WaitingPlaces.{on_ok_both, waiting_fixed, fewer_fixed}
use Rattle.path_search.proofs.relaxing.fix.Goals as goal

pub returns-clause-spread : goal.returns-clause-spread
returns-clause-spread c =
    on_ok_weaker c.relax_into.result (spread_fixed c.args.search.now.graph.now c.args.search.now.target c.args.place c.args.potentials.now c.args.fixed.now c.relax_into.new.potentials
    c.requires.spread c.requires.place c.requires.waits) c.relax_into.ensures.relaxed

pub returns-clause-waiting : goal.returns-clause-waiting
returns-clause-waiting c =
    on_ok_both c.relax_into.result (λ relaxed grown.
    waiting_fixed c.args.search.now.graph.now c.args.search.now.target c.args.place c.args.potentials.now c.args.fixed.now c.relax_into.new.potentials (places_of c.args.waiting.now)
    (places_of c.relax_into.new.waiting) c.requires.spread relaxed c.requires.place c.requires.waiting grown) c.relax_into.ensures.relaxed c.relax_into.ensures.grown

pub returns-clause-fewer : goal.returns-clause-fewer
returns-clause-fewer c =
    on_ok_weaker c.relax_into.result (fewer_fixed c.args.place c.args.potentials.now c.args.fixed.now c.relax_into.new.potentials c.args.waiting.now c.relax_into.new.waiting
    (subst (λ (n : ℕ). c.args.place < n) (sym c.requires.spread.places) c.requires.place) c.requires.waits) c.relax_into.ensures.grown
