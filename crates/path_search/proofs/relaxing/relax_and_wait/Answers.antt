use Rattle.std.proofs.Common.{subst, sym, ◌∙◌, List, ℕ}
use Rattle.std.proofs.lemmas.Bool.{OnTrue_at}
use Rattle.std.proofs.lemmas.Result.{on_ok_weaker}
use Rattle.path_search.specs.Supports.{Grown, places_of}
use Rattle.path_search.proofs.WaitingPlaces.{grown_push}
use Rattle.path_search.proofs.relaxing.relax_and_wait.Goals as goal

pub returns-clause-grown : goal.returns-clause-grown
returns-clause-grown c =
    on_ok_weaker c.push.result (λ moved.
    subst (λ (q : List ℕ). Grown c.args.potentials.now q (places_of c.args.waiting.now) (places_of c.push.new.self))
    (sym (OnTrue_at c.if-not-relax_step.false c.relax_step.ensures.set))
    (grown_push c.args.graph.now c.args.target c.args.potentials.now c.args.step.now _ c.args.waiting.now c.push.new.self c.requires.from
    (sym c.relax_step.ensures.improved ∙ c.if-not-relax_step.false) moved)) c.push.ensures
