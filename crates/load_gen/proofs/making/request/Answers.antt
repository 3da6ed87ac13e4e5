use Rattle.std.proofs.lemmas.Result.{IfOk-weaker}
use Rattle.load_gen.specs.LoadCommands.{request_of}
use Rattle.load_gen.proofs.LoadLaws.{drawn_behind}
use Rattle.load_gen.proofs.making.request.Goals as goal

pub returns : goal.returns
returns c = IfOk-weaker c.request_of.result _ _ (λ x d. drawn_behind 10 request_of c.args.rng.now c.draw-kind.new.rng _ c.draw-kind.result x c.draw-kind.ensures.value c.draw-kind.ensures.left d) c.request_of.ensures
