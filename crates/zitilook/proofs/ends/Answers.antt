use Rattle.std.proofs.Common.{◌∙◌, ap}
use Rattle.std.proofs.lemmas.Result.{IfOk-weaker, IfErr-weaker}
use Rattle.zitilook.specs.Statuses.{number_of}
use Rattle.zitilook.proofs.ends.Goals as goal

pub returns-clause-words : goal.returns-clause-words
returns-clause-words g c = IfOk-weaker c.args.given _ _ (λ words runs. (c.run_given.result, runs, c.exit_code.ensures)) c.run_given.ensures.words

pub returns-clause-no_text : goal.returns-clause-no_text
returns-clause-no_text g c = IfErr-weaker c.args.given _ _ (λ error runs other. (c.run_given.result, runs other, c.exit_code.ensures)) c.run_given.ensures.no_text

pub returns-clause-no_memory : goal.returns-clause-no_memory
returns-clause-no_memory g c =
    IfErr-weaker c.args.given _ _ (λ error still is. let left = still is in (c.exit_code.ensures ∙ ap number_of left.0, left.1, left.2, left.3)) c.run_given.ensures.no_memory
