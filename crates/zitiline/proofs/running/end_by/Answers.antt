use Rattle.std.proofs.Common.{sym, ap, ◌∙◌}
use Rattle.std.specs.Option.{option_map}
use Rattle.std.specs.String.{string_bytes}
use Rattle.zitiline.specs.Answers.{status_for}
use Rattle.zitiline.proofs.running.end_by.Goals as goal

pub returns-in-Some-clause-status : goal.returns-in-Some-clause-status
returns-in-Some-clause-status g c = ap (λ note. status_for (option_map string_bytes note) c.args.refused) (sym c.in-Some.is)

pub returns-in-None-clause-status : goal.returns-in-None-clause-status
returns-in-None-clause-status g c =
    c.faultless_status.ensures ∙ ap (λ note. status_for (option_map string_bytes note) c.args.refused) (sym c.in-None.is)
