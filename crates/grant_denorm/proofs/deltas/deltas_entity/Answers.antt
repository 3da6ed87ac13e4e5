use Rattle.std.proofs.Common.{ap, ◌∙◌}
use Rattle.grant_denorm.specs.Deltas.{ups, downs}
use Rattle.grant_denorm.proofs.DeltaLaws.{ups-turns, downs-turns}
use Rattle.grant_denorm.proofs.deltas.deltas_entity.Goals as goal

pub returns-clause-up : goal.returns-clause-up
returns-clause-up c a b = ap (λ ds. ups ds a b) c.in_ok-deltas.ensures ∙ ups-turns c.args.x c.args.on_left c.args.turns.now a b

pub returns-clause-down : goal.returns-clause-down
returns-clause-down c a b = ap (λ ds. downs ds a b) c.in_ok-deltas.ensures ∙ downs-turns c.args.x c.args.on_left c.args.turns.now a b
