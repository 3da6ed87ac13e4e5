use Rattle.std.proofs.Common.{sym, ◌∙◌, ap}
use Rattle.circuits.specs.MovedCircuits.{moves_by, ended_by}
use Rattle.circuit_settling.specs.OtherLinks.{way_at}
use Rattle.circuit_settling.proofs.going.judged.Goals as goal

pub returns-then-is_empty-clause-ended : goal.returns-then-is_empty-clause-ended
returns-then-is_empty-clause-ended c =
    c.of.ensures ∙ c.new.ensures.items
    ∙ sym (ap (ended_by (way_at c.args.present.now c.args.grants.now c.args.circuits.now.circuits.rows)) (c.is_empty.ensures.0 c.if-is_empty.true))

pub returns-then-is_empty-clause-moves : goal.returns-then-is_empty-clause-moves
returns-then-is_empty-clause-moves c =
    c.of-then-is_empty.ensures ∙ c.new-then-is_empty.ensures.items
    ∙ sym (ap (moves_by (way_at c.args.present.now c.args.grants.now c.args.circuits.now.circuits.rows)) (c.is_empty.ensures.0 c.if-is_empty.true))
