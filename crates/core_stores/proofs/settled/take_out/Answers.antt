use Rattle.std.proofs.Common.{◌∙◌, ap}
use Rattle.circuits.specs.MovedCircuits.{with_moves}
use Rattle.core_stores.proofs.SettledLaws.{taken_out, none_taken, no_term_taken}
use Rattle.core_stores.proofs.settled.take_out.Goals as goal

pub returns-then-is_empty-4-clause-carried : goal.returns-then-is_empty-4-clause-carried
returns-then-is_empty-4-clause-carried c =
    none_taken c.args.stores.now c.args.settled (c.is_empty.ensures.0 c.if-is_empty.true) (c.is_empty-then-is_empty.ensures.0 c.if-is_empty-2.true)
    (c.is_empty-then-is_empty-2.ensures.0 c.if-is_empty-3.true) (c.is_empty-then-is_empty-3.ensures.0 c.if-is_empty-4.true) c.requires

pub returns-then-is_empty-4-clause-terminators : goal.returns-then-is_empty-4-clause-terminators
returns-then-is_empty-4-clause-terminators c = no_term_taken c.args.stores.now c.args.settled (c.is_empty-then-is_empty.ensures.0 c.if-is_empty-2.true)

pub returns-clause-carried : goal.returns-clause-carried
returns-clause-carried c =
    taken_out c.args.stores.now c.args.settled _ _ _ c.remove_each.ensures c.remove_each-2.ensures (c.move_each.ensures ∙ ap (with_moves c.args.settled.moves) c.remove_each-3.ensures) c.requires
