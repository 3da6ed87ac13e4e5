use Rattle.std.proofs.Common.{ap, ◌∙◌, arith}
use Rattle.std.proofs.lemmas.List.{take_all}
use Rattle.bit_lanes.specs.Lanes.{bit_of}
use Rattle.attr_pool.specs.Slots.{row_bit}
use Rattle.attr_pool.proofs.SlotLemmas.{row_bit-more}
use Rattle.attr_pool.proofs.pool.row_of.Goals as goal

pub names-preserved : goal.names-preserved
names-preserved c = λ n.
    row_bit-more c.args.slots.now c.args.names.now c.names.name-index c.name-item.result (omega arith) c.name-item.is n (bit_of c.names.row n) _ (c.names.invariant n) (c.add_bit.ensures n)

pub returns : goal.returns
returns c = λ n.
    c.names.invariant n ∙ ap (λ l. row_bit c.args.slots.now l n) (take_all c.names.name-index c.args.names.now (omega arith))
