use Rattle.std.proofs.Common.{cond, sym, ap, ◌∙◌}
use Rattle.bit_lanes.specs.Lanes.{bit_of}
use Rattle.attr_pool.proofs.SlotLemmas.{number_holds, none_holds}
use Rattle.attr_pool.proofs.pool.add_bit.Goals as goal

pub returns-in-Some : goal.returns-in-Some
returns-in-Some c = λ n.
    c.set_bit.ensures n ∙ sym (ap (λ b. cond b 1 (bit_of c.args.row.now n)) (number_holds c.args.name.now c.args.slots.now c.in-Some.number c.requires (sym c.in-Some.ensures) n))

pub returns-in-None : goal.returns-in-None
returns-in-None c = λ n.
    sym (ap (λ b. cond b 1 (bit_of c.args.row.now n)) (none_holds c.args.name.now c.args.slots.now (sym c.in-None.ensures) n))
