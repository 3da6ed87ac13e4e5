use Rattle.std.proofs.Common.{sym, ◌∙◌}
use Rattle.attr_pool.proofs.SlotLemmas.{none_holds}
use Rattle.attr_pool.proofs.UseLaws.{uses-held, uses-none}
use Rattle.attr_pool.proofs.uses.uses_in.Goals as goal

pub returns-in-Some : goal.returns-in-Some
returns-in-Some c = c.uses_at.ensures ∙ sym (uses-held c.args.name.now c.args.slots.now c.in-Some.number c.requires (sym c.in-Some.ensures))

pub returns-in-None : goal.returns-in-None
returns-in-None c = sym (uses-none c.args.name.now c.args.slots.now (none_holds c.args.name.now c.args.slots.now (sym c.in-None.ensures)))
