use Rattle.std.proofs.Common.{sym, ◌∙◌, arith}
use Rattle.core_stores.specs.StoredState.{state_of}
use Rattle.ctrl_core.proofs.NewRecordLaws.{can_join}
use Rattle.ctrl_core.proofs.taking.take_new.Goals as goal

pub make_at-requires-clause-may : goal.make_at-requires-clause-may
make_at-requires-clause-may c =
    can_join c.args.kind c.args.coming.number c.args.coming.end c.args.change (state_of c.args.stores.now) c.requires.new c.requires.kept.valid (omega arith)
    (sym c.in-Ok-None.ensures ∙ c.in-Ok-None.field-0-is)
