use Rattle.std.proofs.Common.{sym, ◌∙◌}
use Rattle.core_stores.specs.StoredState.{state_of}
use Rattle.state_building.specs.BuiltStates.{next_in}
use Rattle.ctrl_core.proofs.NewRecordLaws.{is_of_row, sound_so, taken_so}
use Rattle.ctrl_core.proofs.taking.take_record.Goals as goal

pub take_new-requires-clause-new : goal.take_new-requires-clause-new
take_new-requires-clause-new c = (is_of_row c.args.row.now c.in-Some.new (sym c.in_ok-new.ensures ∙ c.in-Some.is)).is_new

pub take_new-requires-clause-sound : goal.take_new-requires-clause-sound
take_new-requires-clause-sound c = sound_so c.args.row.now c.in-Some.new (next_in c.args.rows.now) c.coming-coming.result (sym c.in_ok-new.ensures ∙ c.in-Some.is) c.coming-coming.ensures

pub returns : goal.returns
returns c =
    taken_so c.args.row.now c.in-Some.new (next_in c.args.rows.now) c.coming-coming.result (state_of c.args.stores.now) c.take_new.result c.take_new.new.stores
    (sym c.in_ok-new.ensures ∙ c.in-Some.is) c.coming-coming.ensures c.take_new.ensures
