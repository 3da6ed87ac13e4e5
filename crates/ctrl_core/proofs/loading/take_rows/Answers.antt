use Rattle.std.proofs.Common.{Some, sym, ◌∙◌, ap}
use Rattle.state_building.specs.BuiltStates.{next_in}
use Rattle.ctrl_core.proofs.LoadedLaws.{none_taken, takes_next, taken_all, first_flaw, row_at, same_fault}
use Rattle.ctrl_core.proofs.loading.take_rows.Goals as goal

pub rows-init : goal.rows-init
rows-init c = none_taken (next_in c.args.rows.now) c.args.stores.now c.requires.kept

pub rows-preserved : goal.rows-preserved
rows-preserved c =
    takes_next (next_in c.args.rows.now) c.args.rows.now c.rows.place c.index-rows-place.result c.in_ok-flaw.field-0 c.args.stores.now c.rows.stores c.take_row.new.stores
    c.rows.invariant c.rows-test.true c.index-rows-place.is c.in_default.is c.in_ok-flaw.ensures

pub take_row-requires-clause-kept : goal.take_row-requires-clause-kept
take_row-requires-clause-kept c = c.rows.invariant.kept

pub take_row-requires-clause-form : goal.take_row-requires-clause-form
take_row-requires-clause-form c = (c.requires.form.0, row_at c.requires.form.0 c.args.rows.now c.rows.place c.index-rows-place.result c.requires.form.1 c.rows-test.true c.index-rows-place.is)

pub returns-in-Some-clause-flawed : goal.returns-in-Some-clause-flawed
returns-in-Some-clause-flawed c = λ place flaw told.
    let same = same_fault c.rows.place place c.in-Some.flaw flaw told in
    first_flaw (next_in c.args.rows.now) c.args.rows.now c.rows.place c.index-rows-place.result c.in_ok-flaw.field-0 flaw place c.args.stores.now c.rows.stores c.take_row.new.stores
    c.rows.invariant c.rows-test.true c.index-rows-place.is (c.in-Some.is ∙ ap Some same.1) (sym same.0) c.in_ok-flaw.ensures

pub returns-clause-taken : goal.returns-clause-taken
returns-clause-taken c =
    let all = taken_all (next_in c.args.rows.now) c.args.rows.now c.rows.place c.args.stores.now c.rows.stores c.rows.invariant c.rows-test.false in
    record { kept = all.kept; state_is = all.state_is }

pub returns-clause-flawless : goal.returns-clause-flawless
returns-clause-flawless c = (taken_all (next_in c.args.rows.now) c.args.rows.now c.rows.place c.args.stores.now c.rows.stores c.rows.invariant c.rows-test.false).flawless
