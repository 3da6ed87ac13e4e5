use Rattle.std.proofs.Common.{inl, subst}
use Rattle.std.proofs.lemmas.Result.{err_from_is_err_and}
use Rattle.state_building.specs.BuiltStates.{AreFlawless, built, next_in}
use Rattle.row_loading.specs.declared.faults.CoreFault.TheVariants.{NotAState}
use Rattle.row_loading.proofs.ReadRows.{handed_on}
use Rattle.ctrl_core.specs.JoinedRows.{KeepState}
use Rattle.ctrl_core.specs.LoadedRows.{IsFirstFlaw}
use Rattle.ctrl_core.proofs.LoadedLaws.{nexts_later, counts_told, keeps_loaded, are_flawed}
use Rattle.ctrl_core.proofs.loading.load_into.Goals as goal

pub returns-in_err-take_rows-clause-refused : goal.returns-in_err-take_rows-clause-refused
returns-in_err-take_rows-clause-refused c = λ place flaw told f loads.
    let rows = c.args.rows.now in
    let p = err_from_is_err_and c.from_residual.result c.from_residual.ensures.1 in
    let is = handed_on c.from_residual.result c.in_err-take_rows.field-0.0 (NotAState place flaw) (rw p.2 at p.1) told in
    inl (are_flawed f rows place flaw loads (subst (λ s. IsFirstFlaw (next_in rows) rows s place flaw) c.requires.empty (c.in_err-take_rows.ensures.flawed place flaw is)))

pub lacks-requires-clause-told : goal.lacks-requires-clause-told
lacks-requires-clause-told c =
    let rows = c.args.rows.now in
    let taken = subst (λ s. KeepState c.take_rows.new.stores (built rows s)) c.requires.empty c.in_ok-take_rows.ensures.taken in
    counts_told c.requires.loads.0 rows c.take_rows.new.stores c.requires.loads.1 taken.state_is (subst (AreFlawless (next_in rows) rows) c.requires.empty c.in_ok-take_rows.ensures.flawless)

pub raise_nexts-requires-clause-later : goal.raise_nexts-requires-clause-later
raise_nexts-requires-clause-later c =
    let rows = c.args.rows.now in
    let taken = subst (λ s. KeepState c.take_rows.new.stores (built rows s)) c.requires.empty c.in_ok-take_rows.ensures.taken in
    nexts_later c.requires.loads.0 rows c.take_rows.new.stores c.requires.loads.1.form taken.state_is (subst (AreFlawless (next_in rows) rows) c.requires.empty c.in_ok-take_rows.ensures.flawless)

pub returns-clause-kept : goal.returns-clause-kept
returns-clause-kept c =
    let rows = c.args.rows.now in
    let taken = subst (λ s. KeepState c.take_rows.new.stores (built rows s)) c.requires.empty c.in_ok-take_rows.ensures.taken in
    keeps_loaded c.requires.loads.0 rows c.take_rows.new.stores c.raise_nexts.new.stores c.requires.loads.1 taken.kept taken.state_is
    (subst (AreFlawless (next_in rows) rows) c.requires.empty c.in_ok-take_rows.ensures.flawless) c.raise_nexts.ensures.carried c.raise_nexts.ensures.loads

pub take_rows-requires-clause-form : goal.take_rows-requires-clause-form
take_rows-requires-clause-form c = (c.requires.loads.0, c.requires.loads.1.form)
