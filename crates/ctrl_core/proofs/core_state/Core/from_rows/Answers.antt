use Rattle.std.proofs.Common.{inl, List, sym, subst}
use Rattle.std.proofs.lemmas.Result.{err_from_is_err_and}
use Rattle.ctrl_model.specs.State.{start}
use Rattle.row_codec.specs.declared.rows.Row.{Row}
use Rattle.row_codec.specs.declared.changes.Op.{Op}
use Rattle.state_building.specs.BuiltStates.{AreFlawless, HaveCounts, built, next_in, state_in}
use Rattle.row_loading.specs.declared.faults.CoreFault.TheVariants.{NotAState}
use Rattle.row_codec.specs.StateRows.{HasRows}
use Rattle.row_loading.specs.LoadedRows.{Loads}
use Rattle.row_loading.specs.RefusedRows.{AreUnread}
use Rattle.row_loading.proofs.ReadRows.{handed_on}
use Rattle.row_loading.proofs.RefusedStates.{refused-of_none}
use Rattle.row_loading.proofs.SoundRows.{has_rows-in}
use Rattle.ctrl_core.specs.JoinedRows.{KeepState}
use Rattle.ctrl_core.specs.LoadedRows.{AreLoaded, AreRefused}
use Rattle.ctrl_core.proofs.LoadedLaws.{loads_puts, refused_so, rows_are}
use Rattle.ctrl_core.proofs.core_state.Core.from_rows.Goals as goal

pub returns-in_err-rows-clause-none : goal.returns-in_err-rows-clause-none
returns-in_err-rows-clause-none c = λ place flaw told.
    let p = err_from_is_err_and c.from_residual.result c.from_residual.ensures.1 in
    let is = handed_on c.from_residual.result c.in_err-rows.field-0.0 (NotAState place flaw) (rw p.2 at p.1) told in
    refused-of_none c.args.format c.args.rows.now place flaw (inl (subst (λ (ops : List Op). AreUnread c.args.format ops place flaw) c.as_slice.ensures (c.in_err-rows.ensures.unread place flaw is)))

pub returns-in_err-stores-clause-none : goal.returns-in_err-stores-clause-none
returns-in_err-stores-clause-none c = λ place flaw told.
    let p = err_from_is_err_and c.from_residual-in_err-stores.result c.from_residual-in_err-stores.ensures.1 in
    let is = handed_on c.from_residual-in_err-stores.result c.in_err-stores.field-0.0 (NotAState place flaw) (rw p.2 at p.1) told in
    refused-of_none c.args.format c.args.rows.now place flaw
    (refused_so c.args.format c.args.rows.now c.in_ok-rows.rows.items place flaw (subst (λ (ops : List Op). Loads c.args.format ops c.in_ok-rows.rows.items) c.as_slice.ensures c.in_ok-rows.ensures.read)
    (subst (λ (rows : List Row). AreRefused rows place flaw) c.as_slice-2.ensures.value (c.in_err-stores.ensures.refused place flaw is) c.args.format
    (loads_puts c.args.format c.args.rows.now c.in_ok-rows.rows.items (subst (λ (ops : List Op). Loads c.args.format ops c.in_ok-rows.rows.items) c.as_slice.ensures c.in_ok-rows.ensures.read))))

pub returns-clause-rows : goal.returns-clause-rows
returns-clause-rows c =
    rows_are c.args.format c.args.rows.now c.in_ok-rows.rows.items c.in_ok-stores.stores
    (subst (λ (ops : List Op). Loads c.args.format ops c.in_ok-rows.rows.items) c.as_slice.ensures c.in_ok-rows.ensures.read)
    (subst (λ (rows : List Row). KeepState c.in_ok-stores.stores (state_in rows)) c.as_slice-2.ensures.value c.in_ok-stores.ensures.kept)
    (subst (λ (rows : List Row). AreFlawless (next_in rows) rows start) c.as_slice-2.ensures.value c.in_ok-stores.ensures.flawless)
    (subst (λ (rows : List Row). HaveCounts rows (built rows start)) c.as_slice-2.ensures.value c.in_ok-stores.ensures.counts)

pub load-requires : goal.load-requires
load-requires c =
    subst AreLoaded (sym c.as_slice-2.ensures.value)
    (c.args.format, loads_puts c.args.format c.args.rows.now c.in_ok-rows.rows.items (subst (λ (ops : List Op). Loads c.args.format ops c.in_ok-rows.rows.items) c.as_slice.ensures c.in_ok-rows.ensures.read))

pub returns-clause-has_rows : goal.returns-clause-has_rows
returns-clause-has_rows c =
    subst (HasRows c.args.format) (sym (subst (λ (rows : List Row). KeepState c.in_ok-stores.stores (state_in rows)) c.as_slice-2.ensures.value c.in_ok-stores.ensures.kept).state_is)
    (has_rows-in c.args.format c.as_slice.result.now c.in_ok-rows.rows.items c.in_ok-rows.ensures.read)
