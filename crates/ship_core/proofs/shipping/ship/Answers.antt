use Rattle.std.specs.Prelude.{IfSome}
use Rattle.std.proofs.Common.{[], Option, None, inl, inr, sym, subst}
use Rattle.std.proofs.lemmas.Result.{err_from_is_err_and}
use Rattle.ziti_outside.specs.Images.{Image}
use Rattle.row_store.specs.StoredRows.{Stored, IsStoreOf}
use Rattle.ship_core.specs.Faults.{fault_of, IsOfState, IsOpenedBy}
use Rattle.ship_core.specs.Shipping.{shipped}
use Rattle.ship_core.proofs.FolderSteps.{behind_judging, told_behind, empty_said, empty_judged, store_judged, closed_said, found_unwritten, sound_fault, never_damaged}
use Rattle.ship_core.proofs.JudgeLaws.{store_opens, empty_opens, opened_judges, failed_judges}
use Rattle.ship_core.proofs.SaidLaws.{reads_ships}
use Rattle.ship_core.proofs.shipping.ship.Goals as goal

pub returns-in_err-open-clause-says : goal.returns-in_err-open-clause-says
returns-in_err-open-clause-says g c = λ told format batches stands.
    let p = err_from_is_err_and c.from_residual.result c.from_residual.ensures.1 in
    rw p.1 (rw p.2 (closed_said _ (shipped c.args.from format batches) (found_unwritten g.D.Desk.tells (g.D.Desk.seen c.args.desk.now).reads _ c.in_err-open.ensures.fault) c.open.ensures.reads c.in_err-open.ensures.cause).says)

pub returns-in_err-open-clause-frames : goal.returns-in_err-open-clause-frames
returns-in_err-open-clause-frames g c =
    let p = err_from_is_err_and c.from_residual.result c.from_residual.ensures.1 in
    rw p.1 (rw p.2 ([], (closed_said _ [] (found_unwritten g.D.Desk.tells (g.D.Desk.seen c.args.desk.now).reads _ c.in_err-open.ensures.fault) c.open.ensures.reads c.in_err-open.ensures.cause).says))

pub returns-in_err-open-clause-judges : goal.returns-in_err-open-clause-judges
returns-in_err-open-clause-judges g c = λ told.
    let p = err_from_is_err_and c.from_residual.result c.from_residual.ensures.1 in
    rw p.1 (rw p.2 (failed_judges g.D.Desk.tells (g.D.Desk.seen c.args.desk.now).reads _ told c.in_err-open.ensures.fault))

pub returns-in_err-open-clause-opens : goal.returns-in_err-open-clause-opens
returns-in_err-open-clause-opens g c =
    let p = err_from_is_err_and c.from_residual.result c.from_residual.ensures.1 in
    rw p.1 (rw p.2 (inl (c.in_err-open.ensures.fault, c.open.ensures.reads)))

pub returns-in_err-open-clause-silent : goal.returns-in_err-open-clause-silent
returns-in_err-open-clause-silent g c = λ told part at e. c.open.ensures.reads.others.replies

pub returns-in_err-open-clause-alone : goal.returns-in_err-open-clause-alone
returns-in_err-open-clause-alone g c =
    (closed_said _ [] (found_unwritten g.D.Desk.tells (g.D.Desk.seen c.args.desk.now).reads _ c.in_err-open.ensures.fault) c.open.ensures.reads c.in_err-open.ensures.cause).alone

pub returns-in_err-open-clause-write_cause : goal.returns-in_err-open-clause-write_cause
returns-in_err-open-clause-write_cause g c =
    let p = err_from_is_err_and c.from_residual.result c.from_residual.ensures.1 in
    rw p.1 (rw p.2 (closed_said _ [] (found_unwritten g.D.Desk.tells (g.D.Desk.seen c.args.desk.now).reads _ c.in_err-open.ensures.fault) c.open.ensures.reads c.in_err-open.ensures.cause).write)

pub returns-in_err-open-clause-disk_cause : goal.returns-in_err-open-clause-disk_cause
returns-in_err-open-clause-disk_cause g c =
    let p = err_from_is_err_and c.from_residual.result c.from_residual.ensures.1 in
    rw p.1 (rw p.2 c.in_err-open.ensures.cause)

pub returns-in-None-clause-says : goal.returns-in-None-clause-says
returns-in-None-clause-says g c = λ told format batches stands.
    let empty = subst (IsOpenedBy (g.D.Desk.seen c.args.desk.now).reads) c.in-None.is (c.in_ok-open.ensures.opens told) in
    (empty_said c.args.from format batches empty stands (reads_ships None (λ e. cc) c.open.ensures.reads c.in_ok-open.ensures.cause)).says

pub returns-in-None-clause-frames : goal.returns-in-None-clause-frames
returns-in-None-clause-frames g c = ([], (reads_ships None (λ e. cc) c.open.ensures.reads c.in_ok-open.ensures.cause).says)

pub returns-in-None-clause-judges : goal.returns-in-None-clause-judges
returns-in-None-clause-judges g c = λ told.
    empty_opens (g.D.Desk.seen c.args.desk.now).reads (subst (IsOpenedBy (g.D.Desk.seen c.args.desk.now).reads) c.in-None.is (c.in_ok-open.ensures.opens told))

pub returns-in-None-clause-opens : goal.returns-in-None-clause-opens
returns-in-None-clause-opens g c =
    inr (empty_judged g.D.Desk.tells c.args.from (λ told. subst (IsOpenedBy (g.D.Desk.seen c.args.desk.now).reads) c.in-None.is (c.in_ok-open.ensures.opens told))
    (reads_ships None (λ e. cc) c.open.ensures.reads c.in_ok-open.ensures.cause))

pub returns-in-None-clause-alone : goal.returns-in-None-clause-alone
returns-in-None-clause-alone g c = (reads_ships None (λ e. cc) c.open.ensures.reads c.in_ok-open.ensures.cause).alone

pub returns-in-None-clause-write_cause : goal.returns-in-None-clause-write_cause
returns-in-None-clause-write_cause g c = (reads_ships None (λ e. cc) c.open.ensures.reads c.in_ok-open.ensures.cause).write

pub returns-in-None-clause-disk_cause : goal.returns-in-None-clause-disk_cause
returns-in-None-clause-disk_cause g c = c.in_ok-open.ensures.cause

pub ship_store-requires-clause-some : goal.ship_store-requires-clause-some
ship_store-requires-clause-some g c = λ told. (subst (IsOpenedBy (g.D.Desk.seen c.args.desk.now).reads) c.in-Some.is (c.in_ok-open.ensures.opens told)).0

pub ship_store-requires-clause-kept : goal.ship_store-requires-clause-kept
ship_store-requires-clause-kept g c = λ told.
    subst (λ (i : Image). IsStoreOf i c.in-Some.store) (sym c.open.ensures.reads.parts) (subst (IsOpenedBy (g.D.Desk.seen c.args.desk.now).reads) c.in-Some.is (c.in_ok-open.ensures.opens told)).1

pub returns-in-Some-clause-says : goal.returns-in-Some-clause-says
returns-in-Some-clause-says g c = λ told format batches stands.
    (told_behind (fault_of c.ship_store.result) c.args.from format batches c.open.ensures.reads c.in_ok-open.ensures.cause stands (c.ship_store.ensures.told told)).says

pub returns-in-Some-clause-frames : goal.returns-in-Some-clause-frames
returns-in-Some-clause-frames g c =
    let said = c.ship_store.ensures.ships in
    (said.0, (behind_judging (fault_of c.ship_store.result) said.0 c.open.ensures.reads c.in_ok-open.ensures.cause said.2).says)

pub returns-in-Some-clause-judges : goal.returns-in-Some-clause-judges
returns-in-Some-clause-judges g c = λ told.
    let opened = subst (IsOpenedBy (g.D.Desk.seen c.args.desk.now).reads) c.in-Some.is (c.in_ok-open.ensures.opens told) in
    opened_judges (g.D.Desk.seen c.args.desk.now).reads (fault_of c.ship_store.result) (store_opens (g.D.Desk.seen c.args.desk.now).reads c.in-Some.store opened.1 opened.2)
    (sound_fault g.D.Desk.tells c.ship_store.result told c.ship_store.ensures.fault)

pub returns-in-Some-clause-opens : goal.returns-in-Some-clause-opens
returns-in-Some-clause-opens g c =
    let said = c.ship_store.ensures.ships in
    inr (store_judged g.D.Desk.tells c.args.from c.in-Some.store (fault_of c.ship_store.result) said.0
    (λ told. (subst (IsOpenedBy (g.D.Desk.seen c.args.desk.now).reads) c.in-Some.is (c.in_ok-open.ensures.opens told)).1)
    (subst (λ (o : Option Stored). IfSome o IsOfState) c.in-Some.is c.in_ok-open.ensures.state) said.1
    (behind_judging (fault_of c.ship_store.result) said.0 c.open.ensures.reads c.in_ok-open.ensures.cause said.2))

pub returns-in-Some-clause-silent : goal.returns-in-Some-clause-silent
returns-in-Some-clause-silent g c = λ told part at e. absurd (never_damaged g.D.Desk.tells c.ship_store.result part at told c.ship_store.ensures.fault e)

pub returns-in-Some-clause-alone : goal.returns-in-Some-clause-alone
returns-in-Some-clause-alone g c =
    let said = c.ship_store.ensures.ships in
    (behind_judging (fault_of c.ship_store.result) said.0 c.open.ensures.reads c.in_ok-open.ensures.cause said.2).alone

pub returns-in-Some-clause-write_cause : goal.returns-in-Some-clause-write_cause
returns-in-Some-clause-write_cause g c =
    let said = c.ship_store.ensures.ships in
    (behind_judging (fault_of c.ship_store.result) said.0 c.open.ensures.reads c.in_ok-open.ensures.cause said.2).write

pub returns-in-Some-clause-disk_cause : goal.returns-in-Some-clause-disk_cause
returns-in-Some-clause-disk_cause g c =
    let said = c.ship_store.ensures.ships in
    (behind_judging (fault_of c.ship_store.result) said.0 c.open.ensures.reads c.in_ok-open.ensures.cause said.2).disk
