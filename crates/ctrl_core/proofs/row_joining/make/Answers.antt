use Rattle.std.proofs.Common.{sym, subst}
use Rattle.ctrl_model.specs.ValidState.{ValidState}
use Rattle.model_laws.proofs.ValidLaws.{Orderly-from_valid, ValidState-settle}
use Rattle.ctrl_core.specs.Changes.{after_change}
use Rattle.core_stores.specs.StoredState.{state_of}
use Rattle.core_stores.specs.OpenCircuits.{CountsBut}
use Rattle.ctrl_core.proofs.LoadChanges.{end_there, loads_carry, loads_lack, unsettled_made}
use Rattle.ctrl_core.proofs.StepLaws.{keeps_with_steps, room_for_steps}
use Rattle.ctrl_core.proofs.row_joining.make.Goals as goal

pub apply_change-requires-clause-valid : goal.apply_change-requires-clause-valid
apply_change-requires-clause-valid c = let t = after_change c.args.change (state_of c.args.stores.now) in ValidState-settle t (Orderly-from_valid t c.requires.valid)

pub count_loads-requires : goal.count_loads-requires
count_loads-requires c =
    let st = c.args.stores.now in
    let mid = c.apply_change.new.stores in
    let t = after_change c.args.change (state_of st) in
    let valid = subst ValidState (sym c.in_ok-apply_change.ensures.carried.next) c.requires.valid in
    let unsettled =
    unsettled_made c.args.change st mid
    (record { before = c.requires.kept.valid; held = c.requires.kept.held; can = c.requires.can; valid = ValidState-settle t (Orderly-from_valid t c.requires.valid) })
    c.in_ok-apply_change.ensures.carried c.in_ok-apply_change.ensures.terminators in
    record {
      ends = end_there (state_of mid) valid;
      but = subst (λ l. CountsBut l mid) (sym c.loads_after-loads.ensures) (loads_lack c.args.change st mid c.nothing.result c.requires.kept.loads valid (λ e. unsettled));
    }

pub apply_steps-requires : goal.apply_steps-requires
apply_steps-requires c =
    let st = c.args.stores.now in
    let t = after_change c.args.change (state_of st) in
    let carried = loads_carry st c.apply_change.new.stores c.count_loads.new.stores t c.in_ok-apply_change.ensures.carried c.in_ok-count_loads.ensures.changes in
    room_for_steps st c.count_loads.new.stores t c.in_ok-steps.steps c.requires.kept c.requires.valid c.in_ok-steps.ensures carried.counts

pub returns : goal.returns
returns c =
    let st = c.args.stores.now in
    let t = after_change c.args.change (state_of st) in
    let carried = loads_carry st c.apply_change.new.stores c.count_loads.new.stores t c.in_ok-apply_change.ensures.carried c.in_ok-count_loads.ensures.changes in
    record {
      kept = keeps_with_steps st c.count_loads.new.stores c.apply_steps.new.grants t c.in_ok-steps.steps c.requires.kept c.requires.valid c.in_ok-steps.ensures carried c.in_ok-count_loads.ensures.counts c.in_ok-apply_steps.ensures;
      state_is = carried.next;
    }
