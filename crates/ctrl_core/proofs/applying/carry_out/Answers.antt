use Rattle.std.proofs.Common.{Option, sym, subst}
use Rattle.std.proofs.lemmas.Result.{on_ok_weaker}
use Rattle.ctrl_model.specs.ValidState.{ValidState}
use Rattle.model_laws.specs.Plans.{CanLeadBy, led_by}
use Rattle.core_stores.specs.declared.changes.Change.{Change}
use Rattle.core_stores.specs.OpenCircuits.{CountsBut}
use Rattle.ctrl_core.specs.Changes.{CanChange, after_change}
use Rattle.core_stores.specs.StoredState.{state_of}
use Rattle.ctrl_core.proofs.LoadChanges.{leaves_loads, loads_carry}
use Rattle.ctrl_core.proofs.applying.carry_out.Goals as goal

pub apply_change-requires-clause-can : goal.apply_change-requires-clause-can
apply_change-requires-clause-can c = subst (λ (o : Option Change). CanLeadBy CanChange o (state_of c.args.stores.now)) c.in-Some.is c.requires.can

pub apply_change-requires-clause-valid : goal.apply_change-requires-clause-valid
apply_change-requires-clause-valid c = subst (λ (o : Option Change). ValidState (led_by after_change o (state_of c.args.stores.now))) c.in-Some.is c.requires.valid

pub count_loads-requires : goal.count_loads-requires
count_loads-requires c =
    let leaves =
    leaves_loads _ c.in-Some.change c.args.stores.now c.apply_change.new.stores c.take_out.new.stores c.args.settled c.in-Some.is c.requires.can c.requires.before c.requires.valid c.requires.settled
    c.requires.held c.requires.loads c.in_ok-apply_change.ensures.carried c.in_ok-apply_change.ensures.terminators c.take_out.ensures.carried c.take_out.ensures.terminators in
    record { ends = leaves.ends; but = subst (λ l. CountsBut l c.take_out.new.stores) (sym c.loads_after-loads.ensures) leaves.lack }

pub returns-clause-carried : goal.returns-clause-carried
returns-clause-carried c =
    let leaves =
    leaves_loads _ c.in-Some.change c.args.stores.now c.apply_change.new.stores c.take_out.new.stores c.args.settled c.in-Some.is c.requires.can c.requires.before c.requires.valid c.requires.settled
    c.requires.held c.requires.loads c.in_ok-apply_change.ensures.carried c.in_ok-apply_change.ensures.terminators c.take_out.ensures.carried c.take_out.ensures.terminators in
    on_ok_weaker c.count_loads.result (λ changes. loads_carry c.args.stores.now c.take_out.new.stores c.count_loads.new.stores _ leaves.carried changes) c.count_loads.ensures.changes
