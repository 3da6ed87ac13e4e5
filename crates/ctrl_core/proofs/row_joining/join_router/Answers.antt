use Rattle.std.proofs.Common.{OnOk, ◌∙◌, sym, ap, subst}
use Rattle.ctrl_model.specs.declared.kinds.Kind.TheVariants as kind
use Rattle.ctrl_model.specs.Numbered.{is_present}
use Rattle.ctrl_model.specs.State.{State, Router}
use Rattle.ctrl_model.specs.ValidState.{ValidState}
use Rattle.entity_commands.specs.EntityChanges.{with_marked}
use Rattle.ctrl_core.specs.JoinedRows.{KeepState}
use Rattle.core_stores.specs.StoredState.{state_of}
use Rattle.ctrl_core.proofs.JoinedLaws.{above, joins_valid, made_valid, router_there, router_marked}
use Rattle.ctrl_core.proofs.row_joining.join_router.Goals as goal

pub make_at-requires-clause-may : goal.make_at-requires-clause-may
make_at-requires-clause-may c =
    let r : Router = record { name = c.args.name; attributes = c.args.attributes; cost = c.args.cost; through = c.args.through; connected = c.args.connected } in
    record {
      later = above kind.Router c.args.number r (state_of c.args.stores.now) c.requires.may;
      can = tt;
      valid = made_valid c.args.number r (state_of c.args.stores.now) c.requires.kept.valid c.requires.may;
    }

pub make-requires-clause-can : goal.make-requires-clause-can
make-requires-clause-can c =
    ap (λ (t : State). is_present t.routers.rows c.args.number) c.in_ok-make_at.ensures.state_is
    ∙ router_there c.args.number (record { name = c.args.name; attributes = c.args.attributes; cost = c.args.cost; through = c.args.through; connected = c.args.connected }) (state_of c.args.stores.now) c.requires.kept.valid c.requires.may

pub make-requires-clause-valid : goal.make-requires-clause-valid
make-requires-clause-valid c =
    let s = state_of c.args.stores.now in
    subst ValidState
    (sym (ap (with_marked c.args.number c.args.cost c.args.through c.args.connected) c.in_ok-make_at.ensures.state_is ∙ router_marked c.args.number (record { name = c.args.name; attributes = c.args.attributes; cost = c.args.cost; through = c.args.through; connected = c.args.connected }) s c.requires.kept.valid c.requires.may))
    (joins_valid kind.Router c.args.number (record { name = c.args.name; attributes = c.args.attributes; cost = c.args.cost; through = c.args.through; connected = c.args.connected }) s c.requires.kept.valid c.requires.may)

pub returns : goal.returns
returns c =
    let s = state_of c.args.stores.now in
    subst (λ t. OnOk c.make.result (KeepState c.make.new.stores t))
    (ap (with_marked c.args.number c.args.cost c.args.through c.args.connected) c.in_ok-make_at.ensures.state_is ∙ router_marked c.args.number (record { name = c.args.name; attributes = c.args.attributes; cost = c.args.cost; through = c.args.through; connected = c.args.connected }) s c.requires.kept.valid c.requires.may)
    c.make.ensures
