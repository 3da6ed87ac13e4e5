use Rattle.std.proofs.Common.{Some, refl, sym, ◌∙◌, arith}
use Rattle.core_stores.specs.StoredState.{state_of}
use Rattle.ctrl_core.proofs.TakenLaws.{takes_flaw, takes_none, entities_of}
use Rattle.ctrl_core.proofs.taking.take_router.Goals as goal

pub returns-in-Some : goal.returns-in-Some
returns-in-Some c =
    takes_flaw (Some c.in-Some.flaw) _ _ _ refl (c.in-Some.ensures (record { name = c.args.name.now; attributes = c.args.attributes.now; cost = c.args.cost; through = c.args.through; connected = c.args.connected }) (state_of c.args.stores.now) refl refl (entities_of c.args.stores.now c.requires.kept.held) c.requires.sound)

pub join_router-requires-clause-may : goal.join_router-requires-clause-may
join_router-requires-clause-may c =
    rw (c.in_ok-name.ensures, c.in_ok-attributes.ensures)
    (record {
      end = c.args.coming.end;
      last = omega arith;
      flawless = sym (c.router_flaw.ensures (record { name = c.args.name.now; attributes = c.args.attributes.now; cost = c.args.cost; through = c.args.through; connected = c.args.connected }) (state_of c.args.stores.now) refl refl (entities_of c.args.stores.now c.requires.kept.held) c.requires.sound) ∙ c.in_default.is;
    })

pub returns : goal.returns
returns c =
    takes_none c.router_flaw.result _ _ _ c.in_default.is (c.router_flaw.ensures (record { name = c.args.name.now; attributes = c.args.attributes.now; cost = c.args.cost; through = c.args.through; connected = c.args.connected }) (state_of c.args.stores.now) refl refl (entities_of c.args.stores.now c.requires.kept.held) c.requires.sound)
    (rw (c.in_ok-name.ensures, c.in_ok-attributes.ensures) at c.in_ok-join_router.ensures)
