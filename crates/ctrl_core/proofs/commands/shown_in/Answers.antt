use Rattle.std.proofs.lemmas.Result.{IfOk-weaker}
use Rattle.ctrl_model.specs.declared.kinds.Relation.TheVariants.{Dial, Bind, IdentityRouter, ServiceRouter}
use Rattle.core_stores.specs.StoredState.{state_of}
use Rattle.ctrl_core.proofs.FoundPlans.{shown_there}
use Rattle.ctrl_core.proofs.commands.shown_in.Goals as goal

pub shown_by-requires : goal.shown_by-requires
shown_by-requires c = record {
  state = state_of c.args.stores.now;
  shows = record {
    valid = c.requires.valid;
    circuits_are = c.count.ensures.count;
    links_are = c.count-2.ensures.count;
    policies_are = c.count_all_policies.ensures;
    terminators_are = c.count-3.ensures.count;
    dial = c.requires.counts Dial;
    bind = c.requires.counts Bind;
    identity_router = c.requires.counts IdentityRouter;
    service_router = c.requires.counts ServiceRouter;
  };
}

pub returns : goal.returns
returns c = IfOk-weaker c.shown_by.result _ _ (λ o told. shown_there _ _ o told (state_of c.args.stores.now) (record {
  valid = c.requires.valid;
  circuits_are = c.count.ensures.count;
  links_are = c.count-2.ensures.count;
  policies_are = c.count_all_policies.ensures;
  terminators_are = c.count-3.ensures.count;
  dial = c.requires.counts Dial;
  bind = c.requires.counts Bind;
  identity_router = c.requires.counts IdentityRouter;
  service_router = c.requires.counts ServiceRouter;
})) c.shown_by.ensures
