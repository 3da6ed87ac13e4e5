use Rattle.std.proofs.Common.{sym, ◌∙◌}
use Rattle.ziti_outside.proofs.MomentLaws.{Leaves-weaker}
use Rattle.ctrl_keep.proofs.TurnedLaws.{narrow_in, first_either}
use Rattle.ctrl_keep.proofs.loading.turn.Goals as goal

pub migrate-requires-clause-narrow : goal.migrate-requires-clause-narrow
migrate-requires-clause-narrow g c = λ fresh. narrow_in c.args.store.now (sym c.format.ensures ∙ c.in-One.is) c.requires.state

pub returns-in-Ok-clause-stops : goal.returns-in-Ok-clause-stops
returns-in-Ok-clause-stops g c = λ told.
    Leaves-weaker _ (c.migrate.ensures.stops c.requires.able.1 told) (λ i o. first_either c.args.store.now i (sym c.format.ensures ∙ c.in-One.is) o)

pub returns-in-Err-clause-stops : goal.returns-in-Err-clause-stops
returns-in-Err-clause-stops g c = λ told.
    Leaves-weaker _ (c.migrate.ensures.stops c.requires.able.1 told) (λ i o. first_either c.args.store.now i (sym c.format.ensures ∙ c.in-One.is) o)
