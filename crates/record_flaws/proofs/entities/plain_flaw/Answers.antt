use Rattle.std.proofs.Common.{refl, ◌∙◌, ap, sym}
use Rattle.ctrl_model.specs.declared.kinds.Kind.TheVariants as kinds
use Rattle.ctrl_model.specs.State.{Entity}
use Rattle.record_flaws.specs.FoundFlaws.{entity_flaw}
use Rattle.record_flaws.proofs.EntityFlaws.{told_flaw}
use Rattle.record_flaws.proofs.entities.plain_flaw.Goals as goal

pub returns-clause-identity : goal.returns-clause-identity
returns-clause-identity c = λ e s is_kind is of_entities sound.
    rw (c.entity_flaw.ensures, is_kind)
    (ap (λ (q : Entity). entity_flaw kinds.Identity c.args.coming q.name q.attributes c.args.entities.now) (sym is) ∙ told_flaw kinds.Identity c.args.coming e c.args.entities.now s refl of_entities sound)

pub returns-clause-service : goal.returns-clause-service
returns-clause-service c = λ e s is_kind is of_entities sound.
    rw (c.entity_flaw.ensures, is_kind)
    (ap (λ (q : Entity). entity_flaw kinds.Service c.args.coming q.name q.attributes c.args.entities.now) (sym is) ∙ told_flaw kinds.Service c.args.coming e c.args.entities.now s refl of_entities sound)
