use Rattle.std.proofs.Common.{refl}
use Rattle.ctrl_model.specs.declared.kinds.Kind.TheVariants as kinds
use Rattle.record_flaws.proofs.EntityFlaws.{told_flaw}
use Rattle.record_flaws.proofs.entities.router_flaw.Goals as goal

pub returns : goal.returns
returns c = λ r s name attributes of_entities sound.
    rw (c.entity_flaw.ensures, ← name, ← attributes) (told_flaw kinds.Router c.args.coming r c.args.entities.now s refl of_entities sound)
