use Rattle.std.proofs.Common.{refl, sym, ap}
use Rattle.ctrl_model.specs.State.{Link}
use Rattle.core_stores.specs.StoredState.{state_of}
use Rattle.ctrl_core.proofs.TakenLaws.{entities_of}
use Rattle.ctrl_core.proofs.row_flaws.link_flaw_in.Goals as goal

pub returns : goal.returns
returns c =
    c.link_flaw.ensures c.args.link.now (state_of c.args.stores.now) (sym (ap (λ (l : Link). l.name) c.link.view_is)) (sym (ap (λ (l : Link). l.a) c.link.view_is)) (sym (ap (λ (l : Link). l.b) c.link.view_is))
    (entities_of c.args.stores.now c.requires.kept.held) (record { links = refl }) c.requires.kept.valid.attributes c.requires.sound
