use Rattle.std.proofs.Common.{refl, sym, ap}
use Rattle.ctrl_model.specs.State.{Terminator}
use Rattle.core_stores.specs.StoredState.{state_of}
use Rattle.ctrl_core.proofs.TakenLaws.{entities_of}
use Rattle.ctrl_core.proofs.row_flaws.term_flaw_in.Goals as goal

pub returns : goal.returns
returns c =
    c.term_flaw.ensures c.args.term.now (state_of c.args.stores.now) (sym (ap (λ (e : Terminator). e.service) c.term.view_is)) (sym (ap (λ (e : Terminator). e.router) c.term.view_is)) (sym (ap (λ (e : Terminator). e.host) c.term.view_is))
    (entities_of c.args.stores.now c.requires.kept.held) (record { terminators = refl }) c.requires.kept.valid.attributes c.requires.sound
