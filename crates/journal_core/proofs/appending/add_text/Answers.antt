use Rattle.std.proofs.Common.{refl}
use Rattle.ziti_outside.proofs.MomentLaws.{Leaves-weaker, Leaves-then}
use Rattle.journal_core.proofs.GateLaws.{gate_added, written_behind}
use Rattle.journal_core.proofs.StopLaws.{images_behind, images_gate}
use Rattle.journal_core.proofs.appending.add_text.Goals as goal

pub returns-in_err-put_down-clause-stops : goal.returns-in_err-put_down-clause-stops
returns-in_err-put_down-clause-stops g c = λ told.
    Leaves-weaker _ c.put_down.ensures.stops (images_behind c.args.text.now (c.requires.closed told) (c.requires.stable told))

pub returns-clause-stops : goal.returns-clause-stops
returns-clause-stops g c = λ told.
    let closed = c.requires.closed told in
    let stable = c.requires.stable told in
    Leaves-then _ c.put_down.ensures.stops c.put_down-2.ensures.stops
    (images_behind c.args.text.now closed stable)
    (images_gate stable (written_behind closed (c.in_ok-put_down.ensures.written told)) c.in_ok-put_down.ensures.stable c.put_down.ensures.stops.found)

pub returns-clause-added : goal.returns-clause-added
returns-clause-added g c = gate_added c.args.at c.args.text.now _ _ _ _ c.put_down-2.result refl c.requires.closed c.in_ok-put_down.ensures.written c.put_down-2.ensures.written
