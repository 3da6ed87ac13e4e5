use Rattle.std.proofs.Common.{◌<◌, List, length, set, sym, ap, subst, ◌∙◌, arith}
use Rattle.ctrl_model.specs.declared.kinds.Who.TheVariants.{Admin}
use Rattle.channel_frame.specs.SessionBytes.{no_bytes}
use Rattle.session_mux.specs.declared.sessions.Session.{Session}
use Rattle.session_mux.specs.declared.sessions.Session.TheVariants as session
use Rattle.session_mux.specs.Completion.{unopened}
use Rattle.session_mux.specs.SessionSteps.{IsAlone}
use Rattle.session_mux.proofs.StepLaws.{alone_set, alone_unopened}
use Rattle.session_mux.proofs.TableLaws.{AtMost, at_most_set, at_most_start}
use Rattle.session_mux.proofs.muxing.Mux.plain.Goals as goal

pub invariant_of-result : goal.invariant_of-result
invariant_of-result c =
    let within : 0 < length unopened = omega (arith, c.open.ensures.numbers, ap length c.in_ok-sessions.ensures) in
    let after = c.open.ensures.after ∙ ap (λ (xs : List Session). set xs 0 (session.Open Admin no_bytes)) c.in_ok-sessions.ensures in (
      omega (arith, ap length c.new-2.ensures),
      subst (λ (xs : List Session). AtMost xs 0) (sym after) (at_most_set 0 (session.Open Admin no_bytes) unopened 0 within (omega arith) (at_most_start 256 0)),
      λ is. subst IsAlone (sym after) (alone_set (session.Open Admin no_bytes) unopened (alone_unopened 256)),
    )
