use Rattle.std.proofs.Common.{subst}
use Rattle.std.specs.declared.option.Option.{Option}
use Rattle.session_mux.specs.declared.events.Event.{Event}
use Rattle.session_mux.specs.declared.muxing.Step.{Step}
use Rattle.session_mux.specs.MuxSteps.{HeldGives, StepGives}
use Rattle.session_mux.proofs.StepLaws.{ends_here}
use Rattle.session_mux.proofs.muxing.Mux.first_event.Goals as goal

pub returns-in-Ended-clause-some : goal.returns-in-Ended-clause-some
returns-in-Ended-clause-some c =
    ends_here c.args.self.now c.moves.self c.held_event.new.self c.step.new.self c.moves.invariant.goes
    (subst (λ (o : Option Event). HeldGives c.moves.self c.held_event.new.self o) c.in_default.is c.in_ok-event.ensures.ok)
    (subst (λ (s : Step). StepGives c.held_event.new.self c.step.new.self s) c.in-Ended.is c.in_ok-step.ensures.ok)

pub returns-in-Stuck-clause-memory : goal.returns-in-Stuck-clause-memory
returns-in-Stuck-clause-memory c = λ wanting. absurd cc
