use Rattle.std.proofs.Common.{refl, sym, subst, ◌∙◌, Ok}
use Rattle.frame_stream.specs.StreamSteps.{NextGives}
use Rattle.session_mux.proofs.EventLaws.{met_event, frame_event}
use Rattle.session_mux.proofs.sessions.next_of.Goals as goal

pub returns-then-is_at_fault-clause-ok : goal.returns-then-is_at_fault-clause-ok
returns-then-is_at_fault-clause-ok c = met_event c.args.session c.args.bytes.now c.args.bytes.now (sym c.is_at_fault.ensures ∙ c.if-is_at_fault.true) refl

pub returns-in-Ok-Some-clause-ok : goal.returns-in-Ok-Some-clause-ok
returns-in-Ok-Some-clause-ok c =
    frame_event c.args.session c.args.bytes.now c.next.new.self c.in-Ok-Some.frame
    (subst (λ o. NextGives c.args.bytes.now c.next.new.self (Ok o)) c.in-Ok-Some.field-0-is c.in-Ok-Some.ensures.gives)

pub returns-then-is_at_fault-clause-memory : goal.returns-then-is_at_fault-clause-memory
returns-then-is_at_fault-clause-memory c = tt
