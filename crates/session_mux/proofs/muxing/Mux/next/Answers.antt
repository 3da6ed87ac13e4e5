use Rattle.session_mux.proofs.StepLaws.{taken_from}
use Rattle.session_mux.proofs.muxing.Mux.next.Goals as goal

pub returns-clause-taken : goal.returns-clause-taken
returns-clause-taken c = taken_from c.args.self.now _ _ c.first_event-event.ensures.some c.first_event-event.ensures.fault
