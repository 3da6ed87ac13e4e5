use Rattle.std.proofs.Common.{List, ap}
use Rattle.session_mux.specs.declared.events.Event.{Event}
use Rattle.ctrl_serve.specs.FrameAnswer.{machine_behind, replies_to}
use Rattle.run_notes.specs.Inputs.{frames_in}
use Rattle.ctrl_serve.specs.SaidReplies.{joined}
use Rattle.ctrl_serve.proofs.DecidedInputs.{decided_events, decided_still, decided_ending}
use Rattle.ctrl_serve.proofs.laws.a_decided_input_decides_its_events.Goals as goal

pub returns-clause-events : goal.returns-clause-events
returns-clause-events c = decided_events

pub returns-clause-decided : goal.returns-clause-decided
returns-clause-decided c = decided_still

pub returns-clause-replies : goal.returns-clause-replies
returns-clause-replies c = λ form bounds machine used more is. ap (λ (events : List Event). joined (replies_to form bounds machine events)) (decided_events form used more is)

pub returns-clause-last : goal.returns-clause-last
returns-clause-last c = λ form bounds machine used more is. ap (λ (events : List Event). machine_behind bounds machine (frames_in form events)) (decided_events form used more is)

pub returns-clause-ending : goal.returns-clause-ending
returns-clause-ending c = decided_ending
