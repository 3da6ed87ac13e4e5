use Rattle.model_laws.proofs.HitLaws.{picked_is, is_picked, none_picked, no_hit}
use Rattle.model_laws.proofs.intercept_laws.the_picked_hit.Goals as goal

pub returns-clause-is : goal.returns-clause-is
returns-clause-is c = λ intercepts dialled udp to port h all. (picked_is intercepts dialled udp to port h, is_picked intercepts dialled udp to port h all)

pub returns-clause-none : goal.returns-clause-none
returns-clause-none c = λ intercepts dialled udp to port. (none_picked intercepts dialled udp to port, no_hit intercepts dialled udp to port)
