use Rattle.model_laws.proofs.HitLaws.{is_hit, among_hits}
use Rattle.model_laws.proofs.intercept_laws.each_hit.Goals as goal

pub returns : goal.returns
returns c = λ intercepts dialled udp to port h. (is_hit intercepts dialled udp to port h, among_hits intercepts dialled udp to port h)
