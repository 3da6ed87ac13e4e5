use Rattle.std.proofs.Common.{refl}
use Rattle.session_mux.proofs.EventLaws.{rest_is, rest_left}
use Rattle.session_mux.proofs.sessions.rest_of.Goals as goal

pub returns-clause-len : goal.returns-clause-len
returns-clause-len c = rest_is c.args.bytes.now c.args.bytes.now.fault c.rest.result refl c.rest.ensures.held c.rest.ensures.met

pub returns-clause-rest : goal.returns-clause-rest
returns-clause-rest c = λ s quiet. rest_left s c.args.bytes.now c.args.bytes.now.fault c.rest.result refl c.rest.ensures.held c.rest.ensures.met quiet
