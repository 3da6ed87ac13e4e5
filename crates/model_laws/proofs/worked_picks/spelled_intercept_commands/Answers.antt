use Rattle.std.proofs.Common.{refl}
use Rattle.std.specs.Fmt.{digits}
use Rattle.model_laws.proofs.worked_picks.spelled_intercept_commands.Goals as goal

pub returns-clause-set : goal.returns-clause-set
unfolding digits
returns-clause-set c = refl

pub returns-clause-set_of_none : goal.returns-clause-set_of_none
unfolding digits
returns-clause-set_of_none c = refl

pub returns-clause-set_nothing : goal.returns-clause-set_nothing
unfolding digits
returns-clause-set_nothing c = refl

pub returns-clause-host : goal.returns-clause-host
unfolding digits
returns-clause-host c = refl

pub returns-clause-one_address : goal.returns-clause-one_address
unfolding digits
returns-clause-one_address c = refl

pub returns-clause-network : goal.returns-clause-network
unfolding digits
returns-clause-network c = refl

pub returns-clause-many_hosts : goal.returns-clause-many_hosts
unfolding digits
returns-clause-many_hosts c = refl

pub returns-clause-capital : goal.returns-clause-capital
unfolding digits
returns-clause-capital c = refl

pub returns-clause-port_0 : goal.returns-clause-port_0
unfolding digits
returns-clause-port_0 c = refl

pub returns-clause-port_past : goal.returns-clause-port_past
unfolding digits
returns-clause-port_past c = refl

pub returns-clause-pick_of_none : goal.returns-clause-pick_of_none
unfolding digits
returns-clause-pick_of_none c = refl
