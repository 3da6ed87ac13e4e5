use Rattle.std.proofs.Common.{refl}
use Rattle.std.specs.Fmt.{digits}
use Rattle.model_laws.proofs.worked_addresses.hosts_of_bytes.Goals as goal

pub returns-clause-octet_like : goal.returns-clause-octet_like
unfolding digits
returns-clause-octet_like c = refl
