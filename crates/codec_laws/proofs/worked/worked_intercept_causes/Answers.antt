use Rattle.std.proofs.Common.{refl}
use Rattle.std.specs.Fmt.{digits}
use Rattle.std.specs.Str.{is_utf8, chars}
use Rattle.serde_json.proofs.OnLiterals.{serde_json_on_literals}
use Rattle.codec_laws.proofs.worked.worked_intercept_causes.Goals as goal

pub returns : goal.returns
unfolding serde_json_on_literals is_utf8 chars digits
returns c = record { no_protocol = refl; another_protocol = refl; three_protocols = refl; no_address = refl; no_addresses = refl; port_0 = refl; turned = refl; one_number = refl; past = refl; no_ports = refl; network = refl; under = refl; no_port = refl; two_protocols = refl; another_key = refl; no_service = refl }
