use Rattle.std.proofs.Common.{refl}
use Rattle.std.specs.Str.{is_utf8, chars}
use Rattle.serde_json.proofs.OnLiterals.{serde_json_on_literals}
use Rattle.codec_laws.proofs.worked.worked_policies.Goals as goal

pub returns : goal.returns
unfolding serde_json_on_literals is_utf8 chars
returns c = record { made = refl; updated = refl; deleted = refl; made_for_identities = refl; updated_for_identities = refl; deleted_for_identities = refl; made_for_services = refl; updated_for_services = refl; deleted_for_services = refl }
