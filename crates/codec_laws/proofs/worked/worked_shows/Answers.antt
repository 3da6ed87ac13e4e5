use Rattle.std.proofs.Common.{refl}
use Rattle.std.specs.Str.{is_utf8, chars}
use Rattle.serde_json.proofs.OnLiterals.{serde_json_on_literals}
use Rattle.codec_laws.proofs.worked.worked_shows.Goals as goal

pub returns : goal.returns
unfolding serde_json_on_literals is_utf8 chars
returns c = record { grants = refl; services = refl; counts = refl; no_object = refl; other_key = refl; name = refl; compacts = refl; compacts_no_object = refl; compacts_nothing = refl }
