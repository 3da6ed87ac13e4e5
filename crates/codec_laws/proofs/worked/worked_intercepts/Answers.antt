use Rattle.std.proofs.Common.{refl}
use Rattle.std.specs.Fmt.{digits}
use Rattle.std.specs.Str.{is_utf8, chars}
use Rattle.serde_json.proofs.OnLiterals.{serde_json_on_literals}
use Rattle.codec_laws.proofs.worked.worked_intercepts.Goals as goal

pub returns : goal.returns
unfolding serde_json_on_literals is_utf8 chars digits
returns c = record { set = refl; both = refl; twice = refl; cleared = refl; picked = refl; picked_by_number = refl; listed = refl; most = refl; more = refl; more_ranges = refl }
