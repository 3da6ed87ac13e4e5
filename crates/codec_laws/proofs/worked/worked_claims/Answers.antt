use Rattle.std.proofs.Common.{refl}
use Rattle.std.specs.Str.{is_utf8, chars}
use Rattle.serde_json.proofs.OnLiterals.{serde_json_on_literals}
use Rattle.codec_laws.proofs.worked.worked_claims.Goals as goal

pub returns : goal.returns
unfolding serde_json_on_literals is_utf8 chars
returns c = record { claimed = refl; empty = refl; no_link = refl; no_values = refl; more_keys = refl; no_router = refl; beyond = refl; no_object = refl; no_total = refl; most_links = refl; more_links = refl; most_values = refl; more_values = refl }
