use Rattle.std.proofs.Common.{refl}
use Rattle.std.specs.Str.{is_utf8, chars}
use Rattle.serde_json.proofs.OnLiterals.{serde_json_on_literals}
use Rattle.codec_laws.proofs.worked.worked_policy_causes.Goals as goal

pub returns : goal.returns
unfolding serde_json_on_literals is_utf8 chars
returns c = record { relation = refl; case = refl; semantic = refl; no_type = refl; no_side = refl; all_beside = refl; no_role = refl; type_of_others = refl }
