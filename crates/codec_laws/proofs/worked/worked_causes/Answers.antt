use Rattle.std.proofs.Common.{refl}
use Rattle.std.specs.Str.{is_utf8, chars}
use Rattle.serde_json.proofs.OnLiterals.{serde_json_on_literals}
use Rattle.codec_laws.proofs.worked.worked_causes.Goals as goal

pub returns : goal.returns
unfolding serde_json_on_literals is_utf8 chars
returns c = record { unsupported = refl; no_command = refl; reply = refl; no_text = refl; no_bytes = refl; list = refl; empty = refl; no_name = refl; other_key = refl; nothing = refl; first = refl; fields_first = refl; left_out = refl; attributes = refl; cost = refl; no_flag = refl; no_cost = refl }
