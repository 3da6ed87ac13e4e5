use Rattle.std.proofs.Common.{refl}
use Rattle.std.specs.Str.{is_utf8, chars}
use Rattle.serde_json.proofs.OnLiterals.{serde_json_on_literals}
use Rattle.codec_laws.proofs.worked.worked_bodies.Goals as goal

pub returns : goal.returns
unfolding serde_json_on_literals is_utf8 chars
returns c = record { hello = refl; made = refl; attributes = refl; updated = refl; deleted = refl; made_service = refl; updated_service = refl; deleted_service = refl; made_router = refl; made_router_in_full = refl; updated_router = refl; deleted_router = refl; connected = refl; disconnected = refl }
