use Rattle.std.proofs.Common.{◌≡◌}
use Rattle.serde_json.specs.View.{members_view}
use Rattle.command_bodies.proofs.PutLaws.{put_from}
use Rattle.command_bodies.proofs.field_values.put_each.Given as goal

-- what is left to put makes the whole of what was put
abbrev pub invariant-values : goal.invariant-values
invariant-values l = put_from l.fields l.values l.place (members_view l.members.entries) ≡ put_from l.fields l.values 0 (members_view l.fn.members.entries)
