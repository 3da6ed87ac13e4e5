use Rattle.std.proofs.Common.{◌∙◌}
use Rattle.serde_json.specs.View.{view, members_view}
use Rattle.body_fields.proofs.ClaimLaws.{are_reach_keys-members_view, has_reach_keys-object}
use Rattle.body_fields.proofs.route_claims.has_reach_keys.Goals as goal

pub returns-in-Some : goal.returns-in-Some
returns-in-Some c =
    c.are_reach_keys.ensures ∙ are_reach_keys-members_view c.in-Some.members.now.entries
    ∙ has_reach_keys-object (view c.args.value.now) (members_view c.in-Some.members.now.entries) c.in-Some.ensures
