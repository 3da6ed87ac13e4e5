use Rattle.std.proofs.Common.{◌∙◌}
use Rattle.serde_json.specs.View.{view, members_view}
use Rattle.json_body.proofs.KeyLaws.{are_words_of-members_view, has_only-object}
use Rattle.json_body.proofs.key_words.has_only.Goals as goal

pub returns-in-Some : goal.returns-in-Some
returns-in-Some c =
    c.are_words_of.ensures ∙ are_words_of-members_view c.args.fields.now c.in-Some.members.now.entries
    ∙ has_only-object c.args.fields.now (view c.args.value.now) (members_view c.in-Some.members.now.entries) c.in-Some.ensures
