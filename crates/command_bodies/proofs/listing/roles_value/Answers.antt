use Rattle.std.proofs.Common.{sym, ap, ◌∙◌}
use Rattle.std.proofs.lemmas.Result.{IfOk-weaker}
use Rattle.serde_json.specs.Data.{array}
use Rattle.serde_json.specs.View.{items_of}
use Rattle.serde_json.proofs.Views.{view-Array}
use Rattle.command_bodies.proofs.ListedValues.{listed_all, listed_some}
use Rattle.command_bodies.proofs.listing.roles_value.Goals as goal

pub returns-then-side : goal.returns-then-side
returns-then-side c = IfOk-weaker c.all_value.result _ _ (λ v e. e ∙ sym (listed_all c.args.side.now c.if-side.true)) c.all_value.ensures

pub returns : goal.returns
returns c = view-Array c.in_ok-values.values ∙ ap (λ l. array (items_of l)) c.in_ok-values.ensures ∙ sym (listed_some c.args.side.now c.if-side.false)
