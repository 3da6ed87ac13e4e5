use Rattle.std.proofs.Common.{◌≡◌, [], ◌∷◌, sym, ap, ◌∙◌, subst, rules}
use Rattle.std.specs.Option.{option_map}
use Rattle.row_codec.specs.CoveredTables.{Covers}
use Rattle.intercepts.specs.InterceptChanges.{intercepts_after}
use Rattle.intercept_commands.proofs.RowLaws.{covers_change, covers_none}
use Rattle.intercept_commands.proofs.rows.intercept_changes.Goals as goal

pub returns-in_default : goal.returns-in_default
returns-in_default c = λ f s t has had was is.
    subst (Covers f 16 17 s t) (sym (c.of.ensures ∙ c.new-changes.ensures.items))
    (covers_none f s t (was ∙ sym (is ∙ ap (λ o. intercepts_after (option_map (λ d. d.now) o) c.args.intercepts.now) c.in_default.is)))

pub returns : goal.returns
returns c = λ f s t has had was is.
    let made : c.of-2.result ≡ c.in_ok-row_change.field-0 ∷ [] = search rules in
    subst (Covers f 16 17 s t) (sym (made ∙ ap (λ x. x ∷ []) c.in_ok-row_change.ensures.change))
    (covers_change f c.in-Some.change.now c.args.intercepts.now s t c.row_change.ensures.long has had was
    (is ∙ ap (λ o. intercepts_after (option_map (λ d. d.now) o) c.args.intercepts.now) c.in-Some.is))
