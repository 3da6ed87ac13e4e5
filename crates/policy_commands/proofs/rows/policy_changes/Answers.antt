use Rattle.std.proofs.Common.{[], ◌∷◌, sym, ◌∙◌, ap, subst}
use Rattle.std.proofs.lemmas.Result.{IfOk-weaker}
use Rattle.row_codec.specs.CoveredTables.{Covers}
use Rattle.policy_commands.proofs.PolicyRowLaws.{covers_change}
use Rattle.policy_commands.proofs.rows.policy_changes.Goals as goal

pub returns : goal.returns
returns c = IfOk-weaker c.one_change.result _ _ (λ changes e f s t es et.
    subst (λ cs. Covers f 7 10 s t cs) (sym (e ∙ ap (λ x. x ∷ []) c.in_ok-made.ensures))
    (covers_change f c.args.change.now c.args.kept.now s t c.requires.can c.requires.before es et)) c.one_change.ensures
