use Rattle.std.proofs.Common.{IfOk, List, ℕ, sym, subst, ◌∙◌}
use Rattle.ctrl_model.specs.declared.formats.Format.TheVariants.{Two}
use Rattle.row_codec.specs.declared.rows.Row.{Row}
use Rattle.change_lines.specs.PlanParts.{Joins}
use Rattle.change_lines.specs.RowChanges.{AreRowsOf}
use Rattle.change_lines.proofs.planning.plan_of.Goals as goal

pub changes-lines-requires-clause-right : goal.changes-lines-requires-clause-right
changes-lines-requires-clause-right c = (
  Two,
  c.requires.kept.0,
  subst (λ (rows : List Row). AreRowsOf Two c.requires.kept.0 rows) (sym c.as_slice.ensures.value) (c.in_ok-then.ensures c.requires.kept.0 c.requires.kept.1),
)

pub returns : goal.returns
returns c = λ f s t are kept.
    let then : AreRowsOf Two t c.as_slice.result.now =
    subst (λ (rows : List Row). AreRowsOf Two t rows) (sym c.as_slice.ensures.value) (c.in_ok-then.ensures t kept) in
    subst (λ (lines : List ℕ). IfOk c.joined.result (λ p. Joins lines c.args.refused.now p)) (c.as_slice-3.ensures ∙ c.in_ok-lines.ensures f Two s t are then) c.joined.ensures
