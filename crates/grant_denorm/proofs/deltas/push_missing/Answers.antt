use Rattle.std.proofs.Common.{◌∙◌, ap, subst, filter, not, true, false}
use Rattle.ctrl_model.specs.Walks.{is_among}
use Rattle.grant_denorm.specs.PairCounts.{AreThose}
use Rattle.grant_denorm.proofs.DeltaLaws.{steps_at-pushed}
use Rattle.grant_denorm.proofs.deltas.push_missing.Goals as goal

pub returns-clause-up : goal.returns-clause-up
returns-clause-up c =
    steps_at-pushed true c.args.up c.args.from.now c.args.other.now c.args.deltas.now.items c.push_rows.new.deltas.items
    c.as_slice-7.result.now c.as_slice-6.result.now c.as_slice-8.result.now c.as_slice-5.result.now c.in_ok-rights.rights.items c.in_ok-lefts.lefts.items
    c.in_ok-push_rows.ensures c.as_slice-7.ensures c.as_slice-6.ensures.value
    (c.as_slice-8.ensures.value ∙ c.in_ok-fresh.ensures ∙ ap (λ xs. filter (λ n. not (is_among n xs)) c.as_slice-3.result.now) c.as_slice-4.ensures
    ∙ ap (λ xs. filter (λ n. not (is_among n c.args.other.now.right)) xs) c.as_slice-3.ensures.value)
    c.as_slice-5.ensures.value
    (subst (λ xs. AreThose (λ n. is_among n xs) c.in_ok-lefts.lefts.items) c.as_slice.ensures c.in_ok-lefts.ensures)
    (subst (λ xs. AreThose (λ n. is_among n xs) c.in_ok-rights.rights.items) c.as_slice-2.ensures c.in_ok-rights.ensures)

pub returns-clause-down : goal.returns-clause-down
returns-clause-down c =
    steps_at-pushed false c.args.up c.args.from.now c.args.other.now c.args.deltas.now.items c.push_rows.new.deltas.items
    c.as_slice-7.result.now c.as_slice-6.result.now c.as_slice-8.result.now c.as_slice-5.result.now c.in_ok-rights.rights.items c.in_ok-lefts.lefts.items
    c.in_ok-push_rows.ensures c.as_slice-7.ensures c.as_slice-6.ensures.value
    (c.as_slice-8.ensures.value ∙ c.in_ok-fresh.ensures ∙ ap (λ xs. filter (λ n. not (is_among n xs)) c.as_slice-3.result.now) c.as_slice-4.ensures
    ∙ ap (λ xs. filter (λ n. not (is_among n c.args.other.now.right)) xs) c.as_slice-3.ensures.value)
    c.as_slice-5.ensures.value
    (subst (λ xs. AreThose (λ n. is_among n xs) c.in_ok-lefts.lefts.items) c.as_slice.ensures c.in_ok-lefts.ensures)
    (subst (λ xs. AreThose (λ n. is_among n xs) c.in_ok-rights.rights.items) c.as_slice-2.ensures c.in_ok-rights.ensures)
