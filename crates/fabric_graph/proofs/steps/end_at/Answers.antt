use Rattle.std.proofs.Common.{Some, sym, ◌∙◌, ap}
use Rattle.std.proofs.lemmas.Bool.{cond-true, cond-false}
use Rattle.fabric_graph.proofs.EndLaws.{end_on, end_absent}
use Rattle.fabric_graph.proofs.steps.end_at.Goals as goal

pub returns-in_err-place-clause-end : goal.returns-in_err-place-clause-end
returns-in_err-place-clause-end c =
    c.from_residual.ensures ∙ sym (end_absent c.args.least c.args.routers.now c.args.router.0 c.in_err-place.ensures.absent)

pub returns-then-not-seen-clause-end : goal.returns-then-not-seen-clause-end
returns-then-not-seen-clause-end c =
    sym (end_on c.args.least c.args.routers.now c.in_ok-place.place c.args.router.0 _ c.requires.routers.ordered c.in_ok-place.ensures.found ∙ cond-false _ _ _ c.if-not-seen.true)

pub returns-clause-end : goal.returns-clause-end
returns-clause-end c =
    ap (λ entry. Some (record { place = c.in_ok-place.place; entry = entry })) c.max.ensures
    ∙ sym (end_on c.args.least c.args.routers.now c.in_ok-place.place c.args.router.0 _ c.requires.routers.ordered c.in_ok-place.ensures.found ∙ cond-true _ _ _ c.if-not-seen.false)
