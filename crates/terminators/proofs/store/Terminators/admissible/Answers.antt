use Rattle.std.proofs.Common.{◌≡◌, ℕ, List, IfOk, ap, subst, ◌∙◌}
use Rattle.std.specs.List.{filter}
use Rattle.ctrl_model.specs.Networks.{is_counted, is_in_service}
use Rattle.ctrl_model.specs.Numbered.{numbers}
use Rattle.grant_denorm.specs.CountsAfter.{count_after}
use Rattle.grant_denorm.specs.PairCounts.{count_of}
use Rattle.terminators.specs.TermRules.{network, is_admissible}
use Rattle.terminators.specs.TermTables.{TermTables, no_terminators}
use Rattle.terminators.proofs.KeptLaws.{kept-filter, unchanged}
use Rattle.terminators.proofs.TermLaws.{filter-both}
use Rattle.terminators.proofs.store.Terminators.admissible.Goals as goal

pub returns : goal.returns
returns c =
    let s = c.args.service.0 in
    let w = network c.args.self.now (count_of c.args.bind.now) (count_of c.args.identity_router.now) (count_of c.args.service_router.now) c.args.routers.now in
    let bind = ap count_after c.unchanged-bind.ensures ∙ unchanged c.args.bind.now in
    let identity_router = ap count_after c.unchanged-identity_router.ensures ∙ unchanged c.args.identity_router.now in
    let service_router = ap count_after c.unchanged-service_router.ensures ∙ unchanged c.args.service_router.now in
    let same =
    (λ i. numbers (filter (λ row. is_admissible (network no_terminators (bind i) (identity_router i) (service_router i) c.args.routers.now) s c.args.instance.now (row.0, row.1.term)) c.self.inside.terms.rows))
    ∙ kept-filter (is_admissible w s c.args.instance.now) c.self.inside.terms
    ∙ ap (λ (u : TermTables). numbers (filter (is_admissible w s c.args.instance.now) u.terminators.rows)) c.self.view_is
    ∙ ap numbers (filter-both (is_counted s c.args.instance.now) (is_in_service w) c.args.self.now.terminators.rows) in
    subst (λ (ns : List ℕ). IfOk c.admissible_in.result (λ found. found ≡ ns)) same c.admissible_in.ensures
