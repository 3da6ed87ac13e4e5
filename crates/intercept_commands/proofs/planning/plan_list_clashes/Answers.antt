use Rattle.std.proofs.Common.{◌≡◌, true, nat_lt, ap, sym, subst, ◌∙◌}
use Rattle.std.specs.List.{list_all}
use Rattle.ctrl_model.specs.Hits.{clashes}
use Rattle.ctrl_model.specs.Numbered.{is_present}
use Rattle.grant_denorm.specs.PairCounts.{count_of}
use Rattle.intercept_commands.proofs.PlanLaws.{dialled_there, clashes_there}
use Rattle.intercept_commands.proofs.planning.plan_list_clashes.Goals as goal

pub names_of-requires : goal.names_of-requires
names_of-requires c =
    let rows = c.args.stores.now.entities.now.services.rows in
    let there = dialled_there rows (λ n. nat_lt 0 (count_of c.args.stores.now.dial.now c.in-Some.identity n)) c.in_ok-dialled.dialled.items c.in_ok-dialled.ensures in
    subst (λ ns. list_all (is_present rows) ns ≡ true) (sym c.as_slice-2.ensures.value)
    (clashes_there rows c.args.stores.now.intercepts.now c.in_ok-dialled.dialled.items c.in_ok-clashes.clashes.items c.in-Some-service_named.service there
    (c.in_ok-clashes.ensures ∙ ap (λ ds. clashes c.args.stores.now.intercepts.now ds c.in-Some-service_named.service) c.as_slice.ensures.value))
