use Rattle.std.proofs.Common.{List}
use Rattle.std.proofs.lemmas.Result.{on_ok_weaker}
use Rattle.ctrl_model.specs.declared.commands.Command.{Command}
use Rattle.load_gen.specs.declared.groups.Group.TheVariants as group
use Rattle.load_gen.specs.Draws.{Drawn, both, for_each_to}
use Rattle.load_gen.specs.LoadCommands.{made_for}
use Rattle.load_gen.proofs.LoadLaws.{adds_both}
use Rattle.load_gen.proofs.making.add_all.Goals as goal

pub returns : goal.returns
returns c =
    let rest_8 : Drawn (List Command) = (for_each_to 1000 (made_for group.Requests)) in
    let rest_7 : Drawn (List Command) = both (for_each_to 40 (made_for group.Terminators)) rest_8 in
    let rest_6 : Drawn (List Command) = both (for_each_to 4 (made_for group.ServiceEdgeRouterPolicies)) rest_7 in
    let rest_5 : Drawn (List Command) = both (for_each_to 6 (made_for group.EdgeRouterPolicies)) rest_6 in
    let rest_4 : Drawn (List Command) = both (for_each_to 20 (made_for group.ServicePolicies)) rest_5 in
    let rest_3 : Drawn (List Command) = both (for_each_to 30 (made_for group.Links)) rest_4 in
    let rest_2 : Drawn (List Command) = both (for_each_to 12 (made_for group.Routers)) rest_3 in
    let rest_1 : Drawn (List Command) = both (for_each_to 40 (made_for group.Services)) rest_2 in
    on_ok_weaker c.add_group-9.result (λ a. (adds_both _ _ _ _ _ _ (for_each_to 200 (made_for group.Identities)) (rest_1) c.in_ok-add_group.ensures (adds_both _ _ _ _ _ _ (for_each_to 40 (made_for group.Services)) (rest_2) c.in_ok-add_group-2.ensures (adds_both _ _ _ _ _ _ (for_each_to 12 (made_for group.Routers)) (rest_3) c.in_ok-add_group-3.ensures (adds_both _ _ _ _ _ _ (for_each_to 30 (made_for group.Links)) (rest_4) c.in_ok-add_group-4.ensures (adds_both _ _ _ _ _ _ (for_each_to 20 (made_for group.ServicePolicies)) (rest_5) c.in_ok-add_group-5.ensures (adds_both _ _ _ _ _ _ (for_each_to 6 (made_for group.EdgeRouterPolicies)) (rest_6) c.in_ok-add_group-6.ensures (adds_both _ _ _ _ _ _ (for_each_to 4 (made_for group.ServiceEdgeRouterPolicies)) (rest_7) c.in_ok-add_group-7.ensures (adds_both _ _ _ _ _ _ (for_each_to 40 (made_for group.Terminators)) (rest_8) c.in_ok-add_group-8.ensures a))))))))) c.add_group-9.ensures
