use Rattle.std.proofs.Common.{ℕ, List, [], ◌∷◌, Some, subst}
use Rattle.command_bodies.specs.WrittenFields.{a_text, some_texts}
use Rattle.command_bodies.specs.RoleEntries.{role_texts}
use Rattle.command_bodies.proofs.PutLaws.{PutBetween, PutValues, of_four, of_two}
use Rattle.command_bodies.proofs.families.put_router_policies.Goals as goal

pub returns-in-DeleteEdgeRouterPolicy-clause-put : goal.returns-in-DeleteEdgeRouterPolicy-clause-put
returns-in-DeleteEdgeRouterPolicy-clause-put c =
    let done = c.put in
    let said = c.in-DeleteEdgeRouterPolicy in
    of_two (PutBetween done.result 1110 1200 c.args.body.now done.new.self) said.is done.ensures.put done.ensures.put

pub returns-in-CreateEdgeRouterPolicy-clause-put : goal.returns-in-CreateEdgeRouterPolicy-clause-put
returns-in-CreateEdgeRouterPolicy-clause-put c =
    let done = c.put-in-CreateEdgeRouterPolicy in
    let said = c.in-CreateEdgeRouterPolicy in
    let worded = subst (λ (w : List ℕ). PutValues done.result c.args.body.now done.new.self
    (Some (a_text said.name) ∷ Some (a_text w) ∷ Some (some_texts (role_texts said.roles)) ∷ Some (some_texts (role_texts said.router_roles)) ∷ []))
    c.semantic_word.ensures done.ensures.put in
    of_four (PutBetween done.result 1110 1200 c.args.body.now done.new.self) said.is worded worded worded worded
