-- The entities and the policies of a relation in a valid state: their numbers ascend, and there are not too many.
use Rattle.std.proofs.Common.{ℕ, ◌≤◌, length, arith}
use Rattle.std.proofs.lemmas.List.{length-map}
use Rattle.ctrl_model.specs.declared.kinds.Kind.TheVariants as kind
use Rattle.ctrl_model.specs.declared.kinds.Relation.{Relation}
use Rattle.ctrl_model.specs.declared.kinds.Relation.TheVariants.{Dial, Bind, IdentityRouter, ServiceRouter}
use Rattle.ctrl_model.specs.Numbered.{Between}
use Rattle.ctrl_model.specs.State.{State, Entity, as_entity}
use Rattle.ctrl_model.specs.Grants.{policies_for}
use Rattle.ctrl_model.specs.ValidState.{ValidState}
use Rattle.ctrl_model.proofs.NumberedLaws.{Between-map}
use Rattle.grant_moves.specs.EntitySides.{left_rows, right_rows}

-- one above the numbers of the left side, of the right one, and of the policies
abbrev pub left_high : Relation → State → ℕ
left_high Dial s = s.identities.next
left_high Bind s = s.identities.next
left_high IdentityRouter s = s.identities.next
left_high ServiceRouter s = s.services.next

abbrev pub right_high : Relation → State → ℕ
right_high Dial s = s.services.next
right_high Bind s = s.services.next
right_high IdentityRouter s = s.routers.next
right_high ServiceRouter s = s.routers.next

abbrev pub policies_high : Relation → State → ℕ
policies_high Dial s = s.service_policies.next
policies_high Bind s = s.service_policies.next
policies_high IdentityRouter s = s.edge_router_policies.next
policies_high ServiceRouter s = s.service_edge_router_policies.next

pub left_ordered : (r : Relation) (s : State) → ValidState s → Between 1 (left_high r s) (left_rows r s)
left_ordered Dial s valid = (valid.kinds kind.Identity).numbers.ordered
left_ordered Bind s valid = (valid.kinds kind.Identity).numbers.ordered
left_ordered IdentityRouter s valid = (valid.kinds kind.Identity).numbers.ordered
left_ordered ServiceRouter s valid = (valid.kinds kind.Service).numbers.ordered

pub right_ordered : (r : Relation) (s : State) → ValidState s → Between 1 (right_high r s) (right_rows r s)
right_ordered Dial s valid = (valid.kinds kind.Service).numbers.ordered
right_ordered Bind s valid = (valid.kinds kind.Service).numbers.ordered
right_ordered IdentityRouter s valid = Between-map (λ row. as_entity row.1) s.routers.next s.routers.rows 1 (valid.kinds kind.Router).numbers.ordered
right_ordered ServiceRouter s valid = Between-map (λ row. as_entity row.1) s.routers.next s.routers.rows 1 (valid.kinds kind.Router).numbers.ordered

pub policies_ordered : (r : Relation) (s : State) → ValidState s → Between 1 (policies_high r s) (policies_for r s)
policies_ordered Dial s valid = (valid.kinds kind.ServicePolicy).numbers.ordered
policies_ordered Bind s valid = (valid.kinds kind.ServicePolicy).numbers.ordered
policies_ordered IdentityRouter s valid = (valid.kinds kind.EdgeRouterPolicy).numbers.ordered
policies_ordered ServiceRouter s valid = (valid.kinds kind.ServiceEdgeRouterPolicy).numbers.ordered

-- a side has at most 2,048 entities
pub left_few : (r : Relation) (s : State) → ValidState s → length (left_rows r s) ≤ 2048
left_few Dial s valid = (valid.kinds kind.Identity).numbers.few
left_few Bind s valid = (valid.kinds kind.Identity).numbers.few
left_few IdentityRouter s valid = (valid.kinds kind.Identity).numbers.few
left_few ServiceRouter s valid = let few = (valid.kinds kind.Service).numbers.few in omega (arith, few)

pub right_few : (r : Relation) (s : State) → ValidState s → length (right_rows r s) ≤ 2048
right_few Dial s valid = let few = (valid.kinds kind.Service).numbers.few in omega (arith, few)
right_few Bind s valid = let few = (valid.kinds kind.Service).numbers.few in omega (arith, few)
right_few IdentityRouter s valid = let few = (valid.kinds kind.Router).numbers.few in let same = length-map {B = ℕ × Entity} s.routers.rows (λ row. (row.0, as_entity row.1)) in omega (arith, few, same)
right_few ServiceRouter s valid = let few = (valid.kinds kind.Router).numbers.few in let same = length-map {B = ℕ × Entity} s.routers.rows (λ row. (row.0, as_entity row.1)) in omega (arith, few, same)
