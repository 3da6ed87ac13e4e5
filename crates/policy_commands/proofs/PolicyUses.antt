-- Which attributes are in use after a change of a policy: how often each name stands among them.
use Rattle.std.proofs.Common.{◌≡◌, ℕ, ◌+◌, true, List, ◌++◌, Some, arith}
use Rattle.std.proofs.lemmas.Bool.{false≢true}
use Rattle.ctrl_model.specs.declared.kinds.Kind.{Kind}
use Rattle.ctrl_model.specs.declared.kinds.Kind.TheVariants as kind
use Rattle.ctrl_model.specs.Numbered.{at, Between}
use Rattle.ctrl_model.specs.State.{State, Policy}
use Rattle.ctrl_model.specs.Tables.{is_policy_kind}
use Rattle.ctrl_model.specs.PolicyCommands.{replaced_by}
use Rattle.ctrl_model.specs.Rules.{attributes_in_use}
use Rattle.entity_store.specs.AttributeUses.{times}
use Rattle.entity_store.proofs.TimesLaws.{times-with_last, times-edit_at, times-without}
use Rattle.entity_store.proofs.InUseLaws.{in_use-parts}
use Rattle.policy_store.specs.PolicyChanges.{policies_in, with_policy, with_replaced, without_policy}

-- the attributes of the two sides of a policy
abbrev pub names_of : Policy → List (List ℕ)
names_of p = p.left.attributes ++ p.right.attributes

pub policy_added : (k : Kind) (p : Policy) (s : State) → is_policy_kind k ≡ true → (x : List ℕ)
    → times x (attributes_in_use (with_policy k p s)) ≡ times x (attributes_in_use s) + times x (names_of p)
policy_added kind.ServicePolicy p s is x =
    let more = times-with_last names_of x s.service_policies.rows s.service_policies.next p in
    let before = in_use-parts x s in let after = in_use-parts x (with_policy kind.ServicePolicy p s) in omega (arith, more, before, after)
policy_added kind.EdgeRouterPolicy p s is x =
    let more = times-with_last names_of x s.edge_router_policies.rows s.edge_router_policies.next p in
    let before = in_use-parts x s in let after = in_use-parts x (with_policy kind.EdgeRouterPolicy p s) in omega (arith, more, before, after)
policy_added kind.ServiceEdgeRouterPolicy p s is x =
    let more = times-with_last names_of x s.service_edge_router_policies.rows s.service_edge_router_policies.next p in
    let before = in_use-parts x s in let after = in_use-parts x (with_policy kind.ServiceEdgeRouterPolicy p s) in omega (arith, more, before, after)
policy_added _ p s is x = absurd (false≢true is)

pub policy_replaced : (k : Kind) (n : ℕ) (p : Policy) (s : State) (high : ℕ) (old : Policy) → is_policy_kind k ≡ true → Between 1 high (policies_in k s) → at (policies_in k s) n ≡ Some old
    → (x : List ℕ) → times x (attributes_in_use (with_replaced k n p s)) + times x (names_of old) ≡ times x (attributes_in_use s) + times x (names_of p)
policy_replaced kind.ServicePolicy n p s high old is b stands x =
    let moved = times-edit_at names_of (replaced_by p) x high s.service_policies.rows 1 n old b stands in
    let before = in_use-parts x s in let after = in_use-parts x (with_replaced kind.ServicePolicy n p s) in omega (arith, moved, before, after)
policy_replaced kind.EdgeRouterPolicy n p s high old is b stands x =
    let moved = times-edit_at names_of (replaced_by p) x high s.edge_router_policies.rows 1 n old b stands in
    let before = in_use-parts x s in let after = in_use-parts x (with_replaced kind.EdgeRouterPolicy n p s) in omega (arith, moved, before, after)
policy_replaced kind.ServiceEdgeRouterPolicy n p s high old is b stands x =
    let moved = times-edit_at names_of (replaced_by p) x high s.service_edge_router_policies.rows 1 n old b stands in
    let before = in_use-parts x s in let after = in_use-parts x (with_replaced kind.ServiceEdgeRouterPolicy n p s) in omega (arith, moved, before, after)
policy_replaced _ n p s high old is b stands x = absurd (false≢true is)

pub policy_removed : (k : Kind) (n : ℕ) (s : State) (high : ℕ) (old : Policy) → is_policy_kind k ≡ true → Between 1 high (policies_in k s) → at (policies_in k s) n ≡ Some old
    → (x : List ℕ) → times x (attributes_in_use (without_policy k n s)) + times x (names_of old) ≡ times x (attributes_in_use s)
policy_removed kind.ServicePolicy n s high old is b stands x =
    let moved = times-without names_of x high s.service_policies.rows 1 n old b stands in
    let before = in_use-parts x s in let after = in_use-parts x (without_policy kind.ServicePolicy n s) in omega (arith, moved, before, after)
policy_removed kind.EdgeRouterPolicy n s high old is b stands x =
    let moved = times-without names_of x high s.edge_router_policies.rows 1 n old b stands in
    let before = in_use-parts x s in let after = in_use-parts x (without_policy kind.EdgeRouterPolicy n s) in omega (arith, moved, before, after)
policy_removed kind.ServiceEdgeRouterPolicy n s high old is b stands x =
    let moved = times-without names_of x high s.service_edge_router_policies.rows 1 n old b stands in
    let before = in_use-parts x s in let after = in_use-parts x (without_policy kind.ServiceEdgeRouterPolicy n s) in omega (arith, moved, before, after)
policy_removed _ n s high old is b stands x = absurd (false≢true is)
