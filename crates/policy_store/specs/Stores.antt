-- What a table of one kind of policy does for its store.
use Rattle.std.specs.Prelude.{ℕ, nat_lt, Bool, ◌&&◌, cond, List, is_none, is_some, unwrap_or}
use Rattle.std.specs.Option.{option_map_or}
use Rattle.ctrl_model.specs.Numbered.{Table, with_new, with_edit}
use Rattle.ctrl_model.specs.PolicyCommands.{replaced_by}
use Rattle.ctrl_model.specs.Rules.{forget_left, forget_right}
use Rattle.ctrl_model.specs.State.{Policy, policy_named}
use Rattle.policy_store.specs.declared.records.Hand.{Hand}
use Rattle.policy_store.specs.declared.records.Hand.TheVariants.{Left, Right}
use Rattle.ctrl_model.specs.Limits.{last_next}

-- A policy, of which the side on one hand does not name an entity.
abbrev pub forget_on : Hand → List ℕ → Policy → Policy
forget_on Left name = forget_left name
forget_on Right name = forget_right name

-- A table, of which the policy of the same name has another's parts.
abbrev pub with_same : Policy → Table Policy → Table Policy
with_same p t = option_map_or (λ n. with_edit n (replaced_by p) t) (policy_named t.rows p.name) t

-- What a put leaves of a table.
abbrev pub put_listed : Policy → Bool → Table Policy → Table Policy
put_listed p fresh t = cond fresh (with_new p t) (with_same p t)

-- The number of a policy that is put in a table.
abbrev pub listed_number : List ℕ → Bool → Table Policy → ℕ
listed_number name fresh t = cond fresh t.next (unwrap_or (policy_named t.rows name) 0)

-- A policy can be put in a table: a fresh one under a free name while numbers last, another under a name that one has.
abbrev pub can_list : List ℕ → Bool → Table Policy → Bool
can_list name fresh t = cond fresh (is_none (policy_named t.rows name) && nat_lt t.next last_next) (is_some (policy_named t.rows name))
