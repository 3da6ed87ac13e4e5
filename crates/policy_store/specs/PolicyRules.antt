-- When a policy can be put, and what is found (docs/RULES.md, "Commands on policies", "Limits").
use Rattle.std.specs.Prelude.{ℕ, ◌≤◌, Bool, ◌&&◌, cond, List, length, is_some, is_none, unwrap_or}
use Rattle.std.specs.declared.result.Result.{Result}
use Rattle.std.specs.Option.{ok_or, option_map_or}
use Rattle.ctrl_model.specs.declared.kinds.Kind.{Kind}
use Rattle.ctrl_model.specs.Limits.{limit, last_next}
use Rattle.ctrl_model.specs.Numbered.{is_present, Between}
use Rattle.ctrl_model.specs.State.{Policy}
use Rattle.ctrl_model.specs.Tables.{has_room, is_policy_kind}
use Rattle.policy_store.specs.declared.policies.PolicyFault.{PolicyFault}
use Rattle.policy_store.specs.declared.policies.PolicyFault.TheVariants.{Unknown}
use Rattle.policy_store.specs.PolicyTables.{PolicyTables, policies, policies_of, next_of, number_of, with_policy, with_replaced}

-- Whether one more policy of a kind can be put: it is a kind of policy, fewer than its limit are present, and its numbers have not run
-- out.
abbrev pub has_kind_room : Kind → PolicyTables → Bool
has_kind_room k t = is_policy_kind k && has_room (limit k) (policies_of k t)

-- Whether a name is as it has to be: free for a fresh policy, and one's for another.
abbrev pub has_fitting_name : Kind → List ℕ → Bool → PolicyTables → Bool
has_fitting_name k name fresh t = cond fresh (is_none (number_of k name t)) (is_some (number_of k name t))

-- The number of the policy of a name, if one has it.
abbrev pub found : Kind → List ℕ → PolicyTables → Result ℕ PolicyFault
found k name t = ok_or (number_of k name t) Unknown

-- Whether a policy of a kind and number is present.
abbrev pub is_there : Kind → ℕ → PolicyTables → Bool
is_there k n t = is_present (policies k t) n

-- Whether a policy can be put: a fresh one under a free name and in a kind that is not full, another under a name that one has.
abbrev pub can_put : Kind → List ℕ → Bool → PolicyTables → Bool
can_put k name fresh t = cond fresh (is_none (number_of k name t) && has_kind_room k t) (is_some (number_of k name t))

-- What a put leaves: a fresh policy is one more, another takes the place of the one that has its name.
abbrev pub put_in : Kind → Policy → Bool → PolicyTables → PolicyTables
put_in k p fresh t = cond fresh (with_policy k p t) (option_map_or (λ n. with_replaced k n p t) (number_of k p.name t) t)

-- The number of a policy that is put.
abbrev pub put_number : Kind → List ℕ → Bool → PolicyTables → ℕ
put_number k name fresh t = cond fresh (next_of k t) (unwrap_or (number_of k name t) 0)

-- What a store keeps of each kind: the numbers ascend from 1 below the next one, which has an end, and the limit is kept.
pub record KeepsNumbers (k : Kind) (t : PolicyTables) : Type 0 where
  pub first : 1 ≤ next_of k t
  pub last : next_of k t ≤ last_next
  pub ordered : Between 1 (next_of k t) (policies k t)
  pub few : length (policies k t) ≤ limit k
