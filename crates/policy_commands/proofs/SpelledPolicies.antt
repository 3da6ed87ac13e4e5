-- A policy that a spelled command says has short sides.
use Rattle.std.proofs.Common.{◌≡◌, ℕ, ◌+◌, ◌≤◌, nat_le, true, not, ◌&&◌, ◌||◌, ◌⊎◌, inl, inr, List, length, sym, ◌∙◌, ap, subst, arith}
use Rattle.std.proofs.lemmas.Bool.{and_parts, leb-true}
use Rattle.ctrl_model.specs.declared.commands.Command.{Command}
use Rattle.ctrl_model.specs.declared.commands.Command.TheVariants as command
use Rattle.ctrl_model.specs.declared.kinds.Kind.{Kind}
use Rattle.ctrl_model.specs.declared.kinds.Relation.{Relation}
use Rattle.ctrl_model.specs.declared.kinds.Semantic.{Semantic}
use Rattle.ctrl_model.specs.declared.kinds.Side.{Side}
use Rattle.ctrl_model.specs.ValueForms.{is_side, is_stored_side, is_service_relation}
use Rattle.ctrl_model.specs.SpelledCommands.{is_spelled}
use Rattle.ctrl_model.specs.declared.refusals.Field.TheVariants as field
use Rattle.ctrl_model.specs.Controller.{carry, policy}
use Rattle.ctrl_model.specs.Matches.{is_nothing}
use Rattle.ctrl_model.specs.NameForm.{is_name}
use Rattle.ctrl_model.specs.State.{Policy}
use Rattle.ctrl_model.specs.RecordCommands.{delete}
use Rattle.model_laws.specs.declared.plans.Plan.{Plan}
use Rattle.entity_store.specs.EntityTables.{Tables}
use Rattle.policy_store.specs.declared.changes.PolicyChange.{PolicyChange}
use Rattle.policy_store.specs.PolicyTables.{PolicyTables}
use Rattle.policy_commands.specs.PlannedPolicies.{AreShort, Answers, router_kind}

short_side : (side : Side) → is_side side ≡ true → length side.ids ≤ 64
short_side side e =
    let stored : is_stored_side side ≡ true = (and_parts (is_stored_side side) _ e).0 in
    let listed = (and_parts (not side.all || (is_nothing side.ids && is_nothing side.attributes)) _ stored).1 in
    let few : nat_le (length side.ids + length side.attributes) 64 ≡ true = (and_parts (nat_le (length side.ids + length side.attributes) 64) _ listed).0 in
    fewer (length side.ids) (length side.attributes) (leb-true (length side.ids + length side.attributes) 64 few)
  where
    fewer : (m n : ℕ) → m + n ≤ 64 → m ≤ 64
    fewer m n h = omega arith

said_short : (p : Policy) (name : List ℕ) (relation : Relation) (semantic : Semantic) (left right : Side) → (is_side left && is_side right) ≡ true
    → p ≡ policy name relation semantic left right → AreShort p
said_short p name relation semantic left right spelled is =
    let sides = and_parts (is_side left) (is_side right) spelled in
    subst AreShort (sym is) (record { left = short_side left sides.0; right = short_side right sides.1 })

pub short_sides : (p : Policy) (name : List ℕ) (relation : Relation) (semantic : Semantic) (left right : Side) → (is_name name && (is_side left && is_side right)) ≡ true
    → p ≡ policy name relation semantic left right → AreShort p
short_sides p name relation semantic left right spelled is =
    said_short p name relation semantic left right (and_parts (is_name name) (is_side left && is_side right) spelled).1 is

pub short_service_sides : (p : Policy) (name : List ℕ) (relation : Relation) (semantic : Semantic) (left right : Side)
    → (is_name name && (is_service_relation relation && (is_side left && is_side right))) ≡ true → p ≡ policy name relation semantic left right → AreShort p
short_service_sides p name relation semantic left right spelled is =
    let related = and_parts (is_name name) (is_service_relation relation && (is_side left && is_side right)) spelled in
    said_short p name relation semantic left right (and_parts (is_service_relation relation) (is_side left && is_side right) related.1).1 is

-- one of two commands that are spelled alike
pub spelled_either : (c d e : Command) → (c ≡ d) ⊎ (c ≡ e) → is_spelled e ≡ is_spelled d → is_spelled c ≡ true → is_spelled d ≡ true
spelled_either c d e (inl is) alike spelled = sym (ap is_spelled is) ∙ spelled
spelled_either c d e (inr is) alike spelled = sym alike ∙ sym (ap is_spelled is) ∙ spelled

-- where one of the two kinds of policies on routers goes, by the kind that its command is on
pub delete_either : (c : Command) (name : List ℕ) (on : Kind × Relation) (t : Tables) (p : PolicyTables) (plan : Plan PolicyChange)
    → (c ≡ command.DeleteEdgeRouterPolicy name) ⊎ (c ≡ command.DeleteServiceEdgeRouterPolicy name) → on ≡ router_kind c
    → Answers (delete on.0 field.Name name) t p plan → Answers (carry c) t p plan
delete_either c name on t p plan (inl is) kinds h =
    subst (λ (d : Command). Answers (carry d) t p plan) (sym is) (subst (λ (k : Kind × Relation). Answers (delete k.0 field.Name name) t p plan) (kinds ∙ ap router_kind is) h)
delete_either c name on t p plan (inr is) kinds h =
    subst (λ (d : Command). Answers (carry d) t p plan) (sym is) (subst (λ (k : Kind × Relation). Answers (delete k.0 field.Name name) t p plan) (kinds ∙ ap router_kind is) h)
