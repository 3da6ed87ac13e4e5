-- The commands on named records keep a state valid, whatever their kind.
use Rattle.std.proofs.Common.{◌≡◌, ℕ, ◌==◌, Bool, true, false, cond, ◌&&◌, List, [], ◌∷◌, is_some, Option, None, Some, refl}
use Rattle.std.proofs.lemmas.Bool.{and_parts, and_from}
use Rattle.std.specs.List.{list_all}
use Rattle.ctrl_model.specs.declared.kinds.Kind.{Kind}
use Rattle.ctrl_model.specs.declared.kinds.Kind.TheVariants as kind
use Rattle.ctrl_model.specs.declared.kinds.Relation.{Relation}
use Rattle.ctrl_model.specs.declared.kinds.Semantic.{Semantic}
use Rattle.ctrl_model.specs.declared.kinds.Side.{Side}
use Rattle.ctrl_model.specs.declared.refusals.Field.{Field}
use Rattle.ctrl_model.specs.declared.refusals.Field.TheVariants as field
use Rattle.ctrl_model.specs.declared.refusals.Refusal.{Refusal}
use Rattle.ctrl_model.specs.declared.refusals.Refusal.TheVariants.{Full, UnknownRef}
use Rattle.ctrl_model.specs.declared.replies.Reply.TheVariants.{Done, Made}
use Rattle.ctrl_model.specs.NameForm.{is_name}
use Rattle.ctrl_model.specs.Limits.{limit}
use Rattle.ctrl_model.specs.Numbered.{with_edit}
use Rattle.ctrl_model.specs.State.{State, Router, Policy}
use Rattle.ctrl_model.specs.Tables.{Record, table, record_name, named, left_kind, right_kind}
use Rattle.ctrl_model.specs.ValueForms.{are_attributes, is_cost, is_side, is_stored_side}
use Rattle.ctrl_model.specs.Rules.{unknown_if_absent}
use Rattle.ctrl_model.specs.RecordCommands.{first_absent, roles_of, absent_names, absent_in, refusal_of_create, create, after_create, refusal_of_update, update, after_update, delete, after_delete, after_edit}
use Rattle.ctrl_model.specs.EntityCommands.{described, described_router, marked, update_identity, update_service, update_router, mark_router}
use Rattle.ctrl_model.specs.PolicyCommands.{replaced_by}
use Rattle.ctrl_model.specs.Controller.{policy}
use Rattle.ctrl_model.specs.ValidState.{ValidState, is_valid, is_valid_policy, is_valid_policy_in, are_found, may_relate}
use Rattle.ctrl_model.proofs.DistinctLaws.{Includes-map}
use Rattle.model_laws.proofs.RefusalLaws.{or_then-none, refuse_if-none, exists_if_present-none, full-none, at_number-holds}
use Rattle.model_laws.proofs.ValidLaws.{Follows, Orderly, Orderly-from_valid, carried_out-follows, at_number-orderly, Orderly-create, Orderly-edit, Orderly-delete, attributes_fewer, with_table-uses}

-- ---- making, updating and deleting

pub create-follows : (k : Kind) (r : Record k) (s : State) → (absent_in k r s ≡ None → is_valid k s r ≡ true) → ValidState s → Follows s (create k r s).1
create-follows k r s fits v =
    carried_out-follows (refusal_of_create k r s) s (Made (table k s).next) (after_create k r s) (λ none.
    let rules = or_then-none _ _ none in
    let names = or_then-none (absent_in k r s) _ rules.1 in
    let limits = or_then-none _ _ names.1 in
    Orderly-create k r s (Orderly-from_valid s v) (λ h. exists_if_present-none (named k s (record_name k r)) rules.0)
    (full-none (limit k) (table k s) (Full k) limits.0) (fits names.0) (refuse_if-none _ (Full kind.Attribute) limits.1))

pub update-follows : (k : Kind) (name : List ℕ) (f : Record k → Record k) (absent : Option Refusal) (s : State) → ((q : Record k) → record_name k (f q) ≡ record_name k q)
    → (absent ≡ None → (q : Record k) → is_valid k s q ≡ true → is_valid k s (f q) ≡ true) → ValidState s → Follows s (update k name f absent s).1
update-follows k name f absent s keeps passes v =
    carried_out-follows (refusal_of_update k name f absent s) s Done (after_update k name f s) (λ none.
    let rules = or_then-none _ _ none in
    let names = or_then-none absent _ rules.1 in
    at_number-orderly (named k s name) s (λ n. after_edit k n f s) (Orderly-from_valid s v)
    (λ n is few. Orderly-edit k n f s (Orderly-from_valid s v) keeps (passes names.0) few) (refuse_if-none _ (Full kind.Attribute) names.1))

pub delete-follows : (k : Kind) (of : Field) (name : List ℕ) (s : State) → ValidState s → Follows s (delete k of name s).1
delete-follows k of name s v =
    carried_out-follows (unknown_if_absent of (named k s name)) s Done (after_delete k name s) (λ none.
    at_number-holds Orderly (named k s name) s _ (Orderly-from_valid s v) (λ n is. Orderly-delete k n name s (Orderly-from_valid s v) is))

-- ---- entities

pub update_identity-follows : (name : List ℕ) (attributes : List (List ℕ)) (s : State) → (is_name name && are_attributes attributes) ≡ true → ValidState s
    → Follows s (update_identity name attributes s).1
update_identity-follows name attributes s spelled =
    update-follows kind.Identity name (described attributes) None s (λ e. refl) (λ _ e t.
    and_from _ _ (and_parts (is_name e.name) (are_attributes e.attributes) t).0 (and_parts (is_name name) (are_attributes attributes) spelled).1)

pub update_service-follows : (name : List ℕ) (attributes : List (List ℕ)) (s : State) → (is_name name && are_attributes attributes) ≡ true → ValidState s
    → Follows s (update_service name attributes s).1
update_service-follows name attributes s spelled =
    update-follows kind.Service name (described attributes) None s (λ e. refl) (λ _ e t.
    and_from _ _ (and_parts (is_name e.name) (are_attributes e.attributes) t).0 (and_parts (is_name name) (are_attributes attributes) spelled).1)

pub update_router-follows : (name : List ℕ) (attributes : List (List ℕ)) (cost : ℕ) (no_traversal : Bool) (s : State)
    → (is_name name && (are_attributes attributes && is_cost cost)) ≡ true → ValidState s → Follows s (update_router name attributes cost no_traversal s).1
update_router-follows name attributes cost no_traversal s spelled =
    update-follows kind.Router name (described_router attributes cost no_traversal) None s (λ r. refl) (λ _ r t.
    and_from _ _ (and_parts (is_name r.name) (are_attributes r.attributes && is_cost r.cost) t).0
    (and_parts (is_name name) (are_attributes attributes && is_cost cost) spelled).1)

pub mark_router-follows : (name : List ℕ) (connected : Bool) (s : State) → ValidState s → Follows s (mark_router name connected s).1
mark_router-follows name connected s v =
    let o = Orderly-from_valid s v in
    carried_out-follows (unknown_if_absent field.Name (named kind.Router s name)) s Done (after_update kind.Router name (marked connected) s) (λ none.
    at_number-holds Orderly (named kind.Router s name) s _ o (λ n is.
    Orderly-edit kind.Router n (marked connected) s o (λ r. refl) (λ r t. t)
    (attributes_fewer s (after_edit kind.Router n (marked connected) s) (with_table-uses s kind.Router (with_edit n (marked connected) (table kind.Router s))
    (Includes-map (λ row. row.1.attributes) (λ x. (x.0, cond (x.0 == n) (marked connected x.1) x.1)) (λ row. row.1.attributes) (λ x. same (x.0 == n) x.1) s.routers.rows)) o.attributes)))
  where
    same : (b : Bool) (r : Router) → (cond b (marked connected r) r).attributes ≡ r.attributes
    same true r = refl
    same false r = refl

-- ---- policies

-- where no `@` name is absent, each is found
first_absent-none : (f : Field) (finds : List ℕ → Option ℕ) (ns : List (List ℕ)) → first_absent f finds ns ≡ None → list_all (λ n. is_some (finds n)) ns ≡ true
first_absent-none f finds [] e = refl
first_absent-none f finds (n ∷ ns) e = by (is_some (finds n)) e (first_absent-none f finds ns)
  where
    by : (b : Bool) → cond b (first_absent f finds ns) (Some (UnknownRef f n)) ≡ None → (first_absent f finds ns ≡ None → list_all (λ n. is_some (finds n)) ns ≡ true)
        → (b && list_all (λ n. is_some (finds n)) ns) ≡ true
    by true k h = h k
    by false k h = absurd (cc)

-- a policy that a command spells is a valid one
pub policy-valid : (name : List ℕ) (relation : Relation) (semantic : Semantic) (left right : Side) → is_name name ≡ true → (is_side left && is_side right) ≡ true
    → is_valid_policy (policy name relation semantic left right) ≡ true
policy-valid name relation semantic left right named sides =
    let both = and_parts (is_side left) (is_side right) sides in
    and_from _ _ named (and_from _ _ (and_parts (is_stored_side left) _ both.0).0 (and_parts (is_stored_side right) _ both.1).0)

-- one of whose names none is absent is valid in the state
pub policy_in-valid : (k : Kind) (p : Policy) (s : State) → is_valid_policy p ≡ true → may_relate k p.relation ≡ true → absent_names k p s ≡ None → is_valid_policy_in k s p ≡ true
policy_in-valid k p s valid related none =
    let both = or_then-none (first_absent (roles_of (left_kind k)) (named (left_kind k) s) p.left.ids) (first_absent (roles_of (right_kind k)) (named (right_kind k) s) p.right.ids) none in
    and_from (is_valid_policy p) _ valid (and_from (may_relate k p.relation) _ related
    (and_from (are_found (named (left_kind k) s) p.left) _ (first_absent-none (roles_of (left_kind k)) (named (left_kind k) s) p.left.ids both.0)
    (first_absent-none (roles_of (right_kind k)) (named (right_kind k) s) p.right.ids both.1)))

-- put in place of another it is valid too
pub replaced_in-valid : (k : Kind) (p q : Policy) (s : State) → is_valid_policy_in k s p ≡ true → is_valid_policy_in k s q ≡ true → is_valid_policy_in k s (replaced_by p q) ≡ true
replaced_in-valid k p q s new old =
    let parts = and_parts (is_valid_policy p) _ new in
    let named = and_parts (is_name q.name) _ (and_parts (is_valid_policy q) _ old).0 in
    and_from _ _ (and_from (is_name q.name) _ named.0 (and_parts (is_name p.name) _ parts.0).1) parts.1
