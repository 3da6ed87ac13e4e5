-- The commands of a dump make its policies.
use Rattle.std.proofs.Common.{◌≡◌, ℕ, ◌+◌, ◌≤◌, Bool, true, false, cond, List, [], ◌∷◌, ◌++◌, length, is_some, Option, None, Some, refl, sym, ◌∙◌, ap, subst, arith, append-nil, append_assoc, bytes_eq}
use Rattle.std.proofs.lemmas.Bool.{and_parts, cond-true}
use Rattle.std.specs.List.{list_all}
use Rattle.ctrl_model.specs.declared.commands.Command.TheVariants as command
use Rattle.ctrl_model.specs.declared.intercepts.Intercept.{Intercept}
use Rattle.ctrl_model.specs.declared.kinds.Kind.{Kind}
use Rattle.ctrl_model.specs.declared.kinds.Kind.TheVariants as kind
use Rattle.ctrl_model.specs.declared.kinds.Relation.{Relation}
use Rattle.ctrl_model.specs.declared.kinds.Relation.TheVariants.{Dial, Bind, IdentityRouter, ServiceRouter}
use Rattle.ctrl_model.specs.declared.refusals.Field.{Field}
use Rattle.ctrl_model.specs.declared.refusals.Refusal.TheVariants.{UnknownRef}
use Rattle.ctrl_model.specs.Grants.{same_relation}
use Rattle.ctrl_model.specs.Numbered.{Table, no_rows, first_where, with_new}
use Rattle.ctrl_model.specs.RecordCommands.{create, first_absent, roles_of}
use Rattle.ctrl_model.specs.Rules.{or_then, attributes_full}
use Rattle.ctrl_model.specs.Settling.{settle}
use Rattle.ctrl_model.specs.State.{State, Entity, Router, Policy}
use Rattle.ctrl_model.specs.Tables.{Record, table, named, record_name, left_kind, right_kind}
use Rattle.ctrl_model.specs.ValidState.{ValidState, are_found, is_valid_policy, is_valid_policy_in, may_relate}
use Rattle.ctrl_model.proofs.Members.{list_all-among}
use Rattle.model_laws.proofs.NamedLaws.{are_found-more}
use Rattle.dump_lines.specs.Dumps.{making_record}
use Rattle.dump_laws.proofs.MovedRecords.{hosted, moved_link, moved_terminator}
use Rattle.dump_laws.proofs.RenumberedRows.{renumbered, anew, anew-last, Among-middle, none-found}
use Rattle.dump_laws.proofs.AnsweredCommands.{Leads, stage, settled}
use Rattle.dump_laws.proofs.MadeEntities.{same, others_before, uses_before, uses_all, no_uses, stage_fits, room_before, create_leads}
use Rattle.dump_laws.proofs.MadeTerminators.{hosted-le, terminators_before_stay, all_links_stay}

-- ---- names in sides

-- a name that is found is found where the records are numbered anew
found_still : {R : Type 0} (test : R → Bool) (n : ℕ) (xs : List (ℕ × R)) → is_some (first_where test (renumbered same n xs)) ≡ is_some (first_where test xs)
found_still test n [] = refl
found_still test n (x ∷ xs) = by (test x.1) (found_still test (n + 1) xs)
  where
    by : (b : Bool) → is_some (first_where test (renumbered same (n + 1) xs)) ≡ is_some (first_where test xs)
        → is_some (cond b (Some n) (first_where test (renumbered same (n + 1) xs))) ≡ is_some (cond b (Some x.0) (first_where test xs))
    by true h = refl
    by false h = h

none_absent : (f : Field) (finds : List ℕ → Option ℕ) (ns : List (List ℕ)) → list_all (λ n. is_some (finds n)) ns ≡ true → first_absent f finds ns ≡ None
none_absent f finds [] e = refl
none_absent f finds (n ∷ ns) e =
    let both = and_parts (is_some (finds n)) (list_all (λ m. is_some (finds m)) ns) e in
    cond-true (is_some (finds n)) (first_absent f finds ns) (Some (UnknownRef f n)) both.0 ∙ none_absent f finds ns both.1

-- those of a policy are not absent
names_there : (k : Kind) (s : State) (p : Policy) → is_valid_policy_in k s p ≡ true
    → or_then (first_absent (roles_of (left_kind k)) (λ name. first_where (λ (q : Record (left_kind k)). bytes_eq (record_name (left_kind k) q) name) (renumbered same 1 (table (left_kind k) s).rows)) p.left.ids)
    (first_absent (roles_of (right_kind k)) (λ name. first_where (λ (q : Record (right_kind k)). bytes_eq (record_name (right_kind k) q) name) (renumbered same 1 (table (right_kind k) s).rows)) p.right.ids) ≡ None
names_there k s p valid =
    let found = and_parts (are_found (named (left_kind k) s) p.left) _ (and_parts (may_relate k p.relation) _ (and_parts (is_valid_policy p) _ valid).1).1 in
    λ i. or_then (none_absent (roles_of (left_kind k)) (finds (left_kind k)) p.left.ids (are_found-more (named (left_kind k) s) (finds (left_kind k)) (too (left_kind k)) p.left found.0) i)
    (none_absent (roles_of (right_kind k)) (finds (right_kind k)) p.right.ids (are_found-more (named (right_kind k) s) (finds (right_kind k)) (too (right_kind k)) p.right found.1) i)
  where
    finds : (k : Kind) → List ℕ → Option ℕ
    finds k name = first_where (λ (q : Record k). bytes_eq (record_name k q) name) (renumbered same 1 (table k s).rows)

    too : (k : Kind) (name : List ℕ) → is_some (named k s name) ≡ true → is_some (finds k name) ≡ true
    too k name e = found_still (λ (q : Record k). bytes_eq (record_name k q) name) 1 (table k s).rows ∙ e

-- ---- states

-- the first number of the policies of services
abbrev pub behind_hosts : State → ℕ
behind_hosts s = hosted 1 s.terminators.rows

pub few_hosts : (s : State) → ValidState s → behind_hosts s ≤ 8192
few_hosts s v =
    let few : length s.terminators.rows ≤ 4096 = (v.kinds kind.Terminator).numbers.few in
    let le = hosted-le 1 s.terminators.rows in
    omega (arith, few, le)

-- the state with its tables of policies and its intercepts
abbrev pub policy_state : State → Table Policy → Table Policy → Table Policy → List (ℕ × Intercept) → State
policy_state s p q o x =
    stage s.least_router_cost (anew 1 same s.identities.rows) (anew 1 same s.services.rows) (anew 1 same s.routers.rows) (anew 1 (moved_link s) s.links.rows)
    (anew 1 (moved_terminator s) s.terminators.rows) p q o x

pub policies_settle : (s : State) → ValidState s → (p q o : Table Policy) (x : List (ℕ × Intercept)) → settle (policy_state s p q o x) ≡ policy_state s p q o x
policies_settle s v p q o x =
    settled s.least_router_cost (anew 1 same s.identities.rows) (anew 1 same s.services.rows) (anew 1 same s.routers.rows) (anew 1 (moved_link s) s.links.rows)
    (anew 1 (moved_terminator s) s.terminators.rows) p q o x (all_links_stay s v) (terminators_before_stay s v s.terminators.rows [] (append-nil s.terminators.rows))

side_uses : Policy → List (List ℕ)
side_uses p = p.left.attributes ++ p.right.attributes

-- ---- service policies

abbrev pub all_service_policies : State → Table Policy
all_service_policies s = anew (behind_hosts s) same s.service_policies.rows

abbrev pub with_service_policies : State → List (ℕ × Policy) → State
with_service_policies s pre = policy_state s (anew (behind_hosts s) same pre) no_rows no_rows []

pub make_service_policy : (s : State) → ValidState s → (pre : List (ℕ × Policy)) (x : ℕ × Policy) (post : List (ℕ × Policy)) → pre ++ x ∷ post ≡ s.service_policies.rows
    → Leads (making_record kind.ServicePolicy s x.1) (with_service_policies s pre) (with_service_policies s (pre ++ x ∷ []))
unfolding side_uses
make_service_policy s v pre x post is =
    create_leads kind.ServicePolicy x.1 (command.CreateServicePolicy x.1.name x.1.relation x.1.semantic x.1.left x.1.right) (with_service_policies s pre) (with_service_policies s (pre ++ x ∷ [])) refl
    (none-found (λ (q : Policy). bytes_eq q.name x.1.name) same (behind_hosts s) pre (others_before kind.ServicePolicy s v refl pre x post is))
    (names_there kind.ServicePolicy s x.1 (valid_at s.service_policies.rows is (v.kinds kind.ServicePolicy).each))
    (room_before kind.ServicePolicy s v (behind_hosts s) (few_hosts s v) same pre x post is)
    (subst (λ (t : Table Policy). attributes_full (policy_state s t no_rows no_rows []) ≡ false) (anew-last (behind_hosts s) same pre x)
    (stage_fits s v s.least_router_cost (anew 1 same s.identities.rows) (anew 1 same s.services.rows) (anew 1 same s.routers.rows) (anew 1 (moved_link s) s.links.rows)
    (anew 1 (moved_terminator s) s.terminators.rows) (anew (behind_hosts s) same (pre ++ x ∷ [])) no_rows no_rows []
    (uses_all (λ (e : Entity). e.attributes) 1 s.identities.rows) (uses_all (λ (e : Entity). e.attributes) 1 s.services.rows) (uses_all (λ (r : Router). r.attributes) 1 s.routers.rows)
    (uses_before side_uses (behind_hosts s) (pre ++ x ∷ []) post s.service_policies.rows (append_assoc pre (x ∷ []) post ∙ is)) (no_uses _) (no_uses _)))
    (policies_settle s v (with_new x.1 (anew (behind_hosts s) same pre)) no_rows no_rows []
    ∙ ap (λ (t : Table Policy). policy_state s t no_rows no_rows []) (sym (anew-last (behind_hosts s) same pre x)))
  where
    valid_at : (all : List (ℕ × Policy)) → pre ++ x ∷ post ≡ all → list_all (λ (row : ℕ × Policy). is_valid_policy_in kind.ServicePolicy s row.1) all ≡ true
        → is_valid_policy_in kind.ServicePolicy s x.1 ≡ true
    valid_at all is e =
        list_all-among (λ (row : ℕ × Policy). is_valid_policy_in kind.ServicePolicy s row.1) (pre ++ x ∷ post) x
        (subst (λ (xs : List (ℕ × Policy)). list_all (λ (row : ℕ × Policy). is_valid_policy_in kind.ServicePolicy s row.1) xs ≡ true) (sym is) e) (Among-middle pre x post)

-- ---- edge router policies

abbrev pub all_edge_router_policies : State → Table Policy
all_edge_router_policies s = anew 1 same s.edge_router_policies.rows

abbrev pub with_edge_router_policies : State → List (ℕ × Policy) → State
with_edge_router_policies s pre = policy_state s (all_service_policies s) (anew 1 same pre) no_rows []

identity_router : (r : Relation) → same_relation IdentityRouter r ≡ true → IdentityRouter ≡ r
identity_router Dial e = absurd cc
identity_router Bind e = absurd cc
identity_router IdentityRouter e = refl
identity_router ServiceRouter e = absurd cc

pub make_edge_router_policy : (s : State) → ValidState s → (pre : List (ℕ × Policy)) (x : ℕ × Policy) (post : List (ℕ × Policy)) → pre ++ x ∷ post ≡ s.edge_router_policies.rows
    → Leads (making_record kind.EdgeRouterPolicy s x.1) (with_edge_router_policies s pre) (with_edge_router_policies s (pre ++ x ∷ []))
unfolding side_uses
make_edge_router_policy s v pre x post is =
    create_leads kind.EdgeRouterPolicy x.1 (command.CreateEdgeRouterPolicy x.1.name x.1.semantic x.1.left x.1.right) (with_edge_router_policies s pre) (with_edge_router_policies s (pre ++ x ∷ []))
    (λ i. create kind.EdgeRouterPolicy (record x.1 { relation = identity_router x.1.relation (and_parts (may_relate kind.EdgeRouterPolicy x.1.relation) _ (and_parts (is_valid_policy x.1) _ valid).1).0 i }) (with_edge_router_policies s pre))
    (none-found (λ (q : Policy). bytes_eq q.name x.1.name) same 1 pre (others_before kind.EdgeRouterPolicy s v refl pre x post is))
    (names_there kind.EdgeRouterPolicy s x.1 valid)
    (room_before kind.EdgeRouterPolicy s v 1 (omega arith) same pre x post is)
    (subst (λ (t : Table Policy). attributes_full (policy_state s (all_service_policies s) t no_rows []) ≡ false) (anew-last 1 same pre x)
    (stage_fits s v s.least_router_cost (anew 1 same s.identities.rows) (anew 1 same s.services.rows) (anew 1 same s.routers.rows) (anew 1 (moved_link s) s.links.rows)
    (anew 1 (moved_terminator s) s.terminators.rows) (all_service_policies s) (anew 1 same (pre ++ x ∷ [])) no_rows []
    (uses_all (λ (e : Entity). e.attributes) 1 s.identities.rows) (uses_all (λ (e : Entity). e.attributes) 1 s.services.rows) (uses_all (λ (r : Router). r.attributes) 1 s.routers.rows)
    (uses_all side_uses (behind_hosts s) s.service_policies.rows)
    (uses_before side_uses 1 (pre ++ x ∷ []) post s.edge_router_policies.rows (append_assoc pre (x ∷ []) post ∙ is)) (no_uses _)))
    (policies_settle s v (all_service_policies s) (with_new x.1 (anew 1 same pre)) no_rows []
    ∙ ap (λ (t : Table Policy). policy_state s (all_service_policies s) t no_rows []) (sym (anew-last 1 same pre x)))
  where
    valid : is_valid_policy_in kind.EdgeRouterPolicy s x.1 ≡ true
    valid =
        list_all-among (λ (row : ℕ × Policy). is_valid_policy_in kind.EdgeRouterPolicy s row.1) (pre ++ x ∷ post) x
        (subst (λ (xs : List (ℕ × Policy)). list_all (λ (row : ℕ × Policy). is_valid_policy_in kind.EdgeRouterPolicy s row.1) xs ≡ true) (sym is) (v.kinds kind.EdgeRouterPolicy).each) (Among-middle pre x post)

-- ---- service edge router policies

abbrev pub all_service_edge_router_policies : State → Table Policy
all_service_edge_router_policies s = anew 1 same s.service_edge_router_policies.rows

abbrev pub with_service_edge_router_policies : State → List (ℕ × Policy) → State
with_service_edge_router_policies s pre = policy_state s (all_service_policies s) (all_edge_router_policies s) (anew 1 same pre) []

service_router : (r : Relation) → same_relation ServiceRouter r ≡ true → ServiceRouter ≡ r
service_router Dial e = absurd cc
service_router Bind e = absurd cc
service_router IdentityRouter e = absurd cc
service_router ServiceRouter e = refl

pub make_service_edge_router_policy : (s : State) → ValidState s → (pre : List (ℕ × Policy)) (x : ℕ × Policy) (post : List (ℕ × Policy)) → pre ++ x ∷ post ≡ s.service_edge_router_policies.rows
    → Leads (making_record kind.ServiceEdgeRouterPolicy s x.1) (with_service_edge_router_policies s pre) (with_service_edge_router_policies s (pre ++ x ∷ []))
unfolding side_uses
make_service_edge_router_policy s v pre x post is =
    create_leads kind.ServiceEdgeRouterPolicy x.1 (command.CreateServiceEdgeRouterPolicy x.1.name x.1.semantic x.1.left x.1.right) (with_service_edge_router_policies s pre) (with_service_edge_router_policies s (pre ++ x ∷ []))
    (λ i. create kind.ServiceEdgeRouterPolicy (record x.1 { relation = service_router x.1.relation (and_parts (may_relate kind.ServiceEdgeRouterPolicy x.1.relation) _ (and_parts (is_valid_policy x.1) _ valid).1).0 i }) (with_service_edge_router_policies s pre))
    (none-found (λ (q : Policy). bytes_eq q.name x.1.name) same 1 pre (others_before kind.ServiceEdgeRouterPolicy s v refl pre x post is))
    (names_there kind.ServiceEdgeRouterPolicy s x.1 valid)
    (room_before kind.ServiceEdgeRouterPolicy s v 1 (omega arith) same pre x post is)
    (subst (λ (t : Table Policy). attributes_full (policy_state s (all_service_policies s) (all_edge_router_policies s) t []) ≡ false) (anew-last 1 same pre x)
    (stage_fits s v s.least_router_cost (anew 1 same s.identities.rows) (anew 1 same s.services.rows) (anew 1 same s.routers.rows) (anew 1 (moved_link s) s.links.rows)
    (anew 1 (moved_terminator s) s.terminators.rows) (all_service_policies s) (all_edge_router_policies s) (anew 1 same (pre ++ x ∷ [])) []
    (uses_all (λ (e : Entity). e.attributes) 1 s.identities.rows) (uses_all (λ (e : Entity). e.attributes) 1 s.services.rows) (uses_all (λ (r : Router). r.attributes) 1 s.routers.rows)
    (uses_all side_uses (behind_hosts s) s.service_policies.rows) (uses_all side_uses 1 s.edge_router_policies.rows)
    (uses_before side_uses 1 (pre ++ x ∷ []) post s.service_edge_router_policies.rows (append_assoc pre (x ∷ []) post ∙ is))))
    (policies_settle s v (all_service_policies s) (all_edge_router_policies s) (with_new x.1 (anew 1 same pre)) []
    ∙ ap (λ (t : Table Policy). policy_state s (all_service_policies s) (all_edge_router_policies s) t []) (sym (anew-last 1 same pre x)))
  where
    valid : is_valid_policy_in kind.ServiceEdgeRouterPolicy s x.1 ≡ true
    valid =
        list_all-among (λ (row : ℕ × Policy). is_valid_policy_in kind.ServiceEdgeRouterPolicy s row.1) (pre ++ x ∷ post) x
        (subst (λ (xs : List (ℕ × Policy)). list_all (λ (row : ℕ × Policy). is_valid_policy_in kind.ServiceEdgeRouterPolicy s row.1) xs ≡ true) (sym is) (v.kinds kind.ServiceEdgeRouterPolicy).each) (Among-middle pre x post)
