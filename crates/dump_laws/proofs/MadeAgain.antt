-- The commands of a dump, answered from the start, make the like of the state.
use Rattle.std.proofs.Common.{◌≡◌, ℕ, ◌+◌, ◌≤◌, ◌==◌, ◌||◌, Bool, true, false, cond, inl, inr, List, [], ◌∷◌, ◌++◌, map, flat_map, fold, Option, None, Some, refl, sym, ◌∙◌, ap, subst, arith, eq-eqb, ne_eqb, bytes_eq}
use Rattle.std.proofs.lemmas.Bool.{cond-true, cond-false}
use Rattle.std.specs.Option.{option_map, option_map_or, unwrap_or}
use Rattle.ctrl_model.specs.declared.commands.Command.{Command}
use Rattle.ctrl_model.specs.declared.commands.Command.TheVariants as command
use Rattle.ctrl_model.specs.declared.intercepts.Intercept.{Intercept}
use Rattle.ctrl_model.specs.declared.kinds.Kind.{Kind}
use Rattle.ctrl_model.specs.declared.kinds.Kind.TheVariants as kind
use Rattle.ctrl_model.specs.declared.kinds.Relation.{Relation}
use Rattle.ctrl_model.specs.declared.kinds.Relation.TheVariants.{Dial, Bind, IdentityRouter, ServiceRouter}
use Rattle.ctrl_model.specs.declared.replies.Reply.TheVariants.{Done}
use Rattle.ctrl_model.specs.Grants.{joins, on_both}
use Rattle.ctrl_model.specs.Membership.{Among}
use Rattle.ctrl_model.specs.Numbered.{no_rows, at, is_present, first_where, records, Between}
use Rattle.ctrl_model.specs.State.{State, Entity, Router, Link, Policy, Terminator, start, as_entity}
use Rattle.ctrl_model.specs.Tables.{Record, table, record_name, is_entity_kind, is_policy_kind}
use Rattle.ctrl_model.specs.ValidState.{ValidState}
use Rattle.ctrl_model.proofs.NumberedLaws.{at-within, by_is_some, first_where-found}
use Rattle.record_lines.specs.RecordNames.{name_of}
use Rattle.record_lines.specs.declared.listing.Listed.TheVariants as listed
use Rattle.dump_lines.specs.Dumps.{section_commands, dump_commands, lending, making_intercept, making_link, making_record, making_terminator, setting}
use Rattle.dump_laws.proofs.MovedRecords.{moved_intercept, moved_link, moved_terminator}
use Rattle.dump_laws.specs.NamedCounts.{number_of, named_count}
use Rattle.dump_laws.proofs.RenumberedRows.{behind, renumbered, place, Between-renumbered, at-place, flat_map-renumbered}
use Rattle.dump_laws.proofs.AnsweredCommands.{Leads, leads-by, leads-nowhere, leads-on, leads-through, settled}
use Rattle.dump_laws.proofs.MadeEntities.{same, with_identities, with_services, with_routers, make_identity, make_service, make_router}
use Rattle.dump_laws.proofs.MadeLinks.{with_links, make_link, ends_present}
use Rattle.dump_laws.proofs.MadeTerminators.{with_terminators, make_terminator, StandsOn, stands_on}
use Rattle.dump_laws.proofs.MadePolicies.{behind_hosts, with_service_policies, with_edge_router_policies, with_service_edge_router_policies, make_service_policy, make_edge_router_policy, make_service_edge_router_policy}
use Rattle.dump_laws.proofs.MadeIntercepts.{with_intercepts, make_intercept, service_there}

-- ---- all commands lead to a state

-- the commands that make the records of a kind
abbrev kind_commands : State → Kind → List Command
kind_commands s k = section_commands s (listed.Records k)

-- the state that is made of a state
abbrev pub again : State → State
again s = with_intercepts s s.intercepts

-- no command makes a circuit
no_commands : {X : Type 0} (xs : List X) → flat_map {X = X} {A = Command} (λ x. []) xs ≡ []
no_commands [] = refl
no_commands (x ∷ xs) = no_commands xs

pub all_made : (s : State) → ValidState s → Leads (dump_commands s) start (again s)
all_made s v =
    leads-on (setting s ∷ []) _ start (with_identities s []) (again s)
    (leads-by (setting s) start None Done (record start { least_router_cost = s.least_router_cost }) (with_identities s []) refl refl refl
    (settled s.least_router_cost no_rows no_rows no_rows no_rows no_rows no_rows no_rows no_rows [] refl refl))
    (leads-on (kind_commands s kind.Identity) _ (with_identities s []) (with_services s []) (again s)
    (leads-through (λ (x : ℕ × Entity). making_record kind.Identity s x.1) (with_identities s) [] s.identities.rows (make_identity s v))
    (leads-on (kind_commands s kind.Service) _ (with_services s []) (with_routers s []) (again s)
    (leads-through (λ (x : ℕ × Entity). making_record kind.Service s x.1) (with_services s) [] s.services.rows (make_service s v))
    (leads-on (kind_commands s kind.Router) _ (with_routers s []) (with_links s []) (again s)
    (leads-through (λ (x : ℕ × Router). making_record kind.Router s x.1) (with_routers s) [] s.routers.rows (make_router s v))
    (leads-on (kind_commands s kind.Link) _ (with_links s []) (with_terminators s []) (again s)
    (leads-through (λ (x : ℕ × Link). making_record kind.Link s x.1) (with_links s) [] s.links.rows (make_link s v))
    (leads-on (kind_commands s kind.Terminator) _ (with_terminators s []) (with_service_policies s []) (again s)
    (leads-through (λ (x : ℕ × Terminator). making_record kind.Terminator s x.1) (with_terminators s) [] s.terminators.rows (make_terminator s v))
    (leads-on (kind_commands s kind.ServicePolicy) _ (with_service_policies s []) (with_edge_router_policies s []) (again s)
    (leads-through (λ (x : ℕ × Policy). making_record kind.ServicePolicy s x.1) (with_service_policies s) [] s.service_policies.rows (make_service_policy s v))
    (leads-on (kind_commands s kind.EdgeRouterPolicy) _ (with_edge_router_policies s []) (with_service_edge_router_policies s []) (again s)
    (leads-through (λ (x : ℕ × Policy). making_record kind.EdgeRouterPolicy s x.1) (with_edge_router_policies s) [] s.edge_router_policies.rows (make_edge_router_policy s v))
    (leads-on (kind_commands s kind.ServiceEdgeRouterPolicy) _ (with_service_edge_router_policies s []) (with_intercepts s []) (again s)
    (leads-through (λ (x : ℕ × Policy). making_record kind.ServiceEdgeRouterPolicy s x.1) (with_service_edge_router_policies s) [] s.service_edge_router_policies.rows (make_service_edge_router_policy s v))
    (leads-on (flat_map (making_intercept s) s.intercepts) _ (with_intercepts s []) (again s) (again s)
    (leads-through (making_intercept s) (with_intercepts s) [] s.intercepts (make_intercept s v))
    (subst (λ (cs : List Command). Leads (cs ++ []) (again s) (again s)) (sym (no_commands s.circuits.rows)) (leads-nowhere (again s))))))))))))

-- ---- it has the same by names

-- a record has the name of the one from which it is made
name_anew : (k : Kind) (s : State) (n : ℕ) → is_present (table k s).rows n ≡ true
    → option_map_or (record_name k) (at (renumbered same 1 (table k s).rows) (place 1 (table k s).rows n)) [] ≡ name_of k s n
name_anew k s n present = by_is_some (at (table k s).rows n) present (λ r is.
    ap (λ (o : Option (Record k)). option_map_or (record_name k) o []) (at-place same 1 (table k s).rows n r is ∙ sym is))

link_again : (s : State) → ValidState s → (x : ℕ × Link) → Among x s.links.rows → making_link (again s) (moved_link s x.1) ≡ making_link s x.1
link_again s v x m =
    let ends = ends_present s v x m in
    λ i. command.CreateLink x.1.name (name_anew kind.Router s x.1.a ends.0 i) (name_anew kind.Router s x.1.b ends.1 i) x.1.cost x.1.latency_a x.1.latency_b
    ∷ cond x.1.up [] (command.ReportState x.1.name (name_anew kind.Router s x.1.a ends.0 i) false ∷ [])

terminator_again : (s : State) → ValidState s → (x : ℕ × Terminator) → Among x s.terminators.rows → making_terminator (again s) (moved_terminator s x.1) ≡ making_terminator s x.1
terminator_again s v x m = by x.1.host on.host
  where
    on : StandsOn s x.1
    on = stands_on s v x m

    service : name_of kind.Service (again s) (place 1 s.services.rows x.1.service) ≡ name_of kind.Service s x.1.service
    service = name_anew kind.Service s x.1.service on.service

    router : name_of kind.Router (again s) (place 1 s.routers.rows x.1.router) ≡ name_of kind.Router s x.1.router
    router = name_anew kind.Router s x.1.router on.router

    by : (o : Option ℕ) → option_map_or (is_present s.identities.rows) o true ≡ true
        → making_terminator (again s) (record (moved_terminator s x.1) { host = option_map (place 1 s.identities.rows) o }) ≡ making_terminator s (record x.1 { host = o })
    by None present = λ i. command.CreateTerminator (service i) (router i) x.1.instance None x.1.cost x.1.precedence ∷ []
    by (Some h) present = λ i.
        lending (name_anew kind.Identity s h present i) (service i)
        (command.CreateTerminator (service i) (router i) x.1.instance (Some (name_anew kind.Identity s h present i)) x.1.cost x.1.precedence)

intercepts_again : (s : State) → ValidState s → (xs : List (ℕ × Intercept)) → ((x : ℕ × Intercept) → Among x xs → is_present s.services.rows x.0 ≡ true)
    → flat_map (making_intercept (again s)) (map (moved_intercept s) xs) ≡ flat_map (making_intercept s) xs
intercepts_again s v [] there = refl
intercepts_again s v (x ∷ xs) there =
    λ i. command.SetIntercept (name_anew kind.Service s x.0 (there x (inl refl)) i) x.1 ∷ intercepts_again s v xs (λ y m. there y (inr m)) i

-- so a dump of it has the same commands
pub same_commands : (s : State) → ValidState s → dump_commands (again s) ≡ dump_commands s
same_commands s v = λ i.
    setting s
    ∷ (flat_map-renumbered (λ (x : ℕ × Entity). making_record kind.Identity (again s) x.1) (λ (x : ℕ × Entity). making_record kind.Identity s x.1) same 1 s.identities.rows (λ n x m. refl) i
    ++ (flat_map-renumbered (λ (x : ℕ × Entity). making_record kind.Service (again s) x.1) (λ (x : ℕ × Entity). making_record kind.Service s x.1) same 1 s.services.rows (λ n x m. refl) i
    ++ (flat_map-renumbered (λ (x : ℕ × Router). making_record kind.Router (again s) x.1) (λ (x : ℕ × Router). making_record kind.Router s x.1) same 1 s.routers.rows (λ n x m. refl) i
    ++ (flat_map-renumbered (λ (x : ℕ × Link). making_record kind.Link (again s) x.1) (λ (x : ℕ × Link). making_record kind.Link s x.1) (moved_link s) 1 s.links.rows (λ n x m. link_again s v x m) i
    ++ (flat_map-renumbered (λ (x : ℕ × Terminator). making_record kind.Terminator (again s) x.1) (λ (x : ℕ × Terminator). making_record kind.Terminator s x.1) (moved_terminator s) 1 s.terminators.rows (λ n x m. terminator_again s v x m) i
    ++ (flat_map-renumbered (λ (x : ℕ × Policy). making_record kind.ServicePolicy (again s) x.1) (λ (x : ℕ × Policy). making_record kind.ServicePolicy s x.1) same (behind_hosts s) s.service_policies.rows (λ n x m. refl) i
    ++ (flat_map-renumbered (λ (x : ℕ × Policy). making_record kind.EdgeRouterPolicy (again s) x.1) (λ (x : ℕ × Policy). making_record kind.EdgeRouterPolicy s x.1) same 1 s.edge_router_policies.rows (λ n x m. refl) i
    ++ (flat_map-renumbered (λ (x : ℕ × Policy). making_record kind.ServiceEdgeRouterPolicy (again s) x.1) (λ (x : ℕ × Policy). making_record kind.ServiceEdgeRouterPolicy s x.1) same 1 s.service_edge_router_policies.rows (λ n x m. refl) i
    ++ (intercepts_again s v s.intercepts (service_there s v) i
    ++ (sym (no_commands s.circuits.rows) i ++ []))))))))))

-- ---- it has the same records where they stand on no others

records_anew : {R : Type 0} (n : ℕ) (xs : List (ℕ × R)) → records (renumbered same n xs) ≡ records xs
records_anew n [] = refl
records_anew n (x ∷ xs) = ap (λ rs. x.1 ∷ rs) (records_anew (n + 1) xs)

pub same_records : (s : State) (k : Kind) → (is_entity_kind k || is_policy_kind k) ≡ true → records (table k (again s)).rows ≡ records (table k s).rows
same_records s kind.Identity e = records_anew 1 s.identities.rows
same_records s kind.Service e = records_anew 1 s.services.rows
same_records s kind.Router e = records_anew 1 s.routers.rows
same_records s kind.ServicePolicy e = records_anew (behind_hosts s) s.service_policies.rows
same_records s kind.EdgeRouterPolicy e = records_anew 1 s.edge_router_policies.rows
same_records s kind.ServiceEdgeRouterPolicy e = records_anew 1 s.service_edge_router_policies.rows
same_records s kind.Link e = absurd cc
same_records s kind.Terminator e = absurd cc
same_records s kind.Circuit e = absurd cc
same_records s kind.Attribute e = absurd cc

-- ---- and the same grants

-- the first record that passes a test
abbrev first_record : {R : Type 0} → (R → Bool) → List (ℕ × R) → Option R
first_record test [] = None
first_record test (x ∷ xs) = cond (test x.1) (Some x.1) (first_record test xs)

-- it stands at the number that a search finds
at_found : {R : Type 0} (test : R → Bool) (high : ℕ) (xs : List (ℕ × R)) (low : ℕ) → 1 ≤ low → Between low high xs → at xs (unwrap_or (first_where test xs) 0) ≡ first_record test xs
at_found test high [] low first b = refl
at_found {R} test high (x ∷ xs) low first b = by (test x.1) (rest (first_where test xs) refl (at_found test high xs (x.0 + 1) (omega arith) b.2))
  where
    rest : (o : Option ℕ) → first_where test xs ≡ o → at xs (unwrap_or o 0) ≡ first_record test xs → at (x ∷ xs) (unwrap_or o 0) ≡ first_record test xs
    rest None is h = cond-false (x.0 == 0) (Some x.1) (at xs 0) (ne_eqb x.0 0 (λ s. absurd (let l : low ≤ x.0 = b.0 in omega (arith, l, first, s)))) ∙ h
    rest (Some k) is h =
        let f = first_where-found test high xs (x.0 + 1) k b.2 is in
        let within = (at-within high xs (x.0 + 1) k f.record_found b.2 f.stands).0 in
        cond-false (x.0 == k) (Some x.1) (at xs k) (ne_eqb x.0 k (λ s. absurd (omega (arith, within, s)))) ∙ h

    by : (c : Bool) → at (x ∷ xs) (unwrap_or (first_where test xs) 0) ≡ first_record test xs
        → at (x ∷ xs) (unwrap_or (cond c (Some x.0) (first_where test xs)) 0) ≡ cond c (Some x.1) (first_record test xs)
    by true h = cond-true (x.0 == x.0) (Some x.1) (at xs x.0) (eq-eqb x.0 x.0 refl)
    by false h = h

first_anew : {R : Type 0} (test : R → Bool) (n : ℕ) (xs : List (ℕ × R)) → first_record test (renumbered same n xs) ≡ first_record test xs
first_anew test n [] = refl
first_anew test n (x ∷ xs) = ap (λ o. cond (test x.1) (Some x.1) o) (first_anew test (n + 1) xs)

-- a name has the same record
record_again : (k : Kind) (s : State) → ValidState s → (name : List ℕ)
    → at (renumbered same 1 (table k s).rows) (unwrap_or (first_where (λ (q : Record k). bytes_eq (record_name k q) name) (renumbered same 1 (table k s).rows)) 0) ≡ at (table k s).rows (number_of k s name)
record_again k s v name =
    at_found test (behind 1 (table k s).rows) (renumbered same 1 (table k s).rows) 1 (omega arith) (Between-renumbered same 1 (table k s).rows)
    ∙ first_anew test 1 (table k s).rows
    ∙ sym (at_found test (table k s).next (table k s).rows 1 (omega arith) (v.kinds k).numbers.ordered)
  where
    test : Record k → Bool
    test q = bytes_eq (record_name k q) name

-- as many policies join two
joined_again : (relation : Relation) (e f : Entity) (a n : ℕ) (xs : List (ℕ × Policy))
    → fold (λ (c : ℕ) (x : ℕ × Policy). c + cond (joins relation x.1 e f) 1 0) a (renumbered same n xs) ≡ fold (λ (c : ℕ) (x : ℕ × Policy). c + cond (joins relation x.1 e f) 1 0) a xs
joined_again relation e f a n [] = refl
joined_again relation e f a n (x ∷ xs) = joined_again relation e f (a + cond (joins relation x.1 e f) 1 0) (n + 1) xs

both : (a b c d : Option Entity) (g h : Entity → Entity → ℕ) → a ≡ b → c ≡ d → ((e f : Entity) → g e f ≡ h e f) → on_both a c g ≡ on_both b d h
both a b c d g h left right same_count = λ i. on_both (left i) (right i) (λ e f. same_count e f i)

pub same_counts : (s : State) → ValidState s → (relation : Relation) (left right : List ℕ) → named_count relation (again s) left right ≡ named_count relation s left right
same_counts s v Dial left right = both _ _ _ _ _ _ (record_again kind.Identity s v left) (record_again kind.Service s v right) (λ e f. joined_again Dial e f 0 (behind_hosts s) s.service_policies.rows)
same_counts s v Bind left right = both _ _ _ _ _ _ (record_again kind.Identity s v left) (record_again kind.Service s v right) (λ e f. joined_again Bind e f 0 (behind_hosts s) s.service_policies.rows)
same_counts s v IdentityRouter left right =
    both _ _ _ _ _ _ (record_again kind.Identity s v left) (ap (option_map as_entity) (record_again kind.Router s v right)) (λ e f. joined_again IdentityRouter e f 0 1 s.edge_router_policies.rows)
same_counts s v ServiceRouter left right =
    both _ _ _ _ _ _ (record_again kind.Service s v left) (ap (option_map as_entity) (record_again kind.Router s v right)) (λ e f. joined_again ServiceRouter e f 0 1 s.service_edge_router_policies.rows)
