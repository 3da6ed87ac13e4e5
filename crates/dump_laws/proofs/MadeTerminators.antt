-- The commands of a dump make its terminators, each with Bind lent to its host.
use Rattle.std.proofs.Common.{◌≡◌, ℕ, ◌+◌, ◌<◌, ◌≤◌, ◌==◌, ◌&&◌, ◌||◌, nat_lt, Bool, true, false, cond, not, List, [], ◌∷◌, ◌++◌, length, count_by, is_some, is_none, Option, None, Some, refl, sym, ◌∙◌, ap, subst, arith, eq-eqb, append-nil, bytes_eq}
use Rattle.std.proofs.lemmas.Bool.{and_parts, and_from, cond-true, cond-false, lt-ltb}
use Rattle.std.specs.List.{list_all}
use Rattle.std.specs.Option.{option_map, option_map_or}
use Rattle.ctrl_model.specs.Controller.{policy}
use Rattle.ctrl_model.specs.declared.commands.Command.TheVariants as command
use Rattle.ctrl_model.specs.declared.kinds.Kind.TheVariants as kind
use Rattle.ctrl_model.specs.declared.kinds.Relation.TheVariants.{Bind}
use Rattle.ctrl_model.specs.declared.kinds.Semantic.TheVariants.{AnyOf}
use Rattle.ctrl_model.specs.declared.refusals.Field.TheVariants as field
use Rattle.ctrl_model.specs.declared.refusals.Refusal.TheVariants.{Full, NotBindable, Unknown, UnknownRef}
use Rattle.ctrl_model.specs.declared.replies.Reply.TheVariants.{Done, Made}
use Rattle.ctrl_model.specs.Grants.{joins, on_both}
use Rattle.ctrl_model.specs.Membership.{Among}
use Rattle.ctrl_model.specs.Numbered.{Table, no_rows, at, is_present, with_new, without}
use Rattle.ctrl_model.specs.RecordCommands.{after_create, after_delete, after_remove, roles_of}
use Rattle.ctrl_model.specs.Rules.{or_then, refuse_if, at_number, unknown_if_absent}
use Rattle.ctrl_model.specs.Settling.{settle}
use Rattle.ctrl_model.specs.State.{State, Entity, Router, Policy, Terminator}
use Rattle.ctrl_model.specs.Tables.{named}
use Rattle.ctrl_model.specs.TerminatorCommands.{after_create_terminator, host_number, is_host_absent, lacks_bind, refusal_of_create_terminator}
use Rattle.ctrl_model.specs.ValidState.{ValidState}
use Rattle.ctrl_model.proofs.DistinctLaws.{same_bytes}
use Rattle.ctrl_model.proofs.Members.{Among-append_left}
use Rattle.ctrl_model.proofs.NumberedLaws.{by_is_some}
use Rattle.row_laws.proofs.WrittenRecords.{terminators_stay}
use Rattle.record_lines.specs.RecordNames.{name_of}
use Rattle.dump_lines.specs.Dumps.{lending, lone_side, making_record, making_terminator, new_terminator}
use Rattle.dump_laws.proofs.MovedRecords.{hosted, moved_link, moved_terminator}
use Rattle.dump_laws.proofs.RenumberedRows.{behind, renumbered, place, anew, anew-last, at-place, Among-middle}
use Rattle.dump_laws.proofs.AnsweredCommands.{Leads, leads-by, leads-on, stage, settled}
use Rattle.dump_laws.proofs.MadeEntities.{same, room_before, stage_fits, uses_all, no_uses, create_leads, few_before}
use Rattle.dump_laws.proofs.FoundNames.{found_anew, present_anew, each-renumbered, each-last}
use Rattle.dump_laws.proofs.MadeLinks.{stays_anew, links_before_stay}

-- ---- how many terminators have a host

pub hosted-last : (n : ℕ) (xs : List (ℕ × Terminator)) (x : ℕ × Terminator) → hosted n (xs ++ x ∷ []) ≡ option_map_or (λ h. hosted n xs + 1) x.1.host (hosted n xs)
hosted-last n [] x = refl
hosted-last n (y ∷ xs) x = hosted-last (option_map_or (λ h. n + 1) y.1.host n) xs x

pub hosted-le : (n : ℕ) (xs : List (ℕ × Terminator)) → hosted n xs ≤ n + length xs
hosted-le n [] = omega arith
hosted-le n (x ∷ xs) = by x.1.host (hosted-le (option_map_or (λ h. n + 1) x.1.host n) xs)
  where
    by : (o : Option ℕ) → hosted (option_map_or (λ h. n + 1) o n) xs ≤ option_map_or (λ h. n + 1) o n + length xs → hosted (option_map_or (λ h. n + 1) o n) xs ≤ n + length (x ∷ xs)
    by None l = omega (arith, l)
    by (Some h) l = omega (arith, l)

-- ---- states

-- the state with a table of terminators and one of service policies
abbrev pub terminator_state : State → Table Terminator → Table Policy → State
terminator_state s t p =
    stage s.least_router_cost (anew 1 same s.identities.rows) (anew 1 same s.services.rows) (anew 1 same s.routers.rows) (anew 1 (moved_link s) s.links.rows) t p no_rows no_rows []

-- no service policy is there, and from which number on
abbrev pub lent : ℕ → Table Policy
lent n = record { rows = []; next = n }

abbrev pub with_terminators : State → List (ℕ × Terminator) → State
with_terminators s pre = terminator_state s (anew 1 (moved_terminator s) pre) (lent (hosted 1 pre))

-- whether a terminator of a state of new numbers stays
abbrev pub offered_anew : State → ℕ × Terminator → Bool
offered_anew s x =
    is_present (renumbered same 1 s.services.rows) x.1.service
    && (is_present (renumbered same 1 s.routers.rows) x.1.router && option_map_or (is_present (renumbered same 1 s.identities.rows)) x.1.host true)

-- what a terminator stands on is there
pub record StandsOn (s : State) (e : Terminator) : Type 0 where
  pub service : is_present s.services.rows e.service ≡ true
  pub router : is_present s.routers.rows e.router ≡ true
  pub host : option_map_or (is_present s.identities.rows) e.host true ≡ true

pub stands_on : (s : State) → ValidState s → (x : ℕ × Terminator) → Among x s.terminators.rows → StandsOn s x.1
stands_on s v x m =
    let stands = and_parts (is_present s.services.rows x.1.service) (is_present s.routers.rows x.1.router && option_map_or (is_present s.identities.rows) x.1.host true) (terminators_stay s v x m) in
    let rest = and_parts (is_present s.routers.rows x.1.router) (option_map_or (is_present s.identities.rows) x.1.host true) stands.1 in
    record { service = stands.0; router = rest.0; host = rest.1 }

moved_offered : (s : State) (x : ℕ × Terminator) → StandsOn s x.1 → (n : ℕ) → offered_anew s (n, moved_terminator s x.1) ≡ true
moved_offered s x on n =
    and_from _ _ (present_anew same s.services.rows x.1.service on.service)
    (and_from _ _ (present_anew same s.routers.rows x.1.router on.router) (hosts x.1.host on.host))
  where
    hosts : (o : Option ℕ) → option_map_or (is_present s.identities.rows) o true ≡ true
        → option_map_or (is_present (renumbered same 1 s.identities.rows)) (option_map (place 1 s.identities.rows) o) true ≡ true
    hosts None e = refl
    hosts (Some h) e = present_anew same s.identities.rows h e

pub terminators_before_stay : (s : State) → ValidState s → (pre post : List (ℕ × Terminator)) → pre ++ post ≡ s.terminators.rows
    → list_all (offered_anew s) (renumbered (moved_terminator s) 1 pre) ≡ true
terminators_before_stay s v pre post is = each-renumbered (offered_anew s) (moved_terminator s) 1 pre (λ n x m.
    moved_offered s x (stands_on s v x (subst (λ (xs : List (ℕ × Terminator)). Among x xs) is (Among-append_left pre post x m))) n)

pub all_links_stay : (s : State) → ValidState s → list_all (stays_anew s) (renumbered (moved_link s) 1 s.links.rows) ≡ true
all_links_stay s v = links_before_stay s v s.links.rows [] (append-nil s.links.rows)

-- ---- a terminator is made

module _ (s : State) (v : ValidState s) (pre : List (ℕ × Terminator)) (x : ℕ × Terminator) (post : List (ℕ × Terminator)) (is : pre ++ x ∷ post ≡ s.terminators.rows) where
  among : Among x s.terminators.rows
  among = subst (λ (xs : List (ℕ × Terminator)). Among x xs) is (Among-middle pre x post)

  abbrev service : List ℕ
  service = name_of kind.Service s x.1.service

  abbrev router : List ℕ
  router = name_of kind.Router s x.1.router

  found_service : (p : Table Policy) → named kind.Service (terminator_state s (anew 1 (moved_terminator s) pre) p) service ≡ Some (place 1 s.services.rows x.1.service)
  found_service p = found_anew kind.Service refl s v x.1.service (stands_on s v x among).service

  found_router : (p : Table Policy) → named kind.Router (terminator_state s (anew 1 (moved_terminator s) pre) p) router ≡ Some (place 1 s.routers.rows x.1.router)
  found_router p = found_anew kind.Router refl s v x.1.router (stands_on s v x among).router

  found_host : (h : ℕ) → is_present s.identities.rows h ≡ true → (p : Table Policy)
      → named kind.Identity (terminator_state s (anew 1 (moved_terminator s) pre) p) (name_of kind.Identity s h) ≡ Some (place 1 s.identities.rows h)
  found_host h present p = found_anew kind.Identity refl s v h present

  settles : (p : Table Policy) → settle (terminator_state s (with_new (moved_terminator s x.1) (anew 1 (moved_terminator s) pre)) p)
      ≡ terminator_state s (with_new (moved_terminator s x.1) (anew 1 (moved_terminator s) pre)) p
  settles p =
      settled s.least_router_cost (anew 1 same s.identities.rows) (anew 1 same s.services.rows) (anew 1 same s.routers.rows) (anew 1 (moved_link s) s.links.rows)
      (with_new (moved_terminator s x.1) (anew 1 (moved_terminator s) pre)) p no_rows no_rows [] (all_links_stay s v)
      (each-last (offered_anew s) (renumbered (moved_terminator s) 1 pre) (behind 1 pre, moved_terminator s x.1) (terminators_before_stay s v pre (x ∷ post) is)
      (moved_offered s x (stands_on s v x among) (behind 1 pre)))

  settles_before : (p : Table Policy) → settle (terminator_state s (anew 1 (moved_terminator s) pre) p) ≡ terminator_state s (anew 1 (moved_terminator s) pre) p
  settles_before p =
      settled s.least_router_cost (anew 1 same s.identities.rows) (anew 1 same s.services.rows) (anew 1 same s.routers.rows) (anew 1 (moved_link s) s.links.rows)
      (anew 1 (moved_terminator s) pre) p no_rows no_rows [] (all_links_stay s v) (terminators_before_stay s v pre (x ∷ post) is)

  -- a host is found, if there is one
  host_found : (p : Table Policy) (o : Option ℕ) → option_map_or (is_present s.identities.rows) o true ≡ true
      → host_number (terminator_state s (anew 1 (moved_terminator s) pre) p) (option_map (name_of kind.Identity s) o) ≡ option_map (place 1 s.identities.rows) o
  host_found p None e = refl
  host_found p (Some h) e = found_host h e p

  host_there : (p : Table Policy) (o : Option ℕ) → option_map_or (is_present s.identities.rows) o true ≡ true
      → is_host_absent (terminator_state s (anew 1 (moved_terminator s) pre) p) (option_map (name_of kind.Identity s) o) ≡ false
  host_there p None e = refl
  host_there p (Some h) e = ap is_none (found_host h e p)

  -- the command of a terminator makes it where its host, if it has one, does not lack Bind
  offer : (p : Table Policy) → lacks_bind (terminator_state s (anew 1 (moved_terminator s) pre) p) (option_map (place 1 s.identities.rows) x.1.host) (Some (place 1 s.services.rows x.1.service)) ≡ false
      → Leads (new_terminator s x.1 ∷ []) (terminator_state s (anew 1 (moved_terminator s) pre) p) (terminator_state s (with_new (moved_terminator s x.1) (anew 1 (moved_terminator s) pre)) p)
  offer p bound =
      leads-by (new_terminator s x.1) before (refusal_of_create_terminator service router host before) (Made (behind 1 pre))
      (after_create_terminator service router x.1.instance host x.1.cost x.1.precedence before) (terminator_state s (with_new (moved_terminator s x.1) (anew 1 (moved_terminator s) pre)) p)
      refl none refl (ap settle effect ∙ settles p)
    where
      before : State
      before = terminator_state s (anew 1 (moved_terminator s) pre) p

      host : Option (List ℕ)
      host = option_map (name_of kind.Identity s) x.1.host

      none : refusal_of_create_terminator service router host before ≡ None
      none =
          (λ i.
          or_then (unknown_if_absent field.Service (found_service p i))
          (or_then (unknown_if_absent field.Router (found_router p i))
          (or_then (refuse_if (host_there p x.1.host (stands_on s v x among).host i) (Unknown field.Host))
          (or_then (refuse_if (not (room_before kind.Terminator s v 1 (omega arith) (moved_terminator s) pre x post is i)) (Full kind.Terminator))
          (refuse_if (lacks_bind before (host_found p x.1.host (stands_on s v x among).host i) (found_service p i)) NotBindable)))))
          ∙ ap (λ (b : Bool). refuse_if b NotBindable) bound

      effect : after_create_terminator service router x.1.instance host x.1.cost x.1.precedence before ≡ terminator_state s (with_new (moved_terminator s x.1) (anew 1 (moved_terminator s) pre)) p
      effect i =
          at_number (found_service p i) before (λ n. at_number (found_router p i) before (λ r. after_create kind.Terminator
          (record { service = n; router = r; instance = x.1.instance; host = host_found p x.1.host (stands_on s v x among).host i; cost = x.1.cost; precedence = x.1.precedence }) before))

  -- ---- Bind is lent

  -- the policy that lends it
  abbrev loan : ℕ → Policy
  loan h = policy (name_of kind.Identity s h) Bind AnyOf (lone_side (name_of kind.Identity s h)) (lone_side service)

  -- the state before the policy, and with it
  abbrev unlent : ℕ → State
  unlent m = terminator_state s (anew 1 (moved_terminator s) pre) (lent m)

  few_hosted : hosted 1 pre ≤ 4097
  few_hosted =
      let few : length pre < 4096 = few_before kind.Terminator s v pre x post is in
      let le = hosted-le 1 pre in
      omega (arith, few, le)

  lend : (h : ℕ) → is_present s.identities.rows h ≡ true → (m : ℕ) → m ≤ 4097
      → Leads (command.CreateServicePolicy (name_of kind.Identity s h) Bind AnyOf (lone_side (name_of kind.Identity s h)) (lone_side service) ∷ []) (unlent m)
      (terminator_state s (anew 1 (moved_terminator s) pre) (with_new (loan h) (lent m)))
  lend h present m low =
      create_leads kind.ServicePolicy (loan h) (command.CreateServicePolicy (name_of kind.Identity s h) Bind AnyOf (lone_side (name_of kind.Identity s h)) (lone_side service)) (unlent m)
      (terminator_state s (anew 1 (moved_terminator s) pre) (with_new (loan h) (lent m))) refl refl
      (λ i. or_then (cond (is_some (found_host h present (lent m) i)) None (Some (UnknownRef (roles_of kind.Identity) (name_of kind.Identity s h))))
      (cond (is_some (found_service (lent m) i)) None (Some (UnknownRef (roles_of kind.Service) service))))
      (lt-ltb m 4294967295 (omega (arith, low)))
      (stage_fits s v s.least_router_cost (anew 1 same s.identities.rows) (anew 1 same s.services.rows) (anew 1 same s.routers.rows) (anew 1 (moved_link s) s.links.rows)
      (anew 1 (moved_terminator s) pre) (with_new (loan h) (lent m)) no_rows no_rows []
      (uses_all (λ (e : Entity). e.attributes) 1 s.identities.rows) (uses_all (λ (e : Entity). e.attributes) 1 s.services.rows) (uses_all (λ (r : Router). r.attributes) 1 s.routers.rows)
      (no_uses _) (no_uses _) (no_uses _))
      (settles_before (with_new (loan h) (lent m)))

  -- with it the host does not lack Bind
  bound : (h : ℕ) → is_present s.identities.rows h ≡ true → (m : ℕ)
      → lacks_bind (terminator_state s (anew 1 (moved_terminator s) pre) (with_new (loan h) (lent m))) (Some (place 1 s.identities.rows h)) (Some (place 1 s.services.rows x.1.service)) ≡ false
  bound h present m =
      by_is_some (at s.identities.rows h) present (λ e is_e.
      by_is_some (at s.services.rows x.1.service) (stands_on s v x among).service (λ f is_f.
      let left : bytes_eq (name_of kind.Identity s h) e.name ≡ true = same_bytes (name_of kind.Identity s h) e.name (ap (λ (o : Option Entity). option_map_or (λ (q : Entity). q.name) o []) is_e) in
      let right : bytes_eq service f.name ≡ true = same_bytes service f.name (ap (λ (o : Option Entity). option_map_or (λ (q : Entity). q.name) o []) is_f) in
      let joined : joins Bind (loan h) e f ≡ true = (λ i. ((left i || false) || false) && ((right i || false) || false)) in
      (λ i. not (nat_lt 0 (on_both (at-place same 1 s.identities.rows h e is_e i) (at-place same 1 s.services.rows x.1.service f is_f i)
      (λ e f. count_by (λ (row : ℕ × Policy). joins Bind row.1 e f) ((m, loan h) ∷ [])))))
      ∙ ap (λ (b : Bool). not (nat_lt 0 (count_by (λ (row : ℕ × Policy). b) ((m, loan h) ∷ [])))) joined))

  -- and it is taken back
  take_back : (h : ℕ) (m : ℕ) → Leads (command.DeleteServicePolicy (name_of kind.Identity s h) ∷ []) (terminator_state s (with_new (moved_terminator s x.1) (anew 1 (moved_terminator s) pre)) (with_new (loan h) (lent m)))
      (terminator_state s (with_new (moved_terminator s x.1) (anew 1 (moved_terminator s) pre)) (lent (m + 1)))
  take_back h m =
      leads-by (command.DeleteServicePolicy (name_of kind.Identity s h)) with_loan (unknown_if_absent field.Name (named kind.ServicePolicy with_loan (name_of kind.Identity s h))) Done
      (after_delete kind.ServicePolicy (name_of kind.Identity s h) with_loan) (terminator_state s (with_new (moved_terminator s x.1) (anew 1 (moved_terminator s) pre)) (lent (m + 1)))
      refl (λ i. unknown_if_absent field.Name (found i)) refl (ap settle effect ∙ settles (lent (m + 1)))
    where
      with_loan : State
      with_loan = terminator_state s (with_new (moved_terminator s x.1) (anew 1 (moved_terminator s) pre)) (with_new (loan h) (lent m))

      found : named kind.ServicePolicy with_loan (name_of kind.Identity s h) ≡ Some m
      found = cond-true (bytes_eq (name_of kind.Identity s h) (name_of kind.Identity s h)) (Some m) None (same_bytes (name_of kind.Identity s h) (name_of kind.Identity s h) refl)

      gone : without ((m, loan h) ∷ []) m ≡ []
      gone = cond-false (not (m == m)) ((m, loan h) ∷ []) [] (ap not (eq-eqb m m refl))

      effect : after_delete kind.ServicePolicy (name_of kind.Identity s h) with_loan ≡ terminator_state s (with_new (moved_terminator s x.1) (anew 1 (moved_terminator s) pre)) (lent (m + 1))
      effect =
          ap (λ (o : Option ℕ). at_number o with_loan (λ n. after_remove kind.ServicePolicy n with_loan)) found
          ∙ (λ i. terminator_state s (with_new (moved_terminator s x.1) (anew 1 (moved_terminator s) pre)) (record { rows = gone i; next = m + 1 }))

  -- ---- all its commands

  by_host : (o : Option ℕ) → x.1.host ≡ o → Leads (option_map_or (λ h. lending (name_of kind.Identity s h) service (new_terminator s x.1)) o (new_terminator s x.1 ∷ [])) (unlent (hosted 1 pre))
      (terminator_state s (with_new (moved_terminator s x.1) (anew 1 (moved_terminator s) pre)) (lent (option_map_or (λ h. hosted 1 pre + 1) o (hosted 1 pre))))
  by_host None none =
      offer (lent (hosted 1 pre)) (ap (λ (o : Option ℕ). lacks_bind (unlent (hosted 1 pre)) (option_map (place 1 s.identities.rows) o) (Some (place 1 s.services.rows x.1.service))) none)
  by_host (Some h) some =
      let present : is_present s.identities.rows h ≡ true = subst (λ (o : Option ℕ). option_map_or (is_present s.identities.rows) o true ≡ true) some (stands_on s v x among).host in
      let m = hosted 1 pre in
      leads-on (command.CreateServicePolicy (name_of kind.Identity s h) Bind AnyOf (lone_side (name_of kind.Identity s h)) (lone_side service) ∷ []) (new_terminator s x.1 ∷ command.DeleteServicePolicy (name_of kind.Identity s h) ∷ [])
      (unlent m) (terminator_state s (anew 1 (moved_terminator s) pre) (with_new (loan h) (lent m))) (terminator_state s (with_new (moved_terminator s x.1) (anew 1 (moved_terminator s) pre)) (lent (m + 1)))
      (lend h present m few_hosted)
      (leads-on (new_terminator s x.1 ∷ []) (command.DeleteServicePolicy (name_of kind.Identity s h) ∷ [])
      (terminator_state s (anew 1 (moved_terminator s) pre) (with_new (loan h) (lent m))) (terminator_state s (with_new (moved_terminator s x.1) (anew 1 (moved_terminator s) pre)) (with_new (loan h) (lent m)))
      (terminator_state s (with_new (moved_terminator s x.1) (anew 1 (moved_terminator s) pre)) (lent (m + 1)))
      (offer (with_new (loan h) (lent m)) (subst (λ (o : Option ℕ). lacks_bind (terminator_state s (anew 1 (moved_terminator s) pre) (with_new (loan h) (lent m))) (option_map (place 1 s.identities.rows) o) (Some (place 1 s.services.rows x.1.service)) ≡ false) (sym some) (bound h present m)))
      (take_back h m))

  pub make_terminator : Leads (making_record kind.Terminator s x.1) (with_terminators s pre) (with_terminators s (pre ++ x ∷ []))
  make_terminator =
      subst (λ (u : State). Leads (making_terminator s x.1) (with_terminators s pre) u)
      (λ i. terminator_state s (sym (anew-last 1 (moved_terminator s) pre x) i) (lent (sym (hosted-last 1 pre x) i)))
      (by_host x.1.host refl)
