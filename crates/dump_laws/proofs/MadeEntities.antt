-- The commands of a dump make its identities, services and routers.
use Rattle.std.proofs.Common.{◌≡◌, ℕ, ◌+◌, ◌<◌, ◌≤◌, Bool, true, false, cond, not, List, [], ◌∷◌, ◌++◌, flat_map, length, nat_lt, Option, None, Some, refl, sym, ◌∙◌, ap, subst, arith, length-append, append-nil, append_assoc, bytes_eq}
use Rattle.std.proofs.lemmas.Grind.{flat_map-append}
use Rattle.std.specs.Set.{distinct_count}
use Rattle.ctrl_model.specs.Controller.{carry}
use Rattle.ctrl_model.specs.declared.commands.Command.{Command}
use Rattle.ctrl_model.specs.declared.commands.Command.TheVariants as command
use Rattle.ctrl_model.specs.declared.intercepts.Intercept.{Intercept}
use Rattle.ctrl_model.specs.declared.kinds.Kind.{Kind}
use Rattle.ctrl_model.specs.declared.kinds.Kind.TheVariants as kind
use Rattle.ctrl_model.specs.declared.refusals.Field.TheVariants as field
use Rattle.ctrl_model.specs.declared.replies.Reply.TheVariants.{Done, Made}
use Rattle.ctrl_model.specs.EntityCommands.{marked}
use Rattle.ctrl_model.specs.Limits.{limit}
use Rattle.ctrl_model.specs.Membership.{Among}
use Rattle.ctrl_model.specs.Numbered.{Table, no_rows, with_edit, with_new, Between}
use Rattle.ctrl_model.specs.RecordCommands.{absent_in, after_create, after_edit, after_update, create, refusal_of_create}
use Rattle.ctrl_model.specs.Rules.{attributes_full, at_number, unknown_if_absent}
use Rattle.ctrl_model.specs.Settling.{settle}
use Rattle.ctrl_model.specs.State.{State, Entity, Router, Link, Policy, Terminator}
use Rattle.ctrl_model.specs.Tables.{Record, table, named, record_name, has_names, has_room}
use Rattle.ctrl_model.specs.ValidState.{ValidState, HaveUniqueNames}
use Rattle.ctrl_model.proofs.DistinctLaws.{Includes, same_bytes}
use Rattle.ctrl_model.proofs.Members.{Among-append_left, by_flat_map}
use Rattle.model_laws.proofs.ValidLaws.{attributes_fewer, uses_in}
use Rattle.dump_lines.specs.Dumps.{making_record, making_router}
use Rattle.dump_laws.proofs.RenumberedRows.{behind, renumbered, anew, anew-last, behind-length, length-renumbered, Between-renumbered, earlier-differs, none-found, last-found, edit-last, flat_map-renumbered}
use Rattle.dump_laws.proofs.AnsweredCommands.{Leads, leads-by, leads-on, leads-nowhere, stage, settled, create-none, few-kinds, room}

-- a record of a dump is as it was
abbrev pub same : {R : Type 0} → R → R
same r = r

-- ---- what stands before a record

-- those before a record have other names
pub others_before : (k : Kind) (s : State) → ValidState s → has_names k ≡ true → (pre : List (ℕ × Record k)) (x : ℕ × Record k) (post : List (ℕ × Record k))
    → pre ++ x ∷ post ≡ (table k s).rows → (y : ℕ × Record k) → Among y pre → bytes_eq (record_name k y.1) (record_name k x.1) ≡ false
others_before k s v has pre x post is =
    earlier-differs (record_name k) (table k s).next 1 pre x post (subst (λ (xs : List (ℕ × Record k)). Between 1 (table k s).next xs) (sym is) (v.kinds k).numbers.ordered)
    (subst (λ (xs : List (ℕ × Record k)). HaveUniqueNames (record_name k) xs) (sym is) ((v.kinds k).names has))

-- they are fewer than there may be
pub few_before : (k : Kind) (s : State) → ValidState s → (pre : List (ℕ × Record k)) (x : ℕ × Record k) (post : List (ℕ × Record k))
    → pre ++ x ∷ post ≡ (table k s).rows → length pre < limit k
few_before k s v pre x post is =
    let few : length (table k s).rows ≤ limit k = (v.kinds k).numbers.few in
    let all : length (pre ++ x ∷ post) ≡ length (table k s).rows = ap (λ (xs : List (ℕ × Record k)). length xs) is in
    let parts = length-append pre (x ∷ post) in
    omega (arith, few, all, parts)

-- the attributes of those, numbered anew, are in use
pub uses_before : {R : Type 0} (f : R → List (List ℕ)) (n : ℕ) (pre post all : List (ℕ × R)) → pre ++ post ≡ all
    → Includes (flat_map (λ (row : ℕ × R). f row.1) (renumbered same n pre)) (flat_map (λ (row : ℕ × R). f row.1) all)
uses_before {R} f n pre post all is a m =
    subst (λ (xs : List (ℕ × R)). Among a (flat_map (λ (row : ℕ × R). f row.1) xs)) is
    (subst (λ ys. Among a ys) (sym (flat_map-append (λ (row : ℕ × R). f row.1) pre post))
    (Among-append_left (flat_map (λ (row : ℕ × R). f row.1) pre) (flat_map (λ (row : ℕ × R). f row.1) post) a
    (subst (λ ys. Among a ys) (flat_map-renumbered (λ (row : ℕ × R). f row.1) (λ (row : ℕ × R). f row.1) same n pre (λ _ x _. refl)) m)))

-- all of them
pub uses_all : {R : Type 0} (f : R → List (List ℕ)) (n : ℕ) (all : List (ℕ × R))
    → Includes (flat_map (λ (row : ℕ × R). f row.1) (renumbered same n all)) (flat_map (λ (row : ℕ × R). f row.1) all)
uses_all f n all = uses_before f n all [] all (append-nil all)

-- and none where there is no record
nothing : {X : Type 0} (xs : List X) (ys : List (List ℕ)) → Includes (flat_map (λ (x : X). []) xs) ys
nothing {X} xs ys y m = by_flat_map (λ (x : X). []) xs y m (λ x a n. absurd n)

-- a state whose attributes are in use in a valid state has not too many
pub stage_fits : (s : State) → ValidState s → (cost : ℕ) (i e : Table Entity) (r : Table Router) (l : Table Link) (t : Table Terminator) (p q o : Table Policy) (x : List (ℕ × Intercept))
    → Includes (uses_in kind.Identity i) (uses_in kind.Identity s.identities) → Includes (uses_in kind.Service e) (uses_in kind.Service s.services)
    → Includes (uses_in kind.Router r) (uses_in kind.Router s.routers) → Includes (uses_in kind.ServicePolicy p) (uses_in kind.ServicePolicy s.service_policies)
    → Includes (uses_in kind.EdgeRouterPolicy q) (uses_in kind.EdgeRouterPolicy s.edge_router_policies)
    → Includes (uses_in kind.ServiceEdgeRouterPolicy o) (uses_in kind.ServiceEdgeRouterPolicy s.service_edge_router_policies)
    → attributes_full (stage cost i e r l t p q o x) ≡ false
stage_fits s v cost i e r l t p q o x a b c d f g = attributes_fewer s (stage cost i e r l t p q o x) each v.attributes
  where
    each : (k : Kind) → Includes (uses_in k (table k (stage cost i e r l t p q o x))) (uses_in k (table k s))
    each kind.Identity = a
    each kind.Service = b
    each kind.Router = c
    each kind.ServicePolicy = d
    each kind.EdgeRouterPolicy = f
    each kind.ServiceEdgeRouterPolicy = g
    each kind.Link = nothing l.rows (uses_in kind.Link s.links)
    each kind.Terminator = nothing t.rows (uses_in kind.Terminator s.terminators)
    each kind.Circuit = λ y m. absurd m
    each kind.Attribute = λ y m. absurd m

pub no_uses : (ys : List (List ℕ)) → Includes [] ys
no_uses ys y m = absurd m

-- there is room for a record where those before it were numbered anew
pub room_before : {S : Type 0} (k : Kind) (s : State) → ValidState s → (n : ℕ) → n ≤ 8192 → (g : Record k → S) (pre : List (ℕ × Record k)) (x : ℕ × Record k) (post : List (ℕ × Record k))
    → pre ++ x ∷ post ≡ (table k s).rows → has_room (limit k) (anew n g pre) ≡ true
room_before k s v n low g pre x post is =
    let few = few_before k s v pre x post is in
    let most = few-kinds k in
    let long = length-renumbered g n pre in
    let next = behind-length n pre in
    room k (anew n g pre) (omega (arith, few, long)) (omega (arith, few, most, next, low))

-- the command of a record that nothing refuses makes it
pub create_leads : (k : Kind) (r : Record k) (c : Command) (t u : State) → carry c t ≡ create k r t → named k t (record_name k r) ≡ None → absent_in k r t ≡ None
    → has_room (limit k) (table k t) ≡ true → attributes_full (after_create k r t) ≡ false → settle (after_create k r t) ≡ u → Leads (c ∷ []) t u
create_leads k r c t u is free found rooms few settles =
    leads-by c t (refusal_of_create k r t) (Made (table k t).next) (after_create k r t) u is (create-none k r t free found rooms few) refl settles

-- ---- identities

abbrev pub with_identities : State → List (ℕ × Entity) → State
with_identities s pre = stage s.least_router_cost (anew 1 same pre) no_rows no_rows no_rows no_rows no_rows no_rows no_rows []

pub make_identity : (s : State) → ValidState s → (pre : List (ℕ × Entity)) (x : ℕ × Entity) (post : List (ℕ × Entity)) → pre ++ x ∷ post ≡ s.identities.rows
    → Leads (making_record kind.Identity s x.1) (with_identities s pre) (with_identities s (pre ++ x ∷ []))
make_identity s v pre x post is =
    create_leads kind.Identity x.1 (command.CreateIdentity x.1.name x.1.attributes) (with_identities s pre) (with_identities s (pre ++ x ∷ [])) refl
    (none-found (λ (q : Entity). bytes_eq q.name x.1.name) same 1 pre (others_before kind.Identity s v refl pre x post is)) refl
    (room_before kind.Identity s v 1 (omega arith) same pre x post is)
    (subst (λ (t : Table Entity). attributes_full (state t) ≡ false) (anew-last 1 same pre x) (stage_fits s v s.least_router_cost (anew 1 same (pre ++ x ∷ [])) no_rows no_rows no_rows no_rows no_rows no_rows no_rows []
    (uses_before (λ (e : Entity). e.attributes) 1 (pre ++ x ∷ []) post s.identities.rows (append_assoc pre (x ∷ []) post ∙ is))
    (no_uses _) (no_uses _) (no_uses _) (no_uses _) (no_uses _)))
    (settled s.least_router_cost (with_new x.1 (anew 1 same pre)) no_rows no_rows no_rows no_rows no_rows no_rows no_rows [] refl refl
    ∙ ap state (sym (anew-last 1 same pre x)))
  where
    state : Table Entity → State
    state t = stage s.least_router_cost t no_rows no_rows no_rows no_rows no_rows no_rows no_rows []

-- ---- services

abbrev pub with_services : State → List (ℕ × Entity) → State
with_services s pre = stage s.least_router_cost (anew 1 same s.identities.rows) (anew 1 same pre) no_rows no_rows no_rows no_rows no_rows no_rows []

pub make_service : (s : State) → ValidState s → (pre : List (ℕ × Entity)) (x : ℕ × Entity) (post : List (ℕ × Entity)) → pre ++ x ∷ post ≡ s.services.rows
    → Leads (making_record kind.Service s x.1) (with_services s pre) (with_services s (pre ++ x ∷ []))
make_service s v pre x post is =
    create_leads kind.Service x.1 (command.CreateService x.1.name x.1.attributes) (with_services s pre) (with_services s (pre ++ x ∷ [])) refl
    (none-found (λ (q : Entity). bytes_eq q.name x.1.name) same 1 pre (others_before kind.Service s v refl pre x post is)) refl
    (room_before kind.Service s v 1 (omega arith) same pre x post is)
    (subst (λ (t : Table Entity). attributes_full (state t) ≡ false) (anew-last 1 same pre x) (stage_fits s v s.least_router_cost (anew 1 same s.identities.rows) (anew 1 same (pre ++ x ∷ [])) no_rows no_rows no_rows no_rows no_rows no_rows []
    (uses_all (λ (e : Entity). e.attributes) 1 s.identities.rows)
    (uses_before (λ (e : Entity). e.attributes) 1 (pre ++ x ∷ []) post s.services.rows (append_assoc pre (x ∷ []) post ∙ is))
    (no_uses _) (no_uses _) (no_uses _) (no_uses _)))
    (settled s.least_router_cost (anew 1 same s.identities.rows) (with_new x.1 (anew 1 same pre)) no_rows no_rows no_rows no_rows no_rows no_rows [] refl refl
    ∙ ap state (sym (anew-last 1 same pre x)))
  where
    state : Table Entity → State
    state t = stage s.least_router_cost (anew 1 same s.identities.rows) t no_rows no_rows no_rows no_rows no_rows no_rows []

-- ---- routers

-- the state with a table of routers
abbrev pub router_state : State → Table Router → State
router_state s t = stage s.least_router_cost (anew 1 same s.identities.rows) (anew 1 same s.services.rows) t no_rows no_rows no_rows no_rows no_rows []

abbrev pub with_routers : State → List (ℕ × Router) → State
with_routers s pre = router_state s (anew 1 same pre)

-- a router as its first command makes it
abbrev off : Router → Router
off r = record r { connected = false }

router_made : (r : Router) (t : State) → carry (command.CreateRouter r.name r.attributes r.cost (not r.through)) t ≡ create kind.Router (off r) t
router_made r t = ap (λ (b : Bool). create kind.Router (record { name = r.name; attributes = r.attributes; cost = r.cost; through = b; connected = false }) t) (twice r.through)
  where
    twice : (b : Bool) → not (not b) ≡ b
    twice true = refl
    twice false = refl

-- a router is connected, if it was
connect : (s : State) (pre : List (ℕ × Router)) (r : Router) → ((y : ℕ × Router) → Among y pre → bytes_eq y.1.name r.name ≡ false)
    → Leads (cond r.connected (command.ConnectRouter r.name ∷ []) []) (router_state s (with_new (off r) (anew 1 same pre))) (router_state s (with_new r (anew 1 same pre)))
connect s pre r others = by r.connected refl
  where
    number : ℕ
    number = behind 1 pre

    made : State
    made = router_state s (with_new (off r) (anew 1 same pre))

    found : named kind.Router made r.name ≡ Some number
    found = last-found (λ (q : Router). bytes_eq q.name r.name) same 1 pre number (off r) others (same_bytes r.name r.name refl)

    edited : with_edit number (marked true) (with_new (off r) (anew 1 same pre)) ≡ with_new (marked true (off r)) (anew 1 same pre)
    edited = λ i. record { rows = edit-last (marked true) (renumbered same 1 pre) 1 number (off r) (Between-renumbered same 1 pre) i; next = number + 1 }

    by : (b : Bool) → r.connected ≡ b → Leads (cond b (command.ConnectRouter r.name ∷ []) []) made (router_state s (with_new r (anew 1 same pre)))
    by false is = subst (λ (q : Router). Leads [] made (router_state s (with_new q (anew 1 same pre)))) (λ i. record r { connected = sym is i }) (leads-nowhere made)
    by true is =
        leads-by (command.ConnectRouter r.name) made (unknown_if_absent field.Name (named kind.Router made r.name)) Done (after_update kind.Router r.name (marked true) made)
        (router_state s (with_new r (anew 1 same pre))) refl (λ i. unknown_if_absent field.Name (found i)) refl
        (ap settle (ap (λ (o : Option ℕ). at_number o made (λ n. after_edit kind.Router n (marked true) made)) found
        ∙ ap (router_state s) edited ∙ (λ i. router_state s (with_new (record r { connected = sym is i }) (anew 1 same pre))))
        ∙ settled s.least_router_cost (anew 1 same s.identities.rows) (anew 1 same s.services.rows) (with_new r (anew 1 same pre)) no_rows no_rows no_rows no_rows no_rows [] refl refl)

pub make_router : (s : State) → ValidState s → (pre : List (ℕ × Router)) (x : ℕ × Router) (post : List (ℕ × Router)) → pre ++ x ∷ post ≡ s.routers.rows
    → Leads (making_record kind.Router s x.1) (with_routers s pre) (with_routers s (pre ++ x ∷ []))
make_router s v pre x post is =
    subst (λ (t : Table Router). Leads (making_router x.1) (with_routers s pre) (router_state s t)) (sym (anew-last 1 same pre x))
    (leads-on (command.CreateRouter x.1.name x.1.attributes x.1.cost (not x.1.through) ∷ []) (cond x.1.connected (command.ConnectRouter x.1.name ∷ []) [])
    (with_routers s pre) (router_state s (with_new (off x.1) (anew 1 same pre))) (router_state s (with_new x.1 (anew 1 same pre))) first (connect s pre x.1 others))
  where
    others : (y : ℕ × Router) → Among y pre → bytes_eq y.1.name x.1.name ≡ false
    others = others_before kind.Router s v refl pre x post is

    fits : attributes_full (router_state s (with_new x.1 (anew 1 same pre))) ≡ false
    fits = subst (λ (t : Table Router). attributes_full (router_state s t) ≡ false) (anew-last 1 same pre x)
        (stage_fits s v s.least_router_cost (anew 1 same s.identities.rows) (anew 1 same s.services.rows) (anew 1 same (pre ++ x ∷ [])) no_rows no_rows no_rows no_rows no_rows []
        (uses_all (λ (e : Entity). e.attributes) 1 s.identities.rows) (uses_all (λ (e : Entity). e.attributes) 1 s.services.rows)
        (uses_before (λ (r : Router). r.attributes) 1 (pre ++ x ∷ []) post s.routers.rows (append_assoc pre (x ∷ []) post ∙ is))
        (no_uses _) (no_uses _) (no_uses _))

    -- whether it is connected changes no attribute
    fits_off : attributes_full (router_state s (with_new (off x.1) (anew 1 same pre))) ≡ false
    fits_off = subst (λ (xs : List (List ℕ)). nat_lt (limit kind.Attribute) (distinct_count bytes_eq (flat_map (λ row. row.1.attributes) (renumbered same 1 s.identities.rows) ++ (flat_map (λ row. row.1.attributes) (renumbered same 1 s.services.rows) ++ (xs ++ [])))) ≡ false)
        (flat_map-append (λ (row : ℕ × Router). row.1.attributes) (renumbered same 1 pre) ((behind 1 pre, x.1) ∷ [])
        ∙ sym (flat_map-append (λ (row : ℕ × Router). row.1.attributes) (renumbered same 1 pre) ((behind 1 pre, off x.1) ∷ []))) fits

    first : Leads (command.CreateRouter x.1.name x.1.attributes x.1.cost (not x.1.through) ∷ []) (with_routers s pre) (router_state s (with_new (off x.1) (anew 1 same pre)))
    first = create_leads kind.Router (off x.1) (command.CreateRouter x.1.name x.1.attributes x.1.cost (not x.1.through)) (with_routers s pre) (router_state s (with_new (off x.1) (anew 1 same pre)))
        (router_made x.1 (with_routers s pre))
        (none-found (λ (q : Router). bytes_eq q.name x.1.name) same 1 pre others) refl
        (room_before kind.Router s v 1 (omega arith) same pre x post is) fits_off
        (settled s.least_router_cost (anew 1 same s.identities.rows) (anew 1 same s.services.rows) (with_new (off x.1) (anew 1 same pre)) no_rows no_rows no_rows no_rows no_rows [] refl refl)
