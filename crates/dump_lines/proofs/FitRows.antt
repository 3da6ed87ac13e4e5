-- The rows of a valid state fit: some line says each command that makes a record of it, but where a policy names the attribute `all`.
use Rattle.std.proofs.Common.{◌≡◌, ℕ, ◌==◌, ◌&&◌, Bool, true, false, cond, not, inl, inr, List, [], ◌∷◌, ◌++◌, Option, None, Some, refl, sym, subst}
use Rattle.std.proofs.lemmas.Bool.{and_parts, and_from}
use Rattle.std.specs.List.{list_all}
use Rattle.std.specs.Option.{option_map, option_map_or}
use Rattle.ctrl_model.specs.ValueForms.{are_attributes, is_cost, is_latency, is_link_cost, is_service_relation, is_side, is_stored_side}
use Rattle.ctrl_model.specs.SpelledCommands.{is_spelled}
use Rattle.ctrl_model.specs.declared.commands.Command.{Command}
use Rattle.ctrl_model.specs.declared.commands.Command.TheVariants as command
use Rattle.ctrl_model.specs.declared.intercepts.Intercept.{Intercept}
use Rattle.ctrl_model.specs.InterceptForm.{is_intercept}
use Rattle.ctrl_model.specs.declared.kinds.Kind.{Kind}
use Rattle.ctrl_model.specs.declared.kinds.Kind.TheVariants as kind
use Rattle.ctrl_model.specs.declared.kinds.Precedence.{Precedence}
use Rattle.ctrl_model.specs.declared.kinds.Relation.TheVariants as relation
use Rattle.ctrl_model.specs.declared.kinds.Semantic.TheVariants as semantic
use Rattle.ctrl_model.specs.Membership.{Among}
use Rattle.ctrl_model.specs.NameForm.{is_instance, is_name}
use Rattle.ctrl_model.specs.Numbered.{at, is_present}
use Rattle.ctrl_model.specs.State.{State, Entity, Router, Link, Policy, Terminator}
use Rattle.ctrl_model.specs.Tables.{Record, table}
use Rattle.ctrl_model.specs.ValidState.{ValidState, are_found, is_valid, is_valid_intercept, is_valid_policy, may_relate}
use Rattle.ctrl_model.proofs.Members.{Among-append_left, Among-append_right, at-row, list_all-among}
use Rattle.ctrl_model.proofs.NumberedLaws.{by_is_some}
use Rattle.row_codec.specs.declared.rows.Row.{Row}
use Rattle.row_codec.specs.declared.rows.Row.TheVariants as row
use Rattle.row_laws.proofs.WrittenRecords.{links_stay, terminators_stay}
use Rattle.state_building.specs.BuiltStates.{state_in}
use Rattle.record_lines.specs.declared.listing.Listed.TheVariants as listed
use Rattle.record_lines.specs.RecordNames.{name_of}
use Rattle.record_lines.proofs.RowRecords.{claims_of_rows, intercept_in, intercepts_in, record_in, records_in, table_rows}
use Rattle.dump_lines.specs.Dumps.{are_spelled, lending, lone_side, making, making_intercept, making_link, making_router, making_terminator}
use Rattle.dump_lines.specs.RowDumps.{fits, is_fit}

-- ---- names

-- each record of a kind is valid
each_valid : (k : Kind) (s : State) → ValidState s → (row : ℕ × Record k) → Among row (table k s).rows → is_valid k s row.1 ≡ true
each_valid k s v row m = list_all-among (λ (x : ℕ × Record k). is_valid k s x.1) (table k s).rows row (v.kinds k).each m

-- the name of a present record is one
present_name : {R : Type 0} (name : R → List ℕ) (rows : List (ℕ × R)) (n : ℕ) → ((x : ℕ × R) → Among x rows → is_name (name x.1) ≡ true)
    → is_present rows n ≡ true → is_name (option_map_or name (at rows n) []) ≡ true
present_name name rows n named present =
    by_is_some (at rows n) present (λ r is. subst (λ o. is_name (option_map_or name o []) ≡ true) (sym is) (named (n, r) (at-row rows n r is)))

identity_named : (s : State) → ValidState s → (n : ℕ) → is_present s.identities.rows n ≡ true → is_name (name_of kind.Identity s n) ≡ true
identity_named s v n = present_name (λ (e : Entity). e.name) s.identities.rows n
    (λ x m. (and_parts (is_name x.1.name) (are_attributes x.1.attributes) (each_valid kind.Identity s v x m)).0)

service_named : (s : State) → ValidState s → (n : ℕ) → is_present s.services.rows n ≡ true → is_name (name_of kind.Service s n) ≡ true
service_named s v n = present_name (λ (e : Entity). e.name) s.services.rows n
    (λ x m. (and_parts (is_name x.1.name) (are_attributes x.1.attributes) (each_valid kind.Service s v x m)).0)

router_named : (s : State) → ValidState s → (n : ℕ) → is_present s.routers.rows n ≡ true → is_name (name_of kind.Router s n) ≡ true
router_named s v n = present_name (λ (r : Router). r.name) s.routers.rows n
    (λ x m. (and_parts (is_name x.1.name) (are_attributes x.1.attributes && is_cost x.1.cost) (each_valid kind.Router s v x m)).0)

-- ---- commands

one_spelled : (b : Bool) → b ≡ true → (b && true) ≡ true
one_spelled b is = and_from b true is refl

-- a router is connected, if it is
connected_spelled : (connected : Bool) (name : List ℕ) → is_name name ≡ true → list_all is_spelled (cond connected (command.ConnectRouter name ∷ []) []) ≡ true
connected_spelled true name is = one_spelled (is_name name) is
connected_spelled false name is = refl

-- a link is reported down, if it is
down_spelled : (up : Bool) (name router : List ℕ) → is_name name ≡ true → is_name router ≡ true
    → list_all is_spelled (cond up [] (command.ReportState name router false ∷ [])) ≡ true
down_spelled true name router is end = refl
down_spelled false name router is end = one_spelled (is_name name && is_name router) (and_from (is_name name) (is_name router) is end)

-- the side of one name
lone_spelled : (name : List ℕ) → is_name name ≡ true → is_side (lone_side name) ≡ true
lone_spelled name is = by (is_name name) is
  where
    by : (b : Bool) → b ≡ true → ((((b && true) && true) && true) && true) ≡ true
    by true h = refl
    by false h = absurd cc

-- Bind is lent about a command that is spelled
lending_spelled : (identity service : List ℕ) (c : Command) → is_name identity ≡ true → is_name service ≡ true → is_spelled c ≡ true
    → are_spelled (lending identity service c) ≡ true
lending_spelled identity service c i s is =
    and_from (is_name identity && (is_side (lone_side identity) && is_side (lone_side service))) (is_spelled c && (is_name identity && true))
    (and_from (is_name identity) _ i (and_from (is_side (lone_side identity)) (is_side (lone_side service)) (lone_spelled identity i) (lone_spelled service s)))
    (and_from (is_spelled c) (is_name identity && true) is (one_spelled (is_name identity) i))

-- ---- records

router_fit : (r : Router) → (is_name r.name && (are_attributes r.attributes && is_cost r.cost)) ≡ true → are_spelled (making_router r) ≡ true
router_fit r e =
    and_from (is_name r.name && (are_attributes r.attributes && is_cost r.cost)) _ e
    (connected_spelled r.connected r.name (and_parts (is_name r.name) (are_attributes r.attributes && is_cost r.cost) e).0)

pub link_ends : (s : State) → ValidState s → (x : ℕ × Link) → Among x s.links.rows
    → (is_name (name_of kind.Router s x.1.a) ≡ true) × (is_name (name_of kind.Router s x.1.b) ≡ true)
link_ends s v x m =
    let ends = and_parts (is_present s.routers.rows x.1.a) (is_present s.routers.rows x.1.b) (links_stay s v x m) in
    (router_named s v x.1.a ends.0, router_named s v x.1.b ends.1)

link_fit : (s : State) → ValidState s → (x : ℕ × Link) → Among x s.links.rows → is_fit kind.Link s x.1 ≡ true
link_fit s v x m =
    let l = x.1 in
    let ends = link_ends s v x m in
    let costs = is_link_cost l.cost && (is_latency l.latency_a && is_latency l.latency_b) in
    let named = and_parts (is_name l.name) (not (l.a == l.b) && costs) (each_valid kind.Link s v x m) in
    let rest = and_parts (not (l.a == l.b)) costs named.1 in
    and_from (is_name l.name && (is_name (name_of kind.Router s l.a) && (is_name (name_of kind.Router s l.b) && costs))) _
    (and_from (is_name l.name) _ named.0 (and_from (is_name (name_of kind.Router s l.a)) _ ends.0 (and_from (is_name (name_of kind.Router s l.b)) costs ends.1 rest.1)))
    (down_spelled l.up l.name (name_of kind.Router s l.a) named.0 ends.0)

-- the command that makes a terminator is spelled, and so are those about it
term_fit : (s : State) (service router instance : List ℕ) (cost : ℕ) (precedence : Precedence) (host : Option ℕ)
    → is_name service ≡ true → is_name router ≡ true → (is_instance instance && is_cost cost) ≡ true
    → option_map_or (λ h. is_name (name_of kind.Identity s h)) host true ≡ true
    → are_spelled (option_map_or (λ h. lending (name_of kind.Identity s h) service
    (command.CreateTerminator service router instance (option_map (name_of kind.Identity s) host) cost precedence)) host
    (command.CreateTerminator service router instance (option_map (name_of kind.Identity s) host) cost precedence ∷ [])) ≡ true
term_fit s service router instance cost precedence None a b c d =
    let offer = and_parts (is_instance instance) (is_cost cost) c in
    one_spelled (is_name service && (is_name router && (is_instance instance && (true && is_cost cost))))
    (and_from (is_name service) _ a (and_from (is_name router) _ b (and_from (is_instance instance) _ offer.0 offer.1)))
term_fit s service router instance cost precedence (Some h) a b c d =
    let offer = and_parts (is_instance instance) (is_cost cost) c in
    lending_spelled (name_of kind.Identity s h) service (command.CreateTerminator service router instance (Some (name_of kind.Identity s h)) cost precedence) d a
    (and_from (is_name service) _ a (and_from (is_name router) _ b (and_from (is_instance instance) _ offer.0 (and_from (is_name (name_of kind.Identity s h)) _ d offer.1))))

host_named : (s : State) → ValidState s → (host : Option ℕ) → option_map_or (is_present s.identities.rows) host true ≡ true
    → option_map_or (λ h. is_name (name_of kind.Identity s h)) host true ≡ true
host_named s v None e = refl
host_named s v (Some h) e = identity_named s v h e

terminator_fit : (s : State) → ValidState s → (x : ℕ × Terminator) → Among x s.terminators.rows → is_fit kind.Terminator s x.1 ≡ true
terminator_fit s v x m =
    let t = x.1 in
    let stands = and_parts (is_present s.services.rows t.service) (is_present s.routers.rows t.router && option_map_or (is_present s.identities.rows) t.host true) (terminators_stay s v x m) in
    let rest = and_parts (is_present s.routers.rows t.router) (option_map_or (is_present s.identities.rows) t.host true) stands.1 in
    term_fit s (name_of kind.Service s t.service) (name_of kind.Router s t.router) t.instance t.cost t.precedence t.host
    (service_named s v t.service stands.0) (router_named s v t.router rest.0) (each_valid kind.Terminator s v x m) (host_named s v t.host rest.1)

record_fit : (k : Kind) (s : State) → ValidState s → (x : ℕ × Record k) → Among x (table k s).rows → is_fit k s x.1 ≡ true
record_fit kind.Identity s v x m = one_spelled (is_name x.1.name && are_attributes x.1.attributes) (each_valid kind.Identity s v x m)
record_fit kind.Service s v x m = one_spelled (is_name x.1.name && are_attributes x.1.attributes) (each_valid kind.Service s v x m)
record_fit kind.Router s v x m = router_fit x.1 (each_valid kind.Router s v x m)
record_fit kind.Link s v x m = link_fit s v x m
record_fit kind.ServicePolicy s v x m =
    let parts = and_parts (is_valid_policy x.1) (is_service_relation x.1.relation && _) (each_valid kind.ServicePolicy s v x m) in
    and_from (is_valid_policy x.1) (is_service_relation x.1.relation) parts.0 (and_parts (is_service_relation x.1.relation) _ parts.1).0
record_fit kind.EdgeRouterPolicy s v x m = (and_parts (is_valid_policy x.1) _ (each_valid kind.EdgeRouterPolicy s v x m)).0
record_fit kind.ServiceEdgeRouterPolicy s v x m = (and_parts (is_valid_policy x.1) _ (each_valid kind.ServiceEdgeRouterPolicy s v x m)).0
record_fit kind.Terminator s v x m = terminator_fit s v x m
record_fit kind.Circuit s v x m = refl
record_fit kind.Attribute s v x m = refl

intercept_fit : (s : State) → ValidState s → (x : ℕ × Intercept) → Among x s.intercepts → are_spelled (making listed.Intercepts s x) ≡ true
intercept_fit s v x m =
    let parts = and_parts (is_present s.services.rows x.0) (is_intercept x.1) (list_all-among (is_valid_intercept s) s.intercepts x v.intercepts m) in
    one_spelled (is_name (name_of kind.Service s x.0) && is_intercept x.1)
    (and_from (is_name (name_of kind.Service s x.0)) (is_intercept x.1) (service_named s v x.0 parts.0) parts.1)

-- ---- rows

row_fits : (s : State) (x : Row) → ((k : Kind) (r : ℕ × Record k) → Among r (record_in k x) → is_fit k s r.1 ≡ true)
    → ((r : ℕ × Intercept) → Among r (intercept_in x) → are_spelled (making listed.Intercepts s r) ≡ true) → fits s x ≡ true
row_fits s (row.Identity n name attributes) f g = f kind.Identity (n.0, _) (inl refl)
row_fits s (row.Service n name attributes) f g = f kind.Service (n.0, _) (inl refl)
row_fits s (row.Router n name attributes cost through connected) f g = f kind.Router (n.0, _) (inl refl)
row_fits s (row.Link n name a b cost latency_a latency_b up) f g = f kind.Link (n.0, _) (inl refl)
row_fits s (row.ServicePolicy n name relation semantic identities services) f g = f kind.ServicePolicy (n.0, _) (inl refl)
row_fits s (row.EdgeRouterPolicy n name semantic identities routers) f g = f kind.EdgeRouterPolicy (n.0, _) (inl refl)
row_fits s (row.ServiceEdgeRouterPolicy n name semantic services routers) f g = f kind.ServiceEdgeRouterPolicy (n.0, _) (inl refl)
row_fits s (row.Terminator n service router host instance cost precedence) f g = f kind.Terminator (n.0, _) (inl refl)
row_fits s (row.Circuit n identity service terminator ingress links) f g = refl
row_fits s (row.Intercept n i) f g = g (n.0, i) (inl refl)
row_fits s x f g = refl

rows_fit : (s : State) (rows : List Row) → ((k : Kind) (r : ℕ × Record k) → Among r (records_in k rows) → is_fit k s r.1 ≡ true)
    → ((r : ℕ × Intercept) → Among r (intercepts_in rows) → are_spelled (making listed.Intercepts s r) ≡ true) → list_all (fits s) rows ≡ true
rows_fit s [] f g = refl
rows_fit s (x ∷ xs) f g =
    and_from (fits s x) (list_all (fits s) xs)
    (row_fits s x (λ k r m. f k r (Among-append_left (record_in k x) (records_in k xs) r m)) (λ r m. g r (Among-append_left (intercept_in x) (intercepts_in xs) r m)))
    (rows_fit s xs (λ k r m. f k r (Among-append_right (record_in k x) (records_in k xs) r m)) (λ r m. g r (Among-append_right (intercept_in x) (intercepts_in xs) r m)))

-- every row of those that give a valid state fits
pub all_fit : (rows : List Row) → ValidState (state_in rows) → list_all (fits (state_in rows)) rows ≡ true
all_fit rows v =
    rows_fit (state_in rows) rows
    (λ k r m. record_fit k (state_in rows) v r (subst (λ (l : List (ℕ × Record k)). Among r l) (sym (table_rows k rows)) m))
    (λ r m. intercept_fit (state_in rows) v r (subst (λ (l : List (ℕ × Intercept)). Among r l) (sym (claims_of_rows rows)) m))

-- ---- what commands that are spelled say

-- the first of some
pub first_spelled : (c : Command) (cs : List Command) → are_spelled (c ∷ cs) ≡ true → is_spelled c ≡ true
first_spelled c cs f = (and_parts (is_spelled c) (are_spelled cs) f).0

pub router_name : (r : Router) → are_spelled (making_router r) ≡ true → is_name r.name ≡ true
router_name r f =
    (and_parts (is_name r.name) (are_attributes r.attributes && is_cost r.cost) (and_parts (is_name r.name && (are_attributes r.attributes && is_cost r.cost)) _ f).0).0

pub link_name : (s : State) (l : Link) → are_spelled (making_link s l) ≡ true → is_name l.name ≡ true
link_name s l f =
    let all = is_name (name_of kind.Router s l.a) && (is_name (name_of kind.Router s l.b) && (is_link_cost l.cost && (is_latency l.latency_a && is_latency l.latency_b))) in
    (and_parts (is_name l.name) all (and_parts (is_name l.name && all) _ f).0).0

-- Bind is lent about a command that is spelled, and taken back
pub lent_spelled : (identity service : List ℕ) (c : Command) → are_spelled (lending identity service c) ≡ true
    → (is_spelled (command.CreateServicePolicy identity relation.Bind semantic.AnyOf (lone_side identity) (lone_side service)) ≡ true) × (is_spelled c ≡ true) × (is_name identity ≡ true)
lent_spelled identity service c f =
    let first = and_parts (is_name identity && (is_side (lone_side identity) && is_side (lone_side service))) (is_spelled c && (is_name identity && true)) f in
    let rest = and_parts (is_spelled c) (is_name identity && true) first.1 in
    (first.0, rest.0, (and_parts (is_name identity) true rest.1).0)

pub link_names : (s : State) (l : Link) → are_spelled (making_link s l) ≡ true → (is_name (name_of kind.Router s l.a) ≡ true) × (is_name (name_of kind.Router s l.b) ≡ true)
link_names s l f =
    let costs = is_link_cost l.cost && (is_latency l.latency_a && is_latency l.latency_b) in
    let all = is_name (name_of kind.Router s l.a) && (is_name (name_of kind.Router s l.b) && costs) in
    let parts = and_parts (is_name l.name) all (and_parts (is_name l.name && all) _ f).0 in
    let ends = and_parts (is_name (name_of kind.Router s l.a)) (is_name (name_of kind.Router s l.b) && costs) parts.1 in
    (ends.0, (and_parts (is_name (name_of kind.Router s l.b)) costs ends.1).0)

host_names : (s : State) (service router instance : List ℕ) (cost : ℕ) (precedence : Precedence) (host : Option ℕ)
    → are_spelled (option_map_or (λ h. lending (name_of kind.Identity s h) service
    (command.CreateTerminator service router instance (option_map (name_of kind.Identity s) host) cost precedence)) host
    (command.CreateTerminator service router instance (option_map (name_of kind.Identity s) host) cost precedence ∷ [])) ≡ true
    → (is_name service ≡ true) × (is_name router ≡ true) × (option_map_or (λ h. is_name (name_of kind.Identity s h)) host true ≡ true)
host_names s service router instance cost precedence None f =
    let behind = is_name router && (is_instance instance && (true && is_cost cost)) in
    let parts = and_parts (is_name service) behind (and_parts (is_name service && behind) true f).0 in
    (parts.0, (and_parts (is_name router) (is_instance instance && (true && is_cost cost)) parts.1).0, refl)
host_names s service router instance cost precedence (Some h) f =
    let host = name_of kind.Identity s h in
    let rest = is_name host && is_cost cost in
    let behind = is_name router && (is_instance instance && rest) in
    let both = and_parts (is_name host && (is_side (lone_side host) && is_side (lone_side service))) ((is_name service && behind) && (is_name host && true)) f in
    let parts = and_parts (is_name service) behind (and_parts (is_name service && behind) (is_name host && true) both.1).0 in
    let router_parts = and_parts (is_name router) (is_instance instance && rest) parts.1 in
    (parts.0, router_parts.0, (and_parts (is_name host) (is_cost cost) (and_parts (is_instance instance) rest router_parts.1).1).0)

pub terminator_names : (s : State) (e : Terminator) → are_spelled (making_terminator s e) ≡ true
    → (is_name (name_of kind.Service s e.service) ≡ true) × (is_name (name_of kind.Router s e.router) ≡ true)
    × (option_map_or (λ h. is_name (name_of kind.Identity s h)) e.host true ≡ true)
terminator_names s e f = host_names s (name_of kind.Service s e.service) (name_of kind.Router s e.router) e.instance e.cost e.precedence e.host f

pub intercept_name : (s : State) (x : ℕ × Intercept) → are_spelled (making_intercept s x) ≡ true → is_name (name_of kind.Service s x.0) ≡ true
intercept_name s x f =
    let name = is_name (name_of kind.Service s x.0) in
    (and_parts name (is_intercept x.1) (and_parts (name && is_intercept x.1) true f).0).0
