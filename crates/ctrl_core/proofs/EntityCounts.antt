-- What the steps of an entity's change do: they lead from the counts of the state before it to those of the state after it.
use Rattle.std.proofs.Common.{◌≡◌, ◌≢◌, ℕ, ◌==◌, Bool, true, false, not, cond, List, [], ◌∷◌, map, Option, None, Some, refl, sym, ◌∙◌, ap, subst, eq-eqb, bytes_eq}
use Rattle.std.proofs.lemmas.Bool.{false≢true, cond-true, false_from_ne_true}
use Rattle.std.specs.Option.{option_map}
use Rattle.ctrl_model.specs.declared.kinds.Kind.{Kind}
use Rattle.ctrl_model.specs.declared.kinds.Kind.TheVariants as kind
use Rattle.ctrl_model.specs.declared.kinds.Relation.{Relation}
use Rattle.ctrl_model.specs.declared.kinds.Relation.TheVariants.{Dial, Bind, IdentityRouter, ServiceRouter}
use Rattle.ctrl_model.specs.Numbered.{Table, with_new, with_removed, with_edit, at, with_last, edit_at, without, first_where, Between}
use Rattle.ctrl_model.specs.State.{State, Entity, Router, as_entity, router_named}
use Rattle.ctrl_model.specs.Grants.{count}
use Rattle.ctrl_model.specs.ShowCommands.{router_entities}
use Rattle.ctrl_model.specs.RecordCommands.{after_create, after_remove}
use Rattle.ctrl_model.specs.EntityCommands.{described, new_router}
use Rattle.ctrl_model.specs.ValidState.{ValidState, HaveUniqueNames}
use Rattle.ctrl_model.proofs.DistinctLaws.{same_name}
use Rattle.ctrl_model.proofs.NumberedLaws.{at-map, at-map-back, at-with_last, at-with_last-other, at-edit_at, at-edit_at-other, at-without, at-without-other, at-without-back, Between-map}
use Rattle.ctrl_model.proofs.TableLaws.{at-next, found-named}
use Rattle.ctrl_model.specs.Tables.{Record, table, with_table, is_entity_kind, has_names, record_name, named}
use Rattle.grant_denorm.specs.declared.deltas.Delta.{Delta}
use Rattle.grant_moves.specs.CountMoves.{LeadCounts}
use Rattle.grant_moves.proofs.EntityMoves.{entity_leads}
use Rattle.grant_moves.proofs.ForgottenNames.{forget_left_leaves, forget_right_leaves}
use Rattle.grant_moves.proofs.LeadingCounts.{leads_on, unchanged_leads}
use Rattle.policy_store.specs.declared.steps.GrantSteps.{GrantSteps}
use Rattle.entity_commands.specs.EntityChanges.{is_plain_kind, with_plain, with_described, without_named}
use Rattle.policy_store.specs.StepsOfRelations.{HasNoSteps, steps_of}
use Rattle.grant_steps.specs.GrantChanges.{MovedEntity, StepsOfEntity}

-- ---- one entity that differs

-- the entities of a kind in a state
abbrev pub entities_in : Kind → State → List (ℕ × Entity)
entities_in kind.Identity s = s.identities.rows
entities_in kind.Service s = s.services.rows
entities_in kind.Router s = router_entities s
entities_in _ s = []

-- the entities of the other two kinds are the same
abbrev pub OthersStay : Kind → State → State → Type 0
OthersStay kind.Identity s t = (t.services.rows ≡ s.services.rows) × (router_entities t ≡ router_entities s)
OthersStay kind.Service s t = (t.identities.rows ≡ s.identities.rows) × (router_entities t ≡ router_entities s)
OthersStay kind.Router s t = (t.identities.rows ≡ s.identities.rows) × (t.services.rows ≡ s.services.rows)
OthersStay _ s t = ⊥

-- the policies of two states are the same
pub record PoliciesStay (s t : State) : Type 0 where
  pub service : t.service_policies.rows ≡ s.service_policies.rows
  pub edge_router : t.edge_router_policies.rows ≡ s.edge_router_policies.rows
  pub service_edge_router : t.service_edge_router_policies.rows ≡ s.service_edge_router_policies.rows

-- one entity of a kind differs between two states
pub record DiffersAt (k : Kind) (x : ℕ) (m : MovedEntity) (s t : State) : Type 0 where
  pub before_is : at (entities_in k s) x ≡ m.before
  pub after_is : at (entities_in k t) x ≡ m.after
  pub others : (n : ℕ) → n ≢ x → at (entities_in k t) n ≡ at (entities_in k s) n
  pub apart : OthersStay k s t
  pub policies : PoliciesStay s t

routers_ordered : (s : State) → ValidState s → Between 1 s.routers.next (router_entities s)
routers_ordered s v = Between-map (λ row. as_entity row.1) s.routers.next s.routers.rows 1 (v.kinds kind.Router).numbers.ordered

-- where nothing of a relation differs, no steps lead
still : (r : Relation) (s t : State) (ds : List Delta) → ds ≡ [] → LeadCounts (count r s) (count r t) [] → LeadCounts (count r s) (count r t) ds
still r s t ds none leads = subst (λ es. LeadCounts (count r s) (count r t) es) (sym none) leads

-- the steps of an entity that differs lead to the counts
pub differing_leads : (k : Kind) (x : ℕ) (m : MovedEntity) (s t : State) (steps : GrantSteps) → DiffersAt k x m s t → ValidState s → StepsOfEntity k x m s steps
    → (r : Relation) → LeadCounts (count r s) (count r t) (steps_of r steps)
differing_leads kind.Identity x m s t steps d v is Dial = entity_leads Dial true x m.before m.after s t steps.dial.items
    (record { policies = d.policies.service; entity_was = d.before_is; entity_is = d.after_is; others = d.others; partners = d.apart.0; high = s.services.next; ordered = (v.kinds kind.Service).numbers.ordered }) is.dial.up is.dial.down
differing_leads kind.Identity x m s t steps d v is Bind = entity_leads Bind true x m.before m.after s t steps.bind.items
    (record { policies = d.policies.service; entity_was = d.before_is; entity_is = d.after_is; others = d.others; partners = d.apart.0; high = s.services.next; ordered = (v.kinds kind.Service).numbers.ordered }) is.bind.up is.bind.down
differing_leads kind.Identity x m s t steps d v is IdentityRouter = entity_leads IdentityRouter true x m.before m.after s t steps.identity_router.items
    (record { policies = d.policies.edge_router; entity_was = d.before_is; entity_is = d.after_is; others = d.others; partners = d.apart.1; high = s.routers.next; ordered = routers_ordered s v }) is.identity_router.up is.identity_router.down
differing_leads kind.Identity x m s t steps d v is ServiceRouter =
    still ServiceRouter s t steps.service_router.items is.service_router (unchanged_leads ServiceRouter s t d.policies.service_edge_router d.apart.0 d.apart.1)
differing_leads kind.Service x m s t steps d v is Dial = entity_leads Dial false x m.before m.after s t steps.dial.items
    (record { policies = d.policies.service; entity_was = d.before_is; entity_is = d.after_is; others = d.others; partners = d.apart.0; high = s.identities.next; ordered = (v.kinds kind.Identity).numbers.ordered }) is.dial.up is.dial.down
differing_leads kind.Service x m s t steps d v is Bind = entity_leads Bind false x m.before m.after s t steps.bind.items
    (record { policies = d.policies.service; entity_was = d.before_is; entity_is = d.after_is; others = d.others; partners = d.apart.0; high = s.identities.next; ordered = (v.kinds kind.Identity).numbers.ordered }) is.bind.up is.bind.down
differing_leads kind.Service x m s t steps d v is IdentityRouter =
    still IdentityRouter s t steps.identity_router.items is.identity_router (unchanged_leads IdentityRouter s t d.policies.edge_router d.apart.0 d.apart.1)
differing_leads kind.Service x m s t steps d v is ServiceRouter = entity_leads ServiceRouter true x m.before m.after s t steps.service_router.items
    (record { policies = d.policies.service_edge_router; entity_was = d.before_is; entity_is = d.after_is; others = d.others; partners = d.apart.1; high = s.routers.next; ordered = routers_ordered s v }) is.service_router.up is.service_router.down
differing_leads kind.Router x m s t steps d v is Dial = still Dial s t steps.dial.items is.dial (unchanged_leads Dial s t d.policies.service d.apart.0 d.apart.1)
differing_leads kind.Router x m s t steps d v is Bind = still Bind s t steps.bind.items is.bind (unchanged_leads Bind s t d.policies.service d.apart.0 d.apart.1)
differing_leads kind.Router x m s t steps d v is IdentityRouter = entity_leads IdentityRouter false x m.before m.after s t steps.identity_router.items
    (record { policies = d.policies.edge_router; entity_was = d.before_is; entity_is = d.after_is; others = d.others; partners = d.apart.0; high = s.identities.next; ordered = (v.kinds kind.Identity).numbers.ordered }) is.identity_router.up is.identity_router.down
differing_leads kind.Router x m s t steps d v is ServiceRouter = entity_leads ServiceRouter false x m.before m.after s t steps.service_router.items
    (record { policies = d.policies.service_edge_router; entity_was = d.before_is; entity_is = d.after_is; others = d.others; partners = d.apart.1; high = s.services.next; ordered = (v.kinds kind.Service).numbers.ordered }) is.service_router.up is.service_router.down
differing_leads _ x m s t steps d v is r = absurd d.apart

-- one entity differs where its kind has another table
kind_differs : (k : Kind) (x : ℕ) (m : MovedEntity) (s : State) (new : Table (Record k)) → is_entity_kind k ≡ true → at (entities_in k s) x ≡ m.before
    → at (entities_in k (with_table k new s)) x ≡ m.after → ((n : ℕ) → n ≢ x → at (entities_in k (with_table k new s)) n ≡ at (entities_in k s) n)
    → DiffersAt k x m s (with_table k new s)
kind_differs kind.Identity x m s new is before after others =
    record { before_is = before; after_is = after; others = others; apart = (refl, refl); policies = record { service = refl; edge_router = refl; service_edge_router = refl } }
kind_differs kind.Service x m s new is before after others =
    record { before_is = before; after_is = after; others = others; apart = (refl, refl); policies = record { service = refl; edge_router = refl; service_edge_router = refl } }
kind_differs kind.Router x m s new is before after others =
    record { before_is = before; after_is = after; others = others; apart = (refl, refl); policies = record { service = refl; edge_router = refl; service_edge_router = refl } }
kind_differs _ x m s new is before after others = absurd (false≢true is)

-- so its steps lead to the counts with that table
table_leads : (k : Kind) (x : ℕ) (m : MovedEntity) (s : State) (new : Table (Record k)) (steps : GrantSteps) → StepsOfEntity k x m s steps → is_entity_kind k ≡ true → ValidState s
    → at (entities_in k s) x ≡ m.before → at (entities_in k (with_table k new s)) x ≡ m.after
    → ((n : ℕ) → n ≢ x → at (entities_in k (with_table k new s)) n ≡ at (entities_in k s) n)
    → (r : Relation) → LeadCounts (count r s) (count r (with_table k new s)) (steps_of r steps)
table_leads k x m s new steps are is v before after others = differing_leads k x m s (with_table k new s) steps (kind_differs k x m s new is before after others) v are

-- ---- what stands at a number after a change, of entities and of records that are seen as entities

-- routers as entities
abbrev pub router_rows : List (ℕ × Router) → List (ℕ × Entity)
router_rows rows = map (λ row. (row.0, as_entity row.1)) rows

stands_last : {R : Type 0} (rows : List (ℕ × R)) (n : ℕ) (r : R) → at rows n ≡ None → at (with_last rows n r) n ≡ Some r
stands_last rows n r none = at-with_last rows n n r none ∙ cond-true (n == n) (Some r) (at rows n) (eq-eqb n n refl)

stands_edited : {R : Type 0} (rows : List (ℕ × R)) (n : ℕ) (f : R → R) → at (edit_at rows n f) n ≡ option_map f (at rows n)
stands_edited {R} rows n f = at-edit_at rows n n f ∙ by (at rows n) (n == n) (eq-eqb n n refl)
  where
    by : (o : Option R) (b : Bool) → b ≡ true → option_map (λ r. cond b (f r) r) o ≡ option_map f o
    by o true e = refl
    by o false e = absurd (false≢true e)

gone_at : {R : Type 0} (high : ℕ) (rows : List (ℕ × R)) (n : ℕ) → Between 1 high rows → at (without rows n) n ≡ None
gone_at high rows n b = at-without high rows 1 n n b ∙ cond-true (n == n) None (at rows n) (eq-eqb n n refl)

seen_at : (rows : List (ℕ × Router)) (n : ℕ) (o : Option Router) → at rows n ≡ o → at (router_rows rows) n ≡ option_map as_entity o
seen_at rows n o e = at-map (λ row. as_entity row.1) rows n ∙ ap (option_map as_entity) e

seen_alike : (rows others : List (ℕ × Router)) (n : ℕ) → at rows n ≡ at others n → at (router_rows rows) n ≡ at (router_rows others) n
seen_alike rows others n e = seen_at rows n (at others n) e ∙ sym (at-map (λ row. as_entity row.1) others n)

-- ---- a new entity

pub added_leads : (k : Kind) (name : List ℕ) (attributes : List (List ℕ)) (s : State) (steps : GrantSteps) → is_plain_kind k ≡ true → ValidState s
    → StepsOfEntity k (table k s).next (record { before = None; after = Some (record { name = name; attributes = attributes }) }) s steps
    → (r : Relation) → LeadCounts (count r s) (count r (with_plain k name attributes s)) (steps_of r steps)
added_leads kind.Identity name attributes s steps plain v is =
    table_leads kind.Identity s.identities.next _ s (with_new (record { name = name; attributes = attributes }) s.identities) steps is refl v (at-next (v.kinds kind.Identity).numbers)
    (stands_last s.identities.rows s.identities.next _ (at-next (v.kinds kind.Identity).numbers)) (λ n ne. at-with_last-other s.identities.rows s.identities.next n _ ne)
added_leads kind.Service name attributes s steps plain v is =
    table_leads kind.Service s.services.next _ s (with_new (record { name = name; attributes = attributes }) s.services) steps is refl v (at-next (v.kinds kind.Service).numbers)
    (stands_last s.services.rows s.services.next _ (at-next (v.kinds kind.Service).numbers)) (λ n ne. at-with_last-other s.services.rows s.services.next n _ ne)
added_leads _ name attributes s steps plain v is = absurd (false≢true plain)

pub added_router_leads : (name : List ℕ) (attributes : List (List ℕ)) (cost : ℕ) (no_traversal : Bool) (s : State) (steps : GrantSteps) → ValidState s
    → StepsOfEntity kind.Router s.routers.next (record { before = None; after = Some (record { name = name; attributes = attributes }) }) s steps
    → (r : Relation) → LeadCounts (count r s) (count r (after_create kind.Router (new_router name attributes cost no_traversal) s)) (steps_of r steps)
added_router_leads name attributes cost no_traversal s steps v is =
    table_leads kind.Router s.routers.next _ s (with_new made s.routers) steps is refl v (seen_at s.routers.rows s.routers.next None (at-next (v.kinds kind.Router).numbers))
    (seen_at (with_last s.routers.rows s.routers.next made) s.routers.next (Some made) (stands_last s.routers.rows s.routers.next made (at-next (v.kinds kind.Router).numbers)))
    (λ n ne. seen_alike (with_last s.routers.rows s.routers.next made) s.routers.rows n (at-with_last-other s.routers.rows s.routers.next n made ne))
  where
    made : Router
    made = record { name = name; attributes = attributes; cost = cost; through = not no_traversal; connected = false }

-- ---- an entity that is described

pub described_leads : (k : Kind) (n : ℕ) (attributes : List (List ℕ)) (s : State) (steps : GrantSteps) → is_plain_kind k ≡ true → ValidState s
    → StepsOfEntity k n (record { before = at (entities_in k s) n; after = option_map (described attributes) (at (entities_in k s) n) }) s steps
    → (r : Relation) → LeadCounts (count r s) (count r (with_described k n attributes s)) (steps_of r steps)
described_leads kind.Identity n attributes s steps plain v is =
    table_leads kind.Identity n _ s (with_edit n (described attributes) s.identities) steps is refl v refl (stands_edited s.identities.rows n (described attributes))
    (λ m ne. at-edit_at-other s.identities.rows n m (described attributes) ne)
described_leads kind.Service n attributes s steps plain v is =
    table_leads kind.Service n _ s (with_edit n (described attributes) s.services) steps is refl v refl (stands_edited s.services.rows n (described attributes))
    (λ m ne. at-edit_at-other s.services.rows n m (described attributes) ne)
described_leads _ n attributes s steps plain v is = absurd (false≢true plain)

-- a router, whatever becomes of its cost and its marks
pub described_router_leads : (n : ℕ) (attributes : List (List ℕ)) (f : Router → Router) (s : State) (steps : GrantSteps) → ValidState s
    → ((r : Router) → as_entity (f r) ≡ described attributes (as_entity r))
    → StepsOfEntity kind.Router n (record { before = at (router_entities s) n; after = option_map (described attributes) (at (router_entities s) n) }) s steps
    → (r : Relation) → LeadCounts (count r s) (count r (record s { routers = with_edit n f s.routers })) (steps_of r steps)
described_router_leads n attributes f s steps v same is =
    table_leads kind.Router n _ s (with_edit n f s.routers) steps is refl v refl
    (seen_at (edit_at s.routers.rows n f) n (option_map f (at s.routers.rows n)) (stands_edited s.routers.rows n f)
    ∙ alike (at s.routers.rows n) ∙ ap (option_map (described attributes)) (sym (at-map (λ row. as_entity row.1) s.routers.rows n)))
    (λ m ne. seen_alike (edit_at s.routers.rows n f) s.routers.rows m (at-edit_at-other s.routers.rows n m f ne))
  where
    alike : (o : Option Router) → option_map as_entity (option_map f o) ≡ option_map (described attributes) (option_map as_entity o)
    alike None = refl
    alike (Some r) = ap Some (same r)

-- ---- a router whose marks change

same_entities : (rows : List (ℕ × Router)) (n : ℕ) (f : Router → Router) → ((r : Router) → as_entity (f r) ≡ as_entity r) → router_rows (edit_at rows n f) ≡ router_rows rows
same_entities [] n f same = refl
same_entities (x ∷ rows) n f same =
    let head : as_entity (cond (x.0 == n) (f x.1) x.1) ≡ as_entity x.1 = by (x.0 == n) in
    let tail = same_entities rows n f same in λ i. (x.0, head i) ∷ tail i
  where
    by : (b : Bool) → as_entity (cond b (f x.1) x.1) ≡ as_entity x.1
    by true = same x.1
    by false = refl

pub marked_leads : (n : ℕ) (f : Router → Router) (s : State) (steps : GrantSteps) → ((r : Router) → as_entity (f r) ≡ as_entity r) → HasNoSteps steps
    → (r : Relation) → LeadCounts (count r s) (count r (record s { routers = with_edit n f s.routers })) (steps_of r steps)
marked_leads n f s steps same none Dial = still Dial s (record s { routers = with_edit n f s.routers }) steps.dial.items none.dial (unchanged_leads Dial s (record s { routers = with_edit n f s.routers }) refl refl refl)
marked_leads n f s steps same none Bind = still Bind s (record s { routers = with_edit n f s.routers }) steps.bind.items none.bind (unchanged_leads Bind s (record s { routers = with_edit n f s.routers }) refl refl refl)
marked_leads n f s steps same none IdentityRouter =
    still IdentityRouter s (record s { routers = with_edit n f s.routers }) steps.identity_router.items none.identity_router (unchanged_leads IdentityRouter s (record s { routers = with_edit n f s.routers }) refl refl (same_entities s.routers.rows n f same))
marked_leads n f s steps same none ServiceRouter =
    still ServiceRouter s (record s { routers = with_edit n f s.routers }) steps.service_router.items none.service_router (unchanged_leads ServiceRouter s (record s { routers = with_edit n f s.routers }) refl refl (same_entities s.routers.rows n f same))

-- ---- an entity that goes

-- without the one record of a name, no record has it
unnamed : {R : Type 0} (name_of : R → List ℕ) (high : ℕ) (rows : List (ℕ × R)) (n : ℕ) (name : List ℕ) → HaveUniqueNames name_of rows → Between 1 high rows
    → first_where (λ t. bytes_eq (name_of t) name) rows ≡ Some n → (m : ℕ) (r : R) → at (without rows n) m ≡ Some r → bytes_eq (name_of r) name ≡ false
unnamed name_of high rows n name unique b found m r stands = false_from_ne_true (bytes_eq (name_of r) name) (λ e.
    let kept = found-named name_of rows n name high 1 b found in
    let back = at-without-back high rows 1 n m r b stands in
    back.1 (unique m n r kept.0 back.0 kept.1 (same_name (name_of r) name e ∙ sym kept.2)))

-- of a kind whose records have names
absent : (k : Kind) (n : ℕ) (name : List ℕ) (s : State) → ValidState s → has_names k ≡ true → named k s name ≡ Some n
    → (m : ℕ) (r : Record k) → at (without (table k s).rows n) m ≡ Some r → bytes_eq (record_name k r) name ≡ false
absent k n name s v names found = unnamed (record_name k) (table k s).next (table k s).rows n name ((v.kinds k).names names) (v.kinds k).numbers.ordered found

absent_router : (n : ℕ) (name : List ℕ) (s : State) → ValidState s → router_named s.routers.rows name ≡ Some n
    → (m : ℕ) (e : Entity) → at (router_rows (without s.routers.rows n)) m ≡ Some e → bytes_eq e.name name ≡ false
absent_router n name s v found m e stands =
    let back = at-map-back (λ row. as_entity row.1) (without s.routers.rows n) m e stands in
    ap (λ (q : Entity). bytes_eq q.name name) (sym back.2) ∙ absent kind.Router n name s v refl found m back.0 back.1

-- what stands where an entity goes, and elsewhere
gone_of : (k : Kind) (n : ℕ) (s : State) → is_entity_kind k ≡ true → ValidState s → at (entities_in k (after_remove k n s)) n ≡ None
gone_of kind.Identity n s is v = gone_at s.identities.next s.identities.rows n (v.kinds kind.Identity).numbers.ordered
gone_of kind.Service n s is v = gone_at s.services.next s.services.rows n (v.kinds kind.Service).numbers.ordered
gone_of kind.Router n s is v = seen_at (without s.routers.rows n) n None (gone_at s.routers.next s.routers.rows n (v.kinds kind.Router).numbers.ordered)
gone_of _ n s is v = absurd (false≢true is)

left_of : (k : Kind) (n : ℕ) (s : State) → is_entity_kind k ≡ true → (m : ℕ) → m ≢ n → at (entities_in k (after_remove k n s)) m ≡ at (entities_in k s) m
left_of kind.Identity n s is m ne = at-without-other s.identities.rows n m ne
left_of kind.Service n s is m ne = at-without-other s.services.rows n m ne
left_of kind.Router n s is m ne = seen_alike (without s.routers.rows n) s.routers.rows m (at-without-other s.routers.rows n m ne)
left_of _ n s is m ne = absurd (false≢true is)

-- its name counts nothing once it has gone
module _ (n : ℕ) (name : List ℕ) (s : State) (v : ValidState s) where
  forgotten_counts : (k : Kind) → is_entity_kind k ≡ true → named k s name ≡ Some n → (r : Relation) (a b : ℕ)
      → count r (after_remove k n s) a b ≡ count r (without_named k n name s) a b
  forgotten_counts kind.Identity is found ServiceRouter a b = refl
  forgotten_counts kind.Identity is found Dial a b = sym (forget_left_leaves Dial (after_remove kind.Identity n s) (without_named kind.Identity n name s) name refl refl refl (absent kind.Identity n name s v refl found) a b)
  forgotten_counts kind.Identity is found Bind a b = sym (forget_left_leaves Bind (after_remove kind.Identity n s) (without_named kind.Identity n name s) name refl refl refl (absent kind.Identity n name s v refl found) a b)
  forgotten_counts kind.Identity is found IdentityRouter a b = sym (forget_left_leaves IdentityRouter (after_remove kind.Identity n s) (without_named kind.Identity n name s) name refl refl refl (absent kind.Identity n name s v refl found) a b)
  forgotten_counts kind.Service is found IdentityRouter a b = refl
  forgotten_counts kind.Service is found Dial a b = sym (forget_right_leaves Dial (after_remove kind.Service n s) (without_named kind.Service n name s) name refl refl refl (absent kind.Service n name s v refl found) a b)
  forgotten_counts kind.Service is found Bind a b = sym (forget_right_leaves Bind (after_remove kind.Service n s) (without_named kind.Service n name s) name refl refl refl (absent kind.Service n name s v refl found) a b)
  forgotten_counts kind.Service is found ServiceRouter a b = sym (forget_left_leaves ServiceRouter (after_remove kind.Service n s) (without_named kind.Service n name s) name refl refl refl (absent kind.Service n name s v refl found) a b)
  forgotten_counts kind.Router is found Dial a b = refl
  forgotten_counts kind.Router is found Bind a b = refl
  forgotten_counts kind.Router is found IdentityRouter a b = sym (forget_right_leaves IdentityRouter (after_remove kind.Router n s) (without_named kind.Router n name s) name refl refl refl (absent_router n name s v found) a b)
  forgotten_counts kind.Router is found ServiceRouter a b = sym (forget_right_leaves ServiceRouter (after_remove kind.Router n s) (without_named kind.Router n name s) name refl refl refl (absent_router n name s v found) a b)
  forgotten_counts _ is found r a b = absurd (false≢true is)

pub removed_leads : (k : Kind) (n : ℕ) (name : List ℕ) (s : State) (steps : GrantSteps) → is_entity_kind k ≡ true → ValidState s → named k s name ≡ Some n
    → StepsOfEntity k n (record { before = at (entities_in k s) n; after = None }) s steps
    → (r : Relation) → LeadCounts (count r s) (count r (without_named k n name s)) (steps_of r steps)
removed_leads k n name s steps is_kind v found is r =
    leads_on (count r s) (count r (after_remove k n s)) (count r (without_named k n name s)) (steps_of r steps)
    (table_leads k n _ s (with_removed n (table k s)) steps is is_kind v refl (gone_of k n s is_kind v) (left_of k n s is_kind) r)
    (λ a b. forgotten_counts n name s v k is_kind found r a b)
