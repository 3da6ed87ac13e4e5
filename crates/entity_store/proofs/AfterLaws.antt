-- Laws of a change of entities: which numbers there are after it, and how routes see the routers.
use Rattle.std.proofs.Common.{◌≡◌, ℕ, ◌==◌, Bool, true, false, cond, not, List, [], ◌∷◌, ◌++◌, map, Option, None, Some, refl, sym, ◌∙◌, ap, eqb-true}
use Rattle.std.proofs.lemmas.Bool.{false≢true}
use Rattle.std.proofs.lemmas.List.{map-append}
use Rattle.std.specs.List.{filter}
use Rattle.ctrl_model.specs.declared.kinds.Kind.{Kind}
use Rattle.ctrl_model.specs.declared.kinds.Kind.TheVariants as kind
use Rattle.ctrl_model.specs.declared.kinds.RouterSeen.{RouterSeen}
use Rattle.ctrl_model.specs.Networks.{seen}
use Rattle.ctrl_model.specs.Numbered.{numbers, with_last, edit_at, without, Between}
use Rattle.ctrl_model.specs.State.{Router}
use Rattle.record_tables.specs.AfterChange.{changed_by}
use Rattle.record_tables.specs.Turns.{turned}
use Rattle.record_tables.proofs.TurnLaws.{numbers-edit_at, numbers-filter, numbers-with_last}
use Rattle.entity_store.specs.declared.changes.EntityChange.{EntityChange}
use Rattle.entity_store.specs.declared.changes.EntityChange.TheVariants as change
use Rattle.entity_store.specs.ChangedNumbers.{turn_of, router_seen, marked, routers_after}
use Rattle.entity_store.specs.EntityChanges.{after_entity_change}
use Rattle.entity_store.specs.EntityTables.{Tables, entities, next_of, is_entity_kind, new_router, with_attributes}
use Rattle.entity_store.proofs.EditLaws.{edit_at-with_last}
use Rattle.entity_store.proofs.EntityLaws.{router-numbers}

-- ---- numbers of changed tables

-- the numbers of routers as entities are those of the routers
module _ (c : EntityChange) (t : Tables) where
  routers_turned : numbers (after_entity_change c t).routers.rows ≡ turned (turn_of kind.Router (Some c)) t.routers.next (numbers t.routers.rows)
      → numbers (entities kind.Router (after_entity_change c t)) ≡ turned (turn_of kind.Router (Some c)) t.routers.next (numbers (entities kind.Router t))
  routers_turned e =
      router-numbers (after_entity_change c t).routers.rows ∙ e ∙ ap (turned (turn_of kind.Router (Some c)) t.routers.next) (sym (router-numbers t.routers.rows))

router_numbers_turned : (c : EntityChange) (t : Tables) → numbers (after_entity_change c t).routers.rows ≡ turned (turn_of kind.Router (Some c)) t.routers.next (numbers t.routers.rows)
router_numbers_turned (change.Add kind.Router name attributes) t = numbers-with_last t.routers.rows t.routers.next (new_router name attributes)
router_numbers_turned (change.Add _ name attributes) t = refl
router_numbers_turned (change.AddRouter name attributes cost through) t =
    numbers-edit_at (with_last t.routers.rows t.routers.next (new_router name attributes)) t.routers.next (λ r. record r { cost = cost; through = through; connected = false })
    ∙ numbers-with_last t.routers.rows t.routers.next (new_router name attributes)
router_numbers_turned (change.Describe kind.Router n attributes) t = numbers-edit_at t.routers.rows n (λ r. record r { attributes = attributes })
router_numbers_turned (change.Describe _ n attributes) t = refl
router_numbers_turned (change.DescribeRouter n attributes cost through connected) t =
    numbers-edit_at (with_attributes kind.Router n attributes t).routers.rows n (λ r. record r { cost = cost; through = through; connected = connected })
    ∙ numbers-edit_at t.routers.rows n (λ r. record r { attributes = attributes })
router_numbers_turned (change.Mark n cost through connected) t = numbers-edit_at t.routers.rows n (λ r. record r { cost = cost; through = through; connected = connected })
router_numbers_turned (change.Remove kind.Router n name) t = numbers-filter (λ m. not (m == n)) t.routers.rows
router_numbers_turned (change.Remove _ n name) t = refl

-- the numbers of a kind after a change
numbers-after : (k : Kind) (c : EntityChange) (t : Tables) → is_entity_kind k ≡ true
    → numbers (entities k (after_entity_change c t)) ≡ turned (turn_of k (Some c)) (next_of k t) (numbers (entities k t))
numbers-after kind.Identity (change.Add kind.Identity name attributes) t e =
    numbers-with_last t.identities.rows t.identities.next (record { name = name; attributes = attributes })
numbers-after kind.Identity (change.Add _ name attributes) t e = refl
numbers-after kind.Identity (change.AddRouter name attributes cost through) t e = refl
numbers-after kind.Identity (change.Describe kind.Identity n attributes) t e = numbers-edit_at t.identities.rows n (λ r. record r { attributes = attributes })
numbers-after kind.Identity (change.Describe _ n attributes) t e = refl
numbers-after kind.Identity (change.DescribeRouter n attributes cost through connected) t e = refl
numbers-after kind.Identity (change.Mark n cost through connected) t e = refl
numbers-after kind.Identity (change.Remove kind.Identity n name) t e = numbers-filter (λ m. not (m == n)) t.identities.rows
numbers-after kind.Identity (change.Remove _ n name) t e = refl
numbers-after kind.Service (change.Add kind.Service name attributes) t e =
    numbers-with_last t.services.rows t.services.next (record { name = name; attributes = attributes })
numbers-after kind.Service (change.Add _ name attributes) t e = refl
numbers-after kind.Service (change.AddRouter name attributes cost through) t e = refl
numbers-after kind.Service (change.Describe kind.Service n attributes) t e = numbers-edit_at t.services.rows n (λ r. record r { attributes = attributes })
numbers-after kind.Service (change.Describe _ n attributes) t e = refl
numbers-after kind.Service (change.DescribeRouter n attributes cost through connected) t e = refl
numbers-after kind.Service (change.Mark n cost through connected) t e = refl
numbers-after kind.Service (change.Remove kind.Service n name) t e = numbers-filter (λ m. not (m == n)) t.services.rows
numbers-after kind.Service (change.Remove _ n name) t e = refl
numbers-after kind.Router c t e = routers_turned c t (router_numbers_turned c t)
numbers-after _ c t e = absurd (false≢true e)

pub numbers-changed : (k : Kind) (o : Option EntityChange) (t : Tables) → is_entity_kind k ≡ true
    → turned (turn_of k o) (next_of k t) (numbers (entities k t)) ≡ numbers (entities k (changed_by after_entity_change o t))
numbers-changed k None t e = refl
numbers-changed k (Some c) t e = sym (numbers-after k c t e)

-- ---- routers as routes see them

seen-described : (n : ℕ) (attributes : List (List ℕ)) (rows : List (ℕ × Router)) → map seen (edit_at rows n (λ r. record r { attributes = attributes })) ≡ map seen rows
seen-described n attributes [] = refl
seen-described n attributes (x ∷ rows) = λ i. by (x.0 == n) i ∷ seen-described n attributes rows i
  where
    by : (b : Bool) → seen (x.0, cond b (record x.1 { attributes = attributes }) x.1) ≡ seen x
    by true = refl
    by false = refl

module _ (n cost : ℕ) (through connected : Bool) where
  seen-marked : (rows : List (ℕ × Router)) → map seen (edit_at rows n (λ r. record r { cost = cost; through = through; connected = connected }))
      ≡ marked (router_seen n cost through connected) (map seen rows)
  seen-marked [] = refl
  seen-marked (x ∷ rows) = λ i. by (x.0 == n) refl i ∷ seen-marked rows i
    where
      by : (b : Bool) → (x.0 == n) ≡ b
          → seen (x.0, cond b (record x.1 { cost = cost; through = through; connected = connected }) x.1) ≡ cond b (router_seen n cost through connected) (seen x)
      by true e = ap (λ m. router_seen m cost through connected) (eqb-true x.0 n e)
      by false e = refl

seen-without : (n : ℕ) (rows : List (ℕ × Router)) → map seen (without rows n) ≡ filter (λ r. not (r.no.0 == n)) (map seen rows)
seen-without n [] = refl
seen-without n (x ∷ rows) = by (x.0 == n) (seen-without n rows)
  where
    left : List RouterSeen
    left = filter (λ r. not (r.no.0 == n)) (map seen rows)

    by : (b : Bool) → map seen (without rows n) ≡ left → map seen (cond (not b) (x ∷ without rows n) (without rows n)) ≡ cond (not b) (seen x ∷ left) left
    by true h = h
    by false h = ap (λ rs. seen x ∷ rs) h

seen-with_last : (rows : List (ℕ × Router)) (n : ℕ) (r : Router) → map seen (with_last rows n r) ≡ map seen rows ++ seen (n, r) ∷ []
seen-with_last rows n r = map-append seen rows ((n, r) ∷ [])

pub seen-after : (c : EntityChange) (t : Tables) → Between 1 t.routers.next t.routers.rows
    → map seen (after_entity_change c t).routers.rows ≡ routers_after c t.routers.next (map seen t.routers.rows)
seen-after (change.Add kind.Router name attributes) t b = seen-with_last t.routers.rows t.routers.next (new_router name attributes)
seen-after (change.Add _ name attributes) t b = refl
seen-after (change.AddRouter name attributes cost through) t b =
    let made : Router = record (new_router name attributes) { cost = cost; through = through; connected = false } in
    ap (map seen) (edit_at-with_last (λ r. record r { cost = cost; through = through; connected = false }) t.routers.next t.routers.rows 1 (new_router name attributes) b)
    ∙ seen-with_last t.routers.rows t.routers.next made
seen-after (change.Describe kind.Router n attributes) t b = seen-described n attributes t.routers.rows
seen-after (change.Describe _ n attributes) t b = refl
seen-after (change.DescribeRouter n attributes cost through connected) t b =
    seen-marked n cost through connected (with_attributes kind.Router n attributes t).routers.rows
    ∙ ap (marked (router_seen n cost through connected)) (seen-described n attributes t.routers.rows)
seen-after (change.Mark n cost through connected) t b = seen-marked n cost through connected t.routers.rows
seen-after (change.Remove kind.Router n name) t b = seen-without n t.routers.rows
seen-after (change.Remove _ n name) t b = refl
