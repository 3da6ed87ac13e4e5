-- Which attributes are in use after a change of an entity: how often each name stands among them.
use Rattle.std.proofs.Common.{◌≡◌, ℕ, ◌+◌, Bool, true, false, not, List, Some, ap, arith}
use Rattle.std.proofs.lemmas.Bool.{false≢true}
use Rattle.ctrl_model.specs.declared.kinds.Kind.{Kind}
use Rattle.ctrl_model.specs.declared.kinds.Kind.TheVariants as kind
use Rattle.ctrl_model.specs.Numbered.{with_edit, at, Between}
use Rattle.ctrl_model.specs.State.{State, Entity, Router}
use Rattle.ctrl_model.specs.RecordCommands.{after_create}
use Rattle.ctrl_model.specs.EntityCommands.{new_router}
use Rattle.ctrl_model.specs.Rules.{attributes_in_use}
use Rattle.entity_store.specs.AttributeUses.{times}
use Rattle.entity_store.proofs.TimesLaws.{times-with_last, times-edit_at}
use Rattle.entity_store.proofs.InUseLaws.{in_use-parts}
use Rattle.entity_commands.specs.EntityChanges.{is_plain_kind, with_plain, with_described}

pub added : (k : Kind) (name : List ℕ) (attributes : List (List ℕ)) (s : State) → is_plain_kind k ≡ true → (x : List ℕ)
    → times x (attributes_in_use (with_plain k name attributes s)) ≡ times x (attributes_in_use s) + times x attributes
added kind.Identity name attributes s plain x =
    let more = times-with_last (λ (e : Entity). e.attributes) x s.identities.rows s.identities.next (record { name = name; attributes = attributes }) in
    let before = in_use-parts x s in let after = in_use-parts x (with_plain kind.Identity name attributes s) in
    omega (arith, more, before, after)
added kind.Service name attributes s plain x =
    let more = times-with_last (λ (e : Entity). e.attributes) x s.services.rows s.services.next (record { name = name; attributes = attributes }) in
    let before = in_use-parts x s in let after = in_use-parts x (with_plain kind.Service name attributes s) in
    omega (arith, more, before, after)
added _ name attributes s plain x = absurd (false≢true plain)

pub added_router : (name : List ℕ) (attributes : List (List ℕ)) (cost : ℕ) (no_traversal : Bool) (s : State) (x : List ℕ)
    → times x (attributes_in_use (after_create kind.Router (new_router name attributes cost no_traversal) s)) ≡ times x (attributes_in_use s) + times x attributes
added_router name attributes cost no_traversal s x =
    let more = times-with_last (λ (r : Router). r.attributes) x s.routers.rows s.routers.next
    (record { name = name; attributes = attributes; cost = cost; through = not no_traversal; connected = false }) in
    let before = in_use-parts x s in let after = in_use-parts x (after_create kind.Router (new_router name attributes cost no_traversal) s) in
    omega (arith, more, before, after)

pub described_identity : (n : ℕ) (fresh : List (List ℕ)) (s : State) (high : ℕ) (e : Entity) → Between 1 high s.identities.rows → at s.identities.rows n ≡ Some e → (x : List ℕ)
    → times x (attributes_in_use (with_described kind.Identity n fresh s)) + times x e.attributes ≡ times x (attributes_in_use s) + times x fresh
described_identity n fresh s high e b is x =
    let moved = times-edit_at (λ (r : Entity). r.attributes) (λ r. record r { attributes = fresh }) x high s.identities.rows 1 n e b is in
    let before = in_use-parts x s in let after = in_use-parts x (with_described kind.Identity n fresh s) in
    omega (arith, moved, before, after)

pub described_service : (n : ℕ) (fresh : List (List ℕ)) (s : State) (high : ℕ) (e : Entity) → Between 1 high s.services.rows → at s.services.rows n ≡ Some e → (x : List ℕ)
    → times x (attributes_in_use (with_described kind.Service n fresh s)) + times x e.attributes ≡ times x (attributes_in_use s) + times x fresh
described_service n fresh s high e b is x =
    let moved = times-edit_at (λ (r : Entity). r.attributes) (λ r. record r { attributes = fresh }) x high s.services.rows 1 n e b is in
    let before = in_use-parts x s in let after = in_use-parts x (with_described kind.Service n fresh s) in
    omega (arith, moved, before, after)

-- a router that gets other attributes, whatever becomes of its cost and its marks
pub described_router : (n : ℕ) (fresh : List (List ℕ)) (f : Router → Router) (s : State) (high : ℕ) (r : Router) → Between 1 high s.routers.rows → at s.routers.rows n ≡ Some r
    → (f r).attributes ≡ fresh → (x : List ℕ)
    → times x (attributes_in_use (record s { routers = with_edit n f s.routers })) + times x r.attributes ≡ times x (attributes_in_use s) + times x fresh
described_router n fresh f s high r b is same x =
    let moved = times-edit_at (λ (q : Router). q.attributes) f x high s.routers.rows 1 n r b is in
    let these : times x (f r).attributes ≡ times x fresh = ap (times x) same in
    let before = in_use-parts x s in let after = in_use-parts x (record s { routers = with_edit n f s.routers }) in
    omega (arith, moved, these, before, after)
