-- What settles after an entity comes, or after one gets other attributes or other marks, or goes.
use Rattle.std.proofs.Common.{◌≡◌, ℕ, ◌&&◌, Bool, true, false, not, cond, [], Option, None, Some, refl, sym, ◌∙◌, ap}
use Rattle.std.proofs.lemmas.Bool.{false≢true}
use Rattle.std.proofs.lemmas.Option.{none-some, same_Some}
use Rattle.ctrl_model.specs.declared.kinds.Kind.TheVariants as kind
use Rattle.ctrl_model.specs.Numbered.{at, with_new, with_edit}
use Rattle.ctrl_model.specs.State.{State, Entity, Router}
use Rattle.ctrl_model.specs.ValidState.{ValidState}
use Rattle.fallen_records.specs.FallenRecords.{Falls, links_at, circuits_on, circuits_through, marked_circuits}
use Rattle.fallen_records.proofs.ClosedRouters.{router_closed}
use Rattle.fallen_records.proofs.EntityCases.{nobody_goes, router_off}
use Rattle.fallen_records.proofs.HeldRows.{no_number, Held, held_same, held_last, held_edit}
use Rattle.fallen_records.proofs.SettlingCases.{any, router_itself}
use Rattle.fallen_records.proofs.TurnedStates.{Any, RouterHolds}

module _ (s : State) (v : ValidState s) where
  same_ids : Held {R = Entity} Any no_number s.identities.rows s.identities.rows
  same_ids = held_same {R = Entity} Any any s.identities.rows no_number

  same_services : Held {R = Entity} Any no_number s.services.rows s.services.rows
  same_services = held_same {R = Entity} Any any s.services.rows no_number

  same_routers : Held {R = Router} Any no_number s.routers.rows s.routers.rows
  same_routers = held_same {R = Router} Any any s.routers.rows no_number

  on_still : Held RouterHolds no_number s.routers.rows s.routers.rows
  on_still = held_same RouterHolds router_itself s.routers.rows no_number

  pub identity_more : (e : Entity) → Falls (record s { identities = with_new e s.identities }) [] [] []
  identity_more e =
      nobody_goes s v (with_new e s.identities) s.services s.routers
      (held_last {R = Entity} Any any s.identities.rows no_number s.identities.next e (v.kinds kind.Identity).numbers.ordered) same_services same_routers on_still

  pub service_more : (e : Entity) → Falls (record s { services = with_new e s.services }) [] [] []
  service_more e =
      nobody_goes s v s.identities (with_new e s.services) s.routers
      same_ids (held_last {R = Entity} Any any s.services.rows no_number s.services.next e (v.kinds kind.Service).numbers.ordered) same_routers on_still

  pub router_more : (r : Router) → Falls (record s { routers = with_new r s.routers }) [] [] []
  router_more r =
      nobody_goes s v s.identities s.services (with_new r s.routers) same_ids same_services
      (held_last {R = Router} Any any s.routers.rows no_number s.routers.next r (v.kinds kind.Router).numbers.ordered)
      (held_last RouterHolds router_itself s.routers.rows no_number s.routers.next r (v.kinds kind.Router).numbers.ordered)

  pub identity_edited : (n : ℕ) (f : Entity → Entity) → Falls (record s { identities = with_edit n f s.identities }) [] [] []
  identity_edited n f =
      nobody_goes s v (with_edit n f s.identities) s.services s.routers (held_edit {R = Entity} Any any s.identities.rows no_number n f (λ e is g. tt)) same_services same_routers on_still

  pub service_edited : (n : ℕ) (f : Entity → Entity) → Falls (record s { services = with_edit n f s.services }) [] [] []
  service_edited n f =
      nobody_goes s v s.identities (with_edit n f s.services) s.routers same_ids (held_edit {R = Entity} Any any s.services.rows no_number n f (λ e is g. tt)) same_routers on_still

  module _ (n : ℕ) (f : Router → Router) (through connected : Bool) (marks : (x : Router) → ((f x).through ≡ through) × ((f x).connected ≡ connected)) where
    there : Held {R = Router} Any no_number s.routers.rows (with_edit n f s.routers).rows
    there = held_edit {R = Router} Any any s.routers.rows no_number n f (λ x is g. tt)

    calm : ((r : Router) → at s.routers.rows n ≡ Some r → RouterHolds r (f r)) → Falls (record s { routers = with_edit n f s.routers }) [] [] []
    calm keeps = nobody_goes s v s.identities s.services (with_edit n f s.routers) same_ids same_services there (held_edit RouterHolds router_itself s.routers.rows no_number n f (λ r is g. keeps r is))

    kept : (x y : Bool) → (x && not y) ≡ false → x ≡ true → y ≡ true
    kept true true e h = refl
    kept true false e h = absurd (false≢true (sym e))
    kept false y e h = absurd (false≢true h)

    lowered : (x y : Bool) → (x && not y) ≡ true → y ≡ false
    lowered true true e = absurd (false≢true e)
    lowered true false e = refl
    lowered false y e = absurd (false≢true e)

    marked : (r : Router) → at s.routers.rows n ≡ Some r → (a b : Bool) → (r.connected && not connected) ≡ a → (r.through && not through) ≡ b
        → Falls (record s { routers = with_edit n f s.routers }) [] [] (cond a (circuits_on (Some (kind.Router, n)) (links_at n s) [] s) (cond b (circuits_through n s) []))
    marked r is true b ea eb = router_off s v n f (λ x. (marks x).1 ∙ lowered r.connected connected ea)
    marked r is false true ea eb =
        router_closed s v n f (λ x found c. (marks x).1 ∙ kept r.connected connected ea (ap (λ (y : Router). y.connected) (same_Some r x (sym is ∙ found)) ∙ c))
        (λ x. (marks x).0 ∙ lowered r.through through eb)
    marked r is false false ea eb =
        calm (λ x found.
        let same : r ≡ x = same_Some r x (sym is ∙ found) in
        (λ c. (marks x).1 ∙ kept r.connected connected ea (ap (λ (y : Router). y.connected) same ∙ c), λ c. (marks x).0 ∙ kept r.through through eb (ap (λ (y : Router). y.through) same ∙ c)))

    pub router_marked : Falls (record s { routers = with_edit n f s.routers }) [] [] (marked_circuits (at s.routers.rows n) n through connected s)
    router_marked = by (at s.routers.rows n) refl
      where
        by : (o : Option Router) → at s.routers.rows n ≡ o → Falls (record s { routers = with_edit n f s.routers }) [] [] (marked_circuits o n through connected s)
        by None is = calm (λ r found. absurd (none-some r (sym is ∙ found)))
        by (Some r) is = marked r is (r.connected && not connected) (r.through && not through) refl refl
