use Rattle.std.proofs.Common.{◌≡◌, Some, true, sym, subst, rules}
use Rattle.entity_store.specs.EntityTables.{Tables, without_entity}
use Rattle.entity_store.specs.KeptRows.{AreAllListed}
use Rattle.entity_store.specs.KeptTables.{held_once, tables_of, IsKept}
use Rattle.entity_store.specs.TableRules.{is_there}
use Rattle.entity_store.proofs.AllListedLaws.{all-removed, place_listed, stay-left}
use Rattle.entity_store.proofs.EntityUses.{used_at, attributes_of_seen}
use Rattle.entity_store.proofs.KeptLaws.{used_in_pool, kept-removed}
use Rattle.entity_store.proofs.entities.Entities.remove.Goals as goal

pub release_all-requires : goal.release_all-requires
release_all-requires c =
    let some : c.seen.result ≡ Some c.unwrap.result = search rules in
    let seen_at = rw some at c.seen.ensures (held_once c.self.inside.held.items) in
    used_in_pool (tables_of c.self.inside.tables (held_once c.self.inside.held.items)) c.self.inside.pool c.self.invariant.0 c.unwrap.result.1.now (used_at c.args.kind (tables_of c.self.inside.tables (held_once c.self.inside.held.items)) c.args.no (record { name = c.unwrap.result.0.now; attributes = c.unwrap.result.1.now }) seen_at)

pub remove_entry-requires-clause-names : goal.remove_entry-requires-clause-names
remove_entry-requires-clause-names c =
    (place_listed c.self.inside.pool (tables_of c.self.inside.tables (held_once c.self.inside.held.items)) c.self.inside.listed c.args.kind c.requires.kind c.self.invariant.1 c.args.no c.place_of.result (c.place_of.ensures (held_once c.self.inside.held.items))).0

pub remove_entry-requires-clause-rows : goal.remove_entry-requires-clause-rows
remove_entry-requires-clause-rows c =
    (place_listed c.self.inside.pool (tables_of c.self.inside.tables (held_once c.self.inside.held.items)) c.self.inside.listed c.args.kind c.requires.kind c.self.invariant.1 c.args.no c.place_of.result (c.place_of.ensures (held_once c.self.inside.held.items))).1

pub invariant_of-self : goal.invariant_of-self
invariant_of-self c =
    let t = tables_of c.self.inside.tables (held_once c.self.inside.held.items) in
    let there = subst (λ (t : Tables). is_there c.args.kind c.args.no t ≡ true) (sym c.self.view_is) c.requires.there in
    let some : c.seen.result ≡ Some c.unwrap.result = search rules in
    let seen_at = rw some at c.seen.ensures (held_once c.self.inside.held.items) in
    let had = attributes_of_seen c.args.kind t c.args.no (record { name = c.unwrap.result.0.now; attributes = c.unwrap.result.1.now }) seen_at in
    let kept = kept-removed t c.self.inside.pool c.self.invariant.0 c.tell_order.ensures.identities c.tell_order.ensures.services c.tell_order.ensures.routers
    c.args.kind c.args.no c.unwrap.result.1.now c.release_all.new.self c.requires.kind there had c.release_all.ensures.uses in
    let stay = stay-left t c.self.inside.pool c.self.invariant.0 (without_entity c.args.kind c.args.no t) c.release_all.new.self c.release_all.ensures.slots kept in
    let listed = all-removed c.self.inside.pool c.release_all.new.self t c.self.inside.listed c.self.invariant.1 c.tell_order.ensures.identities c.tell_order.ensures.services c.tell_order.ensures.routers
    c.args.kind c.args.no c.place_of.result c.requires.kind (c.place_of.ensures (held_once c.self.inside.held.items)) stay in
    subst (λ (u : Tables). IsKept u c.release_all.new.self × AreAllListed c.release_all.new.self u c.remove_entry.new.all) (sym (c.remove_row.ensures (held_once c.self.inside.held.items)))
    (kept, rw c.remove_entry.ensures listed)
