use Rattle.std.proofs.Common.{◌≡◌, Some, true, length, sym, ◌∙◌, ap, subst, arith, rules}
use Rattle.attr_pool.proofs.UseLaws.{can_be_counted-fewer}
use Rattle.attr_pool.specs.AttributeRows.{row_words}
use Rattle.entity_store.specs.AttributeUses.{has_attribute_room}
use Rattle.entity_store.specs.EntityTables.{Tables, without_entity}
use Rattle.entity_store.specs.KeptRows.{AreAllListed}
use Rattle.entity_store.specs.KeptTables.{held_once, tables_of, IsKept}
use Rattle.entity_store.specs.TableRules.{is_there, attributes_at}
use Rattle.entity_store.proofs.AllListedLaws.{all-changed, place_listed, stay-changed}
use Rattle.entity_store.proofs.EntityUses.{used_at, attributes_of_seen}
use Rattle.entity_store.proofs.KeptLaws.{used_in_pool, room_after_release, kept-changed, kept-removed}
use Rattle.entity_store.proofs.entities.Entities.update.Goals as goal

pub release_all-requires : goal.release_all-requires
release_all-requires c =
    let some : c.seen.result ≡ Some c.unwrap.result = search rules in
    let seen_at = rw some at c.seen.ensures (held_once c.self.inside.held.items) in
    used_in_pool (tables_of c.self.inside.tables (held_once c.self.inside.held.items)) c.self.inside.pool c.self.invariant.0 c.unwrap.result.1.now (used_at c.args.kind (tables_of c.self.inside.tables (held_once c.self.inside.held.items)) c.args.no (record { name = c.unwrap.result.0.now; attributes = c.unwrap.result.1.now }) seen_at)

pub intern_all-requires-clause-room : goal.intern_all-requires-clause-room
intern_all-requires-clause-room c =
    let some : c.seen.result ≡ Some c.unwrap.result = search rules in
    let seen_at = rw some at c.seen.ensures (held_once c.self.inside.held.items) in
    let had = attributes_of_seen c.args.kind (tables_of c.self.inside.tables (held_once c.self.inside.held.items)) c.args.no (record { name = c.unwrap.result.0.now; attributes = c.unwrap.result.1.now }) seen_at in
    let room = subst (λ (t : Tables). has_attribute_room t (attributes_at c.args.kind c.args.no t) c.args.attributes.now ≡ true) (sym c.self.view_is) c.requires.room in
    room_after_release (tables_of c.self.inside.tables (held_once c.self.inside.held.items)) c.self.inside.pool c.self.invariant.0 c.unwrap.result.1.now c.args.attributes.now c.release_all.new.self c.release_all.ensures.uses
    ∙ ap (λ names. has_attribute_room (tables_of c.self.inside.tables (held_once c.self.inside.held.items)) names c.args.attributes.now) (sym had)
    ∙ room

pub intern_all-requires-clause-counted : goal.intern_all-requires-clause-counted
intern_all-requires-clause-counted c =
    let can : c.can_count.result ≡ true = search rules in
    can_be_counted-fewer c.self.inside.pool c.release_all.new.self c.args.attributes.now (λ q. let less = c.release_all.ensures.uses q in omega (arith, less)) (sym c.can_count.ensures ∙ can)

pub set_row-requires-clause-place : goal.set_row-requires-clause-place
set_row-requires-clause-place c =
    (place_listed c.self.inside.pool (tables_of c.self.inside.tables (held_once c.self.inside.held.items)) c.self.inside.listed c.args.kind c.requires.kind c.self.invariant.1 c.args.no c.place_of.result (c.place_of.ensures (held_once c.self.inside.held.items))).1

pub invariant_of-self : goal.invariant_of-self
invariant_of-self c =
    let t = tables_of c.self.inside.tables (held_once c.self.inside.held.items) in
    let there = subst (λ (t : Tables). is_there c.args.kind c.args.no t ≡ true) (sym c.self.view_is) c.requires.there in
    let some : c.seen.result ≡ Some c.unwrap.result = search rules in
    let seen_at = rw some at c.seen.ensures (held_once c.self.inside.held.items) in
    let had = attributes_of_seen c.args.kind t c.args.no (record { name = c.unwrap.result.0.now; attributes = c.unwrap.result.1.now }) seen_at in
    let left = kept-removed t c.self.inside.pool c.self.invariant.0 c.tell_order.ensures.identities c.tell_order.ensures.services c.tell_order.ensures.routers
    c.args.kind c.args.no c.unwrap.result.1.now c.release_all.new.self c.requires.kind there had c.release_all.ensures.uses in
    let kept = kept-changed t c.self.inside.pool c.self.invariant.0 c.tell_order.ensures.identities c.tell_order.ensures.services c.tell_order.ensures.routers
    c.args.kind c.args.no c.unwrap.result.1.now c.args.attributes.now c.release_all.new.self c.intern_all.new.self c.requires.kind there had c.release_all.ensures.uses c.intern_all.ensures.uses in
    let long : length c.row_of-row.result ≡ row_words = search rules in
    let stay = stay-changed t c.self.inside.pool c.self.invariant.0 (without_entity c.args.kind c.args.no t) c.release_all.new.self c.intern_all.new.self c.args.attributes.now
    c.release_all.ensures.slots left c.intern_all.ensures.slots c.intern_all.ensures.uses in
    let listed = all-changed c.self.inside.pool c.intern_all.new.self t c.self.inside.listed c.self.invariant.1 c.tell_order.ensures.identities c.tell_order.ensures.services c.tell_order.ensures.routers
    c.args.kind c.args.no c.place_of.result c.requires.kind (c.place_of.ensures (held_once c.self.inside.held.items)) stay c.args.attributes.now c.row_of-row.result (record { long = long; bits = c.row_of-row.ensures }) in
    subst (λ (u : Tables). IsKept u c.intern_all.new.self × AreAllListed c.intern_all.new.self u c.set_row.new.all) (sym (c.edit_row.ensures (held_once c.self.inside.held.items)))
    (rw c.in_ok-copied.ensures (kept, rw c.set_row.ensures listed))
