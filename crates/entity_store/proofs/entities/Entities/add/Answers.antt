use Rattle.std.proofs.Common.{◌≡◌, Ok, [], length, sym, ◌∙◌, subst, rules}
use Rattle.attr_pool.specs.AttributeRows.{row_words}
use Rattle.entity_store.specs.EntityTables.{Tables}
use Rattle.entity_store.specs.KeptRows.{AreAllListed}
use Rattle.entity_store.specs.KeptTables.{held_once, tables_of, IsKept}
use Rattle.entity_store.specs.TableRules.{may_add}
use Rattle.entity_store.proofs.AllListedLaws.{all-added, last_place, stay-more}
use Rattle.entity_store.proofs.KeptLaws.{on_err, room_by_pool, kept-added}
use Rattle.entity_store.proofs.entities.Entities.add.Goals as goal

pub invariant_of-self : goal.invariant_of-self
invariant_of-self c =
    subst (λ (t : Tables). IsKept t c.self.inside.pool × AreAllListed c.self.inside.pool t c.add_listed.new.all) (sym (c.in_err-number.ensures.err (held_once c.self.inside.held.items)))
    (rw c.in_err-number.ensures.unlisted c.self.invariant)

pub returns-in_err-number-clause-err : goal.returns-in_err-number-clause-err
returns-in_err-number-clause-err c = on_err c.from_residual.result _ (c.in_err-number.ensures.err (held_once c.self.inside.held.items) ∙ c.self.view_is)

pub intern_all-requires-clause-room : goal.intern_all-requires-clause-room
intern_all-requires-clause-room c = room_by_pool c.args.self.now c.self.inside.pool (subst (λ (t : Tables). IsKept t c.self.inside.pool) c.self.view_is c.self.invariant.0) [] c.args.attributes.now ∙ c.requires.room

pub set_row-requires-clause-place : goal.set_row-requires-clause-place
set_row-requires-clause-place c =
    let t = tables_of c.self.inside.tables (held_once c.self.inside.held.items) in
    rw (c.in_ok-number.ensures.listed, c.count-place.ensures.count, ← c.self.view_is) (last_place c.self.inside.pool t c.self.inside.listed c.args.kind c.requires.kind c.self.invariant.1 c.args.name.now)

pub invariant_of-self-2 : goal.invariant_of-self-2
invariant_of-self-2 c =
    let t = tables_of c.self.inside.tables (held_once c.self.inside.held.items) in
    let may = subst (λ (t : Tables). may_add c.args.kind c.args.name.now t ≡ Ok tt) (sym c.self.view_is) c.requires.may in
    let kept = kept-added t c.self.inside.pool c.self.invariant.0 c.args.kind c.args.name.now c.args.attributes.now c.intern_all.new.self c.requires.kind may c.intern_all.ensures.uses in
    let long : length c.row_of.result ≡ row_words = search rules in
    let place = rw (← c.self.view_is) at c.count-place.ensures.count in
    let listed = all-added c.self.inside.pool c.intern_all.new.self t c.self.inside.listed c.self.invariant.1 c.args.kind c.count-place.result c.args.name.now c.args.attributes.now c.row_of.result c.requires.kind
    (stay-more t c.self.inside.pool c.self.invariant.0 c.intern_all.new.self c.args.attributes.now c.intern_all.ensures.slots c.intern_all.ensures.uses) place (record { long = long; bits = c.row_of.ensures }) in
    subst (λ (u : Tables). IsKept u c.intern_all.new.self × AreAllListed c.intern_all.new.self u c.set_row.new.all) (sym (c.in_ok-number.ensures.ok (held_once c.self.inside.held.items)))
    (kept, rw (c.set_row.ensures, c.in_ok-number.ensures.listed) listed)
