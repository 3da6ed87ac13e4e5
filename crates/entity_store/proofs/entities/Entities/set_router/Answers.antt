use Rattle.std.proofs.Common.{sym, subst}
use Rattle.entity_store.specs.EntityTables.{Tables}
use Rattle.entity_store.specs.KeptRows.{AreAllListed}
use Rattle.entity_store.specs.KeptTables.{held_once, tables_of, IsKept}
use Rattle.entity_store.proofs.AllListedLaws.{all-marked}
use Rattle.entity_store.proofs.KeptLaws.{kept-marked}
use Rattle.entity_store.proofs.entities.Entities.set_router.Goals as goal

pub invariant_of-self : goal.invariant_of-self
invariant_of-self c =
    let t = tables_of c.self.inside.tables (held_once c.self.inside.held.items) in
    subst (λ (u : Tables). IsKept u c.self.inside.pool × AreAllListed c.self.inside.pool u c.self.inside.listed) (sym (c.mark_row.ensures (held_once c.self.inside.held.items))) (
      kept-marked t c.self.inside.pool c.self.invariant.0 c.args.no.0 c.args.cost c.args.through c.args.connected,
      all-marked c.self.inside.pool t c.self.inside.listed c.args.no.0 c.args.cost c.args.through c.args.connected c.self.invariant.1,
    )

pub returns : goal.returns
returns c = rw (← c.self.view_is) (c.mark_row.ensures (held_once c.self.inside.held.items))
