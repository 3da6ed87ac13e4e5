use Rattle.std.proofs.Common.{◌∙◌}
use Rattle.entity_store.specs.KeptTables.{held_once, tables_of}
use Rattle.entity_store.specs.ListedKinds.{listed_of}
use Rattle.entity_store.proofs.AllListedLaws.{listed_in}
use Rattle.entity_store.proofs.LentLaws.{are_rows}
use Rattle.entity_store.proofs.entities.Entities.lanes.Goals as goal

pub returns : goal.returns
returns c =
    let t = tables_of c.self.inside.tables (held_once c.self.inside.held.items) in
    let are = listed_in c.self.inside.pool t c.self.inside.listed c.args.kind c.requires c.self.invariant.1 in
    rw (← c.self.view_is) (record {
      names = c.lent.ensures.names ∙ are.names;
      rows = rw (c.lent.ensures.rows, c.lent.ensures.pool) (are_rows c.args.kind t c.self.inside.pool (listed_of c.args.kind c.self.inside.listed) c.self.invariant.0 are);
    })
