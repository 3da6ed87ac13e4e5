use Rattle.std.proofs.Common.{◌∙◌, subst}
use Rattle.entity_store.specs.EntityTables.{Tables}
use Rattle.entity_store.specs.KeptTables.{IsKept}
use Rattle.entity_store.proofs.KeptLaws.{used_in_pool, room_by_pool}
use Rattle.entity_store.proofs.entities.Entities.has_room.Goals as goal

pub has_room-requires : goal.has_room-requires
has_room-requires c = used_in_pool c.args.self.now c.self.inside.pool (subst (λ (t : Tables). IsKept t c.self.inside.pool) c.self.view_is c.self.invariant.0) c.args.gone.now c.requires

pub returns : goal.returns
returns c = c.has_room.ensures ∙ room_by_pool c.args.self.now c.self.inside.pool (subst (λ (t : Tables). IsKept t c.self.inside.pool) c.self.view_is c.self.invariant.0) c.args.gone.now c.args.fresh.now
