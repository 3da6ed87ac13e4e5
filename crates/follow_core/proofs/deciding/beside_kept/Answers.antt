use Rattle.std.specs.Option.{option_map}
use Rattle.row_codec.specs.Batches.{batch_bytes}
use Rattle.follow_core.proofs.FoundLeads.{late_begun, late_own}
use Rattle.follow_core.proofs.deciding.beside_kept.Goals as goal

pub kept_of-requires-clause-begun : goal.kept_of-requires-clause-begun
kept_of-requires-clause-begun g c = late_begun c.args.shipment.now c.args.store.now c.requires.late

pub kept_of-requires-clause-own : goal.kept_of-requires-clause-own
kept_of-requires-clause-own g c = late_own c.args.shipment.now c.args.store.now c.requires.late

pub returns-clause-beside : goal.returns-clause-beside
returns-clause-beside g c = (option_map batch_bytes c.in_ok-kept.kept, c.in_ok-taken.ensures, λ told records stands. c.in_ok-kept.ensures.found told records stands)
