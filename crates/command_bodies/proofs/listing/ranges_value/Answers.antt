use Rattle.command_bodies.proofs.ListedValues.{none_asked}
use Rattle.command_bodies.proofs.listing.ranges_value.Goals as goal

pub list_value-requires : goal.list_value-requires
list_value-requires c = none_asked c.as_slice.result.now
