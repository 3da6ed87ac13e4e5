use Rattle.intercepts.proofs.PickLaws.{picked-any_order}
use Rattle.intercepts.proofs.laws.no_order_of_services.Goals as goal

pub returns : goal.returns
returns c = picked-any_order
