use Rattle.core_stores.proofs.LoadLaws.{counted_more}
use Rattle.core_stores.proofs.loads.count_more.Goals as goal

pub returns : goal.returns
returns c =
    counted_more c.args.stores.now c.args.no.0 c.open_circuits-load.result c.set_open.new.self c.open_circuits-load.ensures c.set_open.ensures.set c.set_open.ensures.open
