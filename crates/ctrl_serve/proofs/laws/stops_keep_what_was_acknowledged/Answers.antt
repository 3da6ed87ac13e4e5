use Rattle.ctrl_serve.proofs.AcknowledgedLaws.{stop_holds}
use Rattle.ctrl_serve.proofs.laws.stops_keep_what_was_acknowledged.Goals as goal

pub returns : goal.returns
returns c = record { holds = stop_holds }
