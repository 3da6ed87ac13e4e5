use Rattle.ship_core.proofs.OldLaws.{opened_applied, opened_whole}
use Rattle.ship_core.proofs.laws.old_folders_ship_their_state.Goals as goal

pub returns : goal.returns
returns c = record { whole = opened_whole; rows = opened_applied }
