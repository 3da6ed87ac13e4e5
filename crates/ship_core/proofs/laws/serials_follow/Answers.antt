use Rattle.ship_core.proofs.FollowLaws.{follows}
use Rattle.ship_core.proofs.laws.serials_follow.Goals as goal

pub returns : goal.returns
returns c = follows
