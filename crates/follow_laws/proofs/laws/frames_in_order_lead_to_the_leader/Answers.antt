use Rattle.follow_laws.proofs.OrderedFrames.{all_taken}
use Rattle.follow_laws.proofs.laws.frames_in_order_lead_to_the_leader.Goals as goal

pub returns : goal.returns
returns c = all_taken
