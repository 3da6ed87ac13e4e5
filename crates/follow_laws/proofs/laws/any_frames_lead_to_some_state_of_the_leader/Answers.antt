use Rattle.follow_laws.proofs.TakenFrames.{frames_go}
use Rattle.follow_laws.proofs.laws.any_frames_lead_to_some_state_of_the_leader.Goals as goal

pub returns : goal.returns
returns c = record {
  answers = λ states at bounds frames copy history here front are. (frames_go states at bounds frames copy history here front are).0;
  stands = λ states at bounds frames copy history here front are. (frames_go states at bounds frames copy history here front are).1;
  parts = λ states at bounds frames copy history here front are. (frames_go states at bounds frames copy history here front are).2;
}
