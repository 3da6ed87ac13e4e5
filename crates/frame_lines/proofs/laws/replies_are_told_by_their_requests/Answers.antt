use Rattle.frame_lines.proofs.ReplyLaws.{ok_told, refused_told}
use Rattle.frame_lines.proofs.laws.replies_are_told_by_their_requests.Goals as goal

pub returns : goal.returns
returns c = record { ok = ok_told; refused = refused_told }
