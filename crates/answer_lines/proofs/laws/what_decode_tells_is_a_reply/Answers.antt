use Rattle.answer_lines.proofs.ToldLaws.{ok_again, refused_again, told_stays}
use Rattle.answer_lines.proofs.laws.what_decode_tells_is_a_reply.Goals as goal

pub returns : goal.returns
returns c = record { ok = ok_again; refused = refused_again; no_remark = told_stays }
