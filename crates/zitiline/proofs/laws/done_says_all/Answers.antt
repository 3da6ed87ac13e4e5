use Rattle.zitiline.proofs.SaidLaws.{done_read, done_said, done_faultless, done_unrefused}
use Rattle.zitiline.proofs.laws.done_says_all.Goals as goal

pub returns : goal.returns
returns c = record { read = done_read; said = done_said; no_fault = done_faultless; no_refusal = done_unrefused }
