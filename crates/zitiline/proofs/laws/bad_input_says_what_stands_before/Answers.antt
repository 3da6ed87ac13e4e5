use Rattle.zitiline.proofs.SaidLaws.{bad_read, bad_said, bad_noted}
use Rattle.zitiline.proofs.laws.bad_input_says_what_stands_before.Goals as goal

pub returns : goal.returns
returns c = record { read = bad_read; said = bad_said; noted = bad_noted }
