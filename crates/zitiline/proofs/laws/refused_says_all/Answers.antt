use Rattle.zitiline.proofs.SaidLaws.{refused_read, refused_said, refused_faultless, refused_is}
use Rattle.zitiline.proofs.laws.refused_says_all.Goals as goal

pub returns : goal.returns
returns c = record { read = refused_read; said = refused_said; no_fault = refused_faultless; refusal = refused_is }
