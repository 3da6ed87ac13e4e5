use Rattle.dump_laws.proofs.SaidTexts.{dump_faultless, dump_read_back, each_said}
use Rattle.dump_laws.proofs.laws.a_dump_is_read_back.Goals as goal

pub returns : goal.returns
returns c = record { frames = dump_read_back; faultless = dump_faultless; all_said = each_said }
