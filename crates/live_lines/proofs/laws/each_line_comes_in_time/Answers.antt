use Rattle.live_lines.proofs.WatchLaws.{said_by_then}
use Rattle.live_lines.proofs.laws.each_line_comes_in_time.Goals as goal

pub returns : goal.returns
returns c = said_by_then
