use Rattle.ship_frames.proofs.ReadingLaws.{first_read, long_unread}
use Rattle.ship_frames.proofs.worked.worked_readings.Goals as goal

pub returns-clause-first : goal.returns-clause-first
returns-clause-first c = first_read

pub returns-clause-too_long : goal.returns-clause-too_long
returns-clause-too_long c = long_unread
