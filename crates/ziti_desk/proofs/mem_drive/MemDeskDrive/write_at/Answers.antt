use Rattle.ziti_desk.proofs.StageSteps.{finds_of_leaves}
use Rattle.ziti_desk.proofs.mem_drive.MemDeskDrive.write_at.Goals as goal

pub returns-clause-stops : goal.returns-clause-stops
returns-clause-stops c = finds_of_leaves c.write_at.ensures.stops c.write_at.ensures.remembers
