use Rattle.ziti_desk.proofs.StageSteps.{finds_of_leaves}
use Rattle.ziti_desk.proofs.mem_drive.MemDeskDrive.cut.Goals as goal

pub returns-clause-stops : goal.returns-clause-stops
returns-clause-stops c = finds_of_leaves c.cut.ensures.stops c.cut.ensures.remembers
