use Rattle.std.proofs.Common.{refl, length}
use Rattle.desk_base.specs.MemStops.{unwritten}
use Rattle.ziti_desk.proofs.StageSteps.{drive_outcome}
use Rattle.ziti_desk.proofs.files.FileDeskDesk.write_at.Goals as goal

pub returns-clause-stops : goal.returns-clause-stops
returns-clause-stops g c =
    let outcome = drive_outcome g.O.Outlet.contents g.met.F.Drive.counts_now g.met.F.Drive.only_now c.and-self.ensures c.write_at.ensures.stops (unwritten c.args.part c.args.at (length c.args.bytes.now)) in
    record { time = outcome.time; found = c.write_at.ensures.stops.found; quiet = refl }

pub returns-clause-remembers : goal.returns-clause-remembers
returns-clause-remembers g c =
    let outcome = drive_outcome g.O.Outlet.contents g.met.F.Drive.counts_now g.met.F.Drive.only_now c.and-self.ensures c.write_at.ensures.stops (unwritten c.args.part c.args.at (length c.args.bytes.now)) in outcome.remembers
