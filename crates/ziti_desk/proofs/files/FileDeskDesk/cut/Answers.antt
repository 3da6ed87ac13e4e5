use Rattle.std.proofs.Common.{refl}
use Rattle.desk_base.specs.MemStops.{uncut}
use Rattle.ziti_desk.proofs.StageSteps.{drive_outcome}
use Rattle.ziti_desk.proofs.files.FileDeskDesk.cut.Goals as goal

pub returns-clause-stops : goal.returns-clause-stops
returns-clause-stops g c =
    let outcome = drive_outcome g.O.Outlet.contents g.met.F.Drive.counts_now g.met.F.Drive.only_now c.and-self.ensures c.cut.ensures.stops (uncut c.args.part c.args.len) in
    record { time = outcome.time; found = c.cut.ensures.stops.found; quiet = refl }

pub returns-clause-remembers : goal.returns-clause-remembers
returns-clause-remembers g c =
    let outcome = drive_outcome g.O.Outlet.contents g.met.F.Drive.counts_now g.met.F.Drive.only_now c.and-self.ensures c.cut.ensures.stops (uncut c.args.part c.args.len) in outcome.remembers
