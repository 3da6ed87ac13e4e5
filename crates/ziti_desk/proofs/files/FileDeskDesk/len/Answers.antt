use Rattle.std.proofs.Common.{refl}
use Rattle.ziti_desk.proofs.StageSteps.{drive_outcome}
use Rattle.ziti_desk.proofs.files.FileDeskDesk.len.Goals as goal

pub returns-clause-stops : goal.returns-clause-stops
returns-clause-stops g c =
    let outcome = drive_outcome g.O.Outlet.contents g.met.F.Drive.counts_now g.met.F.Drive.only_now c.and-self.ensures c.len.ensures.stops (λ i m. m) in
    record { time = outcome.time; found = c.len.ensures.stops.found; quiet = refl }

pub returns-clause-remembers : goal.returns-clause-remembers
returns-clause-remembers g c =
    let outcome = drive_outcome g.O.Outlet.contents g.met.F.Drive.counts_now g.met.F.Drive.only_now c.and-self.ensures c.len.ensures.stops (λ i m. m) in outcome.remembers
