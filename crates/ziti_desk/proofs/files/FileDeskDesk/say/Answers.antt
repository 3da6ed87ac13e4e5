use Rattle.ziti_desk.proofs.StageSteps.{say_outcome}
use Rattle.ziti_desk.proofs.files.FileDeskDesk.say.Goals as goal

pub returns-clause-stops : goal.returns-clause-stops
returns-clause-stops g c =
    let outcome = say_outcome c.write_whole.result g.F.Drive.moment g.F.Drive.since g.F.Drive.may_leave g.O.Outlet.contents c.args.self.now.history.items c.and-self.result.items c.args.self.now.folder c.args.self.now.replies c.write_whole.new.outlet
    c.args.bytes.now g.met.F.Drive.counts_now g.met.F.Drive.only_now c.and-self.ensures c.write_whole.ensures.written in
    outcome.time

pub returns-clause-remembers : goal.returns-clause-remembers
returns-clause-remembers g c =
    let outcome = say_outcome c.write_whole.result g.F.Drive.moment g.F.Drive.since g.F.Drive.may_leave g.O.Outlet.contents c.args.self.now.history.items c.and-self.result.items c.args.self.now.folder c.args.self.now.replies c.write_whole.new.outlet
    c.args.bytes.now g.met.F.Drive.counts_now g.met.F.Drive.only_now c.and-self.ensures c.write_whole.ensures.written in
    outcome.remembers
