use Rattle.std.proofs.Common.{◌↔◌, length, sym, ap, subst}
use Rattle.ziti_outside.specs.Moments.{Now}
use Rattle.ziti_desk.specs.Stages.{StopsWithin, PairsFrom}
use Rattle.ziti_desk.proofs.files.FileDesk.new.Goals as goal

pub returns-clause-moment : goal.returns-clause-moment
returns-clause-moment g c = ap length c.new.ensures

pub returns-clause-images : goal.returns-clause-images
returns-clause-images g c = λ image. (λ found. found, λ found. found)

pub returns-clause-since : goal.returns-clause-since
returns-clause-since g c = λ time image taken.
    subst (λ stages. PairsFrom (StopsWithin g.F.Drive.moment g.F.Drive.since g.O.Outlet.contents) (λ stage. Now (g.F.Drive.may_leave stage.0) (g.O.Outlet.contents stage.1)) stages (c.args.folder, c.args.replies) time image taken
    ↔ Now (g.F.Drive.may_leave c.args.folder) (g.O.Outlet.contents c.args.replies) image taken) (sym c.new.ensures) (λ pair. pair, λ pair. pair)
