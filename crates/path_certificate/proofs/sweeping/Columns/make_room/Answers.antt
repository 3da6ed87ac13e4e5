use Rattle.std.proofs.Common.{◌↔◌, [], arith}
use Rattle.std.proofs.lemmas.Bool.{OnTrue_from}
use Rattle.bit_lanes.specs.Lanes.{Sweeps}
use Rattle.path_certificate.specs.Columns.{Hold}
use Rattle.path_certificate.proofs.sweeping.Columns.make_room.Goals as goal

pub returns-clause-same : goal.returns-clause-same
returns-clause-same c =
    OnTrue_from c.hold-holds.result (Sweeps [] [] [] ↔ Hold c.args.self.now) (λ told. (λ empty. c.hold-holds.ensures.0 told, λ full n place. absurd (omega arith)))
