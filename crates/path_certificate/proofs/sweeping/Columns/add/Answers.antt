use Rattle.std.proofs.Common.{◌≡◌, ◌≤◌, ◌<◌, ◌+◌, ◌↔◌, ℕ, length, take, set, ap, subst, get_or, arith}
use Rattle.std.proofs.lemmas.List.{length-take}
use Rattle.bit_lanes.specs.Lanes.{Sweeps, together}
use Rattle.path_certificate.specs.Columns.{ColumnsSeen, Hold}
use Rattle.path_certificate.proofs.SweptSteps.{swept_more}
use Rattle.path_certificate.proofs.sweeping.Columns.add.Goals as goal

pub returns : goal.returns
returns c =
    let place = c.self.inside.filled in
    let start = get_or c.args.potentials.now c.args.step.now.from 0 in
    let end = get_or c.args.potentials.now c.args.step.now.to 0 in
    let seen : length (take place c.self.inside.starts) ≡ length c.args.self.now.starts = ap (λ (v : ColumnsSeen). length v.starts) c.self.view_is in
    let cut = length-take place c.self.inside.starts in
    let room = c.requires.room in
    let few : place < 64 = omega (arith, c.self.told.0) in
    let more = swept_more place c.self.inside.starts c.self.inside.costs c.self.inside.ends start c.from.result end
    (omega (arith, c.self.told.0)) (omega (arith, c.self.told.1)) (omega (arith, c.self.told.2)) in
    subst (λ (v : ColumnsSeen). Sweeps (take (place + 1) (set c.self.inside.starts place start)) (take (place + 1) (set c.self.inside.costs place c.from.result)) (take (place + 1) (set c.self.inside.ends place end))
    ↔ (Hold v × (start ≤ together c.args.step.now.cost end))) c.self.view_is
    (subst (λ (n : ℕ). Sweeps (take (place + 1) (set c.self.inside.starts place start)) (take (place + 1) (set c.self.inside.costs place c.from.result)) (take (place + 1) (set c.self.inside.ends place end))
    ↔ (Sweeps (take place c.self.inside.starts) (take place c.self.inside.costs) (take place c.self.inside.ends) × (start ≤ together n end))) c.from.ensures more)
