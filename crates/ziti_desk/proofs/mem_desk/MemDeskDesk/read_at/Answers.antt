use Rattle.std.specs.Prelude.{nat_lt, length}
use Rattle.std.proofs.Common.{◌||◌, ◌+◌, ap, ◌∙◌, refl, sym, append-nil, List, ℕ}
use Rattle.desk_base.specs.MemEvents.{image_of}
use Rattle.desk_base.specs.Pieces.{is_listed}
use Rattle.ziti_desk.specs.DeskStops.{calls_of, limits_of}
use Rattle.ziti_desk.proofs.RoomSteps.{limits_none}
use Rattle.ziti_desk.proofs.mem_desk.MemDeskDesk.read_at.Goals as goal

pub returns-clause-fails : goal.returns-clause-fails
returns-clause-fails c =
    rw c.counted.ensures.answer (c.read_part-answer.ensures.fails
    ∙ ap (λ listed. listed || nat_lt (length (image_of c.args.self.now.held c.args.part)) (c.args.at + length c.args.buf.now)) (c.is_next_listed-fails.ensures.listed ∙ ap (λ (places : List ℕ). is_listed places c.args.self.now.calls) c.deref.ensures.value))

pub returns-clause-logs : goal.returns-clause-logs
returns-clause-logs c = record { first = refl; calls = sym (append-nil (calls_of c.args.self.now)) }

pub returns-clause-limits : goal.returns-clause-limits
returns-clause-limits c =
    let limits = limits_of c.args.self.now in
    limits_none limits.failing limits.part limits.said limits.noted limits.log c.args.self.now.calls c.is_next_listed-fails.ensures.counted
