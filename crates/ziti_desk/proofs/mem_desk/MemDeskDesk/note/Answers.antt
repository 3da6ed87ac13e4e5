use Rattle.std.specs.Prelude.{nat_lt, length}
use Rattle.std.proofs.Common.{◌||◌, ◌-◌, ap, ◌∙◌, refl, sym, append-nil, List, ℕ}
use Rattle.desk_base.specs.Pieces.{is_listed}
use Rattle.ziti_desk.specs.DeskStops.{calls_of, limits_of}
use Rattle.ziti_desk.proofs.RoomSteps.{failed_ap, limits_noted}
use Rattle.ziti_desk.proofs.mem_desk.MemDeskDesk.note.Goals as goal

pub returns-clause-fails : goal.returns-clause-fails
returns-clause-fails c =
    let desk = c.args.self.now in
    rw c.counted.ensures.answer (c.note_bytes-answer.ensures.fails
    ∙ ap (λ listed. listed || nat_lt (desk.room.noted_bytes - length desk.noted.items) (length c.args.bytes.now)) (c.is_next_listed-fails.ensures.listed ∙ ap (λ (places : List ℕ). is_listed places c.args.self.now.calls) c.deref.ensures.value))

pub returns-clause-logs : goal.returns-clause-logs
returns-clause-logs c = record { first = refl; calls = sym (append-nil (calls_of c.args.self.now)) }

pub returns-clause-limits : goal.returns-clause-limits
returns-clause-limits c =
    let desk = c.args.self.now in
    let limits = limits_of desk in
    rw c.counted.ensures.answer (limits_noted c.note_bytes-answer.result desk.noted.items c.note_bytes-answer.new.noted.items c.args.bytes.now limits.failing limits.part limits.said desk.room.noted_bytes limits.log
    c.args.self.now.calls c.is_next_listed-fails.ensures.counted c.note_bytes-answer.ensures.ok (failed_ap c.note_bytes-answer.result _ _ c.note_bytes-answer.ensures.err (λ noted. noted.items)))
