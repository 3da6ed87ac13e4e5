use Rattle.std.proofs.Common.{ap, ◌∙◌, refl, length, List, ℕ}
use Rattle.desk_base.specs.MemEvents.{image_of}
use Rattle.desk_base.specs.MemRoom.{is_over_part}
use Rattle.desk_base.specs.Pieces.{is_listed}
use Rattle.ziti_desk.specs.DeskStops.{limits_of}
use Rattle.ziti_desk.proofs.MemSteps.{write_outcome, write_elsewhere, write_torn, written_holds}
use Rattle.ziti_desk.proofs.RoomSteps.{write_logs, limits_pending, pends_listed}
use Rattle.ziti_desk.proofs.mem_desk.MemDeskDesk.write_at.Goals as goal

pub invariant_of-self : goal.invariant_of-self
invariant_of-self c = let outcome = write_outcome c.write_part-answer.result _ c.args.self.now.held c.write_part-answer.new.held c.args.self.now.log c.write_part-answer.new.log c.args.self.now.said.items c.args.part c.args.at c.args.bytes.now c.args.self.now.replayed c.write_part-answer.ensures.ok c.write_part-answer.ensures.err in record {
  replayed = outcome.replayed;
  parts_fit = c.write_part-answer.ensures.room;
  said_fit = c.args.self.now.said_fit;
  noted_fit = c.args.self.now.noted_fit;
}

pub returns-clause-written : goal.returns-clause-written
returns-clause-written c =
    rw c.counted.ensures.answer (written_holds c.write_part-answer.result c.args.self.now.held c.write_part-answer.new.held c.args.self.now.log c.write_part-answer.new.log c.args.part c.args.at c.args.bytes.now c.write_part-answer.ensures.ok)

pub returns-clause-torn : goal.returns-clause-torn
returns-clause-torn c =
    rw c.counted.ensures.answer (write_torn c.write_part-answer.result c.args.self.now.held c.write_part-answer.new.held c.args.self.now.log c.write_part-answer.new.log c.args.part c.args.at c.args.bytes.now c.write_part-answer.ensures.err)

pub returns-clause-elsewhere : goal.returns-clause-elsewhere
returns-clause-elsewhere c =
    write_elsewhere c.write_part-answer.result c.args.self.now.held c.write_part-answer.new.held c.args.self.now.log c.write_part-answer.new.log c.args.part c.args.at c.args.bytes.now c.write_part-answer.ensures.ok c.write_part-answer.ensures.err

pub returns-clause-stops : goal.returns-clause-stops
returns-clause-stops c = let outcome = write_outcome c.write_part-answer.result _ c.args.self.now.held c.write_part-answer.new.held c.args.self.now.log c.write_part-answer.new.log c.args.self.now.said.items c.args.part c.args.at c.args.bytes.now c.args.self.now.replayed c.write_part-answer.ensures.ok c.write_part-answer.ensures.err in record { time = outcome.time; found = outcome.found; quiet = refl }

pub returns-clause-remembers : goal.returns-clause-remembers
returns-clause-remembers c = let outcome = write_outcome c.write_part-answer.result _ c.args.self.now.held c.write_part-answer.new.held c.args.self.now.log c.write_part-answer.new.log c.args.self.now.said.items c.args.part c.args.at c.args.bytes.now c.args.self.now.replayed c.write_part-answer.ensures.ok c.write_part-answer.ensures.err in outcome.remembers

pub returns-clause-fails : goal.returns-clause-fails
returns-clause-fails c =
    rw c.counted.ensures.answer (pends_listed (c.is_next_listed-fails.ensures.listed ∙ ap (λ (places : List ℕ). is_listed places c.args.self.now.calls) c.deref.ensures.value) c.write_part-answer.ensures.logs).failed

pub returns-clause-logs : goal.returns-clause-logs
returns-clause-logs c =
    let desk = c.args.self.now in
    record {
      first = refl;
      calls = write_logs (is_over_part (limits_of desk) (length (image_of desk.held c.args.part)) c.args.at (length c.args.bytes.now)) _ (image_of desk.first) (image_of desk.held) desk.log c.write_part-answer.new.log desk.said.items c.args.part c.args.at c.args.bytes.now
          desk.replayed (pends_listed (c.is_next_listed-fails.ensures.listed ∙ ap (λ (places : List ℕ). is_listed places c.args.self.now.calls) c.deref.ensures.value) c.write_part-answer.ensures.logs);
    }

pub returns-clause-limits : goal.returns-clause-limits
returns-clause-limits c =
    let desk = c.args.self.now in
    let limits = limits_of desk in
    limits_pending (is_over_part limits (length (image_of desk.held c.args.part)) c.args.at (length c.args.bytes.now)) desk.log c.write_part-answer.new.log limits.failing limits.part limits.said limits.noted
    c.args.self.now.calls c.is_next_listed-fails.ensures.counted c.write_part-answer.ensures.logs
