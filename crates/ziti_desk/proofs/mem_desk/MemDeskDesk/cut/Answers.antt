use Rattle.std.proofs.Common.{refl, List, ℕ, ap, ◌∙◌}
use Rattle.desk_base.specs.MemEvents.{image_of}
use Rattle.desk_base.specs.MemRoom.{is_logged_out}
use Rattle.desk_base.specs.Pieces.{is_listed}
use Rattle.ziti_desk.specs.DeskStops.{limits_of}
use Rattle.ziti_desk.proofs.MemSteps.{cut_outcome, cut_elsewhere, cut_holds, cut_torn}
use Rattle.ziti_desk.proofs.RoomSteps.{cut_logs, limits_pending, pends_listed}
use Rattle.ziti_desk.proofs.mem_desk.MemDeskDesk.cut.Goals as goal

pub invariant_of-self : goal.invariant_of-self
invariant_of-self c = let outcome = cut_outcome c.cut_part-answer.result _ c.args.self.now.held c.cut_part-answer.new.held c.args.self.now.log c.cut_part-answer.new.log c.args.self.now.said.items c.args.part c.args.len c.args.self.now.replayed c.cut_part-answer.ensures.ok c.cut_part-answer.ensures.err in record {
  replayed = outcome.replayed;
  parts_fit = c.cut_part-answer.ensures.room c.args.self.now.room.file_bytes c.args.self.now.parts_fit;
  said_fit = c.args.self.now.said_fit;
  noted_fit = c.args.self.now.noted_fit;
}

pub returns-clause-cut : goal.returns-clause-cut
returns-clause-cut c =
    rw c.counted.ensures.answer (cut_holds c.cut_part-answer.result c.args.self.now.held c.cut_part-answer.new.held c.args.self.now.log c.cut_part-answer.new.log c.args.part c.args.len c.cut_part-answer.ensures.ok)

pub returns-clause-cut_short : goal.returns-clause-cut_short
returns-clause-cut_short c =
    rw c.counted.ensures.answer (cut_torn c.cut_part-answer.result c.args.self.now.held c.cut_part-answer.new.held c.args.self.now.log c.cut_part-answer.new.log c.args.part c.args.len c.cut_part-answer.ensures.err)

pub returns-clause-elsewhere : goal.returns-clause-elsewhere
returns-clause-elsewhere c =
    cut_elsewhere c.cut_part-answer.result c.args.self.now.held c.cut_part-answer.new.held c.args.self.now.log c.cut_part-answer.new.log c.args.part c.args.len c.cut_part-answer.ensures.ok c.cut_part-answer.ensures.err

pub returns-clause-stops : goal.returns-clause-stops
returns-clause-stops c = let outcome = cut_outcome c.cut_part-answer.result _ c.args.self.now.held c.cut_part-answer.new.held c.args.self.now.log c.cut_part-answer.new.log c.args.self.now.said.items c.args.part c.args.len c.args.self.now.replayed c.cut_part-answer.ensures.ok c.cut_part-answer.ensures.err in record { time = outcome.time; found = outcome.found; quiet = refl }

pub returns-clause-remembers : goal.returns-clause-remembers
returns-clause-remembers c = let outcome = cut_outcome c.cut_part-answer.result _ c.args.self.now.held c.cut_part-answer.new.held c.args.self.now.log c.cut_part-answer.new.log c.args.self.now.said.items c.args.part c.args.len c.args.self.now.replayed c.cut_part-answer.ensures.ok c.cut_part-answer.ensures.err in outcome.remembers

pub returns-clause-fails : goal.returns-clause-fails
returns-clause-fails c =
    rw c.counted.ensures.answer (pends_listed (c.is_next_listed-fails.ensures.listed ∙ ap (λ (places : List ℕ). is_listed places c.args.self.now.calls) c.deref.ensures.value) c.cut_part-answer.ensures.logs).failed

pub returns-clause-logs : goal.returns-clause-logs
returns-clause-logs c =
    let desk = c.args.self.now in
    record {
      first = refl;
      calls = cut_logs (is_logged_out (limits_of desk) 0) _ (image_of desk.first) (image_of desk.held) desk.log c.cut_part-answer.new.log desk.said.items c.args.part c.args.len
          desk.replayed (pends_listed (c.is_next_listed-fails.ensures.listed ∙ ap (λ (places : List ℕ). is_listed places c.args.self.now.calls) c.deref.ensures.value) c.cut_part-answer.ensures.logs);
    }

pub returns-clause-limits : goal.returns-clause-limits
returns-clause-limits c =
    let desk = c.args.self.now in
    let limits = limits_of desk in
    limits_pending (is_logged_out limits 0) desk.log c.cut_part-answer.new.log limits.failing limits.part limits.said limits.noted
    c.args.self.now.calls c.is_next_listed-fails.ensures.counted c.cut_part-answer.ensures.logs
