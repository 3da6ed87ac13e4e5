use Rattle.std.specs.Prelude.{nat_lt}
use Rattle.std.proofs.Common.{◌||◌, ap, ◌∙◌, refl, List, ℕ}
use Rattle.desk_base.specs.MemEvents.{image_of}
use Rattle.desk_base.specs.Pieces.{is_listed}
use Rattle.ziti_desk.specs.DeskStops.{limits_of}
use Rattle.ziti_desk.proofs.MemSteps.{sync_outcome, sync_stable}
use Rattle.ziti_desk.proofs.RoomSteps.{sync_logs, limits_synced}
use Rattle.ziti_desk.proofs.mem_desk.MemDeskDesk.sync.Goals as goal

pub invariant_of-self : goal.invariant_of-self
invariant_of-self c = let outcome = sync_outcome c.sync_part-answer.result _ c.args.self.now.held c.args.self.now.log c.sync_part-answer.new.log c.args.self.now.said.items c.args.part c.args.self.now.replayed c.sync_part-answer.ensures.ok c.sync_part-answer.ensures.err in record {
  replayed = outcome.replayed;
  parts_fit = c.args.self.now.parts_fit;
  said_fit = c.args.self.now.said_fit;
  noted_fit = c.args.self.now.noted_fit;
}

pub returns-clause-stable : goal.returns-clause-stable
returns-clause-stable c =
    rw c.counted.ensures.answer (sync_stable c.sync_part-answer.result _ c.args.self.now.held c.args.self.now.log c.sync_part-answer.new.log c.args.self.now.said.items c.args.part c.args.self.now.replayed c.sync_part-answer.ensures.ok)

pub returns-clause-stops : goal.returns-clause-stops
returns-clause-stops c = let outcome = sync_outcome c.sync_part-answer.result _ c.args.self.now.held c.args.self.now.log c.sync_part-answer.new.log c.args.self.now.said.items c.args.part c.args.self.now.replayed c.sync_part-answer.ensures.ok c.sync_part-answer.ensures.err in record { time = outcome.time; found = outcome.found; quiet = refl }

pub returns-clause-remembers : goal.returns-clause-remembers
returns-clause-remembers c = let outcome = sync_outcome c.sync_part-answer.result _ c.args.self.now.held c.args.self.now.log c.sync_part-answer.new.log c.args.self.now.said.items c.args.part c.args.self.now.replayed c.sync_part-answer.ensures.ok c.sync_part-answer.ensures.err in outcome.remembers

pub returns-clause-fails : goal.returns-clause-fails
returns-clause-fails c =
    rw c.counted.ensures.answer (c.sync_part-answer.ensures.fails ∙ ap (λ listed. listed || nat_lt c.args.self.now.log.room 32) (c.is_next_listed-fails.ensures.listed ∙ ap (λ (places : List ℕ). is_listed places c.args.self.now.calls) c.deref.ensures.value))

pub returns-clause-logs : goal.returns-clause-logs
returns-clause-logs c =
    let desk = c.args.self.now in
    record {
      first = refl;
      calls = rw c.counted.ensures.answer (sync_logs c.sync_part-answer.result (image_of desk.first) (image_of desk.held) desk.log c.sync_part-answer.new.log desk.said.items c.args.part
          desk.replayed c.sync_part-answer.ensures.ok c.sync_part-answer.ensures.err);
    }

pub returns-clause-limits : goal.returns-clause-limits
returns-clause-limits c =
    let desk = c.args.self.now in
    let limits = limits_of desk in
    rw c.counted.ensures.answer (limits_synced c.sync_part-answer.result desk.log c.sync_part-answer.new.log limits.failing limits.part limits.said limits.noted
    c.args.self.now.calls c.is_next_listed-fails.ensures.counted c.sync_part-answer.ensures.room c.sync_part-answer.ensures.err)
