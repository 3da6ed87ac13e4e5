use Rattle.std.specs.Prelude.{nat_lt, length}
use Rattle.std.proofs.Common.{◌||◌, ◌-◌, ap, ◌∙◌, refl, List, ℕ}
use Rattle.desk_base.specs.MemEvents.{image_of}
use Rattle.desk_base.specs.Pieces.{is_listed}
use Rattle.ziti_desk.specs.DeskStops.{limits_of}
use Rattle.ziti_desk.proofs.MemSteps.{say_outcome}
use Rattle.ziti_desk.proofs.RoomSteps.{say_logs, limits_said}
use Rattle.ziti_desk.proofs.mem_desk.MemDeskDesk.say.Goals as goal

pub invariant_of-self : goal.invariant_of-self
invariant_of-self c = let outcome = say_outcome c.say_bytes-answer.result _ c.args.self.now.held c.args.self.now.log c.say_bytes-answer.new.log c.args.self.now.said.items c.say_bytes-answer.new.said.items c.args.bytes.now c.args.self.now.replayed c.say_bytes-answer.ensures.ok c.say_bytes-answer.ensures.err in record {
  replayed = outcome.replayed;
  parts_fit = c.args.self.now.parts_fit;
  said_fit = c.say_bytes-answer.ensures.capacity;
  noted_fit = c.args.self.now.noted_fit;
}

pub returns-clause-others : goal.returns-clause-others
returns-clause-others c =
    let outcome = say_outcome c.say_bytes-answer.result _ c.args.self.now.held c.args.self.now.log c.say_bytes-answer.new.log c.args.self.now.said.items c.say_bytes-answer.new.said.items c.args.bytes.now c.args.self.now.replayed c.say_bytes-answer.ensures.ok c.say_bytes-answer.ensures.err in
    record { notes = refl; failed_notes = refl; parts = refl; found = outcome.found; failed_calls = refl }

pub returns-clause-stops : goal.returns-clause-stops
returns-clause-stops c = let outcome = say_outcome c.say_bytes-answer.result _ c.args.self.now.held c.args.self.now.log c.say_bytes-answer.new.log c.args.self.now.said.items c.say_bytes-answer.new.said.items c.args.bytes.now c.args.self.now.replayed c.say_bytes-answer.ensures.ok c.say_bytes-answer.ensures.err in outcome.time

pub returns-clause-remembers : goal.returns-clause-remembers
returns-clause-remembers c = let outcome = say_outcome c.say_bytes-answer.result _ c.args.self.now.held c.args.self.now.log c.say_bytes-answer.new.log c.args.self.now.said.items c.say_bytes-answer.new.said.items c.args.bytes.now c.args.self.now.replayed c.say_bytes-answer.ensures.ok c.say_bytes-answer.ensures.err in outcome.remembers

pub returns-clause-fails : goal.returns-clause-fails
returns-clause-fails c =
    let desk = c.args.self.now in
    rw c.counted.ensures.answer (c.say_bytes-answer.ensures.fails
    ∙ ap (λ listed. listed || (nat_lt (desk.room.said_bytes - length desk.said.items) (length c.args.bytes.now) || nat_lt desk.log.room 32)) (c.is_next_listed-fails.ensures.listed ∙ ap (λ (places : List ℕ). is_listed places c.args.self.now.calls) c.deref.ensures.value))

pub returns-clause-logs : goal.returns-clause-logs
returns-clause-logs c =
    let desk = c.args.self.now in
    record {
      first = refl;
      calls = rw c.counted.ensures.answer (say_logs c.say_bytes-answer.result (image_of desk.first) (image_of desk.held) desk.log c.say_bytes-answer.new.log desk.said.items c.say_bytes-answer.new.said.items
          c.args.bytes.now desk.replayed c.say_bytes-answer.ensures.ok c.say_bytes-answer.ensures.err);
    }

pub returns-clause-limits : goal.returns-clause-limits
returns-clause-limits c =
    let desk = c.args.self.now in
    let limits = limits_of desk in
    rw c.counted.ensures.answer (limits_said c.say_bytes-answer.result desk.log c.say_bytes-answer.new.log desk.said.items c.say_bytes-answer.new.said.items c.args.bytes.now limits.failing limits.part desk.room.said_bytes limits.noted
    c.args.self.now.calls c.is_next_listed-fails.ensures.counted c.say_bytes-answer.ensures.ok c.say_bytes-answer.ensures.room c.say_bytes-answer.ensures.err)
