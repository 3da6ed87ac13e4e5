-- A desk over memory as its contracts see it: its calls so far, its list and its room, and what a stop of it at one moment may leave
-- (docs/PROMISES.md, "The desks").
use Rattle.std.specs.Prelude.{◌≡◌, ℕ, ◌-◌, List, [], ◌++◌, length, Some}
use Rattle.ziti_outside.specs.Images.{Image}
use Rattle.ziti_outside.specs.Views.{Seen, Stopped}
use Rattle.ziti_desk.specs.declared.mem_desk.MemDesk.{MemDesk}
use Rattle.desk_base.specs.MemEvents.{Event, image_of, logged, stopped_by}
use Rattle.desk_base.specs.MemRoom.{Limits}
use Rattle.desk_base.specs.StopPoints.{PairsAt, KeepsNothing, KeepsAll}

-- The parts that it had at first.
abbrev pub first_of : MemDesk → Image
first_of desk = image_of desk.first

-- The calls that it logged: those that matter to a stop.
abbrev pub calls_of : MemDesk → List Event
calls_of desk = logged desk.log desk.said.items

-- Its list and its room.
abbrev pub limits_of : MemDesk → Limits
limits_of desk = record {
  failing = desk.failing.items;
  calls = desk.calls;
  part = desk.room.file_bytes;
  said = desk.room.said_bytes - length desk.said.items;
  noted = desk.room.noted_bytes - length desk.noted.items;
  log = desk.log.room;
}

-- What is seen of it.
abbrev pub seen_of : MemDesk → Seen
seen_of desk = record {
  said = Some desk.said.items;
  noted = Some desk.noted.items;
  say_faults = desk.say_faults;
  note_faults = desk.note_faults;
  disk_faults = desk.disk_faults;
  reads = image_of desk.held;
}

-- What a stop may leave of it: what its calls so far leave of the parts that it had at first.
abbrev pub stopped_of : MemDesk → Stopped
stopped_of desk = stopped_by (first_of desk) (calls_of desk)

-- A call was logged so: the calls before it stay, and these came behind them.
pub record Logs (old new : MemDesk) (more : List Event) : Type 0 where
  pub first : first_of new ≡ first_of old
  pub calls : calls_of new ≡ calls_of old ++ more

-- The pairs of an image and the replies at that moment.
abbrev pub StopsAt : MemDesk → ℕ → Image → List ℕ → Type 0
StopsAt desk moment image taken = PairsAt (first_of desk) (λ i. i ≡ first_of desk) [] (calls_of desk) moment image taken

-- Of them the one that keeps nothing of what is pending then.
abbrev pub KeepsNothingAt : MemDesk → ℕ → Image → List ℕ → Type 0
KeepsNothingAt desk moment image taken = KeepsNothing (first_of desk) (calls_of desk) moment image taken

-- And the one that keeps all of it.
abbrev pub KeepsAllAt : MemDesk → ℕ → Image → List ℕ → Type 0
KeepsAllAt desk moment image taken = KeepsAll (first_of desk) (calls_of desk) moment image taken
