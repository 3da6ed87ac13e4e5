use Rattle.std.proofs.Common.{drop, take}
use Rattle.desk_base.specs.MemEvents.{image_of, events}
use Rattle.desk_base.specs.StopPoints.{Reached}
use Rattle.desk_base.specs.KeptSteps.{KeptSoFar}
use Rattle.desk_base.proofs.stopping.stop_at.Given as goal

-- the stop is behind so many calls with so much kept of them, and the others are still to come
abbrev pub invariant-calls : goal.invariant-calls
invariant-calls l =
    Reached (image_of l.fn.first) (events l.fn.log.calls.items l.fn.said l.fn.log.written.items) (events (drop l.index l.fn.log.calls.items) l.said l.written) l.index (image_of l.stop.reads) (image_of l.stop.image) l.stop.taken.items
    × KeptSoFar (image_of l.fn.first) (take l.index (events l.fn.log.calls.items l.fn.said l.fn.log.written.items)) l.fn.keeping l.keeping (image_of l.stop.image)
