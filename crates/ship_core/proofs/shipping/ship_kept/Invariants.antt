use Rattle.std.proofs.Common.{◌≡◌, ◌-◌, ◌%◌, ◌^◌, IsTrue, List, length, None}
use Rattle.channel_frame.specs.declared.frames.Frame.{Frame}
use Rattle.ship_core.specs.Steps.{ShipsFrames, IsOnItsWay, HasRead}
use Rattle.ship_core.proofs.shipping.ship_kept.Given as goal

-- some frames were said, those of the batches that were read; and of a told folder they are those of the records before the next gate
abbrev pub invariant-records : goal.invariant-records
invariant-records g l = record {
  frames : List Frame;
  ships : ShipsFrames g.D.Desk.seen g.D.Desk.stopped l.fn.desk l.desk None frames;
  sequence : l.way.sequence ≡ length frames % 2 ^ 32;
  read : HasRead l.from l.way frames;
  told : IsTrue g.D.Desk.tells → IsOnItsWay (g.D.Desk.seen l.fn.desk).reads l.from l.way frames;
}

abbrev pub decreases-records : goal.decreases-records
decreases-records g l = l.end - l.way.at
