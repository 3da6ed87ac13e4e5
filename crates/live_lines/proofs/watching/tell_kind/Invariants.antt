use Rattle.std.proofs.Common.{◌-◌, ◌^◌, ◌≡◌, length}
use Rattle.ziti_outside.specs.Untouched.{OnlySays}
use Rattle.live_lines.proofs.WatchLaws.{Watches}
use Rattle.live_lines.proofs.watching.tell_kind.Given as goal

-- what came was told and said, each take found it so, and nothing else changed
abbrev pub invariant-takes : goal.invariant-takes
invariant-takes g l = record {
  room : length l.piece ≡ 65536;
  watches : Watches g.K.LineKind.reading g.S.Source.left g.D.Desk.seen l.fn.exchange l.exchange l.telling;
  calm : g.S.Source.faults l.exchange.source ≡ g.S.Source.faults l.fn.exchange.source;
  calm_say : (g.D.Desk.seen l.exchange.desk).say_faults ≡ (g.D.Desk.seen l.fn.exchange.desk).say_faults;
  others : OnlySays g.D.Desk.seen g.D.Desk.stopped l.fn.exchange.desk l.exchange.desk;
}

abbrev pub decreases-takes : goal.decreases-takes
decreases-takes g l = 2 ^ 64 - l.turns
