use Rattle.std.proofs.Common.{◌-◌, ◌^◌, ◌≡◌, vec_len}
use Rattle.ziti_outside.specs.Told.{Gave}
use Rattle.zitilook.proofs.intake.take_all.Given as goal

-- the bytes are what the source gave since the call began
abbrev pub invariant-takes : goal.invariant-takes
invariant-takes g l = record {
  gave : Gave (g.S.Source.left l.fn.source) (g.S.Source.left l.source) l.bytes.items;
  calm : g.S.Source.faults l.source ≡ g.S.Source.faults l.fn.source;
}

-- no vector is longer than its place in memory
abbrev pub decreases-takes : goal.decreases-takes
decreases-takes g l = 2 ^ 64 - vec_len l.bytes
