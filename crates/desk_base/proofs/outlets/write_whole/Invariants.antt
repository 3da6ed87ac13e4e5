use Rattle.std.proofs.Common.{◌≡◌, ◌++◌, List, ℕ, length}
use Rattle.std.specs.Io.KnownBytes.{Appends}
use Rattle.desk_base.proofs.outlets.write_whole.Given as goal

-- what was written so far and the rest are the bytes, and no piece failed
abbrev pub invariant-pieces : goal.invariant-pieces
invariant-pieces g l = record {
  written : List ℕ;
  same : written ++ l.rest ≡ l.bytes;
  appended : Appends (g.O.Outlet.contents l.fn.outlet) (g.O.Outlet.contents l.outlet) written;
  calm : g.O.Outlet.failures l.outlet ≡ g.O.Outlet.failures l.fn.outlet;
}

abbrev pub decreases-pieces : goal.decreases-pieces
decreases-pieces g l = length l.rest
