use Rattle.std.proofs.Common.{◌≡◌, true, subst}
use Rattle.row_codec.specs.declared.rows.Row.{Row}
use Rattle.state_building.specs.BuiltStates.{state_in}
use Rattle.dump_lines.specs.Dumps.{are_spelled}
use Rattle.dump_lines.specs.RowDumps.{use_making}
use Rattle.dump_lines.proofs.FitRows.{first_spelled}
use Rattle.dump_lines.proofs.row_making.put_use.Goals as goal

pub put_link-requires : goal.put_link-requires
put_link-requires c = subst (λ (x : Row). are_spelled (use_making (state_in c.args.rows.now) x) ≡ true) c.in-Link.is c.requires

pub put_terminator-requires : goal.put_terminator-requires
put_terminator-requires c = subst (λ (x : Row). are_spelled (use_making (state_in c.args.rows.now) x) ≡ true) c.in-Terminator.is c.requires

pub put_intercept-requires : goal.put_intercept-requires
put_intercept-requires c = subst (λ (x : Row). are_spelled (use_making (state_in c.args.rows.now) x) ≡ true) c.in-Intercept.is c.requires
