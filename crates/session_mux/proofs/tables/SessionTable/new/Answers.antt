use Rattle.std.proofs.Common.{length, sym, ap, subst}
use Rattle.session_mux.specs.SessionSteps.{IsQuietBut}
use Rattle.session_mux.proofs.TableLaws.{unopened_quiet}
use Rattle.session_mux.proofs.tables.SessionTable.new.Goals as goal

pub invariant_of-result : goal.invariant_of-result
invariant_of-result c = (ap length c.in_ok-all.ensures, subst (IsQuietBut 0) (sym c.in_ok-all.ensures) (unopened_quiet 256 0))
