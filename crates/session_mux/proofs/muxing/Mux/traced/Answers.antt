use Rattle.std.proofs.Common.{List, length, refl, sym, ap, subst, arith}
use Rattle.session_mux.specs.declared.sessions.Session.{Session}
use Rattle.session_mux.specs.declared.sessions.Form.TheVariants.{Trace}
use Rattle.session_mux.proofs.StepLaws.{not_plain}
use Rattle.session_mux.proofs.TableLaws.{AtMost, at_most_start}
use Rattle.session_mux.proofs.muxing.Mux.traced.Goals as goal

pub invariant_of-result : goal.invariant_of-result
invariant_of-result c = (
  omega (arith, ap length c.new-2.ensures),
  subst (λ (xs : List Session). AtMost xs 0) (sym c.in_ok-sessions.ensures) (at_most_start 256 0),
  not_plain Trace refl,
)
