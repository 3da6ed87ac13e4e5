use Rattle.std.proofs.Common.{refl}
use Rattle.load_gen.proofs.SpelledLoads.{both_hold}
use Rattle.load_gen.proofs.making.circuit.Goals as goal

pub returns : goal.returns
returns c = record {
  drawn = rw (c.in_ok-identity.ensures.value, c.in_ok-service.ensures.value, c.in_ok-instance.ensures, c.drawn_name.ensures.left) refl;
  generator = rw (c.drawn_name-2.ensures.left, c.drawn_name.ensures.left) refl;
  spelled = rw c.in_ok-instance.ensures (both_hold _ _ c.in_ok-identity.ensures.form (both_hold _ _ c.in_ok-service.ensures.form refl));
}
