use Rattle.std.proofs.Common.{refl}
use Rattle.load_gen.proofs.making.disconnection.Goals as goal

pub returns : goal.returns
returns c = record {
  drawn = rw c.in_ok-name.ensures.value refl;
  generator = rw c.drawn_name.ensures.left refl;
  spelled = c.in_ok-name.ensures.form;
}
