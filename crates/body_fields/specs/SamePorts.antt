-- Ranges of ports that are the same are equal.
use Rattle.std.proofs.Common.{◌≡◌, ◌==◌, true, eqb-true}
use Rattle.std.proofs.lemmas.Bool.{and_parts}
use Rattle.ctrl_model.specs.declared.intercepts.PortRange.{PortRange}
use Rattle.ctrl_model.specs.InterceptForm.{same_ports}

pub same_range : (r s : PortRange) → same_ports r s ≡ true → r ≡ s
same_range r s e =
    let p = and_parts (r.low == s.low) (r.high == s.high) e in
    λ i. record { low = eqb-true r.low s.low p.0 i; high = eqb-true r.high s.high p.1 i }
