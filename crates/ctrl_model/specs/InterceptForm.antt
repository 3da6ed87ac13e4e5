-- Which intercepts there are (docs/RULES.md, "Intercepts").
use Rattle.std.specs.Prelude.{Bool, true, not, ◌&&◌, ◌||◌, ◌==◌, nat_le, List, [], ◌∷◌, length}
use Rattle.std.specs.List.{list_all, list_any}
use Rattle.ctrl_model.specs.declared.intercepts.PortRange.{PortRange}
use Rattle.ctrl_model.specs.declared.intercepts.Intercept.{Intercept}
use Rattle.ctrl_model.specs.AddressForm.{same_address, is_address}
use Rattle.ctrl_model.specs.Limits.{most_claimed, most_port}

-- A range of ports: from 1 on, to the greatest port at most, and its lowest port is not above its highest.
abbrev pub is_port_range : PortRange → Bool
is_port_range r = nat_le 1 r.low && (nat_le r.low r.high && nat_le r.high most_port)

-- Whether two ranges of ports are the same.
abbrev pub same_ports : PortRange → PortRange → Bool
same_ports r s = (r.low == s.low) && (r.high == s.high)

-- None of some things is the same as a later one.
abbrev pub is_without_repeats : {A : Type 0} → (A → A → Bool) → List A → Bool
is_without_repeats same [] = true
is_without_repeats same (x ∷ xs) = not (list_any (same x) xs) && is_without_repeats same xs

-- A list of what an intercept claims: at least one thing, as many as it may have at most, each of its form, without repeats.
abbrev pub is_claim : {A : Type 0} → (A → Bool) → (A → A → Bool) → List A → Bool
is_claim form same xs = nat_le 1 (length xs) && (nat_le (length xs) most_claimed && (list_all form xs && is_without_repeats same xs))

-- An intercept: a protocol at least, a list of addresses and a list of ranges of ports.
abbrev pub is_intercept : Intercept → Bool
is_intercept i = (i.tcp || i.udp) && (is_claim is_address same_address i.addresses && is_claim is_port_range same_ports i.ports)
