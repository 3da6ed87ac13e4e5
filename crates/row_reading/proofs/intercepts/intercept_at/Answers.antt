use Rattle.std.proofs.Common.{Bool, ◌&&◌, true, false, sym, ◌∙◌, ap, ap₂, arith}
use Rattle.ctrl_model.specs.InterceptForm.{same_ports}
use Rattle.row_reading.specs.RowReading.{addresses_of, is_claimed, port_ranges_of}
use Rattle.row_reading.proofs.ClaimReading.{intercept_read}
use Rattle.row_reading.proofs.intercepts.intercept_at.Goals as goal

pub returns-then-not-are_addresses_claimed : goal.returns-then-not-are_addresses_claimed
returns-then-not-are_addresses_claimed c =
    let x = c.in_ok-parts.parts in
    sym (intercept_read c.args.value.now (x.0, (addresses_of x.1.0.now, port_ranges_of x.1.1.now)) (λ i. omega (arith, c.type_inv.value i)) c.in_ok-parts.ensures false
    (ap (λ (a : Bool). a && is_claimed same_ports (port_ranges_of x.1.1.now)) (sym c.are_addresses_claimed.ensures ∙ c.if-not-are_addresses_claimed.true)))

pub returns-then-not-are_port_ranges_claimed : goal.returns-then-not-are_port_ranges_claimed
returns-then-not-are_port_ranges_claimed c =
    let x = c.in_ok-parts.parts in
    sym (intercept_read c.args.value.now (x.0, (addresses_of x.1.0.now, port_ranges_of x.1.1.now)) (λ i. omega (arith, c.type_inv.value i)) c.in_ok-parts.ensures false
    (ap₂ (λ (a b : Bool). a && b) (sym c.are_addresses_claimed.ensures ∙ c.if-not-are_addresses_claimed.false) (sym c.are_port_ranges_claimed.ensures ∙ c.if-not-are_port_ranges_claimed.true)))

pub returns : goal.returns
returns c =
    let x = c.in_ok-parts.parts in
    sym (intercept_read c.args.value.now (x.0, (addresses_of x.1.0.now, port_ranges_of x.1.1.now)) (λ i. omega (arith, c.type_inv.value i)) c.in_ok-parts.ensures true
    (ap₂ (λ (a b : Bool). a && b) (sym c.are_addresses_claimed.ensures ∙ c.if-not-are_addresses_claimed.false) (sym c.are_port_ranges_claimed.ensures ∙ c.if-not-are_port_ranges_claimed.false)))
