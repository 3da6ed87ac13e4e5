use Rattle.std.proofs.Common.{◌≡◌, true, false, sym, ◌∙◌, ap, get_or, drop, ◌+◌}
use Rattle.ctrl_model.specs.Networks.{hops}
use Rattle.ctrl_model.specs.Walks.{is_among, goes}
use Rattle.circuit_settling.specs.PresentRecords.{network_in}
use Rattle.circuit_settling.proofs.WalkedLinks.{leads, goes-first, goes-on, goes-nowhere, goes-back}
use Rattle.circuit_settling.proofs.paths.goes.Goals as goal

pub links-preserved : goal.links-preserved
links-preserved c =
    let hop = hops (network_in c.args.present.now) c.args.target.0 in
    let seen = c.links.visited.items in
    let link = get_or c.args.links.now c.links.link-index 0 in
    let rest = drop (c.links.link-index + 1) c.args.links.now in
    let new : is_among c.in-Some.hop.to.0 seen ≡ false = ap (is_among c.in-Some.hop.to.0) (sym c.as_slice.ensures.value) ∙ sym c.is_among.ensures ∙ c.if-is_among.false in
    ap (λ visited. goes hop c.args.target.0 visited c.in-Some.hop.to.0 rest) c.in_ok-push.ensures.items
    ∙ sym (goes-on hop c.args.target.0 seen rest c.links.at.0 link c.in-Some.hop.to.0 (ap leads c.in-Some.ensures) new)
    ∙ sym (goes-first hop c.args.target.0 c.args.links.now seen c.links.link-index c.links.at.0 c.links-test.true)
    ∙ c.links.invariant

pub returns-in_default : goal.returns-in_default
returns-in_default c =
    sym (goes-nowhere (hops (network_in c.args.present.now) c.args.target.0) c.args.target.0 c.args.links.now c.links.visited.items c.links.link-index c.links.at.0 c.links-test.true (ap leads c.in_default.ensures))
    ∙ c.links.invariant

pub returns-then-is_among : goal.returns-then-is_among
returns-then-is_among c =
    let seen = c.links.visited.items in
    let old : is_among c.in-Some.hop.to.0 seen ≡ true = ap (is_among c.in-Some.hop.to.0) (sym c.as_slice.ensures.value) ∙ sym c.is_among.ensures ∙ c.if-is_among.true in
    sym (goes-back (hops (network_in c.args.present.now) c.args.target.0) c.args.target.0 c.args.links.now seen c.links.link-index c.links.at.0 c.in-Some.hop.to.0 c.links-test.true (ap leads c.in-Some.ensures) old)
    ∙ c.links.invariant
