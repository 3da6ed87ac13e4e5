use Rattle.std.proofs.Common.{sym, ◌∙◌, ap, subst}
use Rattle.circuits.specs.CircuitTables.{CircuitTables}
use Rattle.fabric_graph.specs.Routers.{AreRouters, HaveGraph}
use Rattle.terminators.specs.TermTables.{TermTables}
use Rattle.ctrl_core.specs.SettledParts.{AreGrantsAfter}
use Rattle.ctrl_core.proofs.StateParts.{parts_after}
use Rattle.ctrl_core.proofs.JudgedChanges.{judged_so, circuits_stand, links_are, links_have_graph, routers_ordered, terms_are}
use Rattle.ctrl_core.proofs.settling.judged_beside.Goals as goal

pub judged-requires-clause-routers : goal.judged-requires-clause-routers
judged-requires-clause-routers c =
    subst AreRouters (sym c.as_slice.ensures.value)
    (routers_ordered c.args.change.now c.args.stores.now c.args.fallen.now c.requires.can c.requires.falls c.args.remaining.now c.requires.remains)

pub judged-requires-clause-links : goal.judged-requires-clause-links
judged-requires-clause-links c =
    subst HaveGraph (sym c.new-fabric.ensures)
    (links_have_graph c.args.change.now c.args.stores.now c.args.fallen.now c.requires.can c.requires.falls _ c.of_links.ensures)

pub returns : goal.returns
returns c =
    let d = c.args.change.now in
    let st = c.args.stores.now in
    let g = c.args.fallen.now in
    let circuits =
    ap (λ (k : CircuitTables). k.circuits) c.new-circuits.ensures
    ∙ circuits_stand d st g c.requires.can c.requires.falls _ _ _ c.of_circuits.ensures (c.of-stay.ensures ∙ c.new-2.ensures.items) (c.of-none.ensures ∙ c.new.ensures.items) in
    judged_so d st g c.requires.can c.requires.falls c.args.remaining.now c.requires.remains c.args.grants.now
    (subst (λ s. AreGrantsAfter s c.args.grants.now) (parts_after d st c.requires.can) c.requires.counts) c.args.look.now c.requires.stands c.requires.looks
    c.new-fabric.result c.new-terminators.result c.as_slice.result.now c.new-circuits.result c.in_ok-going.going c.in_ok-judged.judged
    (record {
      fabric = c.new-fabric.ensures ∙ links_are d st g c.requires.can c.requires.falls _ c.of_links.ensures;
      terms = ap (λ (k : TermTables). k.terminators) c.new-terminators.ensures ∙ terms_are d st g c.requires.can c.requires.falls _ c.of_terminators-ends.ensures;
      seen_are = c.as_slice.ensures.value;
      circuits = circuits;
    })
    c.in_ok-going.ensures c.in_ok-judged.ensures.ended c.in_ok-judged.ensures.moves
