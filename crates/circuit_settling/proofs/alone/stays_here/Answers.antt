use Rattle.std.proofs.Common.{◌≡◌, [], None, ◌∙◌, sym, ap}
use Rattle.std.proofs.lemmas.Result.{IfOk-weaker}
use Rattle.record_tables.proofs.GoneLaws.{gone_none}
use Rattle.fabric_graph.specs.FabricChanges.{fabric_after}
use Rattle.terminators.specs.TermChanges.{terms_after}
use Rattle.terminators.specs.TermTables.{TermTables}
use Rattle.circuit_settling.specs.PresentRecords.{stays_with}
use Rattle.circuit_settling.proofs.alone.stays_here.Goals as goal

pub returns : goal.returns
returns c =
    let no_links : c.of-links.result ≡ [] = c.of-links.ensures ∙ c.new.ensures.items in
    let no_terms : c.of-terms.result ≡ [] = c.of-terms.ensures ∙ c.new-2.ensures.items in
    let t = c.args.entities.now in
    let f = c.args.fabric.now in
    let e = c.args.terminators.now in
    let links = c.new-present.ensures ∙ (λ i. fabric_after None (no_links i) f) ∙ ap (λ ls. record f { links = ls }) (sym (gone_none f.links)) in
    let offers = ap (λ (k : TermTables). k.terminators) c.new-offered.ensures ∙ (λ i. (terms_after None (no_terms i) e).terminators) ∙ sym (gone_none e.terminators) in
    IfOk-weaker c.would_stay.result _ _ (λ b is. is ∙ (λ i. stays_with t (links i) (record { terminators = offers i; loads = [] }) (0, c.args.circuit.now))) c.would_stay.ensures
