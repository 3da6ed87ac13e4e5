use Rattle.std.proofs.Common.{◌∙◌, ap, lit≤}
use Rattle.std.specs.Option.{option_map}
use Rattle.ctrl_model.specs.declared.kinds.Kind.TheVariants as kind
use Rattle.record_tables.specs.AfterChange.{changed_by, touched_numbers}
use Rattle.record_tables.specs.Turns.{turned_number}
use Rattle.row_laws.proofs.SpelledChanges.{change_at-record}
use Rattle.row_laws.proofs.TouchedKeys.{Covers-turned}
use Rattle.row_writing.proofs.CoverLaws.{Covers-made}
use Rattle.fabric_graph.specs.ChangedLinks.{turn_of, set_by}
use Rattle.fabric_graph.specs.FabricChanges.{after_link_change, fabric_after}
use Rattle.fabric_graph.specs.FabricTables.{FabricSeen}
use Rattle.fabric_graph.proofs.ChangeLaws.{links_turned}
use Rattle.link_commands.proofs.rows.link_changes.Goals as goal

pub returns : goal.returns
returns c = λ f s t before after.
    let now = c.args.fabric.now in
    let change = option_map (λ d. d.now) c.args.change in
    let gone = c.args.gone.now in
    Covers-made f kind.Link s t (λ n. change_at-record f kind.Link s t n (lit≤ tt)) 6 7 now.links (fabric_after change gone now).links c.new-after.result.links (touched_numbers c.changed_number-changed.result gone) c.in_ok-changes.changes
    c.in_ok-changes.ensures.changes (ap (λ (u : FabricSeen). u.links) c.new-after.ensures) before after
    (Covers-turned f kind.Link s t (set_by change) (turn_of change) gone now.links (changed_by after_link_change change now).links c.changed_number-changed.result (lit≤ tt) c.requires.climb c.in_ok-changes.ensures.long
    (c.changed_number-changed.ensures ∙ ap (turned_number (turn_of change)) c.next.ensures.next) (links_turned change now) before after)
