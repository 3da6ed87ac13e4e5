use Rattle.std.proofs.Common.{◌∙◌, ap, lit≤}
use Rattle.std.specs.Option.{option_map}
use Rattle.ctrl_model.specs.declared.kinds.Kind.TheVariants as kind
use Rattle.record_tables.specs.AfterChange.{touched_numbers}
use Rattle.record_tables.specs.Turns.{turned_number}
use Rattle.row_laws.proofs.SpelledChanges.{change_at-record}
use Rattle.row_writing.proofs.CoverLaws.{Covers-made}
use Rattle.circuits.specs.ChangedCircuits.{turn_of}
use Rattle.circuits.specs.CircuitChanges.{circuits_after}
use Rattle.circuits.specs.CircuitTables.{CircuitTables}
use Rattle.circuits.specs.MovedCircuits.{with_moves}
use Rattle.circuit_settling.proofs.MovedRows.{Covers-moved}
use Rattle.circuit_settling.proofs.rows.circuit_changes.Goals as goal

pub returns : goal.returns
returns c = λ f s t before after.
    let now = c.args.circuits.now in
    let change = option_map (λ d. d.now) c.args.change in
    let gone = c.args.gone.now in
    let touched = c.args.touched.now in
    let moves = c.args.moves.now in
    let changed = c.changed_number-changed.result in
    Covers-made f kind.Circuit s t (λ n. change_at-record f kind.Circuit s t n (lit≤ tt)) 11 12 now.circuits (with_moves moves (circuits_after change gone now)).circuits c.new-after.result.circuits (touched_numbers changed touched) c.in_ok-changes.changes
    c.in_ok-changes.ensures.changes (ap (λ (u : CircuitTables). u.circuits) c.new-after.ensures) before after
    (Covers-moved change gone touched moves now changed (c.changed_number-changed.ensures ∙ ap (turned_number (turn_of change)) c.next.ensures.next) c.requires.gone c.requires.moved
    f s t c.requires.climb c.in_ok-changes.ensures.long before after)
