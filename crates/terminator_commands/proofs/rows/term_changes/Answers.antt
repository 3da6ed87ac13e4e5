use Rattle.std.proofs.Common.{◌∙◌, ap, lit≤}
use Rattle.std.specs.Option.{option_map}
use Rattle.ctrl_model.specs.declared.kinds.Kind.TheVariants as kind
use Rattle.record_tables.specs.AfterChange.{changed_by, touched_numbers}
use Rattle.record_tables.specs.Turns.{turned_number}
use Rattle.row_laws.proofs.SpelledChanges.{change_at-record}
use Rattle.row_laws.proofs.TouchedKeys.{Covers-turned}
use Rattle.row_writing.proofs.CoverLaws.{Covers-made}
use Rattle.terminators.specs.ChangedTerms.{turn_of, set_by}
use Rattle.terminators.specs.TermChanges.{after_term_change, terms_after}
use Rattle.terminators.specs.TermTables.{TermTables}
use Rattle.terminators.proofs.ChangeLaws.{terms_turned}
use Rattle.terminator_commands.proofs.rows.term_changes.Goals as goal

pub returns : goal.returns
returns c = λ f s t before after.
    let now = c.args.terminators.now in
    let change = option_map (λ d. d.now) c.args.change in
    let gone = c.args.gone.now in
    Covers-made f kind.Terminator s t (λ n. change_at-record f kind.Terminator s t n (lit≤ tt)) 10 11 now.terminators (terms_after change gone now).terminators c.new-after.result.terminators (touched_numbers c.changed_number-changed.result gone) c.in_ok-changes.changes
    c.in_ok-changes.ensures.changes (ap (λ (u : TermTables). u.terminators) c.new-after.ensures) before after
    (Covers-turned f kind.Terminator s t (set_by change) (turn_of change) gone now.terminators (changed_by after_term_change change now).terminators c.changed_number-changed.result (lit≤ tt) c.requires.climb c.in_ok-changes.ensures.long
    (c.changed_number-changed.ensures ∙ ap (turned_number (turn_of change)) c.next.ensures.next) (terms_turned change now) before after)
