-- What a change makes of the table of terminators.
use Rattle.std.proofs.Common.{◌≡◌, Option, None, Some, refl}
use Rattle.record_tables.specs.AfterChange.{changed_by}
use Rattle.record_tables.specs.Turns.{turned_table}
use Rattle.terminators.specs.declared.changes.TermChange.{TermChange}
use Rattle.terminators.specs.declared.changes.TermChange.TheVariants as change
use Rattle.terminators.specs.ChangedTerms.{turn_of, set_by}
use Rattle.terminators.specs.TermChanges.{after_term_change}
use Rattle.terminators.specs.TermTables.{TermTables}

pub terms_turned : (c : Option TermChange) (k : TermTables) → turned_table (set_by c) (turn_of c) k.terminators ≡ (changed_by after_term_change c k).terminators
terms_turned None k = refl
terms_turned (Some (change.Add term)) k = refl
terms_turned (Some (change.Set n cost precedence)) k = refl
terms_turned (Some (change.Remove n)) k = refl
