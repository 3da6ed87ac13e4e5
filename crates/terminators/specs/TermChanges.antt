-- What one change makes of the terminators, and the terminators as they will be after it (docs/PROMISES.md, "The store of terminators").
use Rattle.std.specs.Prelude.{ℕ, not, List, filter}
use Rattle.std.specs.declared.option.Option.{Option}
use Rattle.ctrl_model.specs.Walks.{is_among}
use Rattle.record_tables.specs.AfterChange.{changed_by, without_numbers}
use Rattle.terminators.specs.declared.changes.TermChange.{TermChange}
use Rattle.terminators.specs.declared.changes.TermChange.TheVariants as change
use Rattle.terminators.specs.TermTables.{TermTables, with_term, with_set, without_term}

-- The terminators after a change.
abbrev pub after_term_change : TermChange → TermTables → TermTables
after_term_change (change.Add term) k = with_term term k
after_term_change (change.Set n cost precedence) k = with_set n.0 cost precedence k
after_term_change (change.Remove n) k = without_term n.0 k

-- The terminators without those of some numbers.
abbrev pub without_terms : List ℕ → TermTables → TermTables
without_terms gone k = record { terminators = without_numbers gone k.terminators; loads = filter (λ row. not (is_among row.0 gone)) k.loads }

-- The terminators after a change, if there is one, without those of some numbers.
abbrev pub terms_after : Option TermChange → List ℕ → TermTables → TermTables
terms_after change gone k = without_terms gone (changed_by after_term_change change k)
