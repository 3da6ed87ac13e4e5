use Rattle.std.proofs.Common.{◌≡◌, ◌++◌}
use Rattle.std.specs.List.{filter}
use Rattle.ctrl_model.specs.Numbered.{numbers}
use Rattle.terminators.specs.NamedTerms.{stands_on}
use Rattle.terminators.proofs.naming.standing_in.Given as goal

-- the numbers so far and those among the terminators that are left are all
abbrev pub invariant-terms : goal.invariant-terms
invariant-terms l =
    l.standing.items ++ numbers (filter (λ row. stands_on l.kind l.number row.1.term) l.place-iterator)
    ≡ numbers (filter (λ row. stands_on l.kind l.number row.1.term) l.terms.rows)
