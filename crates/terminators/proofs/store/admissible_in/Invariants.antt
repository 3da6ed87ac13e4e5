use Rattle.std.proofs.Common.{◌≡◌, ◌++◌}
use Rattle.std.specs.List.{filter}
use Rattle.ctrl_model.specs.Numbered.{numbers}
use Rattle.terminators.specs.TermRules.{granted, is_admissible}
use Rattle.terminators.proofs.store.admissible_in.Given as goal

-- the numbers so far and those among the terminators that are left are all
abbrev pub invariant-terms : goal.invariant-terms
invariant-terms l =
    l.found.items ++ numbers (filter (λ row. is_admissible (granted l.grants) l.service.0 l.instance (row.0, row.1.term)) l.number-iterator)
    ≡ numbers (filter (λ row. is_admissible (granted l.grants) l.service.0 l.instance (row.0, row.1.term)) l.terms.rows)
