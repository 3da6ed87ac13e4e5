-- Laws of the circuits that go: they are those at the numbers that do not stay.
use Rattle.std.proofs.Common.{◌≡◌, ℕ, ◌||◌, true, false, not, List, sym, ◌∙◌, ap}
use Rattle.std.specs.List.{filter}
use Rattle.std.specs.Option.{option_map_or}
use Rattle.ctrl_model.specs.Numbered.{numbers, Between}
use Rattle.ctrl_model.specs.Walks.{is_among}
use Rattle.ctrl_model.specs.State.{Terminator, Circuit}
use Rattle.record_tables.proofs.GoneLaws.{filter_among}
use Rattle.record_tables.proofs.NumberLoops.{at_among}
use Rattle.record_tables.proofs.TurnLaws.{numbers-filter}
use Rattle.circuit_settling.specs.declared.granting.GrantsAfter.{GrantsAfter}
use Rattle.circuit_settling.specs.declared.staying.Present.{Present}
use Rattle.circuit_settling.specs.declared.emptying.Pairs.{Pairs}
use Rattle.circuit_settling.specs.LookedCircuits.{is_looked_at, needs}
use Rattle.circuit_settling.specs.OtherLinks.{keeps_beside, keeps_at}

-- the numbers whose circuit does not stay are those of the circuits that do not
pub going_are : (p : Present) (g : GrantsAfter) (rows : List (ℕ × Circuit)) (high : ℕ) → Between 1 high rows
    → filter (λ n. not (keeps_at p g rows n)) (numbers rows) ≡ numbers (filter (λ row. not (keeps_beside p g row.1)) rows)
going_are p g rows high b =
    sym (numbers-filter (λ n. not (keeps_at p g rows n)) rows)
    ∙ ap numbers (filter_among (λ (row : ℕ × Circuit). not (keeps_at p g rows row.0)) (λ row. not (keeps_beside p g row.1)) rows (λ x m.
    ap (λ o. not (option_map_or (keeps_beside p g) o true)) (at_among high rows 1 x.0 x.1 b m)))

-- the circuits that are looked at are those at the numbers that are looked at
pub looked_are : (g : Pairs) (terms : List (ℕ × Terminator)) (pathless : List ℕ) (rows : List (ℕ × Circuit)) (high : ℕ) → Between 1 high rows
    → numbers (filter (λ row. needs g terms row.1 || is_among row.0 pathless) rows) ≡ filter (is_looked_at rows terms g pathless) (numbers rows)
looked_are g terms pathless rows high b =
    ap numbers (filter_among (λ (row : ℕ × Circuit). needs g terms row.1 || is_among row.0 pathless) (λ row. is_looked_at rows terms g pathless row.0) rows (λ x m.
    sym (ap (λ o. option_map_or (needs g terms) o false || is_among x.0 pathless) (at_among high rows 1 x.0 x.1 b m))))
    ∙ numbers-filter (is_looked_at rows terms g pathless) rows
