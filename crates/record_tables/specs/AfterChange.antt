-- A table as it will be: after a change, if there is one, and without the records of some numbers (docs/PROMISES.md, "The tables of
-- records").
use Rattle.std.specs.Prelude.{ℕ, nat_lt, not, cond, List, ◌∷◌, ◌++◌, filter, None, Some}
use Rattle.std.specs.declared.option.Option.{Option}
use Rattle.ctrl_model.specs.Numbered.{Table, with_kept}
use Rattle.ctrl_model.specs.Walks.{is_among}

-- What a change makes of something, if there is one.
abbrev pub changed_by : {C T : Type 0} → (C → T → T) → Option C → T → T
changed_by after None t = t
changed_by after (Some c) t = after c t

-- The table without the records of some numbers.
abbrev pub without_numbers : {R : Type 0} → List ℕ → Table R → Table R
without_numbers ns t = with_kept (λ row. not (is_among row.0 ns)) t

-- What stands at a number once the records of some numbers are gone: nothing where it is one of these.
abbrev pub unless_gone : {V : Type 0} → ℕ → List ℕ → Option V → Option V
unless_gone n ns o = cond (is_among n ns) None o

-- Numbers with one more at its place in their order.
abbrev pub with_number : ℕ → List ℕ → List ℕ
with_number n ns = filter (λ m. nat_lt m n) ns ++ (n ∷ filter (λ m. nat_lt n m) ns)

-- The numbers at which a table can differ once one record is changed, if one is, and some are gone.
abbrev pub touched_numbers : Option ℕ → List ℕ → List ℕ
touched_numbers None gone = gone
touched_numbers (Some n) gone = with_number n gone
