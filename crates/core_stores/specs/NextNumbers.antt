-- The next numbers after a change (docs/PROMISES.md, "The stores of a core").
use Rattle.std.specs.Prelude.{◌≡◌, ℕ, ◌+◌, ◌<◌, true, cond}
use Rattle.ctrl_model.specs.declared.kinds.Kind.{Kind}
use Rattle.ctrl_model.specs.Limits.{last_next}
use Rattle.ctrl_model.specs.Tables.{table}
use Rattle.row_codec.specs.declared.changes.Change as row
use Rattle.row_writing.specs.RecordChanges.{next_change_of}
use Rattle.core_stores.specs.declared.changes.Change.{Change}
use Rattle.core_stores.specs.declared.stores.Stores.{Stores}
use Rattle.core_stores.specs.ChangeParts.{adds}
use Rattle.core_stores.specs.StoredState.{state_of}

-- Where a change adds a record of a kind, the next number of the kind has not run out.
abbrev pub HasNext : Change → Stores → Kind → Type 0
HasNext c st k = adds c k ≡ true → (table k (state_of st)).next < last_next

-- The next number of a kind after a change: one more, where it adds a record of the kind.
abbrev pub next_after : Change → Stores → Kind → ℕ
next_after c st k = (table k (state_of st)).next + cond (adds c k) 1 0

-- The change of the row of the next number of a kind.
abbrev pub next_change_by : Change → Stores → Kind → row.Change
next_change_by c st k = next_change_of k (table k (state_of st)).next (next_after c st k)
