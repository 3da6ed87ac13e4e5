-- Counts on their way through some steps: kept beside the counts before, for the pairs that have had a step.
use Rattle.std.specs.Prelude.{ℕ, ◌==◌, Bool, not, List, map, filter}
use Rattle.std.specs.Option.{unwrap_or}
use Rattle.std.specs.Map.{lookup}
use Rattle.std.specs.BTreeMap.{is_at}
use Rattle.ctrl_model.specs.declared.formats.Format.{Format}
use Rattle.ctrl_model.specs.declared.kinds.Relation.{Relation}
use Rattle.grant_denorm.specs.PairCounts.{count_of}
use Rattle.row_codec.specs.declared.changes.Change.{Change}
use Rattle.row_laws.specs.ChangedKeys.{pair_cmp}
use Rattle.grant_rows.specs.CountChanges.{change_from}

-- The count of a pair: the moved one, or the one before where it has had no step.
abbrev pub count_so_far : List ((ℕ × ℕ) × ℕ) → List ((ℕ × ℕ) × ℕ) → ℕ → ℕ → ℕ
count_so_far moved counts a b = unwrap_or (lookup (is_at (pair_cmp (a, b))) moved) (count_of counts a b)

-- Whether a moved count is another than the one before.
abbrev pub differs : List ((ℕ × ℕ) × ℕ) → (ℕ × ℕ) × ℕ → Bool
differs counts e = not (count_of counts e.0.0 e.0.1 == e.1)

-- The changes of the moved counts that are others than those before, in a format.
abbrev pub entry_changes : Format → Relation → List ((ℕ × ℕ) × ℕ) → List ((ℕ × ℕ) × ℕ) → List Change
entry_changes f r counts moved = map (λ e. change_from f r e.0 (count_of counts e.0.0 e.0.1) e.1) (filter (differs counts) moved)
