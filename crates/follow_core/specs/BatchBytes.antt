-- Batches of bytes, and whether one changes rows (docs/FORMATS.md, "Batches").
use Rattle.std.specs.Prelude.{ℕ, ◌&&◌, nat_lt, Bool, List, [], ◌∷◌, length, None, Some}
use Rattle.std.specs.declared.option.Option.{Option}
use Rattle.std.specs.Option.{option_map, option_and_then}
use Rattle.std.specs.List.{list_all}
use Rattle.row_codec.specs.declared.changes.Op.{Op}
use Rattle.row_codec.specs.Batches.{entry_of}
use Rattle.row_codec.specs.BatchReading.{next_op}
use Rattle.slot_reading.specs.BatchRows.{ByteRows}
use Rattle.slot_reading.specs.Changes.{is_change}

-- The operations that some bytes spell behind a last key, whose keys rise, in at most as many steps as a list is long; none where they spell no
-- such operations.
abbrev pub ops_within : (steps : List ℕ) → Option (List ℕ) → List ℕ → Option (List Op)
ops_within steps last [] = Some []
ops_within [] last (byte ∷ bytes) = None
ops_within (step ∷ steps) last (byte ∷ bytes) =
    option_and_then (λ x. option_map (λ ops. x.0 ∷ ops) (ops_within steps (Some (entry_of x.0).0) x.1)) (next_op last (byte ∷ bytes))

-- The batch that some bytes spell, if they spell one.
abbrev pub batch_in : List ℕ → Option (List Op)
batch_in bytes = ops_within bytes None bytes

-- Whether operations whose keys rise are a true difference of rows: there are some, and each changes the rows.
abbrev pub is_true_difference : ByteRows → List Op → Bool
is_true_difference rows ops = nat_lt 0 (length ops) && list_all (λ op. is_change rows (entry_of op)) ops
