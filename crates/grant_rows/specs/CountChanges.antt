-- The changes of the rows of grant counts that steps make, in a format (docs/FORMATS.md, "Rows").
use Rattle.std.specs.Prelude.{◌≡◌, ◌≢◌, ℕ, ◌+◌, ◌-◌, ◌&&◌, true, List, ◌++◌, map}
use Rattle.std.specs.List.{list_all}
use Rattle.ctrl_model.specs.declared.formats.Format.{Format}
use Rattle.ctrl_model.specs.declared.kinds.Relation.{Relation}
use Rattle.ctrl_model.specs.declared.kinds.Relation.TheVariants.{Dial, Bind, IdentityRouter, ServiceRouter}
use Rattle.ctrl_model.specs.Membership.{Among}
use Rattle.grant_denorm.specs.declared.deltas.Delta.{Delta}
use Rattle.grant_denorm.specs.PairCounts.{count_of}
use Rattle.grant_denorm.specs.Deltas.{ups, downs}
use Rattle.row_codec.specs.declared.changes.Change.{Change}
use Rattle.row_codec.specs.RowKeys.{key_in, key_bytes, is_long}
use Rattle.row_codec.specs.RowKeys.RowTable.{Counts}
use Rattle.row_codec.specs.RowDifference.{Rises}
use Rattle.row_codec.specs.StateRows.{count_value}
use Rattle.row_laws.specs.ChangedKeys.{pair_cmp}
use Rattle.grant_rows.specs.declared.moves.GrantMoves.{GrantMoves}

-- The change of a relation's row at a pair, whose count goes from one to another.
abbrev pub change_from : Format → Relation → ℕ × ℕ → ℕ → ℕ → Change
change_from f r p before after =
    record { key = key_bytes (key_in (Counts r) p.0 p.1); before = count_value f before; after = count_value f after }

-- The count of a pair after some steps: more by its steps up, and less by its steps down.
abbrev pub count_after : List ((ℕ × ℕ) × ℕ) → List Delta → ℕ × ℕ → ℕ
count_after counts ds p = count_of counts p.0 p.1 + ups ds p.0 p.1 - downs ds p.0 p.1

-- The changes at some pairs.
abbrev pub changes_at : Format → Relation → List ((ℕ × ℕ) × ℕ) → List Delta → List (ℕ × ℕ) → List Change
changes_at f r counts ds pairs = map (λ p. change_from f r p (count_of counts p.0 p.1) (count_after counts ds p)) pairs

-- The changes of a relation's rows by some steps: those at exactly the pairs that have not as many steps up as down, in the order
-- of the pairs.
pub record AreCountChanges (f : Format) (r : Relation) (counts : List ((ℕ × ℕ) × ℕ)) (ds : List Delta) (changes : List Change) : Type 0 where
  pub pairs : List (ℕ × ℕ)
  pub named : changes ≡ changes_at f r counts ds pairs
  pub rises : Rises pair_cmp (map (λ p. (p, p)) pairs)
  pub fits : list_all (λ (p : ℕ × ℕ). is_long p.0 && is_long p.1) pairs ≡ true
  pub each : (p : ℕ × ℕ) → Among p pairs → ups ds p.0 p.1 ≢ downs ds p.0 p.1
  pub every : (p : ℕ × ℕ) → ups ds p.0 p.1 ≢ downs ds p.0 p.1 → Among p pairs

-- The changes of a relation's rows stand behind some others.
pub record AddsCountChanges (f : Format) (r : Relation) (counts : List ((ℕ × ℕ) × ℕ)) (ds : List Delta) (old new : List Change) : Type 0 where
  pub added : List Change
  pub joined : new ≡ old ++ added
  pub exact : AreCountChanges f r counts ds added

-- The counts of a relation before the change.
abbrev pub counts_of : Relation → GrantMoves → List ((ℕ × ℕ) × ℕ)
counts_of Dial m = m.dial.counted.now
counts_of Bind m = m.bind.counted.now
counts_of IdentityRouter m = m.identity_router.counted.now
counts_of ServiceRouter m = m.service_router.counted.now

-- The steps of a relation.
abbrev pub steps_of : Relation → GrantMoves → List Delta
steps_of Dial m = m.dial.steps.now
steps_of Bind m = m.bind.steps.now
steps_of IdentityRouter m = m.identity_router.steps.now
steps_of ServiceRouter m = m.service_router.steps.now

-- The changes of the rows of all four relations, in the order of their tables.
pub record AreGrantChanges (f : Format) (m : GrantMoves) (changes : List Change) : Type 0 where
  pub dial : List Change
  pub bind : List Change
  pub identity_router : List Change
  pub service_router : List Change
  pub joined : changes ≡ dial ++ (bind ++ (identity_router ++ service_router))
  pub of_dial : AreCountChanges f Dial (counts_of Dial m) (steps_of Dial m) dial
  pub of_bind : AreCountChanges f Bind (counts_of Bind m) (steps_of Bind m) bind
  pub of_identity_router : AreCountChanges f IdentityRouter (counts_of IdentityRouter m) (steps_of IdentityRouter m) identity_router
  pub of_service_router : AreCountChanges f ServiceRouter (counts_of ServiceRouter m) (steps_of ServiceRouter m) service_router
