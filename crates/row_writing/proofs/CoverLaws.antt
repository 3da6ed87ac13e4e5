-- Laws of covers: what the changes between the tables of two states cover, those that a call made between equal tables do.
use Rattle.std.proofs.Common.{◌≡◌, ℕ, List, [], ◌∷◌, map, refl, sym, ◌∙◌, ap₂, subst}
use Rattle.ctrl_model.specs.declared.formats.Format.{Format}
use Rattle.ctrl_model.specs.declared.kinds.Kind.{Kind}
use Rattle.ctrl_model.specs.Numbered.{Table}
use Rattle.ctrl_model.specs.State.{State}
use Rattle.ctrl_model.specs.Tables.{Record, table}
use Rattle.row_codec.specs.declared.changes.Change.{Change}
use Rattle.row_codec.specs.RowKeys.{key_in}
use Rattle.row_codec.specs.RowKeys.RowTable.{Records}
use Rattle.row_codec.specs.CoveredTables.{Covers, change_at}
use Rattle.row_writing.specs.RecordChanges.{change_of, value_at, changes_at}

module _ (f : Format) (k : Kind) (s t : State)
    (spelled : (n : ℕ) → change_at f s t (key_in (Records k) n 0) ≡ change_of k n (value_at k (table k s).rows n) (value_at k (table k t).rows n)) where
  each_spelled : (ns : List ℕ) → map (λ n. change_at f s t (key_in (Records k) n 0)) ns ≡ changes_at k (value_at k (table k s).rows) (value_at k (table k t).rows) ns
  each_spelled [] = refl
  each_spelled (n ∷ ns) = λ i. spelled n i ∷ each_spelled ns i

  pub Covers-made : (low high : ℕ) (before after seen : Table (Record k)) (ns : List ℕ) (cs : List Change)
      → cs ≡ changes_at k (value_at k before.rows) (value_at k seen.rows) ns → seen ≡ after → table k s ≡ before → table k t ≡ after
      → Covers f low high s t (map (λ n. change_at f s t (key_in (Records k) n 0)) ns) → Covers f low high s t cs
  Covers-made low high before after seen ns cs made is b a covers =
      subst (λ (ds : List Change). Covers f low high s t ds)
      (each_spelled ns ∙ ap₂ (λ (u v : Table (Record k)). changes_at k (value_at k u.rows) (value_at k v.rows) ns) b (a ∙ sym is) ∙ sym made) covers
