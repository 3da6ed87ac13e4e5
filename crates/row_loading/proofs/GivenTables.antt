-- The tables of states that rows give: a record joins the end of its kind's table, and next numbers change nothing else.
use Rattle.std.proofs.Common.{◌≡◌, ℕ, ◌+◌, nat_le, true, refl}
use Rattle.ctrl_model.specs.declared.kinds.Kind.{Kind}
use Rattle.ctrl_model.specs.declared.kinds.Kind.TheVariants as kind
use Rattle.ctrl_model.specs.declared.kinds.Relation.{Relation}
use Rattle.ctrl_model.specs.declared.kinds.Relation.TheVariants.{Dial}
use Rattle.ctrl_model.specs.Numbered.{with_last}
use Rattle.ctrl_model.specs.State.{State}
use Rattle.ctrl_model.specs.Tables.{Record, table, with_table}
use Rattle.ctrl_model.specs.Grants.{count}
use Rattle.row_codec.specs.RowKeys.{kind_number}
use Rattle.state_building.specs.JoinedRecords.{joined}
use Rattle.state_building.specs.BuiltStates.{with_nexts}

-- a record joins the end of its kind's table, and the next number is the one after its own
pub joined-is : (k : Kind) (n : ℕ) (r : Record k) (s : State) → joined k n r s ≡ with_table k (record { rows = with_last (table k s).rows n r; next = n + 1 }) s
joined-is kind.Attribute n r s = refl
joined-is k n r s = refl

pub with_nexts-rows : (k : Kind) (nexts : Kind → ℕ) (s : State) → (table k (with_nexts nexts s)).rows ≡ (table k s).rows
with_nexts-rows kind.Attribute nexts s = refl
with_nexts-rows k nexts s = refl

pub with_nexts-next : (k : Kind) (nexts : Kind → ℕ) (s : State) → nat_le 1 (kind_number k) ≡ true → (table k (with_nexts nexts s)).next ≡ nexts k
with_nexts-next kind.Attribute nexts s h = absurd (cc)
with_nexts-next k nexts s h = refl

pub with_nexts-count : (r : Relation) (nexts : Kind → ℕ) (s : State) (a b : ℕ) → count r (with_nexts nexts s) a b ≡ count r s a b
with_nexts-count Dial nexts s a b = refl
with_nexts-count r nexts s a b = refl
