-- The states of a history, and what its batches lead to.
use Rattle.std.proofs.Common.{◌≡◌, ℕ, zero, suc, ◌+◌, ◌^◌, ◌<◌, ◌≤◌, ◌==◌, nat_lt, true, false, List, [], ◌∷◌, length, None, Some, refl, sym, ap, ◌∙◌, subst, arith}
use Rattle.std.specs.declared.option.Option.{Option}
use Rattle.ctrl_model.specs.declared.formats.Format.TheVariants.{Two}
use Rattle.ctrl_model.specs.Limits.{last_serial}
use Rattle.ctrl_model.specs.State.{State, start}
use Rattle.ctrl_model.specs.ValidState.{ValidState}
use Rattle.ship_frames.specs.declared.shipments.Sort.{Sort}
use Rattle.ship_frames.specs.declared.shipments.Sort.TheVariants.{Whole, Next}
use Rattle.row_codec.specs.declared.changes.Op.{Op}
use Rattle.row_codec.specs.RowDifference.{difference, IsTrueDifference}
use Rattle.row_codec.specs.Batches.{bytes_cmp, entries_of, batch_bytes, batch_between}
use Rattle.row_laws.proofs.BatchForms.{IsBatch-between}
use Rattle.row_laws.proofs.StateBatches.{spelled_rise, entries_between, batch_leads}
use Rattle.slot_reading.specs.BatchRows.{ByteRows, rows_after, serial_of}
use Rattle.row_store.specs.OpenedStates.{byte_rows_of}
use Rattle.row_store.proofs.StateRows.{start_valid}
use Rattle.row_judging.proofs.SerialRows.{serial_of_state}
use Rattle.follow_core.proofs.BatchWords.{spelled_found, true_passes}
use Rattle.follow_core.proofs.JudgedStates.{judged_so}
use Rattle.follow_core.specs.BatchBytes.{batch_in, is_true_difference}
use Rattle.follow_core.specs.Following.{are_of_serial}
use Rattle.follow_laws.specs.Histories.{CountFrom, IsHistory, state_at, state_before, between, history_of}

-- ---- states

-- A state at a place is valid and has its serial.
counted_at : (from : ℕ) (states : List State) (place : ℕ) (s : State) → CountFrom from states → state_at states place ≡ Some s → ValidState s × (s.serial ≡ from + place)
counted_at from [] place s count e = absurd cc
counted_at from (x ∷ states) zero s count e =
    let same : x ≡ s = cc in
    let serial : from ≡ from + 0 = omega arith in
    (subst ValidState same count.0, ap (λ (y : State). y.serial) (sym same) ∙ count.1 ∙ serial)
counted_at from (x ∷ states) (suc place) s count e =
    let rest = counted_at (from + 1) states place s count.2 e in
    let serial : from + 1 + place ≡ from + suc place = omega arith in
    (rest.0, rest.1 ∙ serial)

pub valid_at : (states : List State) (serial : ℕ) (s : State) → IsHistory states → state_at states serial ≡ Some s → ValidState s × (s.serial ≡ serial)
valid_at states serial s history e =
    let found = counted_at 0 states serial s history e in
    let place : 0 + serial ≡ serial = omega arith in
    (found.0, found.1 ∙ place)

pub serial_fits : (states : List State) (serial : ℕ) (s : State) → IsHistory states → state_at states serial ≡ Some s → serial < 2 ^ 64
serial_fits states serial s history e =
    let found = valid_at states serial s history e in
    let most : s.serial ≤ last_serial = found.0.counted in
    let is : s.serial ≡ serial = found.1 in
    below s.serial serial most is
  where
    below : (n m : ℕ) → n ≤ last_serial → n ≡ m → m < 2 ^ 64
    below n m most is = omega (arith, most, is)

-- ---- batches

-- Operations lead from rows to those of a state of a serial.
pub record LeadsTo (rows : ByteRows) (ops : List Op) (serial : ℕ) (s : State) : Type 0 where
  pub change : is_true_difference rows ops ≡ true
  pub after : rows_after rows ops ≡ byte_rows_of Two s
  pub tells : serial_of (byte_rows_of Two s) ≡ Some serial
  pub are : are_of_serial serial (byte_rows_of Two s) ≡ true

-- Those of the batch between two valid states do, where it says something.
some_ops : (ops : List Op) → 1 ≤ length (batch_bytes ops) → (ops ≡ [] → ⊥)
some_ops ops some none = let len : length (batch_bytes ops) ≡ 0 = ap (λ (l : List Op). length (batch_bytes l)) none in omega (arith, some, len)

no_entries : (ops : List Op) → entries_of ops ≡ [] → ops ≡ []
no_entries [] e = refl
no_entries (o ∷ os) e = absurd cc

difference_of : (before after : State) → ValidState before → ValidState after → (batch_between Two before after ≡ [] → ⊥)
    → IsTrueDifference bytes_cmp (byte_rows_of Two before) (entries_of (batch_between Two before after))
difference_of before after v w some = record {
  some = λ e. some (no_entries (batch_between Two before after) e);
  exact = entries_between Two before after v w ∙ ap (difference bytes_cmp (byte_rows_of Two before)) (sym (batch_leads Two before after v w));
}

is_difference : (before after : State) → ValidState before → ValidState after → 1 ≤ length (batch_bytes (batch_between Two before after))
    → is_true_difference (byte_rows_of Two before) (batch_between Two before after) ≡ true
is_difference before after v w some =
    true_passes (byte_rows_of Two before) (batch_between Two before after) (spelled_rise Two before v)
    (difference_of before after v w (some_ops (batch_between Two before after) some))

pub leads_between : (before after : State) (serial : ℕ) → ValidState before → ValidState after → after.serial ≡ serial
    → 1 ≤ length (batch_bytes (batch_between Two before after)) → LeadsTo (byte_rows_of Two before) (batch_between Two before after) serial after
leads_between before after serial v w is some = record {
  change = is_difference before after v w some;
  after = batch_leads Two before after v w;
  tells = serial_of_state after w ∙ ap (λ (n : ℕ). Some n) is;
  are = judged_so serial (byte_rows_of Two after) (record { state = after; valid = w; serial_is = is; rows_are = refl });
}

-- ---- batches of a history

-- A batch of a history that has bytes leads from the rows of one state to those of another, which has its serial.
pub record IsBatchFrom (states : List State) (sort : Sort) (serial : ℕ) : Type 0 where
  pub before : State
  pub after : State
  pub from : state_before states sort serial ≡ Some before
  pub there : state_at states serial ≡ Some after
  pub ops : List Op
  pub read : batch_in (history_of states sort serial) ≡ Some ops
  pub leads : LeadsTo (byte_rows_of Two before) ops serial after

pub before_valid : (states : List State) (sort : Sort) (serial : ℕ) (s : State) → IsHistory states → state_before states sort serial ≡ Some s → ValidState s
before_valid states Whole serial s history e = let same : start ≡ s = cc in subst ValidState same start_valid
before_valid states Next zero s history e = absurd cc
before_valid states Next (suc serial) s history e = (valid_at states serial s history e).0

found_from : (states : List State) (sort : Sort) (serial : ℕ) → IsHistory states → (a b : Option State) → state_before states sort serial ≡ a → state_at states serial ≡ b
    → 1 ≤ length (between a b) → IsBatchFrom states sort serial
found_from states sort serial history None b e f some = absurd (omega (arith, some))
found_from states sort serial history (Some before) None e f some = absurd (omega (arith, some))
found_from states sort serial history (Some before) (Some after) e f some =
    let v = before_valid states sort serial before history e in
    let found = valid_at states serial after history f in
    let ops = batch_between Two before after in
    record {
      before = before;
      after = after;
      from = e;
      there = f;
      ops = ops;
      read = ap (λ (o : Option State). batch_in (between o (state_at states serial))) e ∙ ap (λ (o : Option State). batch_in (between (Some before) o)) f
          ∙ spelled_found (batch_bytes ops) ops (record { batch = IsBatch-between Two before after v found.0; spelled = refl });
      leads = leads_between before after serial v found.0 found.1 some;
    }

pub batch_from : (states : List State) (sort : Sort) (serial : ℕ) → IsHistory states → 1 ≤ length (history_of states sort serial) → IsBatchFrom states sort serial
batch_from states sort serial history some =
    found_from states sort serial history (state_before states sort serial) (state_at states serial) refl refl some
