-- A plan that is carried out: where it changes no row the state stays, at the last serial it is refused, and else the rows go with the next state.
use Rattle.std.proofs.Common.{◌≡◌, ℕ, ◌+◌, ◌<◌, ◌≤◌, ◌%◌, ◌==◌, nat_lt, not, Bool, true, false, ◌&&◌, cond, List, [], ◌∷◌, None, Some, Ok, Err, IfOk, refl, sym, ap, ap₂, ◌∙◌, subst, arith}
use Rattle.std.specs.declared.option.Option.{Option}
use Rattle.std.specs.declared.result.Result.{Result}
use Rattle.std.proofs.lemmas.Bool.{cond-true, cond-false, false_from_ne_true}
use Rattle.std.proofs.lemmas.Bool.Decides.{nat_tests}
use Rattle.ctrl_model.specs.declared.commands.Command.{Command}
use Rattle.ctrl_model.specs.declared.formats.Format.TheVariants.{Two}
use Rattle.ctrl_model.specs.declared.kinds.Kind.TheVariants as kind
use Rattle.ctrl_model.specs.declared.kinds.Who.TheVariants.{Admin}
use Rattle.ctrl_model.specs.declared.refusals.Refusal.TheVariants.{JournalFull}
use Rattle.ctrl_model.specs.declared.replies.Reply.{Reply}
use Rattle.ctrl_model.specs.declared.replies.Reply.TheVariants.{Refused}
use Rattle.ctrl_model.specs.Controller.{answer, carry, counted, numbered}
use Rattle.ctrl_model.specs.Limits.{last_serial}
use Rattle.ctrl_model.specs.SameStates.{same_state}
use Rattle.ctrl_model.specs.State.{State}
use Rattle.ctrl_model.specs.ValidState.{ValidState}
use Rattle.model_laws.proofs.CountedLaws.{counted-valid}
use Rattle.model_laws.proofs.SameStateLaws.{same_state-Decides}
use Rattle.row_codec.specs.Batches.{batch_between, bytes_cmp, ops_of}
use Rattle.row_codec.specs.RowDifference.{Entry, Rises, difference, value_at}
use Rattle.row_codec.specs.RowKeys.{Key, key_cmp, key_in}
use Rattle.row_codec.specs.RowKeys.RowTable.{Serial}
use Rattle.row_codec.specs.RowValues.{wide}
use Rattle.row_codec.specs.StateRows.{Rows, rows_of, serial_value}
use Rattle.row_laws.proofs.Differences.{same_from_difference}
use Rattle.row_laws.proofs.KeyOrders.{key_exact, key_total}
use Rattle.row_laws.proofs.RisingStates.{IsNumbered, Rises-rows_of}
use Rattle.row_laws.proofs.RowsAtKeys.{value_at-rows_of}
use Rattle.row_laws.proofs.StateBatches.{batch_between-same, batch_leads, spelled_rise}
use Rattle.row_laws.proofs.WrittenRows.{AscendIn-valid, IsNumbered-valid}
use Rattle.command_codec.specs.declared.reading.CodecFault.{CodecFault}
use Rattle.slot_reading.specs.BatchRows.{ByteRows, rows_after}
use Rattle.ctrl_core.specs.declared.plans.Planned.{Planned}
use Rattle.ctrl_core.specs.Changes.{CanLead, LeadsFrom, led}
use Rattle.ctrl_core.specs.KeptState.{Cored}
use Rattle.change_plans.specs.PlannedLines.{line_answer, within_serials}
use Rattle.change_plans.specs.PlanTurns.{GoesWith}

-- ---- no change of rows is no change of the state

-- the rows of two serials in turn differ
serials-apart : (n : ℕ) → serial_value n ≡ serial_value (n + 1) → ⊥
serials-apart n e = by (nat_lt 0 n) (nat_lt 0 (n + 1)) refl e
  where
    some_of : {x y : List ℕ} → ◌≡◌ {A = Option (List ℕ)} (Some x) (Some y) → x ≡ y
    some_of same = cc

    first : {x y : ℕ} {xs ys : List ℕ} → ◌≡◌ {A = List ℕ} (x ∷ xs) (y ∷ ys) → x ≡ y
    first same = cc

    bytes-apart : n % 256 ≡ (n + 1) % 256 → ⊥
    bytes-apart same = omega (arith, same)

    above : nat_lt 0 (n + 1) ≡ false → ⊥
    above none = grind (arith, nat_tests, none)

    by : (here next : Bool) → nat_lt 0 (n + 1) ≡ next → ◌≡◌ {A = Option (List ℕ)} (cond here (Some (wide n)) None) (cond next (Some (wide (n + 1))) None) → ⊥
    by true true is same = bytes-apart (first (some_of same))
    by true false is same = above is
    by false true is same = absurd cc
    by false false is same = above is

no_entries : (entries : List (Entry Key)) → ops_of entries ≡ [] → entries ≡ []
no_entries [] e = refl
no_entries (x ∷ xs) e = absurd cc

-- another serial leaves the tables as they are numbered
numbered_again : (n : ℕ) (t : State) → IsNumbered t → IsNumbered (record t { serial = n })
numbered_again n t is kind.Link = is kind.Link
numbered_again n t is k = is k

-- two states of which one has the serial behind that of the other have other rows
rows-apart : (s t : State) → ValidState s → ValidState t → batch_between Two s (record t { serial = s.serial + 1 }) ≡ [] → ⊥
rows-apart s t v w none = serials-apart s.serial (sym (value_at-rows_of Two s serial) ∙ ap (λ (rows : Rows). value_at key_cmp rows serial) same ∙ value_at-rows_of Two u serial)
  where
    u : State
    u = record t { serial = s.serial + 1 }

    serial : Key
    serial = key_in Serial 0 0

    same : rows_of Two s ≡ rows_of Two u
    same =
        same_from_difference key_total key_exact (rows_of Two s) (rows_of Two u) (Rises-rows_of Two s (IsNumbered-valid s v) (AscendIn-valid Two s v))
        (Rises-rows_of Two u (numbered_again (s.serial + 1) t (IsNumbered-valid t w)) (AscendIn-valid Two t w))
        (no_entries (difference key_cmp (rows_of Two s) (rows_of Two u)) none)

pub still : (s t : State) → ValidState s → ValidState t → batch_between Two s (counted s t) ≡ [] → counted s t ≡ s
still s t v w none = by (same_state s t) refl
  where
    by : (same : Bool) → same_state s t ≡ same → counted s t ≡ s
    by true is = cond-true (same_state s t) s (record t { serial = s.serial + 1 }) is
    by false is =
        absurd (rows-apart s t v w
        (ap (batch_between Two s) (sym (cond-false (same_state s t) s (record t { serial = s.serial + 1 }) is)) ∙ none))

pub some_batch : (s u : State) → ValidState s → (batch_between Two s u ≡ [] → ⊥) → s ≡ u → ⊥
some_batch s u v some same = some (ap (batch_between Two s) (sym same) ∙ batch_between-same Two s v)

-- ---- within the serials

within_by : (another last : Bool) → State → Reply × State → Reply × State
within_by another last s a = cond (another && last) (Refused JournalFull, s) a

-- what leaves the state is answered
pub within-same : (s : State) (r : Reply) → within_serials s (r, s) ≡ (r, s)
within-same s r = ap (λ (b : Bool). cond (not b && (s.serial == last_serial)) (Refused JournalFull, s) (r, s)) ((same_state-Decides s s).1 refl)

-- at the last serial another state is refused
pub within-last : (s u : State) (r : Reply) → (s ≡ u → ⊥) → s.serial ≡ last_serial → within_serials s (r, u) ≡ (Refused JournalFull, s)
within-last s u r apart last =
    ap (λ (b : Bool). cond (not b && (s.serial == last_serial)) (Refused JournalFull, s) (r, u)) (false_from_ne_true (same_state s u) (λ is. apart ((same_state-Decides s u).0 is)))
    ∙ ap (λ (n : ℕ). cond (n == last_serial) (Refused JournalFull, s) (r, u)) last

-- below it every answer stands
pub within-below : (s : State) (a : Reply × State) → (s.serial ≡ last_serial → ⊥) → within_serials s a ≡ a
within-below s a below = ap (λ (b : Bool). cond (not (same_state s a.1) && b) (Refused JournalFull, s) a) (not_last s.serial below) ∙ never (not (same_state s a.1))
  where
    not_last : (n : ℕ) → (n ≡ last_serial → ⊥) → (n == last_serial) ≡ false
    not_last n other = by (n == last_serial) refl
      where
        by : (b : Bool) → (n == last_serial) ≡ b → (n == last_serial) ≡ false
        by true is = absurd (other (grind (arith, nat_tests, is)))
        by false is = is

    never : (b : Bool) → cond (b && false) (Refused JournalFull, s) a ≡ a
    never true = refl
    never false = refl

-- ---- a plan

-- what holds of an answer in two parts
pub both_ok : {T E : Type 0} (r : Result T E) (P Q S : T → Type 0) → ((x : T) → P x → Q x → S x) → IfOk r P → IfOk r Q → IfOk r S
both_ok (Ok x) P Q S f p q = f x p q
both_ok (Err e) P Q S f p q = tt

-- the rows that go with a core rise
pub rising : (core : Cored) (rows : ByteRows) → GoesWith core rows → Rises bytes_cmp rows
rising core rows goes = subst (Rises bytes_cmp) (sym goes.rows_are) (spelled_rise Two core.state goes.valid)

-- where it leads, counted
abbrev pub next_of : Planned → State → State
next_of p s = counted s (led p s)

-- a plan without a batch is answered at once
pub answered_still : (p : Planned) (s : State) → ValidState s → CanLead p s → p.batch ≡ [] → (p.reply, s) ≡ within_serials s (p.reply, next_of p s)
answered_still p s v can none =
    sym (ap (λ (u : State). within_serials s (p.reply, u)) (still s (led p s) v can.valid (sym can.batch ∙ none)) ∙ within-same s p.reply)

other_state : (p : Planned) (s : State) → ValidState s → CanLead p s → (p.batch ≡ [] → ⊥) → s ≡ next_of p s → ⊥
other_state p s v can some = some_batch s (next_of p s) v (λ none. some (can.batch ∙ none))

-- at the last serial one with a batch is refused
pub answered_last : (p : Planned) (s : State) → ValidState s → CanLead p s → (p.batch ≡ [] → ⊥) → s.serial ≡ last_serial
    → (Refused JournalFull, s) ≡ within_serials s (p.reply, next_of p s)
answered_last p s v can some last = sym (within-last s (next_of p s) p.reply (other_state p s v can some) last)

-- a serial that is not the last is below it
pub below : (s : State) → ValidState s → (s.serial ≡ last_serial → ⊥) → s.serial < last_serial
below s v other = by (nat_lt s.serial last_serial) refl
  where
    same : (n m : ℕ) → n ≤ m → nat_lt n m ≡ false → n ≡ m
    same n m upto e = grind (arith, nat_tests, upto, e)

    less : (n m : ℕ) → nat_lt n m ≡ true → n < m
    less n m e = grind (arith, nat_tests, e)

    by : (b : Bool) → nat_lt s.serial last_serial ≡ b → s.serial < last_serial
    by true e = less s.serial last_serial e
    by false e = absurd (other (same s.serial last_serial v.counted e))

-- below it the core moves on
pub answered_next : (p : Planned) (s : State) (next : Cored) (r : Reply) → (s.serial ≡ last_serial → ⊥) → r ≡ p.reply → next ≡ record { state = next_of p s; live = true }
    → (r, next.state) ≡ within_serials s (p.reply, next_of p s)
answered_next p s next r other said moved =
    ap₂ (λ (a : Reply) (n : Cored). (a, n.state)) said moved ∙ sym (within-below s (p.reply, next_of p s) other)

-- and the rows with it
pub goes_next : (p : Planned) (core next : Cored) (rows later : ByteRows) → GoesWith core rows → CanLead p core.state → (core.state.serial ≡ last_serial → ⊥)
    → next ≡ record { state = next_of p core.state; live = true } → later ≡ rows_after rows p.batch → GoesWith next later
goes_next p core next rows later goes can other moved changed =
    subst (λ (n : Cored). GoesWith n later) (sym moved)
    (record {
      live = refl;
      valid = valid;
      rows_are = changed ∙ ap₂ rows_after goes.rows_are can.batch ∙ batch_leads Two core.state (next_of p core.state) goes.valid valid;
    })
  where
    valid : ValidState (next_of p core.state)
    valid = counted-valid core.state (led p core.state) goes.valid can.valid (below core.state goes.valid other)

-- the answer of the plan is the answer of the controller
pub answered_planned : (p : Planned) (c : Command) (s : State) (a : Reply × State) → a ≡ within_serials s (p.reply, next_of p s) → p.reply ≡ (carry c s).0
    → LeadsFrom p s (counted s (carry c s).1) → a ≡ within_serials s (numbered s (answer Admin c s))
answered_planned p c s a is said leads = is ∙ ap₂ (λ (r : Reply) (u : State). within_serials s (r, u)) said leads.next

-- what a line spells is answered so
pub answered_command : (c : Command) (spelled : Result Command CodecFault) (s t : State) (r : Reply) → spelled ≡ Ok c
    → (r, t) ≡ within_serials s (numbered s (answer Admin c s)) → (r, t) ≡ line_answer spelled s
answered_command c spelled s t r is said = said ∙ ap (λ (m : Result Command CodecFault). line_answer m s) (sym is)
