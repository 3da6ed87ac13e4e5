-- What the machine with a folder makes of an answer: it is refused, changes nothing, has no room, or is kept.
use Rattle.std.proofs.Common.{◌≡◌, ℕ, ◌+◌, ◌≤◌, ◌<◌, ◌==◌, nat_lt, Bool, true, false, ◌&&◌, ◌||◌, cond, List, [], ◌∷◌, Some, refl, sym, ap, ◌∙◌, lt-ltb, arith}
use Rattle.std.proofs.lemmas.Bool.Decides.{nat_tests}
use Rattle.ctrl_model.specs.declared.commands.Command.{Command}
use Rattle.ctrl_model.specs.declared.kinds.Who.{Who}
use Rattle.ctrl_model.specs.declared.refusals.Refusal.TheVariants.{NotPermitted, JournalFull, MarkFull}
use Rattle.ctrl_model.specs.declared.replies.Reply.{Reply}
use Rattle.ctrl_model.specs.declared.replies.Reply.TheVariants.{Done, Refused}
use Rattle.ctrl_model.specs.State.{State}
use Rattle.ctrl_model.specs.ValidState.{ValidState}
use Rattle.ctrl_model.specs.Permitted.{is_permitted}
use Rattle.ctrl_model.specs.Controller.{carry, counted}
use Rattle.ctrl_model.specs.Limits.{last_serial}
use Rattle.model_laws.proofs.CountedLaws.{counted-same}
use Rattle.row_codec.specs.declared.changes.Op.{Op}
use Rattle.row_codec.specs.Batches.{batch_between}
use Rattle.row_laws.proofs.StateBatches.{batch_between-same}
use Rattle.row_store.specs.declared.bounds.StoreBounds.{StoreBounds}
use Rattle.slot_reading.specs.BatchRows.{ByteRows}
use Rattle.row_store.specs.StoredRows.{Stored, size_with, with_ops}
use Rattle.row_store.specs.RewrittenStores.{compacted, compacted_size, rewritten_of}
use Rattle.journal_core.specs.Slots.{slot_end}
use Rattle.ctrl_core.specs.declared.plans.Planned.{Planned}
use Rattle.ctrl_core.specs.Changes.{LeadsFrom, led}
use Rattle.row_store.specs.OpenedStates.{byte_rows_of}
use Rattle.ctrl_core.specs.KeptFormat.{kept_format}
use Rattle.ctrl_keep.specs.KeptMachine.{Machine, kept, is_compact, compacted_at, answered, step}
use Rattle.ctrl_keep.specs.KeptController.{place_of, machine_with, made_of}

not_below : (a b : ℕ) → b ≤ a → nat_lt a b ≡ false
not_below a b le = grind (arith, nat_tests, le)

-- What becomes of a batch that is not empty where the two tests have these answers.
abbrev kept_by : (last full : Bool) → Reply → (s next : State) → List Op → Stored → Reply × Machine
kept_by last full reply s next ops stored = cond (last || full) (Refused JournalFull, machine_with s stored) (reply, machine_with next (with_ops stored ops))

kept_is : (most : ℕ) (reply : Reply) (s next : State) (ops : List Op) (stored : Stored) (last full : Bool) → (ops ≡ [] → ⊥) → (s.serial == last_serial) ≡ last
    → nat_lt most (size_with stored ops) ≡ full → kept most reply s ops next (place_of stored) ≡ kept_by last full reply s next ops stored
kept_is most reply s next [] stored last full some e f = absurd (some refl)
kept_is most reply s next (op ∷ ops) stored last full some e f =
    ap (λ (b : Bool). kept_by b (nat_lt most (size_with stored (op ∷ ops))) reply s next (op ∷ ops) stored) e
    ∙ ap (λ (b : Bool). kept_by last b reply s next (op ∷ ops) stored) f

not_last : (n : ℕ) → n < last_serial → (n == last_serial) ≡ false
not_last n below = grind (arith, nat_tests, below)

-- A batch with room is kept.
pub kept_with_room : (most : ℕ) (reply : Reply) (s next : State) (ops : List Op) (stored : Stored) → (ops ≡ [] → ⊥) → s.serial < last_serial → size_with stored ops ≤ most
    → kept most reply s ops next (place_of stored) ≡ (reply, machine_with next (with_ops stored ops))
kept_with_room most reply s next ops stored some below room =
    kept_is most reply s next ops stored false false some (not_last s.serial below) (not_below most (size_with stored ops) room)

-- A batch without room is refused.
pub kept_without_room : (most : ℕ) (reply : Reply) (s next : State) (ops : List Op) (stored : Stored) → (ops ≡ [] → ⊥) → s.serial < last_serial → most < size_with stored ops
    → kept most reply s ops next (place_of stored) ≡ (Refused JournalFull, machine_with s stored)
kept_without_room most reply s next ops stored some below full =
    kept_is most reply s next ops stored false true some (not_last s.serial below) (lt-ltb most (size_with stored ops) full)

-- So is any batch at the last serial.
pub kept_at_last : (most : ℕ) (reply : Reply) (s next : State) (ops : List Op) (stored : Stored) → (ops ≡ [] → ⊥) → (s.serial == last_serial) ≡ true
    → kept most reply s ops next (place_of stored) ≡ (Refused JournalFull, machine_with s stored)
kept_at_last most reply s next ops stored some last = kept_is most reply s next ops stored true (nat_lt most (size_with stored ops)) some last refl

-- What changes no row is answered at once.
pub kept_still : (most : ℕ) (reply : Reply) (s next : State) (ops : List Op) (stored : Stored) → ops ≡ []
    → kept most reply s ops next (place_of stored) ≡ (reply, machine_with s stored)
kept_still most reply s next ops stored e = ap (λ (o : List Op). kept most reply s o next (place_of stored)) e

never_both : (b : Bool) → (b && false) ≡ false
never_both true = refl
never_both false = refl

-- A command that is not permitted is refused, and changes nothing.
pub step_refused : (bounds : StoreBounds) (who : Who) (c : Command) (s : State) (stored : Stored) → ValidState s → is_permitted who c ≡ false
    → step bounds who c (machine_with s stored) ≡ (Refused NotPermitted, machine_with s stored)
step_refused bounds who c s stored v e =
    ap (λ (b : Bool). answered bounds (is_compact c && b) (cond b (carry c s) (Refused NotPermitted, s)) s (Some (place_of stored))) e
    ∙ ap (λ (b : Bool). answered bounds b (Refused NotPermitted, s) s (Some (place_of stored))) (never_both (is_compact c))
    ∙ ap (λ (t : State). kept bounds.slot (Refused NotPermitted) s (batch_between kept_format s t) t (place_of stored)) (counted-same s)
    ∙ kept_still bounds.slot (Refused NotPermitted) s s (batch_between kept_format s s) stored (batch_between-same kept_format s v)

-- A permitted command is answered by what the controller does, and Compact by what the folder does.
step_permitted : (bounds : StoreBounds) (who : Who) (c : Command) (s : State) (stored : Stored) (compacts : Bool) → is_permitted who c ≡ true → is_compact c ≡ compacts
    → step bounds who c (machine_with s stored) ≡ answered bounds (compacts && true) (carry c s) s (Some (place_of stored))
step_permitted bounds who c s stored compacts e is =
    ap (λ (b : Bool). answered bounds (is_compact c && b) (cond b (carry c s) (Refused NotPermitted, s)) s (Some (place_of stored))) e
    ∙ ap (λ (b : Bool). answered bounds (b && true) (carry c s) s (Some (place_of stored))) is

-- A permitted command other than Compact is answered as it is planned.
pub step_planned : (who : Who) (c : Command) (s : State) (stored : Stored) (p : Planned) → is_permitted who c ≡ true → is_compact c ≡ false → p.reply ≡ (carry c s).0
    → LeadsFrom p s (counted s (carry c s).1) → p.batch ≡ batch_between kept_format s (counted s (carry c s).1)
    → step stored.bounds who c (machine_with s stored) ≡ made_of p s stored
step_planned who c s stored p e other reply leads batch =
    step_permitted stored.bounds who c s stored false e other
    ∙ sym (ap (λ (r : Reply). kept stored.bounds.slot r s p.batch (counted s (led p s)) (place_of stored)) reply
    ∙ ap (λ (o : List Op). kept stored.bounds.slot (carry c s).0 s o (counted s (led p s)) (place_of stored)) batch
    ∙ ap (λ (t : State). kept stored.bounds.slot (carry c s).0 s (batch_between kept_format s (counted s (carry c s).1)) t (place_of stored)) leads.next)

-- Compact is answered by the folder's bounds.
pub step_compacts : (bounds : StoreBounds) (who : Who) (c : Command) (s : State) (stored : Stored) → is_permitted who c ≡ true → is_compact c ≡ true
    → step bounds who c (machine_with s stored) ≡ compacted_at bounds s (place_of stored)
step_compacts bounds who c s stored e is = step_permitted bounds who c s stored true e is

-- ---- what becomes of Compact

-- What becomes of it where the two tests have these answers.
abbrev compacted_by : (full has_room : Bool) → State → Stored → Reply × Machine
compacted_by full has_room s stored =
    cond full (Refused JournalFull, machine_with s stored) (cond has_room (Done, machine_with s (rewritten_of kept_format stored.rows stored)) (Refused MarkFull, machine_with s stored))

compacted_is : (s : State) (stored : Stored) (full has_room : Bool) → stored.rows ≡ byte_rows_of kept_format s → nat_lt stored.bounds.slot (compacted_size stored.rows) ≡ full
    → nat_lt stored.mark stored.bounds.mark ≡ has_room → compacted_at stored.bounds s (place_of stored) ≡ compacted_by full has_room s stored
compacted_is s stored full has_room rows e f =
    ap (λ (r : ByteRows). cond (nat_lt stored.bounds.slot (compacted_size r)) (Refused JournalFull, machine_with s stored)
    (cond (nat_lt stored.mark stored.bounds.mark) (Done, record { state = s; place = Some (record { end = slot_end (compacted r); mark = stored.mark + 1 }) }) (Refused MarkFull, machine_with s stored)))
    (sym rows)
    ∙ ap (λ (b : Bool). compacted_by b (nat_lt stored.mark stored.bounds.mark) s stored) e
    ∙ ap (λ (b : Bool). compacted_by full b s stored) f

pub compacted_done : (s : State) (stored : Stored) → stored.rows ≡ byte_rows_of kept_format s → compacted_size stored.rows ≤ stored.bounds.slot → stored.mark < stored.bounds.mark
    → (Done, machine_with s (rewritten_of kept_format stored.rows stored)) ≡ compacted_at stored.bounds s (place_of stored)
compacted_done s stored rows fits room =
    sym (compacted_is s stored false true rows (not_below stored.bounds.slot (compacted_size stored.rows) fits) (lt-ltb stored.mark stored.bounds.mark room))

pub compacted_full : (s : State) (stored : Stored) → stored.rows ≡ byte_rows_of kept_format s → stored.bounds.slot < compacted_size stored.rows
    → (Refused JournalFull, machine_with s stored) ≡ compacted_at stored.bounds s (place_of stored)
compacted_full s stored rows full =
    sym (compacted_is s stored true (nat_lt stored.mark stored.bounds.mark) rows (lt-ltb stored.bounds.slot (compacted_size stored.rows) full) refl)

pub compacted_mark : (s : State) (stored : Stored) → stored.rows ≡ byte_rows_of kept_format s → compacted_size stored.rows ≤ stored.bounds.slot → stored.bounds.mark ≤ stored.mark
    → (Refused MarkFull, machine_with s stored) ≡ compacted_at stored.bounds s (place_of stored)
compacted_mark s stored rows fits full =
    sym (compacted_is s stored false false rows (not_below stored.bounds.slot (compacted_size stored.rows) fits) (not_below stored.mark stored.bounds.mark full))
