use Rattle.std.specs.Prelude.{⊤, length}
use Rattle.std.proofs.Common.{◌≡◌, ◌⊎◌, inl, inr, ℕ, zero, suc, ◌≤◌, true, List, [], ◌∷◌, Some, refl, sym, ap, subst, arith}
use Rattle.ziti_outside.specs.Images.{Image, After}
use Rattle.ziti_outside.specs.Moments.{Now, Leaves}
use Rattle.ctrl_model.specs.declared.formats.Format.{Format}
use Rattle.ctrl_model.specs.declared.formats.Format.TheVariants.{Two}
use Rattle.journal_core.specs.Room.{KeepsRoom}
use Rattle.journal_core.specs.Slots.{Slot}
use Rattle.journal_core.specs.WorkedSlots.{batch_of_ann, empty_slot, slot_of_ann}
use Rattle.journal_core.specs.WorkedDesks.{small_seen, small_stopped, fresh, behind}
use Rattle.slot_files.specs.FolderImage.{Stands}
use Rattle.slot_files.specs.SwitchedSlots.{OnlySwitches, StandsByEither}
use Rattle.slot_files.specs.WorkedFolders.{folder_of_ann, second_stands, second_is_cut}
use Rattle.slot_files.proofs.worked.worked_switches.Goals as goal

-- The folder as it was stands for what it stood for.
same_stands : StandsByEither 1 folder_of_ann folder_of_ann folder_of_ann
same_stands = record { either = λ f g before after stood slot. inl stood }

-- Behind the longer mark the second slot stands.
second_slot : StandsByEither 1 folder_of_ann folder_of_ann second_stands
second_slot = record { either = λ f g before after stood slot. inr slot }

-- A call leaves these images, where one of them is that of its start, and another the one that a stop finds behind it.
leaves : (reads found : Image) (images : Image → Type 0) → images folder_of_ann → images found → Leaves small_seen small_stopped (fresh folder_of_ann) (behind folder_of_ann reads found) images
leaves reads found images first last = record {
  time = record { later = omega arith; nothing_else = λ time image taken early since. by time image taken since };
  found = λ image same. subst images (sym same) last;
  quiet = refl;
}
  where
    by : (time : ℕ) (image : Image) (taken : List ℕ) → (small_stopped (behind folder_of_ann reads found)).since time image taken
        → (small_stopped (fresh folder_of_ann)).since time image taken ⊎ Now images (Some []) image taken
    by zero image taken (inl same, none) = inl (inl same, none)
    by zero image taken (inr same, none) = inr (record { found = subst images (sym same) last; replies = none })
    by (suc time) image taken (same, none) = inr (record { found = subst images (sym same) last; replies = none })

-- The call did nothing else, where the folder then reads and is found so.
switches : (reads found : Image) → StandsByEither 1 folder_of_ann folder_of_ann found → KeepsRoom 0 folder_of_ann reads → KeepsRoom 0 folder_of_ann found
    → OnlySwitches true small_seen small_stopped 1 (fresh folder_of_ann) (behind folder_of_ann reads found)
switches reads found either read left = record {
  others = record { replies = refl; notes = refl; failed_says = refl; failed_notes = refl };
  quiet = leaves reads found (λ image. ⊤) tt tt;
  stops = λ told. leaves reads found (After (StandsByEither 1 folder_of_ann) (λ image. image ≡ folder_of_ann))
      (record { from = folder_of_ann; was = refl; by = same_stands }) (record { from = folder_of_ann; was = refl; by = either });
  remembers = record { still = still };
  room = record {
    reads = λ told. read;
    found = λ image same. record { from = folder_of_ann; was = refl; by = subst (λ (i : Image). KeepsRoom 0 folder_of_ann i) (sym same) left };
  };
}
  where
    still : (time : ℕ) (image : Image) (taken : List ℕ) → time ≤ 0 → (small_stopped (fresh folder_of_ann)).since time image taken
        → (small_stopped (behind folder_of_ann reads found)).since time image taken
    still zero image taken early (inl same, none) = (inl same, none)
    still zero image taken early (inr same, none) = (inl same, none)
    still (suc time) image taken early since = absurd (omega (arith, early))

-- The slots of the examples.
slot_with_ann : Slot Two (slot_of_ann Two) (batch_of_ann Two ∷ [])
slot_with_ann = record { gate = 0; more = []; split = refl; closed = λ e. absurd (omega (arith, e)); short = (omega arith, tt) }

slot_with_none : Slot Two (empty_slot Two) []
slot_with_none = record { gate = 0; more = []; split = refl; closed = λ e. absurd (omega (arith, e)); short = tt }

-- No bytes are a slot.
no_slot : (f : Format) (batches : List (List ℕ)) → Slot f [] batches → ⊥
no_slot f batches slot = let long = ap length slot.split in omega (arith, long)

pub returns-clause-switched : goal.returns-clause-switched
returns-clause-switched c = switches second_stands second_stands second_slot (record { zero = omega arith; one = omega arith }) (record { zero = omega arith; one = omega arith })

pub returns-clause-pending : goal.returns-clause-pending
returns-clause-pending c = switches second_stands folder_of_ann same_stands (record { zero = omega arith; one = omega arith }) (record { zero = omega arith; one = omega arith })

pub returns-clause-failed : goal.returns-clause-failed
returns-clause-failed c = switches folder_of_ann folder_of_ann same_stands (record { zero = omega arith; one = omega arith }) (record { zero = omega arith; one = omega arith })

pub returns-clause-loses_the_second_slot : goal.returns-clause-loses_the_second_slot
returns-clause-loses_the_second_slot c = λ call.
    let left = (call.stops refl).found second_is_cut refl in
    elim (left.by.either Two Two (batch_of_ann Two ∷ []) [] (subst (λ (i : Image). Stands Two i (batch_of_ann Two ∷ [])) (sym left.was) slot_with_ann) slot_with_none) as (λ _. ⊥)
    [ inl slot ↦ no_slot Two (batch_of_ann Two ∷ []) slot | inr slot ↦ no_slot Two [] slot ]

pub returns-clause-lets_a_slot_grow : goal.returns-clause-lets_a_slot_grow
returns-clause-lets_a_slot_grow c = λ call. let one = (call.room.reads refl).one in omega (arith, one)
