-- What the images of a folder stand for while the other slot is let stand.
use Rattle.std.specs.Prelude.{IsTrue}
use Rattle.std.proofs.Common.{◌≡◌, ◌⊎◌, inl, inr, ℕ, ◌+◌, ◌<◌, Bool, List, [], ◌∷◌, ◌++◌, length, take, drop, refl, sym, ap, ◌∙◌, subst, arith, length-append}
use Rattle.std.proofs.lemmas.List.{length-take, length-drop}
use Rattle.std.proofs.lemmas.Bool.{cases_lt}
use Rattle.ziti_outside.specs.declared.desk.Part.{Part}
use Rattle.ziti_outside.specs.declared.desk.Part.TheVariants.{Zero, One, Mark}
use Rattle.ziti_outside.specs.Images.{Image, Holds, Torn, Else, OnPart, After, IsStable}
use Rattle.ziti_outside.specs.Told.{IsFront}
use Rattle.ziti_outside.specs.Moments.{Remembers, Leaves}
use Rattle.ziti_outside.specs.Untouched.{OnlyDisk}
use Rattle.ziti_outside.specs.Views.{Seen, Stopped}
use Rattle.ziti_outside.proofs.MomentLaws.{Leaves-weaker}
use Rattle.journal_core.specs.Room.{KeepsRoom}
use Rattle.ctrl_model.specs.declared.formats.Format.{Format}
use Rattle.journal_core.specs.Slots.{Slot, header, records_of}
use Rattle.slot_files.specs.declared.standing.Standing.{Standing}
use Rattle.slot_files.specs.OpenedSlots.{IsNamed, IsOpened}
use Rattle.slot_files.specs.FolderImage.{slot_of, StandsBy, Stands}
use Rattle.slot_files.specs.SwitchedSlots.{other_slot, IsReady, IsSwitched, OnlySwitches, StandsByEither}
use Rattle.slot_files.proofs.StandLaws.{by_slot, same_stands, slot_no_mark}

-- A mark that is being lengthened by a byte stands for what stood, or for what the other slot does.
either_stands : (mark : ℕ) (reads old new : Image) → 0 < mark → length (old Mark) ≡ mark → old (other_slot mark) ≡ reads (other_slot mark) → OnPart Mark (Torn mark 1) old new
    → (f g : Format) (before after : List (List ℕ)) → Stands f old before → Slot g (reads (other_slot mark)) after → Stands f new before ⊎ Stands g new after
either_stands mark reads old new some long ready step f g before after s slot =
    let torn = step.here in
    let low = torn.no_shorter in
    let high = torn.no_longer in
    elim (cases_lt mark (length (new Mark))) as (λ _. Stands f new before ⊎ Stands g new after) [
      | inl more ↦
          let count : mark + 1 ≡ length (new Mark) = omega arith in
          let here : new (other_slot mark) ≡ reads (other_slot mark) = step.others.same (other_slot mark) (λ e. slot_no_mark (mark + 1) (sym e)) ∙ ready in
          inr (subst (λ (m : ℕ). StandsBy m g new after) count (by_slot (mark + 1) g new after (omega arith) (subst (λ (l : List ℕ). Slot g l after) (sym here) slot)))
      | inr less ↦
          let count : length (new Mark) ≡ length (old Mark) = omega arith in
          let same = same_stands f old new count (step.others.same (slot_of (length (old Mark))) (λ e. slot_no_mark (length (old Mark)) (sym e))) in
          inl (same.still before s)
    ]

pub switched_stands : (old new : Image) → 0 < length (old Mark) → OnPart Mark (Torn (length (old Mark)) 1) old new → StandsByEither (length (old Mark)) old old new
switched_stands old new some step = record { either = either_stands (length (old Mark)) old old new some refl refl step }

pub switched_alike : (f : Format) (old new : Image) (batches : List (List ℕ)) → 0 < length (old Mark) → Stands f old batches → Slot f (old (other_slot (length (old Mark)))) batches
    → OnPart Mark (Torn (length (old Mark)) 1) old new → Stands f new batches
switched_alike f old new batches some s slot step =
    elim (either_stands (length (old Mark)) old old new some refl refl step f f batches batches s slot) as (λ _. Stands f new batches) [ inl t ↦ t | inr t ↦ t ]

-- Every image of a folder that is ready stands for what either slot does while the mark is lengthened.
pub images_switched : {images : Image → Type 0} (standing : Standing) (format : Format) (reads : Image) → IsNamed standing → IsReady standing.mark format reads images
    → (image : Image) → After (OnPart Mark (Torn standing.mark 1)) images image → After (StandsByEither standing.mark reads) images image
images_switched standing format reads named ready image p =
    let long = ap length (ready.stable_mark.each p.from p.was) ∙ ready.long in
    record {
      from = p.from;
      was = p.was;
      by = record { either = either_stands standing.mark reads p.from image named.some long (ready.stable.each p.from p.was) p.by };
    }

-- ---- the folder behind it

-- A mark that is longer by a byte.
longer : (mark : ℕ) (old new : List ℕ) → length old ≡ mark → Holds mark (0 ∷ []) old new → length new ≡ mark + 1
longer mark old new long e =
    let count : length new ≡ length (take mark old) + length (0 ∷ drop (mark + 1) old) = ap length e ∙ length-append (take mark old) (0 ∷ drop (mark + 1) old) in
    omega (arith, length-take mark old, length-drop (mark + 1) old)

-- The other slot stands, and nothing is pending in it and in the mark.
pub switched_opened : {step : List ℕ → List ℕ → Type 0} (standing now : Standing) (format : Format) (reads new : Image) (images later : Image → Type 0)
    → IsReady standing.mark format reads images → IsSwitched standing now → now.format ≡ format
    → Holds standing.mark (0 ∷ []) (reads Mark) (new Mark) → Else Mark reads new → IsStable Mark new later → ((image : Image) → later image → After (OnPart Mark step) images image)
    → IsOpened now new later
switched_opened standing now format reads new images later ready switched told written others stable found =
    let slot : new (other_slot standing.mark) ≡ reads (other_slot standing.mark) = others.same (other_slot standing.mark) (λ e. slot_no_mark (standing.mark + 1) (sym e)) in
    let begins : IsFront (header format) (new (other_slot standing.mark)) = (records_of ready.batches ++ ready.slot.gate ∷ ready.slot.more, sym (slot ∙ ready.slot.split)) in
    let steady : IsStable (other_slot standing.mark) new later = record {
      each = λ image p.
          let before = found image p in
          before.by.others.same (other_slot standing.mark) (λ e. slot_no_mark (standing.mark + 1) (sym e)) ∙ ready.stable.each before.from before.was ∙ sym slot;
    } in
    record {
      found = record {
        mark = longer standing.mark (reads Mark) (new Mark) ready.long written ∙ sym switched.mark;
        begins = subst (λ (f : Format). IsFront (header f) (new now.part)) (sym told) (subst (λ (q : Part). IsFront (header format) (new q)) (sym switched.part) begins);
      };
      stable_mark = stable;
      stable_slot = subst (λ (q : Part). IsStable q new later) (sym switched.part) steady;
    }

-- Where the mark alone was changed, no slot grew.
slots_same : {old new : Image} → Else Mark old new → KeepsRoom 0 old new
slots_same others = record {
  zero = omega (arith, ap length (others.same Zero (λ e. cc)));
  one = omega (arith, ap length (others.same One (λ e. cc)));
}

-- A write of the mark lets the other slot stand, and does nothing else, whatever came of it.
pub switches_alone : {D : Type 0} {seen : D → Seen} {stopped : D → Stopped} {old new : D} (tells : Bool) (standing : Standing) (format : Format) → IsNamed standing
    → (IsTrue tells → IsReady standing.mark format (seen old).reads (stopped old).images) → OnlyDisk seen old new → Leaves seen stopped old new (After (OnPart Mark (Torn standing.mark 1)) (stopped old).images)
    → Remembers (stopped old) (stopped new) → Else Mark (seen old).reads (seen new).reads → OnlySwitches tells seen stopped standing.mark old new
switches_alone {seen = seen} {old = old} tells standing format named ready disk written remembers others = record {
  others = disk;
  quiet = Leaves-weaker _ written (λ image p. tt);
  stops = λ told. Leaves-weaker _ written (images_switched standing format (seen old).reads named (ready told));
  remembers = remembers;
  room = record {
    reads = λ told. slots_same others;
    found = λ image p. let before = written.found image p in record { from = before.from; was = before.was; by = slots_same before.by.others };
  };
}
