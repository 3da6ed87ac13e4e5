-- What the images of a folder stand for while it is opened or created.
use Rattle.std.proofs.Common.{Bool, true, false, if◌then◌else◌, ◌==◌, ◌≡◌, ◌⊎◌, inl, inr, ℕ, zero, suc, ◌+◌, ◌-◌, ◌%◌, ◌<◌, List, [], ◌∷◌, ◌++◌, length, drop, refl, sym, ap, ◌∙◌, subst, arith}
use Rattle.ziti_outside.specs.declared.desk.Part.{Part}
use Rattle.ziti_outside.specs.declared.desk.Part.TheVariants.{Zero, One, Mark}
use Rattle.ziti_outside.specs.Images.{Image, Holds, Torn, OnPart, After, IsStable}
use Rattle.ctrl_model.specs.declared.formats.Format.{Format}
use Rattle.journal_core.specs.Slots.{Slot, IsPayload, ShutOrAdded, text_of, slot_end, slot_bytes}
use Rattle.journal_core.proofs.SlotLaws.{one_slot, slot_stopped}
use Rattle.slot_files.specs.declared.standing.Standing.{Standing}
use Rattle.slot_files.specs.OpenedSlots.{IsNamed, IsFound, IsOpened}
use Rattle.slot_files.specs.FolderImage.{slot_of, StandsBy, Stands, StandsAsBefore}

-- An image stands for what it stands for.
pub stands_same : {images : Image → Type 0} (created : Format) (image : Image) → images image → After (StandsAsBefore created) images image
stands_same created image p = record { from = image; was = p; by = record { still = λ batches s. s; own = λ some f batches s. s } }

-- An image that comes from one of fewer images comes from one of more.
pub stands_from : {fewer more : Image → Type 0} (created : Format) → ((image : Image) → fewer image → more image) → (image : Image) → After (StandsAsBefore created) fewer image
    → After (StandsAsBefore created) more image
stands_from created within image p = record { from = p.from; was = within p.from p.was; by = p.by }

-- Images with an empty mark stand for no batches.
empty_mark : (created : Format) (old new : Image) → old Mark ≡ [] → new Mark ≡ [] → StandsAsBefore created old new
empty_mark created old new e f = record {
  still = λ batches s. subst (λ (m : List ℕ). StandsBy (length m) created new batches) (sym f) (subst (λ (m : List ℕ). StandsBy (length m) created old batches) e s);
  own = λ some v batches s. absurd (omega (arith, some, ap length e));
}

-- Where the mark has one byte, and the first slot is one of the format that stands for no batches, the image stands for none.
first_byte : (created : Format) (old new : Image) (byte : ℕ) → old Mark ≡ [] → new Mark ≡ byte ∷ [] → Slot created (new Zero) [] → StandsAsBefore created old new
first_byte created old new byte e f slot = record {
  still = λ batches s.
      let none : batches ≡ [] = subst (λ (m : List ℕ). StandsBy (length m) created old batches) e s in
      subst (λ (m : List ℕ). StandsBy (length m) created new batches) (sym f) (subst (λ (b : List (List ℕ)). Slot created (new Zero) b) (sym none) slot);
  own = λ some v batches s. absurd (omega (arith, some, ap length e));
}

-- The first slot is being written where the mark is empty.
pub images_slot : {count : ℕ} {reads : Image} {images : Image → Type 0} (created : Format) → reads Mark ≡ [] → IsStable Mark reads images
    → (image : Image) → After (OnPart Zero (Torn 0 count)) images image → After (StandsAsBefore created) images image
images_slot created empty stable image p =
    let was = stable.each p.from p.was ∙ empty in
    record { from = p.from; was = p.was; by = empty_mark created p.from image was (p.by.others.same Mark (λ e. cc) ∙ was) }

-- A mark that was empty and is being written one byte.
one_byte : (created : Format) (old new : Image) (mark : List ℕ) → old Mark ≡ [] → new Mark ≡ mark → Torn 0 1 [] mark → Slot created (new Zero) [] → StandsAsBefore created old new
one_byte created old new [] e f torn slot = empty_mark created old new e f
one_byte created old new (byte ∷ []) e f torn slot = first_byte created old new byte e f slot
one_byte created old new (byte ∷ other ∷ more) e f torn slot = let long = torn.no_longer in absurd (omega arith)

-- The mark is being written where the first slot stands for no batches.
pub images_mark : {count : ℕ} {reads mid : Image} {images later : Image → Type 0} (created : Format) → reads Mark ≡ [] → IsStable Mark reads images → Slot created (mid Zero) []
    → IsStable Zero mid later → ((image : Image) → later image → After (OnPart Zero (Torn 0 count)) images image)
    → (image : Image) → After (OnPart Mark (Torn 0 1)) later image → After (StandsAsBefore created) images image
images_mark created empty stable slot stays before image p =
    let first = before p.from p.was in
    let was = stable.each first.from first.was ∙ empty in
    let mid_mark = first.by.others.same Mark (λ e. cc) ∙ was in
    let torn : Torn 0 1 [] (image Mark) = subst (λ (l : List ℕ). Torn 0 1 l (image Mark)) mid_mark p.by.here in
    let same : image Zero ≡ p.from Zero = p.by.others.same Zero (λ e. cc) in
    let now : Slot created (image Zero) [] = subst (λ (l : List ℕ). Slot created l []) (sym (same ∙ stays.each p.from p.was)) slot in
    record { from = first.from; was = first.was; by = one_byte created first.from image (image Mark) was refl torn now }

-- The bytes of an empty slot, written at the front of a part, are a slot that stands for no batches.
pub created_slot : (created : Format) (old new written : List ℕ) → written ≡ slot_bytes created [] → Holds 0 written old new → Slot created new []
created_slot created old new written e h = record {
  gate = 0;
  more = drop 9 old;
  split = h ∙ ap (λ (l : List ℕ). l ++ drop (0 + length l) old) e;
  closed = λ e. absurd (omega (arith, e));
  short = tt;
}

-- An image stands for at most one list of batches, and, where its mark is not empty, of one format, by the length of its mark.
one_by : (mark : ℕ) (f g : Format) (image : Image) (these others : List (List ℕ)) → StandsBy mark f image these → StandsBy mark g image others
    → (0 < mark → f ≡ g) × (these ≡ others)
one_by zero f g image these others s t = (λ some. absurd (omega (arith, some)), s ∙ sym t)
one_by (suc turn) f g image these others s t =
    let same = one_slot f g (image (slot_of (suc turn))) these others s t in
    (λ some. same.0, same.1)

-- An image stands for at most one list of batches, and, where its mark is not empty, of one format.
pub one_stands : (f g : Format) (image : Image) (these others : List (List ℕ)) → Stands f image these → Stands g image others
    → (0 < length (image Mark) → f ≡ g) × (these ≡ others)
one_stands f g image these others s t = one_by (length (image Mark)) f g image these others s t

-- The slot that a mark names stands for the batches of the image.
pub by_slot : (mark : ℕ) (f : Format) (image : Image) (batches : List (List ℕ)) → 0 < mark → Slot f (image (slot_of mark)) batches → StandsBy mark f image batches
by_slot zero f image batches some s = absurd (omega (arith, some))
by_slot (suc turn) f image batches some s = s

-- The batches of an image whose mark is not empty are those of its slot.
of_slot : (mark : ℕ) (f : Format) (image : Image) (batches : List (List ℕ)) → 0 < mark → StandsBy mark f image batches → Slot f (image (slot_of mark)) batches
of_slot zero f image batches some s = absurd (omega (arith, some))
of_slot (suc turn) f image batches some s = s

-- A folder whose slot was found stands, as it reads, for the batches of that slot.
pub found_stands : (standing : Standing) (reads : Image) (batches : List (List ℕ)) → IsNamed standing → IsFound reads standing
    → Slot standing.format (reads standing.part) batches → Stands standing.format reads batches
found_stands standing reads batches named found slot =
    let by_part : Slot standing.format (reads (slot_of standing.mark)) batches = subst (λ (q : Part). Slot standing.format (reads q) batches) named.part slot in
    subst (λ (m : ℕ). StandsBy m standing.format reads batches) (sym found.mark) (by_slot standing.mark standing.format reads batches named.some by_part)

-- Every image of an opened folder stands for the batches of its slot.
pub opened_stands : (standing : Standing) (reads image : Image) (images : Image → Type 0) (batches : List (List ℕ)) → IsNamed standing → IsOpened standing reads images
    → Slot standing.format (reads standing.part) batches → images image → Stands standing.format image batches
opened_stands standing reads image images batches named opened slot p =
    let mark : length (image Mark) ≡ standing.mark = ap length (opened.stable_mark.each image p) ∙ opened.found.mark in
    let here : Slot standing.format (image standing.part) batches = subst (λ (l : List ℕ). Slot standing.format l batches) (sym (opened.stable_slot.each image p)) slot in
    let by_part : Slot standing.format (image (slot_of standing.mark)) batches = subst (λ (q : Part). Slot standing.format (image q) batches) named.part here in
    subst (λ (m : ℕ). StandsBy m standing.format image batches) (sym mark) (by_slot standing.mark standing.format image batches named.some by_part)

-- A slot is not the mark.
turn_no_mark : (even : Bool) → Mark ≡ (if even then Zero else One) → ⊥
turn_no_mark true e = cc
turn_no_mark false e = cc

pub slot_no_mark : (mark : ℕ) → Mark ≡ slot_of mark → ⊥
slot_no_mark mark e = turn_no_mark ((mark - 1) % 2 == 0) e

-- What a stop left of an append stands for what stood, or for one batch more.
pub append_stands : (f : Format) (old new : Image) (batch : List ℕ) (batches : List (List ℕ)) → 0 < length (old Mark) → Stands f old batches → IsPayload batch
    → OnPart (slot_of (length (old Mark))) (ShutOrAdded (slot_end batches) (text_of batch)) old new → Stands f new batches ⊎ Stands f new (batches ++ batch ∷ [])
append_stands f old new batch batches some s short step =
    let mark : length (new Mark) ≡ length (old Mark) = ap length (step.others.same Mark (slot_no_mark (length (old Mark)))) in
    let slot = of_slot (length (old Mark)) f old batches some s in
    let to = λ (these : List (List ℕ)) (t : Slot f (new (slot_of (length (old Mark)))) these).
    subst (λ (m : ℕ). StandsBy m f new these) (sym mark) (by_slot (length (old Mark)) f new these some t) in
    elim (slot_stopped f _ (new (slot_of (length (old Mark)))) batch batches slot short step.here) as (λ _. Stands f new batches ⊎ Stands f new (batches ++ batch ∷ [])) [
      | inl t ↦ inl (to batches t)
      | inr t ↦ inr (to (batches ++ batch ∷ []) t)
    ]

-- An image with an equal mark and an equal slot stands for the same.
same_by : (mark : ℕ) (f : Format) (old new : Image) (batches : List (List ℕ)) → new (slot_of mark) ≡ old (slot_of mark) → StandsBy mark f old batches → StandsBy mark f new batches
same_by zero f old new batches e s = s
same_by (suc turn) f old new batches e s = subst (λ (l : List ℕ). Slot f l batches) (sym e) s

as_before : (old new : Image) → length (new Mark) ≡ length (old Mark) → new (slot_of (length (old Mark))) ≡ old (slot_of (length (old Mark)))
    → (f : Format) (batches : List (List ℕ)) → Stands f old batches → Stands f new batches
as_before old new mark slot f batches s = subst (λ (m : ℕ). StandsBy m f new batches) (sym mark) (same_by (length (old Mark)) f old new batches slot s)

pub same_stands : (created : Format) (old new : Image) → length (new Mark) ≡ length (old Mark) → new (slot_of (length (old Mark))) ≡ old (slot_of (length (old Mark)))
    → StandsAsBefore created old new
same_stands created old new mark slot = record {
  still = λ batches s. as_before old new mark slot created batches s;
  own = λ some f batches s. as_before old new mark slot f batches s;
}
