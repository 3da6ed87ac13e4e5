-- What the images of a folder stand for while a slot is written beside the one that stands, is let stand, and the other is cut.
use Rattle.std.specs.Prelude.{IsTrue}
use Rattle.std.proofs.Common.{◌≡◌, ◌≤◌, inl, inr, Bool, true, false, if◌then◌else◌, ◌==◌, not, ℕ, zero, suc, ◌+◌, ◌-◌, ◌%◌, ◌<◌, List, [], ◌∷◌, ◌++◌, length, take, drop, refl, sym, ap, ◌∙◌, subst, arith, append_assoc, length-append, Ok, Err, OnOk}
use Rattle.std.specs.declared.result.Result.{Result}
use Rattle.std.proofs.Math.Nat.{suc-mod}
use Rattle.ziti_outside.specs.declared.desk.Part.{Part}
use Rattle.ziti_outside.specs.declared.desk.Part.TheVariants.{Zero, One, Mark}
use Rattle.ziti_outside.specs.Images.{Image, Holds, CutShort, Else, OnPart, After, IsStable}
use Rattle.ziti_outside.specs.Moments.{Remembers, Leaves}
use Rattle.ziti_outside.specs.Told.{IsFront}
use Rattle.ziti_outside.specs.Untouched.{OnlyDisk}
use Rattle.ziti_outside.specs.Views.{Seen, Stopped}
use Rattle.ziti_outside.proofs.ImageLaws.{CutShort-whole}
use Rattle.ziti_outside.proofs.MomentLaws.{Leaves-then, Remembers-then, OnlyDisk-then}
use Rattle.journal_core.specs.Room.{KeepsRoom}
use Rattle.journal_core.proofs.RoomLaws.{held_then}
use Rattle.ctrl_model.specs.declared.formats.Format.{Format}
use Rattle.journal_core.specs.Slots.{Slot, header, records_of}
use Rattle.slot_files.specs.declared.standing.Standing.{Standing}
use Rattle.slot_files.specs.FolderImage.{slot_of, StandsBy, Stands}
use Rattle.slot_files.specs.OpenedSlots.{IsNamed, IsOpened}
use Rattle.slot_files.specs.SwitchedSlots.{other_slot, IsReady, IsSwitched, OnlySwitches, StandsByEither}
use Rattle.slot_files.proofs.StandLaws.{slot_no_mark}
use Rattle.row_store.specs.MovedSlots.{IsSlot, StandsByOne, IsMoved}
use Rattle.row_store.proofs.OpeningLaws.{by_slot}

-- ---- the slots and the mark are apart

-- The slot that a mark of so many bytes names, by whether their number before the last is even.
abbrev turn : Bool → Part
turn even = if even then Zero else One

even_by : (rest : ℕ) → rest < 2 → (suc rest % 2 == 0) ≡ not (rest == 0)
even_by zero small = refl
even_by (suc zero) small = refl
even_by (suc (suc rest)) small = absurd (omega (arith, small))

even_next : (n : ℕ) → (suc n % 2 == 0) ≡ not (n % 2 == 0)
even_next n = ap (λ (k : ℕ). k == 0) (suc-mod n 2) ∙ even_by (n % 2) (omega arith)

turns : (even : Bool) → turn even ≡ turn (not even) → ⊥
turns true e = cc
turns false e = cc

-- The other slot is the one of the other turn.
other_turn : (mark : ℕ) → 0 < mark → other_slot mark ≡ turn (not ((mark - 1) % 2 == 0))
other_turn mark some =
    let next : mark + 1 - 1 ≡ suc (mark - 1) = omega (arith, some) in
    ap (λ (n : ℕ). turn (n % 2 == 0)) next ∙ ap turn (even_next (mark - 1))

pub slots_apart : (mark : ℕ) → 0 < mark → slot_of mark ≡ other_slot mark → ⊥
slots_apart mark some e = turns ((mark - 1) % 2 == 0) (e ∙ other_turn mark some)

-- ---- what an image stands for

-- An image with a mark of so many bytes stands for the batches of the slot that it names.
pub stands_at : (f : Format) (mark : ℕ) (image : Image) (bytes : List ℕ) (batches : List (List ℕ)) → 0 < mark → length (image Mark) ≡ mark → image (slot_of mark) ≡ bytes → Slot f bytes batches
    → Stands f image batches
stands_at f mark image bytes batches some long here slot =
    subst (λ (m : ℕ). StandsBy m f image batches) (sym long) (by_slot mark f image batches some (subst (λ (l : List ℕ). Slot f l batches) (sym here) slot))

-- Bytes behind a slot are no part of it.
pub slot_longer : (f : Format) (bytes more : List ℕ) (batches : List (List ℕ)) → Slot f bytes batches → Slot f (bytes ++ more) batches
slot_longer f bytes more batches s = record {
  gate = s.gate;
  more = s.more ++ more;
  split = ap (λ (l : List ℕ). l ++ more) s.split ∙ ap (λ (l : List ℕ). header f ++ l) (append_assoc (records_of batches) (s.gate ∷ s.more) more);
  closed = s.closed;
  short = s.short;
}

-- A slot that was written over the front of a part stands there.
pub slot_written : (f : Format) (slot old new : List ℕ) (batches : List (List ℕ)) → Holds 0 slot old new → Slot f slot batches → Slot f new batches
slot_written f slot old new batches h s = subst (λ (l : List ℕ). Slot f l batches) (sym h) (slot_longer f slot (drop (0 + length slot) old) batches s)

-- ---- a slot is being written beside the one that stands

-- Whatever stands in the other slot, the image stands for what the slot that stood has.
still_stands : {step : List ℕ → List ℕ → Type 0} (standing : Standing) (other : Part) (reads : Image) (images : Image → Type 0) → IsNamed standing → IsOpened standing reads images
    → other ≡ other_slot standing.mark → (image : Image) → After (OnPart other step) images image
    → (f : Format) (before : List (List ℕ)) → Slot f (reads standing.part) before → Stands f image before
still_stands standing other reads images named opened is image p f before slot =
    let long : length (image Mark) ≡ standing.mark =
    ap length (p.by.others.same Mark (λ e. slot_no_mark (standing.mark + 1) (e ∙ is)) ∙ opened.stable_mark.each p.from p.was) ∙ opened.found.mark in
    let here : image standing.part ≡ reads standing.part =
    p.by.others.same standing.part (λ e. slots_apart standing.mark named.some (sym named.part ∙ e ∙ is)) ∙ opened.stable_slot.each p.from p.was in
    stands_at f standing.mark image (reads standing.part) before named.some long (subst (λ (q : Part). image q ≡ reads standing.part) named.part here) slot

pub images_written : {step : List ℕ → List ℕ → Type 0} (standing : Standing) (other : Part) (slot : List ℕ) (reads : Image) (images : Image → Type 0) → IsNamed standing → IsOpened standing reads images
    → other ≡ other_slot standing.mark → (image : Image) → After (OnPart other step) images image → StandsByOne (reads standing.part) slot image
images_written standing other slot reads images named opened is image p = record {
  either = λ f g before after s t. inl (still_stands standing other reads images named opened is image p f before s);
}

-- Once it is written and stable, the folder is ready to let it stand.
pub written_ready : {step : List ℕ → List ℕ → Type 0} (standing : Standing) (other : Part) (format : Format) (slot : List ℕ) (reads mid : Image) (images later : Image → Type 0) → IsNamed standing
    → IsOpened standing reads images → IsSlot format slot → other ≡ other_slot standing.mark → Holds 0 slot (reads other) (mid other) → Else other reads mid → IsStable other mid later
    → ((image : Image) → later image → After (OnPart other step) images image) → IsReady standing.mark format mid later
written_ready standing other format slot reads mid images later named opened whole is holds others stable found =
    let apart = λ (e : Mark ≡ other). slot_no_mark (standing.mark + 1) (e ∙ is) in
    let same : mid Mark ≡ reads Mark = others.same Mark apart in
    record {
      long = ap length same ∙ opened.found.mark;
      stable_mark = record {
        each = λ image p. let before = found image p in before.by.others.same Mark apart ∙ opened.stable_mark.each before.from before.was ∙ sym same;
      };
      batches = whole.batches;
      slot = subst (λ (q : Part). Slot format (mid q) whole.batches) is (slot_written format slot (reads other) (mid other) whole.batches holds whole.slot);
      stable = subst (λ (q : Part). IsStable q mid later) is stable;
    }

-- What the other slot stood for while it was let stand is what was written.
pub images_moved : {step : List ℕ → List ℕ → Type 0} (standing : Standing) (other : Part) (slot : List ℕ) (reads mid : Image) (images later : Image → Type 0) → IsNamed standing
    → IsOpened standing reads images → other ≡ other_slot standing.mark → Holds 0 slot (reads other) (mid other)
    → ((image : Image) → later image → After (OnPart other step) images image)
    → (image : Image) → After (StandsByEither standing.mark mid) later image → StandsByOne (reads standing.part) slot image
images_moved standing other slot reads mid images later named opened is holds found image p = record {
  either = λ f g before after s t. p.by.either f g before after
      (still_stands standing other reads images named opened is p.from (found p.from p.was) f before s)
      (subst (λ (q : Part). Slot g (mid q) after) is (slot_written g slot (reads other) (mid other) after holds t));
}

-- What the parts are in the end.
pub moved_slots : (standing : Standing) (other : Part) (slot : List ℕ) (reads mid new : Image) → other ≡ other_slot standing.mark → Holds 0 slot (reads other) (mid other) → Else other reads mid
    → new Mark ≡ mid Mark ++ 0 ∷ [] → new (other_slot standing.mark) ≡ mid (other_slot standing.mark) → new standing.part ≡ [] → IsMoved standing slot reads new
moved_slots standing other slot reads mid new is holds others mark kept cut =
    let all : mid (other_slot standing.mark) ≡ slot ++ drop (length slot) (reads (other_slot standing.mark)) =
    let none : 0 + length slot ≡ length slot = omega arith in
    subst (λ (q : Part). mid q ≡ slot ++ drop (length slot) (reads q)) is (holds ∙ ap (λ (n : ℕ). slot ++ drop n (reads other)) none) in
    record {
      other = kept ∙ all;
      mark = mark ∙ ap (λ (l : List ℕ). l ++ 0 ∷ []) (others.same Mark (λ e. slot_no_mark (standing.mark + 1) (e ∙ is)));
      cut = cut;
    }

-- What three clauses of one call say together, where it succeeded.
pub on_three : {T E : Type 0} {P Q R S : Type 0} (r : Result T E) → OnOk r P → OnOk r Q → OnOk r R → (P → Q → R → S) → OnOk r S
on_three (Ok x) p q s f = f p q s
on_three (Err e) p q s f = tt

-- ---- the slot that stood is being cut

-- Cutting it leaves the mark and the slot that stands now.
cut_apart : (standing now : Standing) → IsNamed standing → IsSwitched standing now → now.part ≡ standing.part → ⊥
cut_apart standing now named switched e = slots_apart standing.mark named.some (sym (sym switched.part ∙ e ∙ named.part))

mark_apart : (standing : Standing) → IsNamed standing → Mark ≡ standing.part → ⊥
mark_apart standing named e = slot_no_mark standing.mark (e ∙ named.part)

pub cut_opened : {step : List ℕ → List ℕ → Type 0} (standing now : Standing) (reads new : Image) (images later : Image → Type 0) → IsNamed standing → IsSwitched standing now → IsOpened now reads images
    → Else standing.part reads new → ((image : Image) → later image → After (OnPart standing.part step) images image) → IsOpened now new later
cut_opened standing now reads new images later named switched opened others found =
    let mark : new Mark ≡ reads Mark = others.same Mark (mark_apart standing named) in
    let slot : new now.part ≡ reads now.part = others.same now.part (cut_apart standing now named switched) in
    record {
      found = record { mark = ap length mark ∙ opened.found.mark; begins = rw slot opened.found.begins };
      stable_mark = record {
        each = λ image p. let before = found image p in before.by.others.same Mark (mark_apart standing named) ∙ opened.stable_mark.each before.from before.was ∙ sym mark;
      };
      stable_slot = record {
        each = λ image p. let before = found image p in before.by.others.same now.part (cut_apart standing now named switched) ∙ opened.stable_slot.each before.from before.was ∙ sym slot;
      };
    }

pub images_cut : {step : List ℕ → List ℕ → Type 0} (standing now : Standing) (reads mid : Image) (images later : Image → Type 0) → IsNamed standing → IsSwitched standing now → IsOpened now mid later
    → Else Mark reads mid → ((image : Image) → later image → After (StandsByEither standing.mark reads) images image)
    → (image : Image) → After (OnPart standing.part step) later image → After (StandsByEither standing.mark reads) images image
images_cut standing now reads mid images later named switched opened others found image p =
    let first = found p.from p.was in
    let long : length (image Mark) ≡ standing.mark + 1 =
    ap length (p.by.others.same Mark (mark_apart standing named) ∙ opened.stable_mark.each p.from p.was) ∙ opened.found.mark ∙ switched.mark in
    let slot : image now.part ≡ mid now.part = p.by.others.same now.part (cut_apart standing now named switched) ∙ opened.stable_slot.each p.from p.was in
    let here : image (other_slot standing.mark) ≡ reads (other_slot standing.mark) =
    subst (λ (q : Part). image q ≡ mid q) switched.part slot ∙ others.same (other_slot standing.mark) (λ e. slot_no_mark (standing.mark + 1) (sym e)) in
    record {
      from = first.from;
      was = first.was;
      by = record { either = λ f g before after s t. inr (stands_at g (standing.mark + 1) image (reads (other_slot standing.mark)) after (omega arith) long here t) };
    }

-- Cutting a part to nothing makes no slot longer.
front_short : (part whole : List ℕ) → IsFront part whole → length part ≤ length whole
front_short part whole p = omega (arith, ap length p.1, length-append part p.0)

cut_slots : (part : Part) (old new : Image) → Else part old new → CutShort 0 (old part) (new part) → KeepsRoom 0 old new
cut_slots Zero old new others cut = record {
  zero = omega (arith, front_short (new Zero) (old Zero) cut.front);
  one = omega (arith, ap length (others.same One (λ (e : One ≡ Zero). cc)));
}
cut_slots One old new others cut = record {
  zero = omega (arith, ap length (others.same Zero (λ (e : Zero ≡ One). cc)));
  one = omega (arith, front_short (new One) (old One) cut.front);
}
cut_slots Mark old new others cut = record {
  zero = omega (arith, ap length (others.same Zero (λ (e : Zero ≡ Mark). cc)));
  one = omega (arith, ap length (others.same One (λ (e : One ≡ Mark). cc)));
}

-- Letting the other slot stand and cutting the one that stood does nothing else, whatever came of the cut.
pub cut_alone : {D : Type 0} {seen : D → Seen} {stopped : D → Stopped} {old mid new : D} (tells : Bool) (standing now : Standing) → IsNamed standing → IsSwitched standing now
    → (IsTrue tells → IsOpened now (seen mid).reads (stopped mid).images) → Else Mark (seen old).reads (seen mid).reads → OnlySwitches tells seen stopped standing.mark old mid
    → OnlyDisk seen mid new → Leaves seen stopped mid new (After (OnPart standing.part (CutShort 0)) (stopped mid).images) → Remembers (stopped mid) (stopped new)
    → Else standing.part (seen mid).reads (seen new).reads → (IsTrue tells → CutShort 0 ((seen mid).reads standing.part) ((seen new).reads standing.part))
    → OnlySwitches tells seen stopped standing.mark old new
cut_alone {seen = seen} {old = old} {mid = mid} {new = new} tells standing now named switched opened marked first disk cut remembers others short = record {
  others = OnlyDisk-then first.others disk;
  quiet = Leaves-then _ first.quiet cut (λ image p. tt) (λ image p. tt);
  stops = λ told. Leaves-then _ (first.stops told) cut (λ image p. p)
      (images_cut standing now (seen old).reads (seen mid).reads _ _ named switched (opened told) marked (first.stops told).found);
  remembers = Remembers-then first.quiet.time.later first.remembers remembers;
  room = held_then first.room (record {
    reads = λ told. cut_slots standing.part (seen mid).reads (seen new).reads others (short told);
    found = λ image p.
        let before = cut.found image p in
        record { from = before.from; was = before.was; by = cut_slots standing.part before.from image before.by.others before.by.here };
  });
}

-- A cut that was done is one that may have been cut short.
pub cut_done : {tells : Type 0} (len : ℕ) (old new : List ℕ) → (tells → new ≡ take len old) → tells → CutShort len old new
cut_done len old new cut told = subst (λ (l : List ℕ). CutShort len old l) (sym (cut told)) (CutShort-whole len old)
