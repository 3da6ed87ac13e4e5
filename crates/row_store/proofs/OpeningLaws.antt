-- What an image opens to, and what a folder that was opened reads as.
use Rattle.std.proofs.Common.{◌≡◌, ◌⊎◌, inl, inr, Bool, IsTrue, ℕ, zero, suc, ◌<◌, List, [], ◌∷◌, ◌++◌, length, drop, refl, sym, ap, ◌∙◌, subst, arith}
use Rattle.ziti_outside.specs.declared.desk.Part.{Part}
use Rattle.ziti_outside.specs.declared.desk.Part.TheVariants.{Zero, Mark}
use Rattle.ziti_outside.specs.Images.{Image}
use Rattle.ctrl_model.specs.declared.formats.Format.{Format}
use Rattle.journal_core.specs.Slots.{Slot, slot_bytes}
use Rattle.journal_core.proofs.SlotLaws.{one_slot}
use Rattle.slot_files.specs.declared.standing.Standing.{Standing}
use Rattle.slot_files.specs.FolderImage.{slot_of, StandsBy, Stands}
use Rattle.slot_files.specs.OpenedSlots.{IsNamed, IsFound, Opens}
use Rattle.slot_files.proofs.StandLaws.{one_stands}
use Rattle.slot_reading.specs.BatchRows.{ByteRows, Give}
use Rattle.row_store.specs.OpenedRows.{OpensTo, IsBroken, IsDamagedAt}
use Rattle.row_store.specs.declared.faults.StoreFault.{StoreFault}
use Rattle.row_store.specs.declared.faults.StoreFault.TheVariants.{Disk, Full, Damaged, MarkFull, Spent, NoMemory}
use Rattle.slot_reading.specs.SlotReading.{BreaksOff, IsReadWhole, SlotFails}
use Rattle.journal_core.specs.declared.faults.JournalFault.{JournalFault}
use Rattle.journal_core.specs.declared.faults.JournalFault.TheVariants as journal
use Rattle.row_store.specs.Faults.{OpenFails, LoadFails, in_part}
use Rattle.row_store.specs.StoredRows.{Stored, IsStoreOf}
use Rattle.slot_reading.proofs.BatchLaws.{one_give}
use Rattle.slot_reading.proofs.SlotReadings.{breaks_no_slot, one_break, one_format, breaks_header, slot_front, header_stands}

-- The slot that a mark names stands for the batches of the image, and the other way round.
pub by_slot : (mark : ℕ) (f : Format) (image : Image) (batches : List (List ℕ)) → 0 < mark → Slot f (image (slot_of mark)) batches → StandsBy mark f image batches
by_slot zero f image batches some s = absurd (omega (arith, some))
by_slot (suc turn) f image batches some s = s

pub of_slot : (mark : ℕ) (f : Format) (image : Image) (batches : List (List ℕ)) → 0 < mark → StandsBy mark f image batches → Slot f (image (slot_of mark)) batches
of_slot zero f image batches some s = absurd (omega (arith, some))
of_slot (suc turn) f image batches some s = s

-- With an empty mark an image opens to no rows.
pub none_opens : (f : Format) (image : Image) (rows : ByteRows) → length (image Mark) ≡ 0 → OpensTo f image rows → rows ≡ []
none_opens f image rows e p =
    let none : p.batches ≡ [] = subst (λ (m : ℕ). StandsBy m f image p.batches) e p.stands in
    subst (λ (l : List (List ℕ)). Give f l rows) none p.give

-- An image with an empty mark opens to no rows, in any format.
pub opens_none : (f : Format) (image : Image) → length (image Mark) ≡ 0 → OpensTo f image []
opens_none f image e = record { batches = []; stands = subst (λ (m : ℕ). StandsBy m f image []) (sym e) refl; give = refl }

-- An image opens to one list of rows, and, where its mark is not empty, of one format.
one_opens_by : (mark : ℕ) (f g : Format) (image : Image) (these others : ByteRows) → length (image Mark) ≡ mark → OpensTo f image these → OpensTo g image others
    → (0 < length (image Mark) → f ≡ g) × (these ≡ others)
one_opens_by zero f g image these others e p q = (λ some. absurd (omega (arith, some, e)), none_opens f image these e p ∙ sym (none_opens g image others e q))
one_opens_by (suc turn) f g image these others e p q =
    let same = one_stands f g image p.batches q.batches p.stands q.stands in
    let form : f ≡ g = same.0 (omega (arith, e)) in
    (λ some. form, one_give g q.batches these others (subst (λ (v : Format). Give v q.batches these) form (subst (λ (l : List (List ℕ)). Give f l these) same.1 p.give)) q.give)

pub one_opens : (f g : Format) (image : Image) (these others : ByteRows) → OpensTo f image these → OpensTo g image others
    → (0 < length (image Mark) → f ≡ g) × (these ≡ others)
one_opens f g image these others p q = one_opens_by (length (image Mark)) f g image these others refl p q

-- What is damaged is no slot of batches that give rows.
no_slot : (f : Format) (bytes : List ℕ) (at : ℕ) (batches : List (List ℕ)) (rows : ByteRows) → IsBroken bytes at → Slot f bytes batches → Give f batches rows → ⊥
no_slot f bytes at batches rows (inl h) s give = h.other f (header_stands f bytes batches (slot_front f bytes batches s))
no_slot f bytes at batches rows (inr b) s give =
    let same : b.0 ≡ f = one_format b.0 f bytes b.1.read.payloads batches b.1.read.front (slot_front f bytes batches s) in
    breaks_no_slot f bytes at batches rows (subst (λ (v : Format). BreaksOff v bytes at) same b.1) s give

-- A damaged image opens to no rows.
pub damaged_opens : (f : Format) (image : Image) (part : Part) (at : ℕ) (rows : ByteRows) → IsDamagedAt image part at → OpensTo f image rows → ⊥
damaged_opens f image part at rows d p =
    let slot : Slot f (image part) p.batches = subst (λ (q : Part). Slot f (image q) p.batches) (sym d.named) (of_slot (length (image Mark)) f image p.batches d.some p.stands) in
    no_slot f (image part) at p.batches rows d.cause slot p.give

-- Bytes are damaged at one place.
one_cause : (bytes : List ℕ) (at place : ℕ) → IsBroken bytes at → IsBroken bytes place → at ≡ place
one_cause bytes at place (inl h) (inl k) = h.place ∙ sym k.place
one_cause bytes at place (inl h) (inr c) = absurd (h.other c.0 (breaks_header c.0 bytes place c.1))
one_cause bytes at place (inr b) (inl k) = absurd (k.other b.0 (breaks_header b.0 bytes at b.1))
one_cause bytes at place (inr b) (inr c) =
    let same : b.0 ≡ c.0 = one_format b.0 c.0 bytes b.1.read.payloads c.1.read.payloads b.1.read.front c.1.read.front in
    one_break c.0 bytes at place (subst (λ (v : Format). BreaksOff v bytes at) same b.1) c.1

-- An image is damaged at one place.
pub one_damage : (image : Image) (part other : Part) (at place : ℕ) → IsDamagedAt image part at → IsDamagedAt image other place → (part ≡ other) × (at ≡ place)
one_damage image part other at place d e =
    let same : part ≡ other = d.named ∙ sym e.named in
    (same, one_cause (image other) at place (subst (λ (q : Part). IsBroken (image q) at) same d.cause) e.cause)

-- ---- a store that was read

-- A slot that was found and read whole makes the store that of the folder.
pub store_of : (image : Image) (standing : Standing) (stored : Stored) → IsNamed standing → IsFound image standing
    → IsReadWhole standing.format (image standing.part) stored.end stored.rows
    → stored.format ≡ standing.format → stored.part ≡ standing.part → stored.mark ≡ standing.mark → IsStoreOf image stored
store_of image standing stored named found whole format part mark =
    let by_part : Slot standing.format (image (slot_of standing.mark)) whole.payloads = subst (λ (q : Part). Slot standing.format (image q) whole.payloads) named.part whole.slot in
    let stands : Stands standing.format image whole.payloads =
    subst (λ (m : ℕ). StandsBy m standing.format image whole.payloads) (sym found.mark) (by_slot standing.mark standing.format image whole.payloads named.some by_part) in
    record {
      mark = found.mark ∙ sym mark;
      part = part ∙ named.part ∙ ap slot_of (sym mark);
      batches = whole.payloads;
      stands = subst (λ (f : Format). Stands f image whole.payloads) (sym format) stands;
      give = subst (λ (f : Format). Give f whole.payloads stored.rows) (sym format) whole.give;
      end = whole.place;
    }

-- A slot that breaks off is damage of the folder.
pub damage_of : (image : Image) (standing : Standing) (part : Part) (at : ℕ) → IsNamed standing → IsFound image standing → part ≡ standing.part
    → BreaksOff standing.format (image standing.part) at → IsDamagedAt image part at
damage_of image standing part at named found e b = record {
  some = subst (λ (m : ℕ). 0 < m) (sym found.mark) named.some;
  named = e ∙ named.part ∙ ap slot_of (sym found.mark);
  cause = inr (standing.format, subst (λ (q : Part). BreaksOff standing.format (image q) at) (sym e) b);
}

-- ---- a folder that was opened or created

-- A slot that was created stands for no batches.
created_slot : (created : Format) (old new : List ℕ) → new ≡ slot_bytes created [] ++ drop 9 old → Slot created new []
created_slot created old new e = record { gate = 0; more = drop 9 old; split = e; closed = λ f. absurd (omega (arith, f)); short = tt }

-- The slot that stands in a folder that was created is the first one.
created_part : (new : Image) (standing : Standing) → new Mark ≡ 0 ∷ [] → IsNamed standing → IsFound new standing → standing.part ≡ Zero
created_part new standing e named found =
    let one : standing.mark ≡ 1 = sym found.mark ∙ ap length e in
    named.part ∙ ap slot_of one

-- What was read of a folder that was opened is what it opened to before.
open_by : (created : Format) (mark : ℕ) (old new : Image) (standing : Standing) (end : ℕ) (rows : ByteRows) → length (old Mark) ≡ mark → Opens created mark old new
    → IsNamed standing → IsFound new standing → IsReadWhole standing.format (new standing.part) end rows → OpensTo standing.format old rows
open_by created zero old new standing end rows count opens named found whole =
    let part : standing.part ≡ Zero = created_part new standing opens.mark named found in
    let slot : Slot standing.format (new Zero) whole.payloads = subst (λ (q : Part). Slot standing.format (new q) whole.payloads) part whole.slot in
    let none = one_slot standing.format created (new Zero) whole.payloads [] slot (created_slot created (old Zero) (new Zero) opens.first) in
    record {
      batches = [];
      stands = subst (λ (m : ℕ). StandsBy m standing.format old []) (sym count) refl;
      give = subst (λ (l : List (List ℕ)). Give standing.format l rows) none.1 whole.give;
    }
open_by created (suc turn) old new standing end rows count opens named found whole =
    let f = standing.format in
    let by_part : Slot f (new (slot_of standing.mark)) whole.payloads = subst (λ (q : Part). Slot f (new q) whole.payloads) named.part whole.slot in
    let stands : Stands f new whole.payloads = subst (λ (m : ℕ). StandsBy m f new whole.payloads) (sym found.mark) (by_slot standing.mark f new whole.payloads named.some by_part) in
    record { batches = whole.payloads; stands = subst (λ (i : Image). Stands f i whole.payloads) opens stands; give = whole.give }

pub open_rows : (created : Format) (old new : Image) (standing : Standing) (end : ℕ) (rows : ByteRows) → Opens created (length (old Mark)) old new → IsNamed standing
    → IsFound new standing → IsReadWhole standing.format (new standing.part) end rows → OpensTo standing.format old rows
open_rows created old new standing end rows opens named found whole = open_by created (length (old Mark)) old new standing end rows refl opens named found whole

-- Where a slot breaks off, the folder was damaged before it was opened.
broken_by : (created : Format) (mark : ℕ) (old new : Image) (standing : Standing) (part : Part) (at : ℕ) → Opens created mark old new → IsNamed standing → IsFound new standing
    → part ≡ standing.part → BreaksOff standing.format (new standing.part) at → IsDamagedAt old part at
broken_by created zero old new standing part at opens named found e b =
    let first : standing.part ≡ Zero = created_part new standing opens.mark named found in
    let made = created_slot created (old Zero) (new Zero) opens.first in
    let here : BreaksOff standing.format (new Zero) at = subst (λ (q : Part). BreaksOff standing.format (new q) at) first b in
    let same : standing.format ≡ created = one_format standing.format created (new Zero) here.read.payloads [] here.read.front (slot_front created (new Zero) [] made) in
    absurd (breaks_no_slot created (new Zero) at [] [] (subst (λ (f : Format). BreaksOff f (new Zero) at) same here) made refl)
broken_by created (suc turn) old new standing part at opens named found e b = subst (λ (i : Image). IsDamagedAt i part at) opens (damage_of new standing part at named found e b)

-- Why a slot was not read is why the rows of its part were not.
pub load_fails : (tells : Bool) (f : Format) (part : Part) (bytes : List ℕ) (fault : JournalFault) → SlotFails tells f bytes fault → LoadFails tells f part bytes (in_part part fault)
load_fails tells f part bytes journal.Disk w = tt
load_fails tells f part bytes journal.Full w = w
load_fails tells f part bytes (journal.Damaged at) w = (refl, w)
load_fails tells f part bytes journal.NoMemory w = tt

-- Why a slot was not read is why the folder was not opened.
pub open_fails : (created : Format) (tells : Bool) (old new : Image) (standing : Standing) (fault : StoreFault) → (IsTrue tells → Opens created (length (old Mark)) old new)
    → IsNamed standing
    → (IsTrue tells → IsFound new standing) → LoadFails tells standing.format standing.part (new standing.part) fault → OpenFails tells old fault
open_fails created tells old new standing Disk opens named found f = tt
open_fails created tells old new standing Full opens named found f = f
open_fails created tells old new standing (Damaged part at) opens named found f =
    λ told. broken_by created (length (old Mark)) old new standing part at (opens told) named (found told) f.0 (f.1 told)
open_fails created tells old new standing MarkFull opens named found f = f
open_fails created tells old new standing Spent opens named found f = f
open_fails created tells old new standing NoMemory opens named found f = tt

-- The same of a folder that was only looked at.
pub peek_fails : (tells : Bool) (image : Image) (standing : Standing) (fault : StoreFault) → IsNamed standing → (IsTrue tells → IsFound image standing)
    → LoadFails tells standing.format standing.part (image standing.part) fault → OpenFails tells image fault
peek_fails tells image standing Disk named found f = tt
peek_fails tells image standing Full named found f = f
peek_fails tells image standing (Damaged part at) named found f = λ told. damage_of image standing part at named (found told) f.0 (f.1 told)
peek_fails tells image standing MarkFull named found f = f
peek_fails tells image standing Spent named found f = f
peek_fails tells image standing NoMemory named found f = tt
