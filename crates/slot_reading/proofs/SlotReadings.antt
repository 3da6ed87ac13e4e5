-- Reading a slot: records that stand behind others, one step after another, and where a reading breaks off.
use Rattle.std.proofs.Common.{◌≡◌, ◌⊎◌, inl, inr, ℕ, ◌+◌, ◌^◌, ◌<◌, ◌≤◌, Bool, IsTrue, List, [], ◌∷◌, ◌++◌, length, drop, refl, sym, ap, ◌∙◌, subst, arith, length-append, append_assoc, append-nil}
use Rattle.std.specs.List.{AllByRecursion}
use Rattle.std.proofs.lemmas.List.{drop_at}
use Rattle.ziti_outside.specs.Told.{IsFront}
use Rattle.ctrl_model.specs.declared.formats.Format.{Format}
use Rattle.journal_core.specs.Slots.{Slot, SlotFront, IsClosed, IsRecord, IsDamaged, IsPayload, header, record_of, records_of, slot_end}
use Rattle.journal_core.proofs.SlotLaws.{one_header, one_at, closed_or_open, front_start, front_next, front_end, slot_closed, end-push}
use Rattle.journal_core.proofs.GateLaws.{closed_within}
use Rattle.journal_core.specs.declared.faults.JournalFault.{JournalFault}
use Rattle.journal_core.specs.declared.faults.JournalFault.TheVariants.{Disk, Full, Damaged, NoMemory}
use Rattle.slot_reading.specs.BatchRows.{ByteRows, Leads, MayLead, Give}
use Rattle.slot_reading.specs.SlotReading.{IsReadTo, IsUntrue, BreaksOff, Steps, StepFails, IsReadWhole, SlotFails}
use Rattle.slot_reading.proofs.BatchLaws.{give-push, give_on, one_give}

-- ---- records behind records

pub records-append : (these more : List (List ℕ)) → records_of (these ++ more) ≡ records_of these ++ records_of more
records-append [] more = refl
records-append (this ∷ these) more =
    ap (λ (l : List ℕ). 1 ∷ (record_of this ++ l)) (records-append these more)
    ∙ ap (λ (l : List ℕ). 1 ∷ l) (sym (append_assoc (record_of this) (records_of these) (records_of more)))

short_behind : (these : List (List ℕ)) (payload : List ℕ) (more : List (List ℕ)) → AllByRecursion IsPayload (these ++ payload ∷ more) → IsPayload payload
short_behind [] payload more all = all.0
short_behind (this ∷ these) payload more all = short_behind these payload more all.1

-- Of payloads that a slot begins with, the record of the next one stands at the gate behind the first ones.
pub next_stands : (f : Format) (bytes : List ℕ) (these : List (List ℕ)) (payload : List ℕ) (more : List (List ℕ)) → SlotFront f bytes (these ++ payload ∷ more)
    → IsRecord (slot_end these) payload bytes
next_stands f bytes these payload more w = record {
  front = header f ++ records_of these;
  more = records_of more ++ w.more;
  split =
      w.split ∙ ap (λ (l : List ℕ). header f ++ (l ++ w.more)) (records-append these (payload ∷ more))
      ∙ ap (λ (l : List ℕ). header f ++ l) (append_assoc (records_of these) (1 ∷ (record_of payload ++ records_of more)) w.more)
      ∙ ap (λ (l : List ℕ). header f ++ (records_of these ++ 1 ∷ l)) (append_assoc (record_of payload) (records_of more) w.more);
  place = omega arith;
  short = short_behind these payload more w.short;
}

-- A slot begins with its payloads.
pub slot_front : (f : Format) (bytes : List ℕ) (payloads : List (List ℕ)) → Slot f bytes payloads → SlotFront f bytes payloads
slot_front f bytes payloads s = record { more = s.gate ∷ s.more; split = s.split; short = s.short }

-- A slot begins with the header.
pub header_stands : (f : Format) (bytes : List ℕ) (payloads : List (List ℕ)) → SlotFront f bytes payloads → IsFront (header f) bytes
header_stands f bytes payloads w = (records_of payloads ++ w.more, sym w.split)

-- Two records that begin the same bytes are of one payload, and are followed by the same bytes.
one_record : (payload other x y : List ℕ) → IsPayload payload → IsPayload other → record_of payload ++ x ≡ record_of other ++ y → (payload ≡ other) × (x ≡ y)
one_record payload other x y short small e =
    let whole = 1 ∷ (record_of payload ++ x) in
    let this : IsRecord 0 payload whole = record { front = []; more = x; split = refl; place = refl; short = short } in
    let that : IsRecord 0 other whole = record { front = []; more = y; split = ap (λ (l : List ℕ). 1 ∷ l) e; place = refl; short = small } in
    let same : payload ≡ other = one_at 0 payload other whole this that in
    let rest : record_of payload ++ x ≡ record_of payload ++ y = e ∙ ap (λ (p : List ℕ). record_of p ++ y) (sym same) in (
      same,
      sym (drop_at (record_of payload) x (length (record_of payload)) refl) ∙ ap (λ (l : List ℕ). drop (length (record_of payload)) l) rest
          ∙ drop_at (record_of payload) y (length (record_of payload)) refl,
    )

-- One list of payloads goes on from another.
abbrev GoesOn : List (List ℕ) → List (List ℕ) → Type 0
GoesOn these others = (more : List (List ℕ)) × (others ≡ these ++ more)

later : (payload : List ℕ) (these others : List (List ℕ)) → GoesOn these others → GoesOn (payload ∷ these) (payload ∷ others)
later payload these others g = (g.0, ap (λ (l : List (List ℕ)). payload ∷ l) g.1)

-- Of two lists of payloads with which the same bytes begin, one goes on from the other.
fronts : (these others : List (List ℕ)) (x y : List ℕ) → AllByRecursion IsPayload these → AllByRecursion IsPayload others
    → records_of these ++ x ≡ records_of others ++ y → GoesOn these others ⊎ GoesOn others these
fronts [] others x y p q e = inl (others, refl)
fronts (this ∷ these) [] x y p q e = inr (this ∷ these, refl)
fronts (this ∷ these) (other ∷ others) x y p q e =
    let behind : record_of this ++ (records_of these ++ x) ≡ record_of other ++ (records_of others ++ y) =
    sym (append_assoc (record_of this) (records_of these) x) ∙ ap (λ (l : List ℕ). drop 1 l) e ∙ append_assoc (record_of other) (records_of others) y in
    let first = one_record this other (records_of these ++ x) (records_of others ++ y) p.0 q.0 behind in
    elim (fronts these others x y p.1 q.1 first.1) as (λ _. GoesOn (this ∷ these) (other ∷ others) ⊎ GoesOn (other ∷ others) (this ∷ these)) [
      | inl g ↦ inl (subst (λ (l : List ℕ). GoesOn (this ∷ these) (l ∷ others)) first.0 (later this these others g))
      | inr g ↦ inr (subst (λ (l : List ℕ). GoesOn (l ∷ others) (this ∷ these)) first.0 (later this others these g))
    ]

one_front : (f g : Format) (bytes : List ℕ) (these others : List (List ℕ)) → SlotFront f bytes these → SlotFront g bytes others → GoesOn these others ⊎ GoesOn others these
one_front f g bytes these others v w = fronts these others v.more w.more v.short w.short (ap (λ (l : List ℕ). drop 8 l) (sym v.split ∙ w.split))

-- ---- where a reading breaks off nothing goes on

-- What is broken at a place.
abbrev pub Broken : Format → ℕ → List ℕ → ByteRows → Type 0
Broken f at bytes rows = IsDamaged at bytes ⊎ IsUntrue f at bytes rows

-- No record that leads on stands at a place where a reading broke off.
broken_on : (f : Format) (at : ℕ) (payload bytes : List ℕ) (rows next : ByteRows) → Broken f at bytes rows → IsRecord at payload bytes → Leads rows payload next → MayLead f at rows next → ⊥
broken_on f at payload bytes rows next (inl d) r l m = d.no_record payload r
broken_on f at payload bytes rows next (inr u) r l m = u.nowhere next (subst (λ (p : List ℕ). Leads rows p next) (one_at at payload u.payload bytes r u.stands) l) m

broken_closed : (f : Format) (at : ℕ) (bytes : List ℕ) (rows : ByteRows) → Broken f at bytes rows → IsClosed at bytes → ⊥
broken_closed f at bytes rows (inl d) c = d.not_closed c
broken_closed f at bytes rows (inr u) c = closed_or_open at u.payload bytes c u.stands

-- No longer list of payloads gives rows.
broken_longer : (f : Format) (bytes : List ℕ) (these : List (List ℕ)) (payload : List ℕ) (more : List (List ℕ)) (rows last : ByteRows) → Give f these rows
    → Broken f (slot_end these) bytes rows → SlotFront f bytes (these ++ payload ∷ more) → Give f (these ++ payload ∷ more) last → ⊥
broken_longer f bytes these payload more rows last give broken w longer =
    let on = give_on f these payload more last longer in
    let same : on.here ≡ rows = one_give f these on.here rows on.give give in
    broken_on f (slot_end these) payload bytes rows on.next broken (next_stands f bytes these payload more w)
    (subst (λ (r : ByteRows). Leads r payload on.next) same on.leads) (subst (λ (r : ByteRows). MayLead f (slot_end these) r on.next) same on.may)

-- Payloads that give rows go on from those where a reading broke off only if they are the same.
same_or_not : (f : Format) (bytes : List ℕ) (these others : List (List ℕ)) (rows last : ByteRows) → Give f these rows → Broken f (slot_end these) bytes rows → SlotFront f bytes others
    → Give f others last → GoesOn these others → others ≡ these
same_or_not f bytes these others rows last give broken w g ([], e) = e ∙ append-nil these
same_or_not f bytes these others rows last give broken w g (payload ∷ more, e) =
    absurd (broken_longer f bytes these payload more rows last give broken (subst (λ (l : List (List ℕ)). SlotFront f bytes l) e w) (subst (λ (l : List (List ℕ)). Give f l last) e g))

-- Bytes that break off are no slot of payloads that give rows.
pub breaks_no_slot : (f : Format) (bytes : List ℕ) (at : ℕ) (payloads : List (List ℕ)) (last : ByteRows) → BreaksOff f bytes at → Slot f bytes payloads → Give f payloads last → ⊥
breaks_no_slot f bytes at payloads last b s give =
    let these = b.read.payloads in
    let broken : Broken f (slot_end these) bytes b.rows = subst (λ (n : ℕ). Broken f n bytes b.rows) b.read.place b.broken in
    elim (one_front f f bytes these payloads b.read.front (slot_front f bytes payloads s)) as (λ _. ⊥) [
      | inl g ↦ broken_closed f (slot_end these) bytes b.rows broken
          (subst (λ (l : List (List ℕ)). IsClosed (slot_end l) bytes)
          (same_or_not f bytes these payloads b.rows last b.read.give broken (slot_front f bytes payloads s) give g) (slot_closed f bytes payloads s))
      | inr g ↦ shorter these payloads b.rows broken b.read.front s g
    ]
  where
    shorter : (these payloads : List (List ℕ)) (rows : ByteRows) → Broken f (slot_end these) bytes rows → SlotFront f bytes these → Slot f bytes payloads → GoesOn payloads these → ⊥
    shorter these payloads rows broken w s ([], e) =
        broken_closed f (slot_end these) bytes rows broken (subst (λ (l : List (List ℕ)). IsClosed (slot_end l) bytes) (sym (e ∙ append-nil payloads)) (slot_closed f bytes payloads s))
    shorter these payloads rows broken w s (payload ∷ more, e) =
        closed_or_open (slot_end payloads) payload bytes (slot_closed f bytes payloads s)
        (next_stands f bytes payloads payload more (subst (λ (l : List (List ℕ)). SlotFront f bytes l) e w))

-- Bytes begin as a slot of one format.
pub one_format : (f g : Format) (bytes : List ℕ) (these others : List (List ℕ)) → SlotFront f bytes these → SlotFront g bytes others → f ≡ g
one_format f g bytes these others v w = one_header f g bytes (header_stands f bytes these v) (header_stands g bytes others w)

-- Bytes break off at one place.
pub one_break : (f : Format) (bytes : List ℕ) (at place : ℕ) → BreaksOff f bytes at → BreaksOff f bytes place → at ≡ place
one_break f bytes at place b c =
    let here : Broken f (slot_end b.read.payloads) bytes b.rows = subst (λ (n : ℕ). Broken f n bytes b.rows) b.read.place b.broken in
    let there : Broken f (slot_end c.read.payloads) bytes c.rows = subst (λ (n : ℕ). Broken f n bytes c.rows) c.read.place c.broken in
    elim (one_front f f bytes b.read.payloads c.read.payloads b.read.front c.read.front) as (λ _. at ≡ place) [
      | inl g ↦ b.read.place ∙ ap slot_end (sym (same_or_not f bytes b.read.payloads c.read.payloads b.rows c.rows b.read.give here c.read.front c.read.give g)) ∙ sym c.read.place
      | inr g ↦ b.read.place ∙ ap slot_end (same_or_not f bytes c.read.payloads b.read.payloads c.rows b.rows c.read.give there b.read.front b.read.give g) ∙ sym c.read.place
    ]

-- Bytes that break off begin with the header.
pub breaks_header : (f : Format) (bytes : List ℕ) (at : ℕ) → BreaksOff f bytes at → IsFront (header f) bytes
breaks_header f bytes at b = header_stands f bytes b.read.payloads b.read.front

-- ---- one step after another

-- Nothing was read yet.
pub read_none : (f : Format) (bytes : List ℕ) (rows : ByteRows) → rows ≡ [] → IsFront (header f) bytes → IsReadTo f bytes 8 rows
read_none f bytes rows e p = record { payloads = []; front = front_start f bytes p; give = e; place = refl }

-- A record stands within the bytes.
pub record_within : (at : ℕ) (payload bytes : List ℕ) → IsRecord at payload bytes → at + 5 + length payload ≤ length bytes
record_within at payload bytes r =
    let all : length bytes ≡ length r.front + length (1 ∷ (record_of payload ++ r.more)) = ap length r.split ∙ length-append r.front (1 ∷ (record_of payload ++ r.more)) in
    let text : length (record_of payload ++ r.more) ≡ length (record_of payload) + length r.more = length-append (record_of payload) r.more in
    let place = r.place in
    omega arith

-- One record more was read.
pub read_on : (f : Format) (bytes : List ℕ) (at place : ℕ) (rows next : ByteRows) → length bytes < 2 ^ 64 → IsReadTo f bytes at rows → Steps f bytes at rows next place → IsReadTo f bytes place next
read_on f bytes at place rows next small r s =
    let within = record_within at s.payload bytes s.stands in
    let behind = s.behind in
    let here = r.place in
    let end = end-push s.payload r.payloads in
    record {
      payloads = r.payloads ++ s.payload ∷ [];
      front = front_next f bytes s.payload r.payloads r.front (subst (λ (n : ℕ). IsRecord n s.payload bytes) r.place s.stands);
      give = give-push f r.payloads s.payload rows next r.give s.leads (subst (λ (n : ℕ). MayLead f n rows next) r.place s.may);
      place = omega arith;
    }

-- The closed gate was read.
pub read_end : (f : Format) (bytes : List ℕ) (at : ℕ) (rows next : ByteRows) → IsReadTo f bytes at rows → IsClosed at bytes → next ≡ rows → IsReadWhole f bytes at next
read_end f bytes at rows next r c e = record {
  payloads = r.payloads;
  slot = front_end f bytes r.payloads r.front (subst (λ (n : ℕ). IsClosed n bytes) r.place c);
  give = subst (λ (l : ByteRows). Give f r.payloads l) (sym e) r.give;
  place = r.place;
}

-- The bytes ended before a gate.
pub read_past : (f : Format) (bytes : List ℕ) (at : ℕ) (rows : ByteRows) → IsReadTo f bytes at rows → length bytes ≤ at → BreaksOff f bytes at
read_past f bytes at rows r past = record {
  rows = rows;
  read = r;
  broken = inl (record {
    not_closed = λ c. absurd (omega (arith, closed_within c));
    no_record = λ payload s. absurd (omega (arith, record_within at payload bytes s));
  });
}

-- Why a step was not made is why the slot was not read.
pub step_fails : (tells : Bool) (f : Format) (at : ℕ) (bytes : List ℕ) (rows : ByteRows) (fault : JournalFault) → (IsTrue tells → IsReadTo f bytes at rows)
    → StepFails tells f at bytes rows fault → SlotFails tells f bytes fault
step_fails tells f at bytes rows Disk r w = tt
step_fails tells f at bytes rows Full r w = w
step_fails tells f at bytes rows (Damaged place) r w =
    λ told. subst (λ (n : ℕ). BreaksOff f bytes n) (sym w.0) (record { rows = rows; read = r told; broken = w.1 told })
step_fails tells f at bytes rows NoMemory r w = tt
