-- What the bytes of a slot stand for, and what an append and a stop within it make of them.
use Rattle.std.proofs.Common.{◌≡◌, ◌≢◌, ◌⊎◌, inl, inr, ℕ, ◌+◌, List, [], ◌∷◌, ◌++◌, length, take, drop, get_or, cond, ◌==◌, None, Some, refl, sym, ap, ◌∙◌, arith, length-append, append_assoc, append-nil}
use Rattle.std.specs.declared.option.Option.{Option}
use Rattle.std.specs.Int.{w32, to_le_bytes, from_le_bytes}
use Rattle.std.specs.List.{AllByRecursion}
use Rattle.std.proofs.lemmas.List.{take_at, drop_at}
use Rattle.std.proofs.Math.ListN.{drop_of_length-le}
use Rattle.std.proofs.lemmas.Nat.{from_le_bytes-to_le_bytes_4}
use Rattle.ziti_outside.specs.Images.{Torn}
use Rattle.ziti_outside.specs.Told.{IsFront}
use Rattle.ctrl_model.specs.declared.formats.Format.{Format}
use Rattle.ctrl_model.specs.declared.formats.Format.TheVariants.{One, Two}
use Rattle.journal_core.specs.Slots.{Slot, SlotFront, IsClosed, IsRecord, IsPayload, GateGives, Shut, ShutOrAdded, added, format_number, header, record_of, records_of, text_of, slot_end, slot_bytes}
use Rattle.journal_core.proofs.GateLaws.{torn_behind}

-- One record more.
records-push : (payloads : List (List ℕ)) (payload : List ℕ) → records_of (payloads ++ payload ∷ []) ≡ records_of payloads ++ 1 ∷ record_of payload
records-push [] payload = ap (λ (l : List ℕ). 1 ∷ l) (append-nil (record_of payload))
records-push (first ∷ payloads) payload =
    ap (λ (l : List ℕ). 1 ∷ (record_of first ++ l)) (records-push payloads payload)
    ∙ ap (λ (l : List ℕ). 1 ∷ l) (sym (append_assoc (record_of first) (records_of payloads) (1 ∷ record_of payload)))

-- One payload more keeps its length's bound.
short-push : (payloads : List (List ℕ)) (payload : List ℕ) → AllByRecursion IsPayload payloads → IsPayload payload → AllByRecursion IsPayload (payloads ++ payload ∷ [])
short-push [] payload all here = (here, tt)
short-push (first ∷ payloads) payload all here = (all.0, short-push payloads payload all.1 here)

-- As many bytes stand before the gate that closes a slot.
before_place : (f : Format) (payloads : List (List ℕ)) → length (header f ++ records_of payloads) ≡ slot_end payloads
before_place f payloads = omega arith

-- The gate behind the records of a slot is closed.
pub slot_closed : (f : Format) (bytes : List ℕ) (payloads : List (List ℕ)) → Slot f bytes payloads → IsClosed (slot_end payloads) bytes
slot_closed f bytes payloads s = record {
  front = header f ++ records_of payloads;
  gate = s.gate;
  more = s.more;
  split = s.split;
  place = before_place f payloads;
  closed = s.closed;
}

-- The bytes of a slot before its closed gate.
front_of_slot : (f : Format) (bytes : List ℕ) (payloads : List (List ℕ)) → Slot f bytes payloads → take (slot_end payloads) bytes ≡ header f ++ records_of payloads
front_of_slot f bytes payloads s =
    ap (λ (l : List ℕ). take (slot_end payloads) l) s.split ∙ take_at (header f ++ records_of payloads) (s.gate ∷ s.more) (slot_end payloads) (before_place f payloads)

-- Where nothing was added, a slot stands for what it stood for.
pub slot_shut : (f : Format) (old new : List ℕ) (payloads : List (List ℕ)) → Slot f old payloads → Shut (slot_end payloads) old new → Slot f new payloads
slot_shut f old new payloads s shut = record {
  gate = shut.gate;
  more = shut.more;
  split = shut.split ∙ ap (λ (l : List ℕ). l ++ shut.gate ∷ shut.more) (front_of_slot f old payloads s);
  closed = shut.closed;
  short = s.short;
}

-- A write behind the closed gate changes nothing of what a slot stands for, wherever it is stopped.
pub slot_torn : (f : Format) (old new : List ℕ) (payloads : List (List ℕ)) (count : ℕ) → Slot f old payloads → Torn (slot_end payloads + 1) count old new → Slot f new payloads
slot_torn f old new payloads count s torn = slot_shut f old new payloads s (torn_behind (slot_closed f old payloads s) torn)

-- Records, a record more, and what follows.
one_more : (payloads : List (List ℕ)) (payload rest : List ℕ) → records_of payloads ++ 1 ∷ (record_of payload ++ rest) ≡ records_of (payloads ++ payload ∷ []) ++ rest
one_more payloads payload rest =
    sym (append_assoc (records_of payloads) (1 ∷ record_of payload) rest) ∙ ap (λ (l : List ℕ). l ++ rest) (sym (records-push payloads payload))

-- Where a payload was added, a slot stands for it too.
pub slot_added : (f : Format) (old new payload : List ℕ) (payloads : List (List ℕ)) → Slot f old payloads → IsPayload payload → new ≡ added (slot_end payloads) (text_of payload) old
    → Slot f new (payloads ++ payload ∷ [])
slot_added f old new payload payloads s short e =
    let rest = drop (slot_end payloads + 1 + length (text_of payload)) old in
    let behind : text_of payload ++ rest ≡ record_of payload ++ 0 ∷ rest = append_assoc (record_of payload) (0 ∷ []) rest in
    record {
      gate = 0;
      more = rest;
      split =
          e ∙ ap (λ (l : List ℕ). l ++ 1 ∷ (text_of payload ++ rest)) (front_of_slot f old payloads s)
          ∙ ap (λ (l : List ℕ). header f ++ (records_of payloads ++ 1 ∷ l)) behind
          ∙ ap (λ (l : List ℕ). header f ++ l) (one_more payloads payload (0 ∷ rest));
      closed = λ e. absurd (omega (arith, e));
      short = short-push payloads payload s.short short;
    }

-- Whatever a stop left of an append, a slot stands for what it stood for, with the payload or without.
pub slot_stopped : (f : Format) (old new payload : List ℕ) (payloads : List (List ℕ)) → Slot f old payloads → IsPayload payload → ShutOrAdded (slot_end payloads) (text_of payload) old new
    → Slot f new payloads ⊎ Slot f new (payloads ++ payload ∷ [])
slot_stopped f old new payload payloads s short (inl shut) = inl (slot_shut f old new payloads s shut)
slot_stopped f old new payload payloads s short (inr whole) = inr (slot_added f old new payload payloads s short whole)

-- The closed gate after one payload more.
pub end-push : (payload : List ℕ) (payloads : List (List ℕ)) → slot_end (payloads ++ payload ∷ []) ≡ slot_end payloads + 5 + length payload
end-push payload payloads =
    let long : length (records_of (payloads ++ payload ∷ [])) ≡ length (records_of payloads) + length (1 ∷ record_of payload) =
    ap length (records-push payloads payload) ∙ length-append (records_of payloads) (1 ∷ record_of payload) in
    omega arith

-- The bytes of a slot that was only appended to, after one payload more.
pub bytes-push : (f : Format) (payload : List ℕ) (payloads : List (List ℕ)) → added (slot_end payloads) (text_of payload) (slot_bytes f payloads) ≡ slot_bytes f (payloads ++ payload ∷ [])
bytes-push f payload payloads =
    let old = slot_bytes f payloads in
    let front : take (slot_end payloads) old ≡ header f ++ records_of payloads = take_at (header f ++ records_of payloads) (0 ∷ []) (slot_end payloads) (before_place f payloads) in
    let long : length old ≡ slot_end payloads + 1 = omega (arith, length-append (records_of payloads) (0 ∷ [])) in
    let till = slot_end payloads + 1 + length (text_of payload) in
    let rest : drop till old ≡ [] = drop_of_length-le old (omega (arith, long)) in
    ap (λ (l : List ℕ). l ++ 1 ∷ (text_of payload ++ drop till old)) front
    ∙ ap (λ (l : List ℕ). header f ++ (records_of payloads ++ 1 ∷ (text_of payload ++ l))) rest
    ∙ ap (λ (l : List ℕ). header f ++ (records_of payloads ++ 1 ∷ l)) (append-nil (text_of payload))
    ∙ ap (λ (l : List ℕ). header f ++ l) (one_more payloads payload (0 ∷ []))

-- The bytes from the gate behind the records on, of bytes that begin as a slot.
behind_records : (f : Format) (bytes : List ℕ) (payloads : List (List ℕ)) (w : SlotFront f bytes payloads) → drop (slot_end payloads) bytes ≡ w.more
behind_records f bytes payloads w =
    ap (λ (l : List ℕ). drop (slot_end payloads) l) w.split ∙ drop_at (header f ++ records_of payloads) w.more (slot_end payloads) (before_place f payloads)

-- A slot is read from its header on.
pub front_start : (f : Format) (bytes : List ℕ) → IsFront (header f) bytes → SlotFront f bytes []
front_start f bytes p = record { more = p.0; split = sym p.1; short = tt }

-- One record more was read.
pub front_next : (f : Format) (bytes payload : List ℕ) (payloads : List (List ℕ)) → SlotFront f bytes payloads → IsRecord (slot_end payloads) payload bytes → SlotFront f bytes (payloads ++ payload ∷ [])
front_next f bytes payload payloads w r =
    let at_gate : w.more ≡ 1 ∷ (record_of payload ++ r.more) =
    sym (behind_records f bytes payloads w) ∙ ap (λ (l : List ℕ). drop (slot_end payloads) l) r.split ∙ drop_at r.front (1 ∷ (record_of payload ++ r.more)) (slot_end payloads) r.place in
    record {
      more = r.more;
      split = w.split ∙ ap (λ (l : List ℕ). header f ++ (records_of payloads ++ l)) at_gate ∙ ap (λ (l : List ℕ). header f ++ l) (one_more payloads payload r.more);
      short = short-push payloads payload w.short r.short;
    }

-- The closed gate was read.
pub front_end : (f : Format) (bytes : List ℕ) (payloads : List (List ℕ)) → SlotFront f bytes payloads → IsClosed (slot_end payloads) bytes → Slot f bytes payloads
front_end f bytes payloads w c =
    let at_gate : w.more ≡ c.gate ∷ c.more =
    sym (behind_records f bytes payloads w) ∙ ap (λ (l : List ℕ). drop (slot_end payloads) l) c.split ∙ drop_at c.front (c.gate ∷ c.more) (slot_end payloads) c.place in
    record {
      gate = c.gate;
      more = c.more;
      split = w.split ∙ ap (λ (l : List ℕ). header f ++ (records_of payloads ++ l)) at_gate;
      closed = c.closed;
      short = w.short;
    }

-- Two records that begin the same bytes are of one payload, and are followed by the same bytes.
one_record : (payload other x y : List ℕ) → IsPayload payload → IsPayload other → record_of payload ++ x ≡ record_of other ++ y → (payload ≡ other) × (x ≡ y)
one_record payload other x y short small e =
    let four : to_le_bytes w32 (length payload) ≡ to_le_bytes w32 (length other) = ap (λ (l : List ℕ). take 4 l) e in
    let long : length payload ≡ length other =
    sym (from_le_bytes-to_le_bytes_4 (length payload) short) ∙ ap (λ (l : List ℕ). from_le_bytes w32 l) four ∙ from_le_bytes-to_le_bytes_4 (length other) small in
    let rest : payload ++ x ≡ other ++ y = ap (λ (l : List ℕ). drop 4 l) e in
    let first : payload ≡ other = sym (take_at payload x (length other) long) ∙ ap (λ (l : List ℕ). take (length other) l) rest ∙ take_at other y (length other) refl in
    let last : x ≡ y = sym (drop_at payload x (length other) long) ∙ ap (λ (l : List ℕ). drop (length other) l) rest ∙ drop_at other y (length other) refl in
    (first, last)

-- Records and a closed gate are those of one list of payloads.
one_list : (these others : List (List ℕ)) (g h : ℕ) (x y : List ℕ) → AllByRecursion IsPayload these → AllByRecursion IsPayload others → g ≢ 1 → h ≢ 1
    → records_of these ++ g ∷ x ≡ records_of others ++ h ∷ y → these ≡ others
one_list [] [] g h x y p q cg ch e = refl
one_list [] (other ∷ others) g h x y p q cg ch e = let same : g ≡ 1 = cc in absurd (cg same)
one_list (this ∷ these) [] g h x y p q cg ch e = let same : h ≡ 1 = cc in absurd (ch same)
one_list (this ∷ these) (other ∷ others) g h x y p q cg ch e =
    let behind : record_of this ++ (records_of these ++ g ∷ x) ≡ record_of other ++ (records_of others ++ h ∷ y) =
    sym (append_assoc (record_of this) (records_of these) (g ∷ x)) ∙ ap (λ (l : List ℕ). drop 1 l) e ∙ append_assoc (record_of other) (records_of others) (h ∷ y) in
    let first = one_record this other (records_of these ++ g ∷ x) (records_of others ++ h ∷ y) p.0 q.0 behind in
    let rest = one_list these others g h x y p.1 q.1 cg ch first.1 in
    let both : this ∷ these ≡ other ∷ others = ap (λ (l : List ℕ). l ∷ these) first.0 ∙ ap (λ (l : List (List ℕ)). other ∷ l) rest in
    both

-- The format that its number tells.
number_back : (f : Format) → cond (format_number f == 1) One Two ≡ f
number_back One = refl
number_back Two = refl

one_number : (f g : Format) → format_number f ≡ format_number g → f ≡ g
one_number f g e = sym (number_back f) ∙ ap (λ n. cond (n == 1) One Two) e ∙ number_back g

-- The number of the format is the fifth byte.
fifth : (f g : Format) (xs ys : List ℕ) → header f ++ xs ≡ header g ++ ys → f ≡ g
fifth f g xs ys e = one_number f g (ap (λ (l : List ℕ). get_or l 4 0) e)

-- Bytes begin as a slot of at most one format.
pub one_header : (f g : Format) (bytes : List ℕ) → IsFront (header f) bytes → IsFront (header g) bytes → f ≡ g
one_header f g bytes p q = fifth f g p.0 q.0 (p.1 ∙ sym q.1)

-- Bytes are a slot of at most one format and one list of payloads.
pub one_slot : (f g : Format) (bytes : List ℕ) (these others : List (List ℕ)) → Slot f bytes these → Slot g bytes others → (f ≡ g) × (these ≡ others)
one_slot f g bytes these others s t = (
  fifth f g (records_of these ++ s.gate ∷ s.more) (records_of others ++ t.gate ∷ t.more) (sym s.split ∙ t.split),
  one_list these others s.gate t.gate s.more t.more s.short t.short s.closed t.closed (ap (λ (l : List ℕ). drop 8 l) (sym s.split ∙ t.split)),
)

-- A gate is not both closed and open.
pub closed_or_open : (at : ℕ) (payload bytes : List ℕ) → IsClosed at bytes → IsRecord at payload bytes → ⊥
closed_or_open at payload bytes c r =
    let e : c.gate ∷ c.more ≡ 1 ∷ (record_of payload ++ r.more) =
    sym (drop_at c.front (c.gate ∷ c.more) at c.place) ∙ ap (λ (l : List ℕ). drop at l) (sym c.split ∙ r.split) ∙ drop_at r.front (1 ∷ (record_of payload ++ r.more)) at r.place in
    let same : c.gate ≡ 1 = cc in
    c.closed same

-- One record stands at a place.
pub one_at : (at : ℕ) (payload other bytes : List ℕ) → IsRecord at payload bytes → IsRecord at other bytes → payload ≡ other
one_at at payload other bytes r s =
    let e : 1 ∷ (record_of payload ++ r.more) ≡ 1 ∷ (record_of other ++ s.more) =
    sym (drop_at r.front (1 ∷ (record_of payload ++ r.more)) at r.place) ∙ ap (λ (l : List ℕ). drop at l) (sym r.split ∙ s.split) ∙ drop_at s.front (1 ∷ (record_of other ++ s.more)) at s.place in
    (one_record payload other r.more s.more r.short s.short (ap (λ (l : List ℕ). drop 1 l) e)).0

-- One thing stands at a place.
pub one_thing : (at : ℕ) (bytes : List ℕ) (this other : Option (List ℕ)) → GateGives at bytes this → GateGives at bytes other → this ≡ other
one_thing at bytes None None p q = refl
one_thing at bytes None (Some other) p q = absurd (closed_or_open at other bytes p q)
one_thing at bytes (Some this) None p q = absurd (closed_or_open at this bytes q p)
one_thing at bytes (Some this) (Some other) p q = ap (λ (l : List ℕ). Some l) (one_at at this other bytes p q)
