-- What the bytes of a part that were read say of the gate at a place and of the record behind it.
use Rattle.std.proofs.Common.{◌≡◌, ◌≢◌, ◌⊎◌, inl, inr, Bool, IsTrue, ℕ, zero, suc, ◌+◌, ◌-◌, ◌^◌, ◌<◌, ◌≤◌, List, [], ◌∷◌, ◌++◌, length, take, drop, get_or, None, Some, refl, sym, ap, ◌∙◌, subst, arith, length-append, append_assoc, take-append-drop}
use Rattle.std.specs.declared.option.Option.{Option}
use Rattle.std.specs.Int.{w32, to_le_bytes, from_le_bytes}
use Rattle.std.proofs.lemmas.List.{drop_at, drop-drop, length-drop, length-take-le}
use Rattle.std.proofs.lemmas.Nat.{from_le_bytes-to_le_bytes_4}
use Rattle.ziti_outside.specs.Images.{StandAt}
use Rattle.journal_core.specs.Slots.{IsClosed, IsRecord, IsDamaged, record_of}
use Rattle.journal_core.specs.declared.faults.JournalFault.{JournalFault}
use Rattle.journal_core.specs.declared.faults.JournalFault.TheVariants.{Disk, NoMemory}
use Rattle.journal_core.specs.Faults.{ReadFails}
use Rattle.journal_core.specs.Heads.{IsHead}
use Rattle.journal_core.proofs.GateLaws.{closed_within}

-- Bytes that stand at a place and those that stand behind them stand there together.
pub stand_then : (at : ℕ) (xs ys whole : List ℕ) → StandAt at xs whole → StandAt (at + length xs) ys whole → StandAt at (xs ++ ys) whole
stand_then at xs ys whole p q =
    let rest : p.0 ≡ ys ++ q.0 =
    sym (drop_at xs p.0 (length xs) refl) ∙ ap (λ (l : List ℕ). drop (length xs) l) p.1 ∙ drop-drop (length xs) at whole ∙ sym q.1 in
    (q.0, append_assoc xs ys q.0 ∙ ap (λ (l : List ℕ). xs ++ l) (sym rest) ∙ p.1)

-- Some bytes that stand at a place stand within the whole.
pub stand_within : (at x : ℕ) (xs whole : List ℕ) → StandAt at (x ∷ xs) whole → at + length (x ∷ xs) ≤ length whole
stand_within at x xs whole p =
    let long : length ((x ∷ xs) ++ p.0) ≡ length whole - at = ap length p.1 ∙ length-drop at whole in
    omega (arith, long, length-append (x ∷ xs) p.0)

-- The bytes from a place on, of bytes that are split there.
behind_front : (at : ℕ) (front rest bytes : List ℕ) → bytes ≡ front ++ rest → length front ≡ at → drop at bytes ≡ rest
behind_front at front rest bytes e place = ap (λ (l : List ℕ). drop at l) e ∙ drop_at front rest at place

-- The byte at a place is a closed gate where it is not 1.
pub closed_stands : (at gate : ℕ) (bytes : List ℕ) → gate ≢ 1 → StandAt at (gate ∷ []) bytes → IsClosed at bytes
closed_stands at gate bytes closed p =
    let within = stand_within at gate [] bytes p in
    record {
      front = take at bytes;
      gate = gate;
      more = p.0;
      split = sym (take-append-drop at bytes) ∙ ap (λ (l : List ℕ). take at bytes ++ l) (sym p.1);
      place = length-take-le at bytes (omega (arith, within));
      closed = closed;
    }

-- A record stands within the bytes.
pub record_within : (at : ℕ) (payload bytes : List ℕ) → IsRecord at payload bytes → at + 5 + length payload ≤ length bytes
record_within at payload bytes r =
    let all : length bytes ≡ length r.front + length (1 ∷ (record_of payload ++ r.more)) = ap length r.split ∙ length-append r.front (1 ∷ (record_of payload ++ r.more)) in
    let text : length (record_of payload ++ r.more) ≡ length (record_of payload) + length r.more = length-append (record_of payload) r.more in
    let place = r.place in
    omega arith

-- No gate stands where the bytes have ended.
pub damaged_past_end : (at : ℕ) (bytes : List ℕ) → length bytes ≤ at → IsDamaged at bytes
damaged_past_end at bytes past = record {
  not_closed = λ c. absurd (omega (arith, closed_within c));
  no_record = λ payload r. absurd (omega (arith, record_within at payload bytes r));
}

-- An open gate is not closed.
open_not_closed : (at : ℕ) (bytes : List ℕ) → StandAt at (1 ∷ []) bytes → IsClosed at bytes → ⊥
open_not_closed at bytes p c =
    let e : 1 ∷ p.0 ≡ c.gate ∷ c.more = p.1 ∙ behind_front at c.front (c.gate ∷ c.more) bytes c.split c.place in
    let same : c.gate ≡ 1 = cc in
    c.closed same

-- An open gate with no room for a length is damaged.
pub damaged_head : (at : ℕ) (bytes : List ℕ) → StandAt at (1 ∷ []) bytes → length bytes < at + 5 → IsDamaged at bytes
damaged_head at bytes p short = record {
  not_closed = open_not_closed at bytes p;
  no_record = λ payload r. absurd (omega (arith, record_within at payload bytes r));
}

-- The length behind an open gate is that of its record.
same_length : (at n : ℕ) (payload bytes : List ℕ) → n < 2 ^ 32 → StandAt at (1 ∷ to_le_bytes w32 n) bytes → IsRecord at payload bytes → n ≡ length payload
same_length at n payload bytes small p r =
    let e : (1 ∷ to_le_bytes w32 n) ++ p.0 ≡ 1 ∷ (record_of payload ++ r.more) = p.1 ∙ behind_front at r.front (1 ∷ (record_of payload ++ r.more)) bytes r.split r.place in
    let four : to_le_bytes w32 n ≡ to_le_bytes w32 (length payload) = ap (λ (l : List ℕ). take 4 (drop 1 l)) e in
    sym (from_le_bytes-to_le_bytes_4 n small) ∙ ap (λ (l : List ℕ). from_le_bytes w32 l) four ∙ from_le_bytes-to_le_bytes_4 (length payload) r.short

-- An open gate with a length that passes the end is damaged.
pub damaged_record : (at n : ℕ) (bytes : List ℕ) → n < 2 ^ 32 → StandAt at (1 ∷ []) bytes → StandAt (at + 1) (to_le_bytes w32 n) bytes → length bytes < at + 5 + n → IsDamaged at bytes
damaged_record at n bytes small p q long = record {
  not_closed = open_not_closed at bytes p;
  no_record = λ payload r. absurd (omega (arith, record_within at payload bytes r, same_length at n payload bytes small (stand_then at (1 ∷ []) (to_le_bytes w32 n) bytes p q) r));
}

-- An open gate, the length behind it, and as many bytes are a record.
pub record_stands : (at n : ℕ) (payload bytes : List ℕ) → n < 2 ^ 32 → length payload ≡ n → StandAt at (1 ∷ []) bytes → StandAt (at + 1) (to_le_bytes w32 n) bytes
    → StandAt (at + 5) payload bytes → IsRecord at payload bytes
record_stands at n payload bytes small len gate number text =
    let head : StandAt at (1 ∷ to_le_bytes w32 n) bytes = stand_then at (1 ∷ []) (to_le_bytes w32 n) bytes gate number in
    let all : StandAt at ((1 ∷ to_le_bytes w32 n) ++ payload) bytes = stand_then at (1 ∷ to_le_bytes w32 n) payload bytes head text in
    let within = stand_within at 1 [] bytes gate in
    let text : (1 ∷ to_le_bytes w32 n) ++ payload ≡ 1 ∷ record_of payload = ap (λ (k : ℕ). (1 ∷ to_le_bytes w32 k) ++ payload) (sym len) in
    let whole : (1 ∷ record_of payload) ++ all.0 ≡ drop at bytes = ap (λ (l : List ℕ). l ++ all.0) (sym text) ∙ all.1 in
    record {
      front = take at bytes;
      more = all.0;
      split = sym (take-append-drop at bytes) ∙ ap (λ (l : List ℕ). take at bytes ++ l) (sym whole);
      place = length-take-le at bytes (omega (arith, within));
      short = omega (arith, len);
    }

-- So many bytes from a place on, where the whole has them.
stand_taken : (at n : ℕ) (whole : List ℕ) → StandAt at (take n (drop at whole)) whole
stand_taken at n whole = (drop n (drop at whole), take-append-drop n (drop at whole))

-- An open gate and a length that stays within the end have a record behind them.
pub record_there : (at n : ℕ) (bytes : List ℕ) → n < 2 ^ 32 → at + 5 + n ≤ length bytes → StandAt at (1 ∷ []) bytes → StandAt (at + 1) (to_le_bytes w32 n) bytes
    → (payload : List ℕ) × IsRecord at payload bytes
record_there at n bytes small within gate number =
    let payload = take n (drop (at + 5) bytes) in
    let long : length payload ≡ n = length-take-le n (drop (at + 5) bytes) (omega (arith, length-drop (at + 5) bytes)) in
    (payload, record_stands at n payload bytes small long gate number (stand_taken (at + 5) n bytes))

-- Why a record was not read, where the disk failed or memory was wanting.
pub record_fails : (tells : Bool) (at : ℕ) (bytes : List ℕ) (fault : JournalFault) → (fault ≡ Disk) ⊎ (fault ≡ NoMemory)
    → (IsTrue tells → (payload : List ℕ) × IsRecord at payload bytes) → ReadFails tells at bytes fault
record_fails tells at bytes fault (inl e) there = rw e tt
record_fails tells at bytes fault (inr e) there = rw e there

-- Four bytes are bytes wherever they are looked at.
pub four_small : (a b c d : ℕ) → a < 256 → b < 256 → c < 256 → d < 256 → (i : ℕ) → get_or (a ∷ b ∷ c ∷ d ∷ []) i 0 < 256
four_small a b c d p q r s zero = p
four_small a b c d p q r s (suc zero) = q
four_small a b c d p q r s (suc (suc zero)) = r
four_small a b c d p q r s (suc (suc (suc zero))) = s
four_small a b c d p q r s (suc (suc (suc (suc i)))) = omega arith

-- A byte that is not 1 is the head of no record.
pub head_closed : (tells : Bool) (at end gate : ℕ) (bytes : List ℕ) → gate ≢ 1 → (IsTrue tells → StandAt at (gate ∷ []) bytes) → IsHead tells at end bytes None
head_closed tells at end gate bytes closed read = λ told. closed_stands at gate bytes closed (read told)

-- A head that was found is one with room for so many bytes.
head_some : (tells : Bool) (at end n : ℕ) (bytes : List ℕ) (found : Option ℕ) → found ≡ Some n → IsHead tells at end bytes found → IsHead tells at end bytes (Some n)
head_some tells at end n bytes found e h = subst (λ (f : Option ℕ). IsHead tells at end bytes f) e h

-- The record behind a head that was found is there.
pub head_there : (tells : Bool) (at end n : ℕ) (bytes : List ℕ) (found : Option ℕ) → found ≡ Some n → IsHead tells at end bytes found → IsTrue tells → end ≡ length bytes
    → (payload : List ℕ) × IsRecord at payload bytes
head_there tells at end n bytes found e h told long =
    let head = head_some tells at end n bytes found e h in
    let stand = head.2 told in
    let within = head.0 in
    record_there at n bytes head.1 (omega arith) stand.0 stand.1

-- The bytes behind a head that was found are its record.
pub head_stands : (tells : Bool) (at end n : ℕ) (payload bytes : List ℕ) (found : Option ℕ) → found ≡ Some n → IsHead tells at end bytes found → IsTrue tells
    → length payload ≡ n → StandAt (at + 5) payload bytes → IsRecord at payload bytes
head_stands tells at end n payload bytes found e h told long text =
    let head = head_some tells at end n bytes found e h in
    let stand = head.2 told in
    record_stands at n payload bytes head.1 long stand.0 stand.1 text
