-- The records of a slot are found, all of them.
use Rattle.std.proofs.Common.{◌≡◌, ◌≢◌, Bool, true, false, ℕ, ◌+◌, ◌^◌, ◌<◌, ◌≤◌, ◌==◌, List, [], ◌∷◌, ◌++◌, length, drop, Some, None, cond, refl, ap, ◌∙◌, arith, append_assoc, length-append}
use Rattle.std.specs.Prelude.{◌&&◌, nat_le}
use Rattle.std.specs.declared.option.Option.{Option}
use Rattle.std.specs.Int.{w32, to_le_bytes}
use Rattle.std.specs.List.{AllByRecursion}
use Rattle.std.proofs.lemmas.Bool.{ne_eqb, le-leb}
use Rattle.std.proofs.lemmas.List.{drop_at}
use Rattle.std.proofs.lemmas.Nat.{from_le_bytes-to_le_bytes_4}
use Rattle.ctrl_model.specs.declared.formats.Format.{Format}
use Rattle.ctrl_model.specs.declared.formats.Format.TheVariants as format
use Rattle.journal_core.specs.Slots.{IsPayload, Slot, header, record_of, records_of, slot_end}
use Rattle.folder_findings.specs.declared.finding.FoundSlot.TheVariants.{Journal}
use Rattle.folder_findings.specs.declared.spans.Gate.TheVariants.{Closed}
use Rattle.folder_findings.specs.declared.spans.Span.{Span}
use Rattle.folder_findings.specs.FoundFiles.{format_of, found_as, found_slot}
use Rattle.folder_findings.specs.Spans.{behind_open, ended, hidden_by, number_of, record_len, span_from, span_past}
use Rattle.folder_findings.proofs.SpanLaws.{past_skipped}

-- A length and as many bytes are a whole record.
whole_len : (n : ℕ) (rest : List ℕ) → n < 2 ^ 32 → n ≤ length rest → record_len (to_le_bytes w32 n ++ rest) ≡ Some n
whole_len n rest small le =
    let bytes = to_le_bytes w32 n ++ rest in
    let number : number_of bytes ≡ n = from_le_bytes-to_le_bytes_4 n small in
    let long : length bytes ≡ 4 + length rest = length-append (to_le_bytes w32 n) rest in
    let four : nat_le 4 (length bytes) ≡ true = le-leb 4 (length bytes) (omega arith) in
    let within : nat_le (4 + n) (length bytes) ≡ true = le-leb (4 + n) (length bytes) (omega arith) in
    ap (λ (k : ℕ). cond (nat_le 4 (length bytes) && nat_le (4 + k) (length bytes)) (Some k) None) number
    ∙ ap (λ (b : Bool). cond (b && nat_le (4 + n) (length bytes)) (Some n) None) four
    ∙ ap (λ (b : Bool). cond b (Some n) None) within

-- Records behind open gates are found up to the gate behind them that is closed.
spans_of_records : (payloads : List (List ℕ)) (at records gate : ℕ) (more : List ℕ) → AllByRecursion IsPayload payloads → gate ≢ 1
    → span_past (records_of payloads ++ gate ∷ more) 0 at records ≡ ended Closed (at + length (records_of payloads)) (records + length payloads)
spans_of_records [] at records gate more short closed =
    let test : (gate == 1) ≡ false = ne_eqb gate 1 closed in
    let place : at ≡ at + 0 = omega arith in
    let number : records ≡ records + 0 = omega arith in
    ap (λ (b : Bool). cond b (behind_open (record_len more) at records (span_past more)) (ended Closed at records)) test
    ∙ ap (λ (k : ℕ). ended Closed k records) place
    ∙ ap (λ (k : ℕ). ended Closed (at + 0) k) number
spans_of_records (payload ∷ payloads) at records gate more short closed =
    let n = length payload in
    let behind = records_of payloads ++ gate ∷ more in
    let rest = (record_of payload ++ records_of payloads) ++ gate ∷ more in
    let split : rest ≡ record_of payload ++ behind = append_assoc (record_of payload) (records_of payloads) (gate ∷ more) in
    let spelled : rest ≡ to_le_bytes w32 n ++ (payload ++ behind) = split ∙ append_assoc (to_le_bytes w32 n) payload behind in
    let some : record_len rest ≡ Some n = ap record_len spelled ∙ whole_len n (payload ++ behind) short.0 (omega (arith, length-append payload behind)) in
    let size : length (record_of payload) ≡ 4 + n = length-append (to_le_bytes w32 n) payload in
    let long : 4 + n ≤ length rest = omega (arith, ap length split, length-append (record_of payload) behind) in
    let left : drop (4 + n) rest ≡ behind = ap (λ (l : List ℕ). drop (4 + n) l) split ∙ drop_at (record_of payload) behind (4 + n) size in
    let place : at + 1 + (4 + n) + length (records_of payloads) ≡ at + length (records_of (payload ∷ payloads)) = omega (arith, length-append (record_of payload) (records_of payloads)) in
    let number : records + 1 + length payloads ≡ records + length (payload ∷ payloads) = omega arith in
    ap (λ (o : Option ℕ). behind_open o at records (span_past rest)) some
    ∙ past_skipped rest (4 + n) (at + 1) (records + 1) long
    ∙ ap (λ (l : List ℕ). span_past l 0 (at + 1 + (4 + n)) (records + 1)) left
    ∙ spans_of_records payloads (at + 1 + (4 + n)) (records + 1) gate more short.1 closed
    ∙ ap (λ (k : ℕ). ended Closed k (records + 1 + length payloads)) place
    ∙ ap (λ (k : ℕ). ended Closed (at + length (records_of (payload ∷ payloads))) k) number

-- The header of a format is found.
format_found : (f : Format) (rest : List ℕ) → format_of (header f ++ rest) ≡ Some f
format_found format.One rest = refl
format_found format.Two rest = refl

-- The bytes of a slot are found to be one.
pub slot_is_found : (f : Format) (bytes : List ℕ) (payloads : List (List ℕ)) → Slot f bytes payloads
    → found_slot bytes ≡ Journal f (length bytes) (ended Closed (slot_end payloads) (length payloads)) (hidden_by (ended Closed (slot_end payloads) (length payloads)) bytes)
slot_is_found f bytes payloads s =
    let rest = records_of payloads ++ s.gate ∷ s.more in
    let format : format_of bytes ≡ Some f = ap format_of s.split ∙ format_found f rest in
    let zero_on : 0 + length payloads ≡ length payloads = omega arith in
    let span : span_from 8 bytes ≡ ended Closed (slot_end payloads) (length payloads) =
    ap (λ (l : List ℕ). span_past (drop 8 l) 0 8 0) s.split
    ∙ ap (λ (l : List ℕ). span_past l 0 8 0) (drop_at (header f) rest 8 refl)
    ∙ spans_of_records payloads 8 0 s.gate s.more s.short s.closed
    ∙ ap (λ (k : ℕ). ended Closed (slot_end payloads) k) zero_on in
    ap (λ (o : Option Format). found_as o bytes) format
    ∙ ap (λ (x : Span). Journal f (length bytes) x (hidden_by x bytes)) span
