-- How records are found one after another, and which bytes begin with a header.
use Rattle.std.proofs.Common.{◌≡◌, Bool, true, false, ℕ, zero, suc, ◌+◌, ◌<◌, ◌≤◌, ◌==◌, List, [], ◌∷◌, length, take, drop, None, Some, cond, refl, sym, ap, ◌∙◌, arith}
use Rattle.std.specs.declared.option.Option.{Option}
use Rattle.std.specs.Str.{bytes_eq}
use Rattle.std.proofs.lemmas.List.{drop_all, drop-drop, length-drop, take_all, take_at}
use Rattle.ctrl_model.specs.declared.formats.Format.{Format}
use Rattle.ctrl_model.specs.declared.formats.Format.TheVariants as format
use Rattle.ctrl_model.proofs.DistinctLaws.{same_name}
use Rattle.ziti_outside.specs.Images.{StandAt}
use Rattle.journal_core.specs.Slots.{header}
use Rattle.folder_findings.specs.declared.spans.Gate.TheVariants.{Closed, Missing, Cut}
use Rattle.folder_findings.specs.FoundFiles.{format_of, header_format}
use Rattle.folder_findings.specs.Spans.{behind_open, ended, record_len, span_past}

-- Bytes that are passed over are left out.
pub past_skipped : (bytes : List ℕ) (skipped at records : ℕ) → skipped ≤ length bytes → span_past bytes skipped at records ≡ span_past (drop skipped bytes) 0 (at + skipped) records
past_skipped bytes zero at records le =
    let same : at ≡ at + 0 = omega arith in
    ap (λ (n : ℕ). span_past bytes 0 n records) same
past_skipped [] (suc skipped) at records le = absurd (omega arith)
past_skipped (byte ∷ bytes) (suc skipped) at records le =
    let same : at + 1 + skipped ≡ at + suc skipped = omega arith in
    let fits : skipped ≤ length bytes = omega arith in
    past_skipped bytes skipped (at + 1) records fits ∙ ap (λ (n : ℕ). span_past (drop skipped bytes) 0 n records) same

-- Where the bytes have ended no gate stands.
pub past_end : (at records : ℕ) (bytes : List ℕ) → length bytes ≤ at → span_past (drop at bytes) 0 at records ≡ ended Missing at records
past_end at records bytes past = ap (λ (l : List ℕ). span_past l 0 at records) (drop_all at bytes past)

-- What stands at a gate is told by its byte and by the length of the record behind it.
past_gate : (at records byte : ℕ) (is_one : Bool) (rest bytes : List ℕ) → (byte == 1) ≡ is_one → drop at bytes ≡ byte ∷ rest
    → span_past (drop at bytes) 0 at records ≡ cond is_one (behind_open (record_len rest) at records (span_past rest)) (ended Closed at records)
past_gate at records byte is_one rest bytes is here =
    ap (λ (l : List ℕ). span_past l 0 at records) here
    ∙ ap (λ (b : Bool). cond b (behind_open (record_len rest) at records (span_past rest)) (ended Closed at records)) is

-- At a gate that is closed the records end.
pub past_closed : (at records byte : ℕ) (rest bytes : List ℕ) → (byte == 1) ≡ false → drop at bytes ≡ byte ∷ rest → span_past (drop at bytes) 0 at records ≡ ended Closed at records
past_closed at records byte rest bytes closed here = past_gate at records byte false rest bytes closed here

-- Behind a gate that is open they end where the record is cut.
pub past_cut : (at records byte : ℕ) (rest bytes : List ℕ) → (byte == 1) ≡ true → drop at bytes ≡ byte ∷ rest → record_len rest ≡ None
    → span_past (drop at bytes) 0 at records ≡ ended Cut at records
past_cut at records byte rest bytes is here none =
    past_gate at records byte true rest bytes is here ∙ ap (λ (o : Option ℕ). behind_open o at records (span_past rest)) none

-- Behind a whole record they go on.
pub goes_on : (at records n next : ℕ) (bytes : List ℕ) → record_len (drop (at + 1) bytes) ≡ Some n → next ≡ at + 5 + n → next ≤ length bytes
    → behind_open (record_len (drop (at + 1) bytes)) at records (span_past (drop (at + 1) bytes)) ≡ span_past (drop next bytes) 0 next (records + 1)
goes_on at records n next bytes some place within =
    let rest = drop (at + 1) bytes in
    let long : 4 + n ≤ length rest = omega (arith, length-drop (at + 1) bytes) in
    let same : at + 1 + (4 + n) ≡ next = omega arith in
    ap (λ (o : Option ℕ). behind_open o at records (span_past rest)) some
    ∙ past_skipped rest (4 + n) (at + 1) (records + 1) long
    ∙ ap (λ (l : List ℕ). span_past l 0 (at + 1 + (4 + n)) (records + 1)) (drop-drop (4 + n) (at + 1) bytes)
    ∙ ap (λ (k : ℕ). span_past (drop k bytes) 0 k (records + 1)) same

-- And so they do where the gate before it is open.
pub past_record : (at records byte n next : ℕ) (bytes : List ℕ) → (byte == 1) ≡ true → drop at bytes ≡ byte ∷ drop (at + 1) bytes → record_len (drop (at + 1) bytes) ≡ Some n
    → next ≡ at + 5 + n → next ≤ length bytes → span_past (drop at bytes) 0 at records ≡ span_past (drop next bytes) 0 next (records + 1)
past_record at records byte n next bytes is here some place within =
    past_gate at records byte true (drop (at + 1) bytes) bytes is here ∙ goes_on at records n next bytes some place within

-- Bytes that were read at the front are the first ones.
pub front_read : (bytes whole : List ℕ) → length bytes ≡ 8 → StandAt 0 bytes whole → take 8 whole ≡ bytes
front_read bytes whole long read = ap (λ (l : List ℕ). take 8 l) (sym read.1) ∙ take_at bytes read.0 8 long

-- Fewer bytes are no header.
short_header : (bytes : List ℕ) (f : Format) → length bytes < 8 → bytes_eq bytes (header f) ≡ false
short_header bytes f short = by (bytes_eq bytes (header f)) refl
  where
    by : (b : Bool) → bytes_eq bytes (header f) ≡ b → bytes_eq bytes (header f) ≡ false
    by false is = is
    by true is = let long : length bytes ≡ 8 = ap (λ (l : List ℕ). length l) (same_name bytes (header f) is) in absurd (omega arith)

no_header_format : (bytes : List ℕ) → length bytes < 8 → header_format bytes ≡ None
no_header_format bytes short =
    ap (λ (b : Bool). cond b (Some format.Two) (cond (bytes_eq bytes (header format.One)) (Some format.One) None)) (short_header bytes format.Two short)
    ∙ ap (λ (b : Bool). cond b (Some format.One) None) (short_header bytes format.One short)

-- Fewer bytes begin with no header.
pub short_format : (bytes : List ℕ) → length bytes < 8 → format_of bytes ≡ None
short_format bytes short =
    let all : take 8 bytes ≡ bytes = take_all 8 bytes (omega arith) in
    ap header_format all ∙ no_header_format bytes short
