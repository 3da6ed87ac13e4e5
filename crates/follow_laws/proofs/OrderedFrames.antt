-- All frames of a history in order, from a Whole on.
use Rattle.std.proofs.Common.{◌≡◌, ℕ, zero, suc, ◌+◌, ◌/◌, ◌^◌, ◌<◌, ◌≤◌, List, [], ◌∷◌, ◌++◌, length, None, Some, refl, sym, ap, ◌∙◌, subst, inl, inr, arith}
use Rattle.std.specs.declared.option.Option.{Option}
use Rattle.std.specs.Option.{option_map_or}
use Rattle.std.specs.List.{AllByRecursion}
use Rattle.ctrl_model.specs.declared.formats.Format.TheVariants.{Two}
use Rattle.ctrl_model.specs.State.{State, start}
use Rattle.channel_frame.specs.declared.frames.Frame.{Frame}
use Rattle.ship_frames.specs.declared.gathering.Gathered.{Gathered}
use Rattle.ship_frames.specs.declared.gathering.Gathered.TheVariants as gathered
use Rattle.ship_frames.specs.declared.shipments.Shipment.{Shipment}
use Rattle.ship_frames.specs.declared.shipments.Sort.TheVariants.{Whole, Next}
use Rattle.ship_frames.specs.Pieces.{piece_count, piece_frame, frames_from, frames_of, frames_of_all}
use Rattle.ship_frames.specs.PieceReading.{most_pieces, piece_with}
use Rattle.ship_frames.specs.GatheredPieces.{Parts, gather}
use Rattle.ship_frames.proofs.ReadingLaws.{piece_back}
use Rattle.ship_frames.proofs.GatheringLaws.{came_of, gather_first, gather_next, told_waits, told_whole}
use Rattle.row_codec.specs.declared.changes.Op.{Op}
use Rattle.row_codec.specs.Batches.{batch_bytes, batch_between}
use Rattle.row_laws.proofs.StateBatches.{batch_leads, same_from_batch}
use Rattle.slot_reading.specs.BatchRows.{rows_after}
use Rattle.row_store.specs.declared.bounds.StoreBounds.{StoreBounds}
use Rattle.row_store.specs.OpenedStates.{byte_rows_of}
use Rattle.row_store.proofs.StateRows.{start_rows, start_valid}
use Rattle.follow_core.specs.declared.taken.Taken.{Taken}
use Rattle.follow_core.specs.declared.taken.Taken.TheVariants as taken
use Rattle.follow_core.specs.Following.{Copy, with_parts, received, gathered_so, follow, taken_all, copy_after}
use Rattle.follow_core.proofs.BatchWords.{many_bytes}
use Rattle.follow_laws.specs.Histories.{IsHistory, state_at, rows_at, between, history_of, shipment_of, IsAt, IsWithinLimits, nexts_shipped, shipped_from}
use Rattle.follow_laws.proofs.HistoryStates.{valid_at, serial_fits}
use Rattle.follow_laws.proofs.DecidedBatches.{Keeps, whole_keeps, next_keeps}
use Rattle.follow_laws.proofs.TakenFrames.{followed, shippable}

-- ---- the frames of one batch

-- So many pieces of a batch were taken, and it was received.
abbrev IsReceived : StoreBounds → (place : ℕ) → Shipment → (number left : ℕ) → Copy → Type 0
IsReceived bounds place s number left c =
    (copy_after bounds (frames_from place s number (suc left)) c ≡ (received bounds s (with_parts c None)).1)
    × (AllByRecursion IsWithinLimits (taken_all bounds (frames_from place s number (suc left)) c) → IsWithinLimits (received bounds s (with_parts c None)).0)

last_received : (bounds : StoreBounds) (place : ℕ) (s : Shipment) (number : ℕ) (c : Copy) → follow bounds (piece_frame place s number) c ≡ received bounds s (with_parts c None)
    → IsReceived bounds place s number 0 c
last_received bounds place s number c e = (ap (λ (x : Taken × Copy). x.1) e, λ within. subst (λ (x : Taken × Copy). IsWithinLimits x.0) e within.0)

more_received : (bounds : StoreBounds) (place : ℕ) (s : Shipment) (number left : ℕ) (c : Copy) (parts : Parts)
    → follow bounds (piece_frame place s number) c ≡ (taken.Piece, with_parts c (Some parts)) → IsReceived bounds (place + 1) s (number + 1) left (with_parts c (Some parts))
    → IsReceived bounds place s number (suc left) c
more_received bounds place s number left c parts e rest =
    let more = frames_from (place + 1) s (number + 1) (suc left) in (
      ap (λ (x : Taken × Copy). copy_after bounds more x.1) e ∙ rest.0,
      λ within. rest.1 (subst (λ (x : Taken × Copy). AllByRecursion IsWithinLimits (taken_all bounds more x.1)) e within.1),
    )

-- What becomes of a piece of a batch, by what is gathered of it.
follows_so : (bounds : StoreBounds) (place : ℕ) (s : Shipment) (number : ℕ) (c : Copy) (g : Gathered) (parts : Option Parts) → s.serial < 2 ^ 64 → piece_count s.bytes ≤ most_pieces
    → number < piece_count s.bytes → gather c.parts (piece_with s number) ≡ (g, parts) → follow bounds (piece_frame place s number) c ≡ gathered_so bounds g (with_parts c parts)
follows_so bounds place s number c g parts fits few within e =
    followed bounds (piece_frame place s number) c (piece_with s number) (piece_back place s number fits few within)
    ∙ ap (λ (x : Gathered × Option Parts). gathered_so bounds x.0 (with_parts c x.1)) e

rest_received : (bounds : StoreBounds) (place : ℕ) (s : Shipment) (number left : ℕ) (c : Copy) → s.serial < 2 ^ 64 → piece_count s.bytes ≤ most_pieces → 1 ≤ number
    → number + suc left ≡ piece_count s.bytes → c.parts ≡ Some (came_of s number) → IsReceived bounds place s number left c
rest_received bounds place s number zero c fits few some all came =
    last_received bounds place s number c (follows_so bounds place s number c (gathered.Whole s) None fits few (omega (arith, all))
    (ap (λ (o : Option Parts). gather o (piece_with s number)) came ∙ gather_next s number some ∙ told_whole s (number + 1) (omega (arith, all))))
rest_received bounds place s number (suc left) c fits few some all came =
    let next = came_of s (number + 1) in
    more_received bounds place s number left c next (follows_so bounds place s number c gathered.Waits (Some next) fits few (omega (arith, all))
    (ap (λ (o : Option Parts). gather o (piece_with s number)) came ∙ gather_next s number some ∙ told_waits s (number + 1) (omega (arith, all))))
    (rest_received bounds (place + 1) s (number + 1) left (with_parts c (Some next)) fits few (omega arith) (omega (arith, all)) refl)

first_received : (bounds : StoreBounds) (place : ℕ) (s : Shipment) (left : ℕ) (c : Copy) → s.serial < 2 ^ 64 → piece_count s.bytes ≤ most_pieces → suc left ≡ piece_count s.bytes
    → IsReceived bounds place s 0 left c
first_received bounds place s zero c fits few all =
    last_received bounds place s 0 c (follows_so bounds place s 0 c (gathered.Whole s) None fits few (omega (arith, all)) (gather_first c.parts s ∙ told_whole s 1 all))
first_received bounds place s (suc left) c fits few all =
    let next = came_of s 1 in
    more_received bounds place s 0 left c next (follows_so bounds place s 0 c gathered.Waits (Some next) fits few (omega (arith, all)) (gather_first c.parts s ∙ told_waits s 1 (omega (arith, all))))
    (rest_received bounds (place + 1) s 1 left (with_parts c (Some next)) fits few (omega arith) (omega (arith, all)) refl)

-- All of them.
batch_received : (bounds : StoreBounds) (place : ℕ) (s : Shipment) (c : Copy) → s.serial < 2 ^ 64 → piece_count s.bytes ≤ most_pieces → 1 ≤ length s.bytes
    → (copy_after bounds (frames_of place s) c ≡ (received bounds s (with_parts c None)).1)
    × (AllByRecursion IsWithinLimits (taken_all bounds (frames_of place s) c) → IsWithinLimits (received bounds s (with_parts c None)).0)
batch_received bounds place s c fits few some = by (piece_count s.bytes) refl
  where
    counted : (len : ℕ) → 1 ≤ len → (len + 1048575) / 1048576 ≡ 0 → ⊥
    counted len more none = omega (arith, more, none)

    by : (count : ℕ) → count ≡ piece_count s.bytes → (copy_after bounds (frames_from place s 0 count) c ≡ (received bounds s (with_parts c None)).1)
        × (AllByRecursion IsWithinLimits (taken_all bounds (frames_from place s 0 count) c) → IsWithinLimits (received bounds s (with_parts c None)).0)
    by zero e = absurd (counted (length s.bytes) some (sym e))
    by (suc left) e = first_received bounds place s left c fits few e

-- ---- frames one behind another

copy_append : (bounds : StoreBounds) (these those : List Frame) (c : Copy) → copy_after bounds (these ++ those) c ≡ copy_after bounds those (copy_after bounds these c)
copy_append bounds [] those c = refl
copy_append bounds (frame ∷ these) those c = copy_append bounds these those (follow bounds frame c).1

within_append : (bounds : StoreBounds) (these those : List Frame) (c : Copy) → AllByRecursion IsWithinLimits (taken_all bounds (these ++ those) c)
    → AllByRecursion IsWithinLimits (taken_all bounds these c) × AllByRecursion IsWithinLimits (taken_all bounds those (copy_after bounds these c))
within_append bounds [] those c within = (tt, within)
within_append bounds (frame ∷ these) those c within =
    let rest = within_append bounds these those (follow bounds frame c).1 within.1 in
    ((within.0, rest.0), rest.1)

-- ---- the batches of a history

-- A place within a history has a state.
there_is : (states : List State) (place : ℕ) → place < length states → (s : State) × (state_at states place ≡ Some s)
there_is [] place within = absurd (omega (arith, within))
there_is (s ∷ states) zero within = (s, refl)
there_is (s ∷ states) (suc place) within = there_is states place (omega (arith, within))

no_bytes : (ops : List Op) → (ops ≡ [] → ⊥) → 1 ≤ length (batch_bytes ops)
no_bytes [] some = absurd (some refl)
no_bytes (o ∷ os) some = let many = many_bytes (o ∷ os) in omega (arith, many)

-- A Next of a history has bytes.
next_some : (states : List State) (serial : ℕ) (s t : State) → IsHistory states → state_at states serial ≡ Some s → state_at states (suc serial) ≡ Some t → 1 ≤ length (history_of states Next (suc serial))
next_some states serial s t history e f =
    let before = valid_at states serial s history e in
    let after = valid_at states (suc serial) t history f in
    let bytes : history_of states Next (suc serial) ≡ batch_bytes (batch_between Two s t) =
    ap (λ (o : Option State). between o (state_at states (suc serial))) e ∙ ap (λ (o : Option State). between (Some s) o) f in
    subst (λ (b : List ℕ). 1 ≤ length b) (sym bytes) (no_bytes (batch_between Two s t) (λ none.
    two s.serial t.serial before.1 after.1 (ap (λ (u : State). u.serial) (same_from_batch Two s t before.0 after.0 tt tt none))))
  where
    two : (a b : ℕ) → a ≡ serial → b ≡ suc serial → a ≡ b → ⊥
    two a b is next same = omega (arith, is, next, same)

-- A Whole of a serial that has rows does too.
whole_some : (states : List State) (serial : ℕ) (s : State) → IsHistory states → state_at states serial ≡ Some s → (rows_at states serial ≡ [] → ⊥) → 1 ≤ length (history_of states Whole serial)
whole_some states serial s history e rows =
    let after = valid_at states serial s history e in
    let bytes : history_of states Whole serial ≡ batch_bytes (batch_between Two start s) = ap (λ (o : Option State). between (Some start) o) e in
    let found : rows_at states serial ≡ byte_rows_of Two s = ap (λ (o : Option State). option_map_or (byte_rows_of Two) o []) e in
    subst (λ (b : List ℕ). 1 ≤ length b) (sym bytes) (no_bytes (batch_between Two start s) (λ none.
    rows (found ∙ sym (batch_leads Two start s start_valid after.0) ∙ ap (λ (l : List Op). rows_after (byte_rows_of Two start) l) none ∙ start_rows Two)))

-- ---- all in order

-- A batch that was received within the limits was taken.
took : (states : List State) (serial : ℕ) (c : Copy) (x : Taken × Copy) → Keeps states serial c x → IsWithinLimits x.0 → IsAt states (Some serial) x.1
took states serial c x keeps within =
    elim keeps.either [
      | inl new ↦ new.1
      | inr full ↦ elim full.1 [
        | inl e ↦ absurd (subst IsWithinLimits e within)
        | inr e ↦ absurd (subst IsWithinLimits e within)
      ]
    ]

-- The rows of a copy that stands at a serial.
rows_there : (states : List State) (serial : ℕ) (c : Copy) → IsAt states (Some serial) c → c.rows ≡ rows_at states serial
rows_there states serial c at = at.rows_are ∙ ap (λ (o : Option State). option_map_or (byte_rows_of Two) o []) (sym at.there)

-- The frames of one batch, where it is taken.
batch_taken : (states : List State) (bounds : StoreBounds) (place serial : ℕ) (s : Shipment) (c : Copy) → s.serial < 2 ^ 64 → piece_count s.bytes ≤ most_pieces → 1 ≤ length s.bytes
    → Keeps states serial (with_parts c None) (received bounds s (with_parts c None)) → AllByRecursion IsWithinLimits (taken_all bounds (frames_of place s) c)
    → IsAt states (Some serial) (copy_after bounds (frames_of place s) c)
batch_taken states bounds place serial s c fits few some keeps within =
    let whole = batch_received bounds place s c fits few some in
    subst (IsAt states (Some serial)) (sym whole.0) (took states serial (with_parts c None) (received bounds s (with_parts c None)) keeps (whole.1 within))

nexts_taken : (states : List State) (bounds : StoreBounds) (place own count : ℕ) (c : Copy) → IsHistory states → own + count < length states
    → IsAt states (Some own) c → AllByRecursion IsWithinLimits (taken_all bounds (frames_of_all place (nexts_shipped states own count)) c)
    → (copy_after bounds (frames_of_all place (nexts_shipped states own count)) c).rows ≡ rows_at states (own + count)
nexts_taken states bounds place own zero c history upto here within =
    let last : own ≡ own + 0 = omega arith in
    rows_there states own c here ∙ ap (rows_at states) last
nexts_taken states bounds place own (suc count) c history upto here within =
    let s = shipment_of states Next (own + 1) in
    let more = frames_of_all (place + piece_count s.bytes) (nexts_shipped states (own + 1) count) in
    let next : own + 1 ≡ suc own = omega arith in
    let found = there_is states (own + 1) (omega (arith, upto)) in
    let some : 1 ≤ length s.bytes = subst (λ (n : ℕ). 1 ≤ length (history_of states Next n)) (sym next)
    (next_some states own here.state found.0 history here.there (ap (state_at states) (sym next) ∙ found.1)) in
    let parts = within_append bounds (frames_of place s) more c within in
    let keeps = next_keeps states bounds own (own + 1) (with_parts c None) history here next some in
    let there = batch_taken states bounds place (own + 1) s c (serial_fits states (own + 1) found.0 history found.1) (shippable states Next (own + 1) history) some keeps parts.0 in
    let rest = nexts_taken states bounds (place + piece_count s.bytes) (own + 1) count (copy_after bounds (frames_of place s) c) history (omega (arith, upto)) there parts.1 in
    let last : own + 1 + count ≡ own + suc count = omega arith in
    ap (λ (x : Copy). x.rows) (copy_append bounds (frames_of place s) more c) ∙ rest ∙ ap (rows_at states) last

pub all_taken : (states : List State) (bounds : StoreBounds) (place serial count : ℕ) (c : Copy) → IsHistory states → serial + count < length states
    → (rows_at states serial ≡ [] → ⊥) → IsAt states None c → AllByRecursion IsWithinLimits (taken_all bounds (frames_of_all place (shipped_from states serial count)) c)
    → (copy_after bounds (frames_of_all place (shipped_from states serial count)) c).rows ≡ rows_at states (serial + count)
all_taken states bounds place serial count c history upto rows here within =
    let s = shipment_of states Whole serial in
    let more = frames_of_all (place + piece_count s.bytes) (nexts_shipped states serial count) in
    let found = there_is states serial (omega (arith, upto)) in
    let some : 1 ≤ length s.bytes = whole_some states serial found.0 history found.1 rows in
    let parts = within_append bounds (frames_of place s) more c within in
    let keeps = whole_keeps states bounds serial (with_parts c None) history here some in
    let there = batch_taken states bounds place serial s c (serial_fits states serial found.0 history found.1) (shippable states Whole serial history) some keeps parts.0 in
    ap (λ (x : Copy). x.rows) (copy_append bounds (frames_of place s) more c)
    ∙ nexts_taken states bounds (place + piece_count s.bytes) serial count (copy_after bounds (frames_of place s) c) history upto there parts.1
