-- What is gathered of the pieces of batches.
use Rattle.std.proofs.Common.{◌≡◌, ℕ, zero, suc, ◌+◌, ◌-◌, ◌*◌, ◌<◌, ◌≤◌, ◌==◌, ◌&&◌, nat_lt, nat_le, Bool, true, false, cond, List, [], ◌∷◌, ◌++◌, length, take, drop, None, Some, refl, sym, ap, ◌∙◌, subst, arith}
use Rattle.std.specs.declared.option.Option.{Option}
use Rattle.std.specs.List.{AllByRecursion}
use Rattle.std.specs.Cmp.Derive.{both_true}
use Rattle.std.proofs.Math.ListN.{replicate}
use Rattle.std.proofs.lemmas.Bool.{eq-eqb, eqb-true, ne_eqb, and_parts, leb-true, ltb-true}
use Rattle.std.proofs.lemmas.List.{take_all, length-append}
use Rattle.ship_frames.specs.declared.gathering.Gathered.{Gathered}
use Rattle.ship_frames.specs.declared.gathering.Gathered.TheVariants as gathered
use Rattle.ship_frames.specs.declared.shipments.Shipment.{Shipment}
use Rattle.ship_frames.specs.declared.shipments.Sort.{Sort}
use Rattle.ship_frames.specs.declared.shipments.Sort.TheVariants.{Whole, Next}
use Rattle.ship_frames.specs.Pieces.{piece_size, piece_count, piece_at}
use Rattle.ship_frames.specs.PieceReading.{BatchPiece, most_pieces, is_sized, is_piece, piece_with, pieces_from, pieces_of}
use Rattle.ship_frames.specs.GatheredPieces.{Parts, same_sort, begun, goes_on, with_piece, batch_of, told, gather_more, gather, parts_behind, gathered_all, IsPieceOf, TellsOf, IsFrontOf, IsHeld, IsHeldOf, bytes_held}
use Rattle.ship_frames.proofs.PieceLaws.{split_take}

-- ---- all pieces in order

-- A sort is the same as itself, and what is the same is equal.
pub sort_same : (sort : Sort) → same_sort sort sort ≡ true
sort_same Whole = refl
sort_same Next = refl

pub sort_equal : (sort other : Sort) → same_sort sort other ≡ true → sort ≡ other
sort_equal Whole Whole e = refl
sort_equal Whole Next e = absurd cc
sort_equal Next Whole e = absurd cc
sort_equal Next Next e = refl

-- A batch of which so many pieces came.
abbrev pub came_of : Shipment → (number : ℕ) → Parts
came_of s number =
    record { sort = s.sort; serial = s.serial; count = piece_count s.bytes; came = number; bytes = take (number * piece_size) s.bytes }

-- One piece more.
bytes_more : (bytes : List ℕ) (number : ℕ) → take (number * piece_size) bytes ++ piece_at number bytes ≡ take ((number + 1) * piece_size) bytes
bytes_more bytes number =
    let next : number * piece_size + piece_size ≡ (number + 1) * piece_size = omega arith in
    split_take (number * piece_size) piece_size bytes ∙ ap (λ (n : ℕ). take n bytes) next

came_more : (s : Shipment) (number : ℕ) → with_piece (came_of s number) (piece_with s number) ≡ came_of s (number + 1)
came_more s number = ap (λ (b : List ℕ). record (came_of s number) { came = number + 1; bytes = b }) (bytes_more s.bytes number)

-- All of them are the batch.
came_all : (s : Shipment) → batch_of (came_of s (piece_count s.bytes)) ≡ s
came_all s = ap (λ (b : List ℕ). record s { bytes = b }) (take_all (piece_count s.bytes * piece_size) s.bytes (omega arith))

-- The next piece goes on with those that came.
next_goes_on : (s : Shipment) (number : ℕ) → goes_on (came_of s number) (piece_with s number) ≡ true
next_goes_on s number =
    both_true (sort_same s.sort) (both_true (eq-eqb s.serial s.serial refl) (both_true (eq-eqb (piece_count s.bytes) (piece_count s.bytes) refl) (eq-eqb number number refl)))

-- What a next piece makes of them.
pub gather_next : (s : Shipment) (number : ℕ) → 1 ≤ number → gather (Some (came_of s number)) (piece_with s number) ≡ told (came_of s (number + 1))
gather_next s number some =
    let parts = came_of s number in
    let p = piece_with s number in
    let later : (number == 0) ≡ false = ne_eqb number 0 (λ e. omega (arith, some, e)) in
    ap (λ (b : Bool). cond b (told (begun p)) (gather_more (Some parts) p)) later
    ∙ ap (λ (b : Bool). cond b (told (with_piece parts p)) (gathered.Skipped, Some parts)) (next_goes_on s number)
    ∙ ap told (came_more s number)

-- What the first piece makes of whatever is in parts.
pub gather_first : (parts : Option Parts) (s : Shipment) → gather parts (piece_with s 0) ≡ told (came_of s 1)
gather_first parts s = ap told (ap (λ (b : List ℕ). record (came_of s 1) { bytes = b }) (bytes_more s.bytes 0))

-- What is told where pieces are wanting, and where none is.
pub told_waits : (s : Shipment) (number : ℕ) → number < piece_count s.bytes → told (came_of s number) ≡ (gathered.Waits, Some (came_of s number))
told_waits s number wanting =
    ap (λ (b : Bool). cond b (gathered.Whole (batch_of (came_of s number)), None) (gathered.Waits, Some (came_of s number))) (ne_eqb number (piece_count s.bytes) (λ e. omega (arith, wanting, e)))

pub told_whole : (s : Shipment) (number : ℕ) → number ≡ piece_count s.bytes → told (came_of s number) ≡ (gathered.Whole s, None)
told_whole s number all =
    ap (λ (b : Bool). cond b (gathered.Whole (batch_of (came_of s number)), None) (gathered.Waits, Some (came_of s number))) (eq-eqb number (piece_count s.bytes) all)
    ∙ ap (λ (n : ℕ). (gathered.Whole (batch_of (came_of s n)), None)) all
    ∙ ap (λ (b : Shipment). (gathered.Whole b, None)) (came_all s)

-- What is told of the pieces that are left, and what is in parts behind them.
abbrev pub all_told : (left : ℕ) → Shipment → List Gathered
all_told left s = replicate left gathered.Waits ++ gathered.Whole s ∷ []

abbrev IsTold : (parts : Option Parts) → Shipment → (number left : ℕ) → Type 0
IsTold parts s number left =
    (gathered_all parts (pieces_from s number (suc left)) ≡ all_told left s) × (parts_behind parts (pieces_from s number (suc left)) ≡ None)

-- The last piece makes the batch whole.
last_told : (parts : Option Parts) (s : Shipment) (number : ℕ) → gather parts (piece_with s number) ≡ (gathered.Whole s, None) → IsTold parts s number 0
last_told parts s number e = (ap (λ (x : Gathered × Option Parts). x.0 ∷ []) e, ap (λ (x : Gathered × Option Parts). x.1) e)

-- An earlier one waits for those behind it.
waiting_told : (parts : Option Parts) (s : Shipment) (number left : ℕ) → gather parts (piece_with s number) ≡ (gathered.Waits, Some (came_of s (number + 1)))
    → IsTold (Some (came_of s (number + 1))) s (number + 1) left → IsTold parts s number (suc left)
waiting_told parts s number left e rest =
    let more = pieces_from s (number + 1) (suc left) in (
      ap (λ (x : Gathered × Option Parts). x.0 ∷ gathered_all x.1 more) e ∙ ap (λ (l : List Gathered). gathered.Waits ∷ l) rest.0,
      ap (λ (x : Gathered × Option Parts). parts_behind x.1 more) e ∙ rest.1,
    )

rest_told : (s : Shipment) (number left : ℕ) → 1 ≤ number → number + suc left ≡ piece_count s.bytes → IsTold (Some (came_of s number)) s number left
rest_told s number zero some all =
    last_told (Some (came_of s number)) s number (gather_next s number some ∙ told_whole s (number + 1) (omega (arith, all)))
rest_told s number (suc left) some all =
    waiting_told (Some (came_of s number)) s number left (gather_next s number some ∙ told_waits s (number + 1) (omega (arith, all)))
    (rest_told s (number + 1) left (omega arith) (omega (arith, all)))

pieces_told : (parts : Option Parts) (s : Shipment) (left : ℕ) → suc left ≡ piece_count s.bytes → IsTold parts s 0 left
pieces_told parts s zero all = last_told parts s 0 (gather_first parts s ∙ told_whole s 1 all)
pieces_told parts s (suc left) all =
    waiting_told parts s 0 left (gather_first parts s ∙ told_waits s 1 (omega (arith, all))) (rest_told s 1 left (omega arith) (omega (arith, all)))

-- All pieces of a batch that has bytes give it, whatever was in parts before.
pub batch_told : (parts : Option Parts) (s : Shipment) → 1 ≤ length s.bytes
    → (gathered_all parts (pieces_of s) ≡ all_told (piece_count s.bytes - 1) s) × (parts_behind parts (pieces_of s) ≡ None)
batch_told parts s some =
    let left = piece_count s.bytes - 1 in
    let all : suc left ≡ piece_count s.bytes = omega (arith, some) in
    let given = pieces_told parts s left all in (
      ap (λ (n : ℕ). gathered_all parts (pieces_from s 0 n)) (sym all) ∙ given.0,
      ap (λ (n : ℕ). parts_behind parts (pieces_from s 0 n)) (sym all) ∙ given.1,
    )

-- ---- any pieces of a history

-- What is told and what is in parts then are of the history.
abbrev AreOf : (history : Sort → ℕ → List ℕ) → Gathered × Option Parts → Type 0
AreOf history x = TellsOf history x.0 × IsFrontOf history x.1

-- What is told of a batch in parts of a history, and what is in parts then.
told_of : (history : Sort → ℕ → List ℕ) (parts : Parts) → IsFrontOf history (Some parts) → AreOf history (told parts)
told_of history parts front = by (parts.came == parts.count) refl
  where
    bytes : List ℕ
    bytes = history parts.sort parts.serial

    by : (b : Bool) → (parts.came == parts.count) ≡ b → AreOf history (cond b (gathered.Whole (batch_of parts), None) (gathered.Waits, Some parts))
    by true e =
        let all : parts.came ≡ piece_count bytes = eqb-true parts.came parts.count e ∙ front.count in
        let same : parts.bytes ≡ bytes = front.bytes ∙ take_all (parts.came * piece_size) bytes (omega (arith, all)) in
        let some : 1 ≤ length bytes = omega (arith, all, front.some) in
        (record { same = same; some = subst (λ (b : List ℕ). 1 ≤ length b) (sym same) some }, tt)
    by false e = (tt, front)

-- The first piece of a batch of it.
begun_of : (history : Sort → ℕ → List ℕ) (p : BatchPiece) → IsPieceOf history p → p.number ≡ 0 → IsFrontOf history (Some (begun p))
begun_of history p one first = record {
  some = omega arith;
  count = ap (λ (q : BatchPiece). q.count) one.same;
  bytes = ap (λ (q : BatchPiece). q.body) one.same ∙ ap (λ (n : ℕ). piece_at n (history p.sort p.serial)) first;
}

-- A piece that goes on with a batch of it.
more_of : (history : Sort → ℕ → List ℕ) (parts : Parts) (p : BatchPiece) → IsFrontOf history (Some parts) → IsPieceOf history p → goes_on parts p ≡ true
    → IsFrontOf history (Some (with_piece parts p))
more_of history parts p front one on =
    let sort_and = and_parts (same_sort parts.sort p.sort) (parts.serial == p.serial && (parts.count == p.count && parts.came == p.number)) on in
    let serial_and = and_parts (parts.serial == p.serial) (parts.count == p.count && parts.came == p.number) sort_and.1 in
    let count_and = and_parts (parts.count == p.count) (parts.came == p.number) serial_and.1 in
    let sort : parts.sort ≡ p.sort = sort_equal parts.sort p.sort sort_and.0 in
    let serial : parts.serial ≡ p.serial = eqb-true parts.serial p.serial serial_and.0 in
    let number : parts.came ≡ p.number = eqb-true parts.came p.number count_and.1 in
    let body : p.body ≡ piece_at p.number (history p.sort p.serial) = ap (λ (q : BatchPiece). q.body) one.same in
    let here : p.body ≡ piece_at parts.came (history parts.sort parts.serial) =
    body ∙ ap (λ (n : ℕ). piece_at n (history p.sort p.serial)) (sym number) ∙ ap (λ (k : Sort). piece_at parts.came (history k p.serial)) (sym sort)
    ∙ ap (λ (n : ℕ). piece_at parts.came (history parts.sort n)) (sym serial) in
    record {
      some = omega arith;
      count = front.count;
      bytes = ap (λ (b : List ℕ). b ++ p.body) front.bytes ∙ ap (λ (b : List ℕ). take (parts.came * piece_size) (history parts.sort parts.serial) ++ b) here
          ∙ bytes_more (history parts.sort parts.serial) parts.came;
    }

-- What a piece that is not the first one of its batch makes of a batch in parts.
gathered_more_of : (history : Sort → ℕ → List ℕ) (parts : Option Parts) (p : BatchPiece) → IsFrontOf history parts → IsPieceOf history p → AreOf history (gather_more parts p)
gathered_more_of history None p front one = (tt, tt)
gathered_more_of history (Some parts) p front one = by (goes_on parts p) refl
  where
    by : (b : Bool) → goes_on parts p ≡ b → AreOf history (cond b (told (with_piece parts p)) (gathered.Skipped, Some parts))
    by true e = told_of history (with_piece parts p) (more_of history parts p front one e)
    by false e = (tt, front)

-- What any piece of it makes.
pub gathered_of : (history : Sort → ℕ → List ℕ) (parts : Option Parts) (p : BatchPiece) → IsFrontOf history parts → IsPieceOf history p
    → TellsOf history (gather parts p).0 × IsFrontOf history (gather parts p).1
gathered_of history parts p front one = by (p.number == 0) refl
  where
    by : (b : Bool) → (p.number == 0) ≡ b → AreOf history (cond b (told (begun p)) (gather_more parts p))
    by true e = told_of history (begun p) (begun_of history p one (eqb-true p.number 0 e))
    by false e = gathered_more_of history parts p front one

-- What any pieces of it make.
pub gathered_all_of : (history : Sort → ℕ → List ℕ) (parts : Option Parts) (pieces : List BatchPiece) → IsFrontOf history parts → AllByRecursion (IsPieceOf history) pieces
    → AllByRecursion (TellsOf history) (gathered_all parts pieces) × IsFrontOf history (parts_behind parts pieces)
gathered_all_of history parts [] front are = (tt, front)
gathered_all_of history parts (p ∷ pieces) front are =
    let one = gathered_of history parts p front are.0 in
    let rest = gathered_all_of history (gather parts p).1 pieces one.1 are.1 in
    ((one.0, rest.0), rest.1)

-- ---- how much is held

-- What is in parts then is held.
abbrev AreHeld : Gathered × Option Parts → Type 0
AreHeld x = IsHeldOf x.1

-- No more is held of a batch once it has a piece more.
told_held : (parts : Parts) → IsHeld parts → AreHeld (told parts)
told_held parts held = by (parts.came == parts.count)
  where
    by : (b : Bool) → AreHeld (cond b (gathered.Whole (batch_of parts), None) (gathered.Waits, Some parts))
    by true = tt
    by false = held

-- A piece that can be one of a batch is one of so many, and gives no more bytes than a piece may have.
sized_most : (number count len : ℕ) → is_sized number count len ≡ true → len ≤ piece_size
sized_most number count len sized = by (number + 1 == count) sized
  where
    by : (b : Bool) → cond b (nat_le 1 len && nat_le len piece_size) (len == piece_size) ≡ true → len ≤ piece_size
    by true e = leb-true len piece_size (and_parts (nat_le 1 len) (nat_le len piece_size) e).1
    by false e = let same = eqb-true len piece_size e in omega (arith, same)

pub piece_parts : (p : BatchPiece) → is_piece p ≡ true → (p.number < p.count) × (p.count ≤ most_pieces) × (length p.body ≤ piece_size)
piece_parts p is =
    let first = and_parts (nat_lt p.number p.count) (nat_le p.count most_pieces && is_sized p.number p.count (length p.body)) is in
    let second = and_parts (nat_le p.count most_pieces) (is_sized p.number p.count (length p.body)) first.1 in
    (ltb-true p.number p.count first.0, leb-true p.count most_pieces second.0, sized_most p.number p.count (length p.body) second.1)

begun_held : (p : BatchPiece) → is_piece p ≡ true → IsHeld (begun p)
begun_held p is =
    let parts = piece_parts p is in
    record { came = omega (arith, parts.0); count = parts.1; bytes = omega (arith, parts.2) }

more_held : (parts : Parts) (p : BatchPiece) → IsHeld parts → is_piece p ≡ true → goes_on parts p ≡ true → IsHeld (with_piece parts p)
more_held parts p held is on =
    let sort_and = and_parts (same_sort parts.sort p.sort) (parts.serial == p.serial && (parts.count == p.count && parts.came == p.number)) on in
    let serial_and = and_parts (parts.serial == p.serial) (parts.count == p.count && parts.came == p.number) sort_and.1 in
    let count_and = and_parts (parts.count == p.count) (parts.came == p.number) serial_and.1 in
    let count : parts.count ≡ p.count = eqb-true parts.count p.count count_and.0 in
    let number : parts.came ≡ p.number = eqb-true parts.came p.number count_and.1 in
    let of_piece = piece_parts p is in
    let long = length-append parts.bytes p.body in
    record {
      came = omega (arith, of_piece.0, count, number);
      count = held.count;
      bytes = omega (arith, held.bytes, of_piece.2, long);
    }

gathered_more_held : (parts : Option Parts) (p : BatchPiece) → IsHeldOf parts → is_piece p ≡ true → AreHeld (gather_more parts p)
gathered_more_held None p held is = tt
gathered_more_held (Some parts) p held is = by (goes_on parts p) refl
  where
    by : (b : Bool) → goes_on parts p ≡ b → AreHeld (cond b (told (with_piece parts p)) (gathered.Skipped, Some parts))
    by true e = told_held (with_piece parts p) (more_held parts p held is e)
    by false e = held

pub gathered_held : (parts : Option Parts) (p : BatchPiece) → IsHeldOf parts → is_piece p ≡ true → AreHeld (gather parts p)
gathered_held parts p held is = by (p.number == 0)
  where
    by : (b : Bool) → AreHeld (cond b (told (begun p)) (gather_more parts p))
    by true = told_held (begun p) (begun_held p is)
    by false = gathered_more_held parts p held is

-- Behind any pieces.
pub all_held : (parts : Option Parts) (pieces : List BatchPiece) → IsHeldOf parts → AllByRecursion (λ (p : BatchPiece). is_piece p ≡ true) pieces → IsHeldOf (parts_behind parts pieces)
all_held parts [] held are = held
all_held parts (p ∷ pieces) held are = all_held (gather parts p).1 pieces (gathered_held parts p held are.0) are.1

pub held_len : (parts : Option Parts) → IsHeldOf parts → bytes_held parts ≤ 1073741824
held_len None held = omega arith
held_len (Some parts) held = omega (arith, held.bytes, held.came, held.count)
