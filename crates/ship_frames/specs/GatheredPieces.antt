-- The batch that is gathered of pieces as they come, whatever is lost, repeated or reordered on the way (docs/FORMATS.md, "Ship frames").
use Rattle.std.specs.Prelude.{◌≡◌, ⊤, ℕ, ◌+◌, ◌*◌, ◌<◌, ◌≤◌, ◌==◌, ◌&&◌, Bool, true, false, cond, List, [], ◌∷◌, ◌++◌, length, take, None, Some}
use Rattle.std.specs.declared.option.Option.{Option}
use Rattle.std.specs.List.{AllByRecursion}
use Rattle.ship_frames.specs.declared.gathering.Gathered.{Gathered}
use Rattle.ship_frames.specs.declared.gathering.Gathered.TheVariants as gathered
use Rattle.ship_frames.specs.declared.shipments.Shipment.{Shipment}
use Rattle.ship_frames.specs.declared.shipments.Sort.{Sort}
use Rattle.ship_frames.specs.declared.shipments.Sort.TheVariants.{Whole, Next}
use Rattle.ship_frames.specs.Pieces.{piece_size, piece_count, piece_at}
use Rattle.ship_frames.specs.PieceReading.{BatchPiece, most_pieces, piece_with}

-- A batch of which some pieces came: of which sort and of which serial it is, how many pieces it has, how many of them came, and the bytes of
-- these, one behind another.
pub record Parts : Type 0 where
  pub sort : Sort
  pub serial : ℕ
  pub count : ℕ
  pub came : ℕ
  pub bytes : List ℕ

-- Whether two batches are of one sort.
abbrev pub same_sort : Sort → Sort → Bool
same_sort Whole Whole = true
same_sort Next Next = true
same_sort _ _ = false

-- A batch of which the first piece came.
abbrev pub begun : BatchPiece → Parts
begun p = record { sort = p.sort; serial = p.serial; count = p.count; came = 1; bytes = p.body }

-- Whether a piece goes on with a batch: it is of the same sort, serial and count, and its number is that of the piece that comes next.
abbrev pub goes_on : Parts → BatchPiece → Bool
goes_on parts p = same_sort parts.sort p.sort && (parts.serial == p.serial && (parts.count == p.count && parts.came == p.number))

-- A batch with a piece more.
abbrev pub with_piece : Parts → BatchPiece → Parts
with_piece parts p = record parts { came = parts.came + 1; bytes = parts.bytes ++ p.body }

-- The batch whose pieces all came.
abbrev pub batch_of : Parts → Shipment
batch_of parts = record { sort = parts.sort; serial = parts.serial; bytes = parts.bytes }

-- What is told of a batch of which a piece came, and what is in parts then: once all its pieces came it is the batch, and nothing is in parts any
-- more.
abbrev pub told : Parts → Gathered × Option Parts
told parts = cond (parts.came == parts.count) (gathered.Whole (batch_of parts), None) (gathered.Waits, Some parts)

-- A piece that is not the first of its batch: it is added to the batch in parts where it goes on with it, and else it is passed over.
abbrev pub gather_more : Option Parts → BatchPiece → Gathered × Option Parts
gather_more None p = (gathered.Skipped, None)
gather_more (Some parts) p = cond (goes_on parts p) (told (with_piece parts p)) (gathered.Skipped, Some parts)

-- What a piece makes of the batch in parts: the piece of number 0 puts it away and begins another one.
abbrev pub gather : Option Parts → BatchPiece → Gathered × Option Parts
gather parts p = cond (p.number == 0) (told (begun p)) (gather_more parts p)

-- What is in parts behind some pieces.
abbrev pub parts_behind : Option Parts → List BatchPiece → Option Parts
parts_behind parts [] = parts
parts_behind parts (p ∷ more) = parts_behind (gather parts p).1 more

-- What is told of each of some pieces.
abbrev pub gathered_all : Option Parts → List BatchPiece → List Gathered
gathered_all parts [] = []
gathered_all parts (p ∷ more) = (gather parts p).0 ∷ gathered_all (gather parts p).1 more

-- ---- what is kept of a batch in parts

-- Of a batch in parts no more pieces came than it has, which are no more than a batch may have, and each gave no more bytes than a piece may have.
pub record IsHeld (parts : Parts) : Type 0 where
  pub came : parts.came ≤ parts.count
  pub count : parts.count ≤ most_pieces
  pub bytes : length parts.bytes ≤ parts.came * piece_size

-- What is in parts is such a batch, or nothing.
abbrev pub IsHeldOf : Option Parts → Type 0
IsHeldOf None = ⊤
IsHeldOf (Some parts) = IsHeld parts

-- How many bytes are held in parts.
abbrev pub bytes_held : Option Parts → ℕ
bytes_held None = 0
bytes_held (Some parts) = length parts.bytes

-- ---- batches of one history

-- A history gives each sort and serial one batch, by its bytes; where it has none there are no bytes. A piece is one of its batches.
pub record IsPieceOf (history : Sort → ℕ → List ℕ) (p : BatchPiece) : Type 0 where
  pub within : p.number < piece_count (history p.sort p.serial)
  pub same : p ≡ piece_with (record { sort = p.sort; serial = p.serial; bytes = history p.sort p.serial }) p.number

-- A batch is one of the history, and has bytes.
pub record IsBatchOf (history : Sort → ℕ → List ℕ) (s : Shipment) : Type 0 where
  pub same : s.bytes ≡ history s.sort s.serial
  pub some : 1 ≤ length s.bytes

-- What is told of a piece is no whole batch but one of the history.
abbrev pub TellsOf : (history : Sort → ℕ → List ℕ) → Gathered → Type 0
TellsOf history (gathered.Whole s) = IsBatchOf history s
TellsOf history _ = ⊤

-- The batch in parts is one of the history: some of its pieces came, it has as many as that has, and those that came are a front of its bytes.
pub record IsFront (history : Sort → ℕ → List ℕ) (parts : Parts) : Type 0 where
  pub some : 1 ≤ parts.came
  pub count : parts.count ≡ piece_count (history parts.sort parts.serial)
  pub bytes : parts.bytes ≡ take (parts.came * piece_size) (history parts.sort parts.serial)

-- What is in parts is one of the history, or nothing.
abbrev pub IsFrontOf : (history : Sort → ℕ → List ℕ) → Option Parts → Type 0
IsFrontOf history None = ⊤
IsFrontOf history (Some parts) = IsFront history parts
