-- What the calls on rows of bits and on columns of numbers mean. A row is a list of words of 64 bits, and a column a list of numbers of 64 bits.
use Rattle.std.specs.Prelude.{◌≡◌, ℕ, ◌+◌, ◌*◌, ◌/◌, ◌%◌, ◌<◌, ◌≤◌, min, Bool, List, length, slice_index, slice_range, MatchBool}
use Rattle.std.specs.Int.{bit_at}

-- The bit of a row at a place, 1 where it is set and else 0. The first word has the bits 0 to 63, the next one those from 64 on, and
-- no bit is set behind the last word.
abbrev pub bit_of : List ℕ → ℕ → ℕ
bit_of row n = bit_at (slice_index row (n / 64)) (n % 64)

-- Each bit that is set in `want` is set in `have`.
abbrev pub AllIn : List ℕ → List ℕ → Type 0
AllIn have want = (n : ℕ) → bit_of want n ≡ 1 → bit_of have n ≡ 1

-- Some bit is set in both.
abbrev pub AnyIn : List ℕ → List ℕ → Type 0
AnyIn have want = (n : ℕ) × (bit_of have n ≡ 1) × (bit_of want n ≡ 1)

-- A row has each bit of `want`, or some bit of it.
abbrev pub Meets : Bool → List ℕ → List ℕ → Type 0
Meets all row want = MatchBool all (AllIn row want) (AnyIn row want)

-- The row at a place, of rows of one width behind each other.
abbrev pub bit_row : List ℕ → ℕ → ℕ → List ℕ
bit_row rows width place = slice_range rows (place * width) (place * width + width)

-- The greatest number of 64 bits, which stands for what is absent.
abbrev pub absent : ℕ
absent = 18446744073709551615

-- Two numbers together; a sum that reaches the greatest number counts as absent.
abbrev pub together : ℕ → ℕ → ℕ
together cost right = min (cost + right) absent

-- At each place of the columns the left number is at most the other two together.
abbrev pub Sweeps : List ℕ → List ℕ → List ℕ → Type 0
Sweeps left cost right =
    (n : ℕ) → n < length left → slice_index left n ≤ together (slice_index cost n) (slice_index right n)
