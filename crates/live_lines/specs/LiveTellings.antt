-- What a telling of an input as it comes did (docs/PROMISES.md, "Lines as they come").
use Rattle.std.specs.Prelude.{◌≡◌, ℕ, List, ◌++◌, Ok, Err}
use Rattle.std.specs.declared.option.Option.{Option}
use Rattle.std.specs.declared.result.Result.{Result}
use Rattle.std.specs.Io.KnownBytes.{IsAtEnd}
use Rattle.ziti_outside.specs.Told.{Gave, Took, TookFront, IsFront}
use Rattle.ziti_outside.specs.Causes.{Rose}
use Rattle.frame_lines.specs.declared.told.DecodeFault.{DecodeFault}
use Rattle.frame_lines.specs.declared.decoding.LineTelling.{LineTelling}
use Rattle.frame_lines.specs.LineKinds.{Reading}
use Rattle.frame_lines.specs.TextTelling.{text_of, fault_of}
use Rattle.frame_lines.specs.TellingSoFar.{Follows}
use Rattle.live_lines.specs.declared.watching.Cut.{Cut}
use Rattle.live_lines.specs.declared.watching.Cut.TheVariants.{NoMemory, Unread, Unsaid}

-- The input was read to its end, exactly its lines were said, and this is its fault.
pub record TellsAll (k : Reading) (left left_now said said_now : Option (List ℕ)) (fault : Option DecodeFault) : Type 0 where
  pub input : List ℕ
  pub gave : Gave left left_now input
  pub end : IsAtEnd left_now
  pub lines : Took said said_now (text_of k input)
  pub is_fault : fault ≡ fault_of k input

-- What was said of the bytes that came, where the telling was cut short: their lines where a take failed; a front of these where a say failed;
-- and the lines of a front of these bytes where memory was wanting.
abbrev pub SaysSome : Cut → Reading → List ℕ → (said said_now : Option (List ℕ)) → Type 0
SaysSome NoMemory k came said said_now = (front : List ℕ) × IsFront front came × Took said said_now (text_of k front)
SaysSome Unread k came said said_now = Took said said_now (text_of k came)
SaysSome Unsaid k came said said_now = TookFront said said_now (text_of k came)

-- The telling was cut short behind some bytes of the input.
pub record TellsSome (cut : Cut) (k : Reading) (left left_now said said_now : Option (List ℕ)) : Type 0 where
  pub came : List ℕ
  pub gave : Gave left left_now came
  pub says : SaysSome cut k came said said_now

-- The count of failed takes rose where a take failed, and stayed where none did.
abbrev pub FailsToTake : {T : Type 0} → ℕ → ℕ → Result T Cut → Type 0
FailsToTake before now (Ok _) = now ≡ before
FailsToTake before now (Err NoMemory) = now ≡ before
FailsToTake before now (Err Unread) = Rose before now
FailsToTake before now (Err Unsaid) = now ≡ before

-- The count of failed says rose where a say failed, and stayed where none did.
abbrev pub FailsToSay : {T : Type 0} → ℕ → ℕ → Result T Cut → Type 0
FailsToSay before now (Ok _) = now ≡ before
FailsToSay before now (Err NoMemory) = now ≡ before
FailsToSay before now (Err Unread) = now ≡ before
FailsToSay before now (Err Unsaid) = Rose before now

-- ---- a piece. Only private contracts cite these.

-- A piece came behind these bytes, and the lines that it completes were said.
pub record TellsPiece {K : Type 0} (k : Reading) (came piece : List ℕ) (telling : LineTelling K) (said said_now : Option (List ℕ)) : Type 0 where
  pub follows : Follows k (came ++ piece) telling
  pub lines : List ℕ
  pub complete : text_of k (came ++ piece) ≡ text_of k came ++ lines
  pub took : Took said said_now lines

-- What was said where a piece could not be told: nothing where memory was wanting, and a front of its lines where the say failed.
abbrev pub CutsPiece : Cut → Reading → (came piece : List ℕ) → (said said_now : Option (List ℕ)) → Type 0
CutsPiece NoMemory k came piece said said_now = said_now ≡ said
CutsPiece Unread k came piece said said_now = ⊥
CutsPiece Unsaid k came piece said said_now = (lines : List ℕ) × (text_of k (came ++ piece) ≡ text_of k came ++ lines) × TookFront said said_now lines
