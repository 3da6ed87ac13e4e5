-- The calls that a desk over memory logged: what the parts read behind them, and what a stop at each moment of them may leave
-- (docs/PROMISES.md, "The desks").
use Rattle.std.specs.Prelude.{◌≡◌, ◌⊎◌, ℕ, zero, suc, ◌+◌, ◌-◌, Bool, true, false, not, ◌||◌, is_err, List, [], ◌∷◌, ◌++◌, length, take, drop}
use Rattle.std.specs.declared.result.Result.{Result}
use Rattle.ziti_outside.specs.declared.desk.Part.{Part}
use Rattle.ziti_outside.specs.declared.desk.Part.TheVariants.{Zero, One, Mark}
use Rattle.ziti_outside.specs.Images.{Image, Torn, CutShort, OnPart, After}
use Rattle.ziti_outside.specs.Told.{IsFront}
use Rattle.ziti_outside.specs.Views.{Stopped}
use Rattle.desk_base.specs.declared.mem_log.Call.{Call}
use Rattle.desk_base.specs.declared.mem_log.Call.TheVariants.{Said, Wrote, Cut, Synced}
use Rattle.desk_base.specs.declared.mem_log.Log.{Log}
use Rattle.desk_base.specs.declared.mem_parts.Images.{Images}

-- A call with its bytes: replies that were said, bytes written at a place, a cut to a length, a sync. A write and a cut were done,
-- or they failed and are pending.
pub data Event : Type 0 where
  Saying : List ℕ → Event
  Writing : Part → ℕ → List ℕ → Bool → Event
  Cutting : Part → ℕ → Bool → Event
  Syncing : Part → Event

-- The calls of a log, with the bytes that were said and those that were written, both one after the other.
abbrev pub events : List Call → List ℕ → List ℕ → List Event
events [] said written = []
events (Said count ∷ calls) said written = Saying (take count said) ∷ events calls (drop count said) written
events (Wrote part at count done ∷ calls) said written = Writing part at (take count written) done ∷ events calls said (drop count written)
events (Cut part len done ∷ calls) said written = Cutting part len done ∷ events calls said written
events (Synced part ∷ calls) said written = Syncing part ∷ events calls said written

-- How many bytes the calls of a log said.
abbrev pub said_count : List Call → ℕ
said_count [] = 0
said_count (Said count ∷ calls) = count + said_count calls
said_count (Wrote part at count done ∷ calls) = said_count calls
said_count (Cut part len done ∷ calls) = said_count calls
said_count (Synced part ∷ calls) = said_count calls

-- The same of the bytes that they wrote.
abbrev pub written_count : List Call → ℕ
written_count [] = 0
written_count (Said count ∷ calls) = written_count calls
written_count (Wrote part at count done ∷ calls) = count + written_count calls
written_count (Cut part len done ∷ calls) = written_count calls
written_count (Synced part ∷ calls) = written_count calls

-- The three parts as an image.
abbrev pub at_parts : List ℕ → List ℕ → List ℕ → Image
at_parts first second mark Zero = first
at_parts first second mark One = second
at_parts first second mark Mark = mark

-- The parts that a desk over memory holds, as an image.
abbrev pub image_of : Images → Image
image_of images = at_parts images.zero.items images.one.items images.mark.items

-- An image with other bytes in one part.
abbrev pub with_part : Part → List ℕ → Image → Image
with_part Zero bytes image = at_parts bytes (image One) (image Mark)
with_part One bytes image = at_parts (image Zero) bytes (image Mark)
with_part Mark bytes image = at_parts (image Zero) (image One) bytes

-- Old bytes with these at this place, written over what is there and past the end.
abbrev pub written_over : ℕ → List ℕ → List ℕ → List ℕ
written_over at bytes old = take at old ++ (bytes ++ drop (at + length bytes) old)

-- What the parts read behind a call.
abbrev pub reads_by : Event → Image → Image
reads_by (Saying bytes) reads = reads
reads_by (Writing part at bytes true) reads = with_part part (written_over at bytes (reads part)) reads
reads_by (Writing part at bytes false) reads = reads
reads_by (Cutting part len true) reads = with_part part (take len (reads part)) reads
reads_by (Cutting part len false) reads = reads
reads_by (Syncing part) reads = reads

-- The replies behind a call.
abbrev pub said_by : Event → List ℕ → List ℕ
said_by (Saying bytes) said = said ++ bytes
said_by (Writing part at bytes done) said = said
said_by (Cutting part len done) said = said
said_by (Syncing part) said = said

-- The images that a stop behind a call may leave. A write and a cut, done or failed, are pending: the part of any earlier image
-- may have been written or cut in part. A sync leaves those that have in the part what it reads.
abbrev pub may_by : Event → Image → (Image → Type 0) → Image → Type 0
may_by (Saying bytes) reads may image = may image
may_by (Writing part at bytes done) reads may image = After (OnPart part (Torn at (length bytes))) may image
may_by (Cutting part len done) reads may image = After (OnPart part (CutShort len)) may image
may_by (Syncing part) reads may image = may image × (image part ≡ reads part)

-- What the parts read behind some calls.
abbrev pub reads_after : Image → List Event → Image
reads_after reads [] = reads
reads_after reads (event ∷ events) = reads_after (reads_by event reads) events

-- What was said behind some calls.
abbrev pub said_after : List ℕ → List Event → List ℕ
said_after said [] = said
said_after said (event ∷ events) = said_after (said_by event said) events

-- The images that a stop may leave behind some calls.
abbrev pub MayAfter : Image → (Image → Type 0) → List Event → Image → Type 0
MayAfter reads may [] image = may image
MayAfter reads may (event ∷ events) image = MayAfter (reads_by event reads) (may_by event reads may) events image

-- The replies that a stop within a call finds: within a say a front of its bytes beside those before it.
abbrev pub Within : Event → List ℕ → List ℕ → Type 0
Within (Saying bytes) said taken = (front : List ℕ) × IsFront front bytes × (taken ≡ said ++ front)
Within (Writing part at bytes done) said taken = taken ≡ said
Within (Cutting part len done) said taken = taken ≡ said
Within (Syncing part) said taken = taken ≡ said

-- The pairs of an image and the replies that a stop may leave at some moment from the given number of calls on.
abbrev pub Pairs : Image → (Image → Type 0) → List ℕ → List Event → ℕ → Image → List ℕ → Type 0
Pairs reads may said [] time image taken = may image × (taken ≡ said)
Pairs reads may said (event ∷ events) zero image taken =
    (may image × Within event said taken) ⊎ Pairs (reads_by event reads) (may_by event reads may) (said_by event said) events zero image taken
Pairs reads may said (event ∷ events) (suc time) image taken =
    Pairs (reads_by event reads) (may_by event reads may) (said_by event said) events time image taken

-- The images that a stop may leave of a desk that had this image at first.
abbrev pub Leaving : Image → List Event → Image → Type 0
Leaving first events image = MayAfter first (λ i. i ≡ first) events image

-- The pairs of such a desk, of which nothing had been said at first.
abbrev pub Since : Image → List Event → ℕ → Image → List ℕ → Type 0
Since first events time image taken = Pairs first (λ i. i ≡ first) [] events time image taken

-- What a stop may leave of such a desk behind these calls.
abbrev pub stopped_by : Image → List Event → Stopped
stopped_by first events = record { moment = length events; images = λ image. Leaving first events image; since = λ time image taken. Since first events time image taken }

-- The log of a desk tells how its parts came from those that it had first, and all that was said; it has each byte that was said
-- or written.
pub record Replayed (first held : Image) (calls : List Call) (said written : List ℕ) : Type 0 where
  pub reads : held ≡ reads_after first (events calls said written)
  pub taken : said ≡ said_after [] (events calls said written)
  pub said_all : said_count calls ≡ length said
  pub written_all : written_count calls ≡ length written

-- A log got one call more, which wrote these bytes.
pub record LogsCall (call : Call) (text : List ℕ) (old new : Log) : Type 0 where
  pub calls : new.calls.items ≡ old.calls.items ++ call ∷ []
  pub written : new.written.items ≡ old.written.items ++ text

-- A call was done: it was logged, and the parts read as behind it.
pub record IsDone (event : Event) (call : Call) (text : List ℕ) (held held_now : Images) (log log_now : Log) : Type 0 where
  pub logged : LogsCall call text log log_now
  pub reads : image_of held_now ≡ reads_by event (image_of held)

-- A call failed: the parts read as before, and it was logged as pending, or not at all.
pub record IsPending (call : Call) (text : List ℕ) (held held_now : Images) (log log_now : Log) : Type 0 where
  pub logged : (log_now ≡ log) ⊎ LogsCall call text log log_now
  pub reads : image_of held_now ≡ image_of held

-- A write or a cut: it failed where it was to fail or there was no room; there it was not logged; else it was, as done or as pending, and
-- the log has room for 32 bytes and those of the call less.
pub record Pends {T E : Type 0} (fails over : Bool) (call : Bool → Call) (text : List ℕ) (log log_now : Log) (result : Result T E) : Type 0 where
  pub failed : is_err result ≡ (fails || over)
  pub unlogged : over ≡ true → log_now ≡ log
  pub logged : over ≡ false → LogsCall (call (not fails)) text log log_now
  pub room : over ≡ false → log_now.room ≡ log.room - (32 + length text)

-- The calls of a log of a desk that said these bytes.
abbrev pub logged : Log → List ℕ → List Event
logged log said = events log.calls.items said log.written.items
