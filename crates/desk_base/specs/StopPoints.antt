-- A stop of a desk over memory at one moment: the pairs that it may leave, and how much of what is pending it keeps
-- (docs/PROMISES.md, "The desks").
use Rattle.std.specs.Prelude.{◌≡◌, ℕ, zero, suc, ◌+◌, Bool, true, false, if◌then◌else◌, List, [], ◌∷◌, ◌++◌, length, take, drop}
use Rattle.std.specs.List.{list_any}
use Rattle.ziti_outside.specs.declared.desk.Part.{Part}
use Rattle.ziti_outside.specs.declared.desk.Part.TheVariants.{Zero, One, Mark}
use Rattle.ziti_outside.specs.Images.{Image, Torn, CutShort, OnPart}
use Rattle.desk_base.specs.declared.mem_log.Call.{Call}
use Rattle.desk_base.specs.declared.mem_log.Call.TheVariants.{Said, Wrote, Cut, Synced}
use Rattle.desk_base.specs.MemEvents.{Event, Saying, Writing, Cutting, Syncing, with_part, reads_by, said_by, may_by, reads_after, said_after, Within, Leaving}

-- The pairs of an image and the replies that a stop at one moment may leave: behind so many calls, or within the next one.
abbrev pub PairsAt : Image → (Image → Type 0) → List ℕ → List Event → ℕ → Image → List ℕ → Type 0
PairsAt reads may said [] zero image taken = may image × (taken ≡ said)
PairsAt reads may said [] (suc time) image taken = ⊥
PairsAt reads may said (event ∷ events) zero image taken = may image × Within event said taken
PairsAt reads may said (event ∷ events) (suc time) image taken =
    PairsAt (reads_by event reads) (may_by event reads may) (said_by event said) events time image taken

-- The call at the head of a log, with its bytes.
abbrev pub event_of : Call → List ℕ → List ℕ → Event
event_of (Said count) said written = Saying (take count said)
event_of (Wrote part at count done) said written = Writing part at (take count written) done
event_of (Cut part len done) said written = Cutting part len done
event_of (Synced part) said written = Syncing part

-- The bytes that were said behind the call at the head of a log.
abbrev pub said_past : Call → List ℕ → List ℕ
said_past (Said count) said = drop count said
said_past (Wrote part at count done) said = said
said_past (Cut part len done) said = said
said_past (Synced part) said = said

-- The bytes that were written behind it.
abbrev pub written_past : Call → List ℕ → List ℕ
written_past (Said count) written = written
written_past (Wrote part at count done) written = drop count written
written_past (Cut part len done) written = written
written_past (Synced part) written = written

-- What a stop keeps of a call that was made before it: of a write or a cut any part, and of a synced part what it read then.
abbrev pub KeepsOf : Event → Image → Image → Image → Type 0
KeepsOf (Saying bytes) reads old new = new ≡ old
KeepsOf (Writing part at bytes done) reads old new = OnPart part (Torn at (length bytes)) old new
KeepsOf (Cutting part len done) reads old new = OnPart part (CutShort len) old new
KeepsOf (Syncing part) reads old new = new ≡ with_part part (reads part) old

-- A stop that was found behind some of the calls of a log: an image that it may leave, what the parts read, and what was said; the
-- other calls are still to come.
pub record Reached (first : Image) (events rest : List Event) (count : ℕ) (reads image : Image) (said : List ℕ) : Type 0 where
  pub done : List Event
  pub split : done ++ rest ≡ events
  pub far : length done ≡ count
  pub reading : reads ≡ reads_after first done
  pub taken : said ≡ said_after [] done
  pub found : Leaving first done image

-- Whether two parts are the same one.
abbrev pub is_part : Part → Part → Bool
is_part Zero Zero = true
is_part Zero One = false
is_part Zero Mark = false
is_part One Zero = false
is_part One One = true
is_part One Mark = false
is_part Mark Zero = false
is_part Mark One = false
is_part Mark Mark = true

-- Whether a call syncs a part.
abbrev pub syncs : Part → Event → Bool
syncs part (Saying bytes) = false
syncs part (Writing written at bytes done) = false
syncs part (Cutting cut len done) = false
syncs part (Syncing synced) = is_part part synced

-- The calls up to the last sync of a part, that one among them; none where it was not synced.
abbrev pub up_to_sync : Part → List Event → List Event
up_to_sync part [] = []
up_to_sync part (event ∷ events) = if list_any (syncs part) (event ∷ events) then event ∷ up_to_sync part events else []

-- A call as if it had not failed.
abbrev pub as_done : Event → Event
as_done (Saying bytes) = Saying bytes
as_done (Writing part at bytes done) = Writing part at bytes true
as_done (Cutting part len done) = Cutting part len true
as_done (Syncing part) = Syncing part

-- The calls as if none of those behind the last sync of a part had failed.
abbrev pub done_from_sync : Part → List Event → List Event
done_from_sync part [] = []
done_from_sync part (event ∷ events) = (if list_any (syncs part) (event ∷ events) then event else as_done event) ∷ done_from_sync part events

-- The parts where nothing that is pending is kept: each has what it read at its last sync, or at first.
abbrev pub synced_parts : Image → List Event → Image
synced_parts first events part = reads_after first (up_to_sync part events) part

-- The parts where all that is pending is kept: each has what it would read if no write and no cut since its last sync had failed.
abbrev pub whole_parts : Image → List Event → Image
whole_parts first events part = reads_after first (done_from_sync part events) part

-- A stop at a moment of a desk that had this image at first, and of which these calls were made, kept nothing that was pending, and
-- nothing of a say that it fell in.
pub record KeepsNothing (first : Image) (events : List Event) (moment : ℕ) (image : Image) (taken : List ℕ) : Type 0 where
  pub parts : (part : Part) → image part ≡ synced_parts first (take moment events) part
  pub said : taken ≡ said_after [] (take moment events)

-- It kept all that was pending, and all of a say that it fell in.
pub record KeepsAll (first : Image) (events : List Event) (moment : ℕ) (image : Image) (taken : List ℕ) : Type 0 where
  pub parts : (part : Part) → image part ≡ whole_parts first (take moment events) part
  pub said : taken ≡ said_after [] (take (moment + 1) events)

-- Calls of the worked choices: `7 8` written at the second place of the first slot, `5 6` said, the slot synced, a write of `9` at its
-- start that failed, and `4` said.
abbrev pub worked_calls : List Event
worked_calls = Writing Zero 1 (7 ∷ 8 ∷ []) true ∷ Saying (5 ∷ 6 ∷ []) ∷ Syncing Zero ∷ Writing Zero 0 (9 ∷ []) false ∷ Saying (4 ∷ []) ∷ []
