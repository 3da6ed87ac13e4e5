-- Values of the worked examples of replays in memory.
use Rattle.std.specs.Prelude.{◌≡◌, ℕ, List, [], Some}
use Rattle.ziti_outside.specs.Images.{Image}
use Rattle.ziti_outside.specs.Views.{Seen, Stopped}
use Rattle.ziti_desk.specs.MemEvents.{at_parts}

-- A folder without a byte.
abbrev pub no_parts : Image
no_parts = at_parts [] [] []

-- A desk over it that said and noted this, with so many failed notes.
abbrev pub seen_with : (said noted : List ℕ) (failed : ℕ) → Seen
seen_with said noted failed = record { said = Some said; noted = Some noted; say_faults = 0; note_faults = failed; disk_faults = 0; reads = no_parts }

-- A desk at its first moment, whose stops find such a folder and these replies.
abbrev pub stopped_with : List ℕ → Stopped
stopped_with taken = record { moment = 0; images = λ image. image ≡ no_parts; since = λ time image found. (image ≡ no_parts) × (found ≡ taken) }
