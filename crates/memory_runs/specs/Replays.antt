-- What a replay over a folder in memory gives back, as the desk of one is seen (docs/PROMISES.md, "The headline without 'where told'").
use Rattle.std.specs.Prelude.{◌≡◌, Some}
use Rattle.ziti_outside.specs.Views.{Seen}
use Rattle.ziti_desk.specs.MemEvents.{image_of}
use Rattle.memory_runs.specs.declared.replays.Replayed.{Replayed}

-- Its reply bytes, its notes and its folder, and no fault.
abbrev pub seen_of : Replayed → Seen
seen_of r = record { said = Some r.said.items; noted = Some r.noted.items; say_faults = 0; note_faults = 0; disk_faults = 0; reads = image_of r.folder }

-- Two desks said the same, noted the same, read the same, and no note of theirs failed. Only private contracts cite it.
pub record IsAsSeen (seen other : Seen) : Type 0 where
  pub said : other.said ≡ seen.said
  pub noted : other.noted ≡ seen.noted
  pub calm : seen.note_faults ≡ 0
  pub reads : other.reads ≡ seen.reads
