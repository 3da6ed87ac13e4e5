-- Why a record cannot join what stores keep, as the stores themselves tell it: for private use, each the flaw in a state that has what
-- the stores keep (docs/PROMISES.md, "Flaws of records").
use Rattle.std.specs.Prelude.{ℕ, Bool, ◌||◌, not, nat_lt, nat_le, List, [], length, None, is_some}
use Rattle.std.specs.declared.option.Option.{Option}
use Rattle.ctrl_model.specs.declared.kinds.Kind.{Kind}
use Rattle.ctrl_model.specs.Limits.{limit}
use Rattle.entity_store.specs.EntityTables.{Tables, entities, next_of, number_of}
use Rattle.entity_store.specs.AttributeUses.{has_attribute_room}
use Rattle.state_building.specs.declared.flaws.Flaw.{Flaw}
use Rattle.state_building.specs.declared.flaws.Flaw.TheVariants.{OutOfOrder, NoRecord, NameTaken, TooMany}
use Rattle.state_building.specs.JoinedRecords.{flaw_if}
use Rattle.record_flaws.specs.declared.coming.Coming.{Coming}

-- A kind of entities is full, or with some attributes more would be in use than may be.
abbrev pub has_one_too_many : Kind → List (List ℕ) → Tables → Bool
has_one_too_many k attributes t = nat_le (limit k) (length (entities k t)) || not (has_attribute_room t [] attributes)

-- An entity of a kind that comes next cannot join the entities of a store: its number is out of order, it is not sound, its name is
-- taken, or its kind is full or has too many attributes with it.
abbrev pub entity_flaw : Kind → Coming → List ℕ → List (List ℕ) → Tables → Option Flaw
entity_flaw k c name attributes t =
    flaw_if (nat_lt c.number (next_of k t) || nat_le c.end c.number) OutOfOrder
    (flaw_if (not c.sound) NoRecord
    (flaw_if (is_some (number_of k name t)) NameTaken
    (flaw_if (has_one_too_many k attributes t) TooMany None)))
