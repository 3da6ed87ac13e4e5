-- The list and the room of a desk over memory: which of its calls fail, and what a call leaves of both (docs/PROMISES.md, "The desks").
use Rattle.std.specs.Prelude.{ℕ, ◌+◌, ◌-◌, ◌≤◌, nat_lt, max, Bool, ◌||◌, List, [], ◌∷◌, vec_capacity}
use Rattle.desk_base.specs.declared.mem_parts.Images.{Images}
use Rattle.desk_base.specs.Pieces.{is_listed, next_call}

-- What decides which calls fail: the places of those that are listed, how many were made, how many bytes a part may have, and how many
-- bytes more of replies, of notes and of the log of the calls there is room for.
pub record Limits : Type 0 where
  pub failing : List ℕ
  pub calls : ℕ
  pub part : ℕ
  pub said : ℕ
  pub noted : ℕ
  pub log : ℕ

-- Whether the next call is listed.
abbrev pub is_named : Limits → Bool
is_named limits = is_listed limits.failing limits.calls

-- Whether there is no room in the log for a call that writes so many bytes: it takes them and 32 bytes more.
abbrev pub is_logged_out : Limits → ℕ → Bool
is_logged_out limits count = nat_lt limits.log (32 + count)

-- Whether there is no room for so many reply bytes more, or for the call in the log.
abbrev pub is_over_said : Limits → ℕ → Bool
is_over_said limits count = nat_lt limits.said count || is_logged_out limits 0

-- Whether there is no room for so many bytes of notes more.
abbrev pub is_over_noted : Limits → ℕ → Bool
is_over_noted limits count = nat_lt limits.noted count

-- Whether there is no room for a write of so many bytes at a place of a part that reads so many: it would become longer than it is and
-- than a part may be, or there is no room for the call in the log.
abbrev pub is_over_part : Limits → ℕ → ℕ → ℕ → Bool
is_over_part limits long at count = nat_lt (max limits.part long) (at + count) || is_logged_out limits count

-- The limits behind a call that took so many bytes of replies, of notes and of the log.
abbrev pub less : ℕ → ℕ → ℕ → Limits → Limits
less said noted log limits = record {
  failing = limits.failing;
  calls = next_call limits.calls;
  part = limits.part;
  said = limits.said - said;
  noted = limits.noted - noted;
  log = limits.log - log;
}

-- The memory of each part holds so many bytes.
pub record PartsFit (most : ℕ) (held : Images) : Type 0 where
  pub zero : most ≤ vec_capacity held.zero
  pub one : most ≤ vec_capacity held.one
  pub mark : most ≤ vec_capacity held.mark

-- Limits of the worked examples: the next call is the fourth, which is listed; a part may have 4 bytes; and there is room for 2 reply bytes, for
-- 1 byte of notes and for 64 bytes of the log.
abbrev pub few : Limits
few = record { failing = 3 ∷ []; calls = 3; part = 4; said = 2; noted = 1; log = 64 }
