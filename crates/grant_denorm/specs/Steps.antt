-- The steps that a change of a policy or of an entity makes, in the order in which they are listed.
use Rattle.std.specs.Prelude.{ℕ, Bool, cond, List, map}
use Rattle.std.specs.List.{flat_map}
use Rattle.ctrl_model.specs.Walks.{is_among}
use Rattle.grant_denorm.specs.declared.deltas.Delta.{Delta}
use Rattle.grant_denorm.specs.declared.deltas.Turn.{Turn}

-- One step for each pair of a left number and some right ones.
abbrev pub steps_of_row : Bool → List ℕ → ℕ → List Delta
steps_of_row up rights a = map (λ b. record { a = a; b = b; up = up }) rights

-- One step for each pair of the left numbers and the right ones; a left number that is among others has the fresh ones alone.
abbrev pub steps_of_rows : Bool → List ℕ → List ℕ → List ℕ → List ℕ → List Delta
steps_of_rows up others rights fresh lefts = flat_map (λ a. steps_of_row up (cond (is_among a others) fresh rights) a) lefts

-- The step of an entity, which stands on the left or on the right, and a partner.
abbrev pub steps_of_pair : ℕ → Bool → Bool → ℕ → Delta
steps_of_pair x on_left up partner = cond on_left (record { a = x; b = partner; up = up }) (record { a = partner; b = x; up = up })

-- One step for each of a turn's partners.
abbrev pub steps_of_turn : ℕ → Bool → Turn → List Delta
steps_of_turn x on_left turn = map (steps_of_pair x on_left turn.up) turn.partners
