-- What a change of a policy or of an entity does to the counts of pairs, one step at a time (docs/RULES.md, "Policies and
-- grants").
use Rattle.std.specs.Prelude.{ℕ, ◌==◌, Bool, not, ◌&&◌, cond, List, sum_by, count_by}
use Rattle.ctrl_model.specs.Walks.{is_among}
use Rattle.grant_denorm.specs.declared.deltas.Cross.{Cross}
use Rattle.grant_denorm.specs.declared.deltas.Delta.{Delta}
use Rattle.grant_denorm.specs.declared.deltas.Turn.{Turn}

-- Whether a delta is of a pair.
abbrev pub is_at : ℕ → ℕ → Delta → Bool
is_at a b d = (d.a == a) && (d.b == b)

-- How many steps up some deltas have at a pair.
abbrev pub ups : List Delta → ℕ → ℕ → ℕ
ups ds a b = count_by (λ d. d.up && is_at a b d) ds

-- How many steps down some deltas have at a pair.
abbrev pub downs : List Delta → ℕ → ℕ → ℕ
downs ds a b = count_by (λ d. not d.up && is_at a b d) ds

-- Whether a policy's product has a pair: its left members have the one number, and its right members the other.
abbrev pub has_pair : Cross → ℕ → ℕ → Bool
has_pair c a b = is_among a c.left && is_among b c.right

-- The steps up of a policy's change at a pair: one where the pair comes into the product.
abbrev pub policy_ups : Cross → Cross → ℕ → ℕ → ℕ
policy_ups before after a b = cond (not (has_pair before a b) && has_pair after a b) 1 0

-- The steps down of a policy's change at a pair: one where the pair goes out of the product.
abbrev pub policy_downs : Cross → Cross → ℕ → ℕ → ℕ
policy_downs before after a b = cond (has_pair before a b && not (has_pair after a b)) 1 0

-- Whether a pair is that of an entity, which stands on the left or on the right, and a partner.
abbrev pub is_entity_pair : ℕ → Bool → ℕ → ℕ → ℕ → Bool
is_entity_pair x on_left a b partner = cond on_left ((a == x) && (b == partner)) ((b == x) && (a == partner))

-- How often a turn's partners give a pair with the entity.
abbrev pub turn_count : ℕ → Bool → ℕ → ℕ → Turn → ℕ
turn_count x on_left a b turn = count_by (is_entity_pair x on_left a b) turn.partners

-- The steps up of an entity's change at a pair: one for each turn that way and each of its partners.
abbrev pub entity_ups : ℕ → Bool → List Turn → ℕ → ℕ → ℕ
entity_ups x on_left turns a b = sum_by (λ turn. cond turn.up (turn_count x on_left a b turn) 0) turns

-- The steps down of an entity's change at a pair: one for each turn that way and each of its partners.
abbrev pub entity_downs : ℕ → Bool → List Turn → ℕ → ℕ → ℕ
entity_downs x on_left turns a b = sum_by (λ turn. cond turn.up 0 (turn_count x on_left a b turn)) turns
