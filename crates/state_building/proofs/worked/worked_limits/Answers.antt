use Rattle.std.proofs.Common.{◌≡◌, ℕ, nat_lt, nat_le, ◌||◌, true, false, List, [], ◌∷◌, ◌++◌, length, codes, Some, None, refl, ap}
use Rattle.std.specs.Str.{bytes_eq}
use Rattle.std.specs.Set.{is_member}
use Rattle.ctrl_model.specs.declared.kinds.Kind.TheVariants as kind
use Rattle.ctrl_model.specs.Limits.{limit}
use Rattle.ctrl_model.specs.WorkedStates.{names_of_two_bytes}
use Rattle.model_laws.proofs.DistinctNames.{carried_by_one, ascends, more_names, no_more_names-again}
use Rattle.row_codec.specs.declared.rows.Row.TheVariants as row
use Rattle.state_building.specs.declared.flaws.Flaw.TheVariants.{TooMany}
use Rattle.state_building.specs.JoinedRecords.{flaw_if}
use Rattle.state_building.specs.BuiltStates.{flaw_in}
use Rattle.state_building.proofs.worked.worked_limits.Goals as goal

-- ---- of names that are not computed

full_attributes : (names : List (List ℕ)) → ascends 0 ((names ++ []) ++ codes "a" ∷ []) ≡ true → nat_lt (limit kind.Attribute) (length ((names ++ []) ++ codes "a" ∷ [])) ≡ true
    → flaw_in (λ k. 9) (row.Service (record { 0 = 1 }) (codes "web") (codes "a" ∷ [])) (carried_by_one names) ≡ Some TooMany
full_attributes names up long = ap (λ b. flaw_if (false || b) TooMany None) (more_names (limit kind.Attribute) ((names ++ []) ++ codes "a" ∷ []) up long)

attribute_in_use : (names : List (List ℕ)) → nat_le (length (names ++ [])) (limit kind.Attribute) ≡ true → is_member bytes_eq (names ++ []) (codes "AA") ≡ true
    → flaw_in (λ k. 9) (row.Service (record { 0 = 1 }) (codes "web") (codes "AA" ∷ [])) (carried_by_one names) ≡ None
attribute_in_use names short there = ap (λ b. flaw_if (false || b) TooMany None) (no_more_names-again (limit kind.Attribute) (names ++ []) (codes "AA") short there)

-- ---- of the names of two bytes, whose ranks, length and members compute

pub returns-clause-full_attributes : goal.returns-clause-full_attributes
returns-clause-full_attributes c = full_attributes names_of_two_bytes refl refl

pub returns-clause-attribute_in_use : goal.returns-clause-attribute_in_use
returns-clause-attribute_in_use c = attribute_in_use names_of_two_bytes refl refl
