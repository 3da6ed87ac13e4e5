-- The entity on a side of a relation is the one that stands in the side's rows.
use Rattle.std.proofs.Common.{◌≡◌, ℕ, refl}
use Rattle.ctrl_model.specs.declared.kinds.Relation.{Relation}
use Rattle.ctrl_model.specs.declared.kinds.Relation.TheVariants.{Dial, Bind, IdentityRouter, ServiceRouter}
use Rattle.ctrl_model.specs.Numbered.{at}
use Rattle.ctrl_model.specs.State.{State, as_entity}
use Rattle.ctrl_model.specs.Grants.{left_entity, right_entity}
use Rattle.ctrl_model.proofs.NumberedLaws.{at-map}
use Rattle.grant_moves.specs.EntitySides.{left_rows, right_rows}

pub left_row_at : (r : Relation) (s : State) (a : ℕ) → at (left_rows r s) a ≡ left_entity r s a
left_row_at Dial s a = refl
left_row_at Bind s a = refl
left_row_at IdentityRouter s a = refl
left_row_at ServiceRouter s a = refl

pub right_row_at : (r : Relation) (s : State) (b : ℕ) → at (right_rows r s) b ≡ right_entity r s b
right_row_at Dial s b = refl
right_row_at Bind s b = refl
right_row_at IdentityRouter s b = at-map (λ row. as_entity row.1) s.routers.rows b
right_row_at ServiceRouter s b = at-map (λ row. as_entity row.1) s.routers.rows b
