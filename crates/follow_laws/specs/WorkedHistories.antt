-- A history that was worked by hand.
use Rattle.std.specs.Prelude.{ℕ, List, [], ◌∷◌, codes}
use Rattle.ctrl_model.specs.declared.commands.Command.TheVariants.{CreateIdentity}
use Rattle.ctrl_model.specs.State.{State, start}
use Rattle.ctrl_model.specs.WorkedStates.{after}

-- The state with the identity ann, behind the start.
abbrev pub with_ann : State
with_ann = record (after (CreateIdentity (codes "ann") [] ∷ []) start) { serial = 1 }

-- The state with bob behind her.
abbrev pub with_both : State
with_both = record (after (CreateIdentity (codes "ann") [] ∷ CreateIdentity (codes "bob") [] ∷ []) start) { serial = 2 }

-- The history of both.
abbrev pub of_both : List State
of_both = start ∷ with_ann ∷ with_both ∷ []

-- The batch that creates bob behind ann: the next number 3, his row, and the serial 2.
abbrev pub batch_of_bob : List ℕ
batch_of_bob =
    1 ∷ 2 ∷ 1 ∷ 1 ∷ 4 ∷ 0 ∷ 0 ∷ 0 ∷ 3 ∷ 0 ∷ 0 ∷ 0 ∷ 1 ∷ 5 ∷ 3 ∷ 0 ∷ 0 ∷ 0 ∷ 2 ∷ 5 ∷ 0 ∷ 0 ∷ 0 ∷ 3 ∷ 98 ∷ 111 ∷ 98 ∷ 0
    ∷ 1 ∷ 1 ∷ 17 ∷ 8 ∷ 0 ∷ 0 ∷ 0 ∷ 2 ∷ 0 ∷ 0 ∷ 0 ∷ 0 ∷ 0 ∷ 0 ∷ 0 ∷ []
