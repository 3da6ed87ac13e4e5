-- Numbers in ascending order.
use Rattle.std.specs.Prelude.{ℕ, ◌<◌, ⊤, List, [], ◌∷◌}
use Rattle.std.specs.List.{AllByRecursion}

-- The numbers of some things climb: each is below all that follow it.
abbrev pub Climbs : {X : Type 0} → (X → ℕ) → List X → Type 0
Climbs number [] = ⊤
Climbs number (x ∷ xs) = AllByRecursion (λ y. number x < number y) xs × Climbs number xs
