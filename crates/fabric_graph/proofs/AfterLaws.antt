-- The steps of the links, number by number.
use Rattle.std.proofs.Common.{◌≡◌, ℕ, List, [], ◌∷◌, ◌++◌, inl, inr, refl, ◌∙◌, ap, ap₂}
use Rattle.std.proofs.lemmas.List.Folds.{flat_map-map}
use Rattle.std.specs.List.{flat_map}
use Rattle.std.specs.Option.{option_map_or}
use Rattle.ctrl_model.specs.declared.kinds.RouterSeen.{RouterSeen}
use Rattle.ctrl_model.specs.Membership.{Among}
use Rattle.ctrl_model.specs.Numbered.{numbers, Between}
use Rattle.ctrl_model.specs.State.{Link}
use Rattle.record_tables.proofs.NumberLoops.{at_among}
use Rattle.fabric_graph.specs.Steps.{link_steps, steps_at, all_steps}

flat_map_among : {X A : Type 0} (f g : X → List A) (xs : List X) → ((x : X) → Among x xs → f x ≡ g x) → flat_map f xs ≡ flat_map g xs
flat_map_among f g [] k = refl
flat_map_among f g (x ∷ xs) k = ap₂ (λ a b. a ++ b) (k x (inl refl)) (flat_map_among f g xs (λ y m. k y (inr m)))

-- the steps over the links of the numbers are those over the links
pub steps_by_number : (routers : List RouterSeen) (least high : ℕ) (links : List (ℕ × Link)) → Between 1 high links
    → flat_map (steps_at routers least links) (numbers links) ≡ all_steps routers least links
steps_by_number routers least high links b =
    flat_map-map (steps_at routers least links) (λ x. x.0) links
    ∙ flat_map_among (λ (x : ℕ × Link). steps_at routers least links x.0) (link_steps routers least) links (λ x m.
    ap (λ o. option_map_or (λ (l : Link). link_steps routers least (x.0, l)) o []) (at_among high links 1 x.0 x.1 b m))
