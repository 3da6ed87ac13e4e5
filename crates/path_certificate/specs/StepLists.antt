-- Steps in lists by the place at one of their ends. The search for least paths and the making of graphs take them from there.
use Rattle.std.specs.Prelude.{◌≡◌, ℕ, ◌<◌, ◌==◌, List, [], length}
use Rattle.std.specs.List.{filter, slice_index_or}
use Rattle.path_certificate.specs.declared.graph.Step.{Step}
use Rattle.path_certificate.specs.declared.listing.StepEnd.{StepEnd}
use Rattle.path_certificate.specs.declared.listing.StepEnd.TheVariants as step_end

-- The place at an end of a step.
abbrev pub place_at : StepEnd → Step → ℕ
place_at step_end.From s = s.from
place_at step_end.To s = s.to

-- Those of the steps that have a place at an end, in their order.
abbrev pub standing : StepEnd → ℕ → List Step → List Step
standing end v steps = filter (λ s. place_at end s == v) steps

-- There is a list for each place, with those of the steps that have it at an end.
pub record AreListed (end : StepEnd) (places : ℕ) (steps : List Step) (lists : List (List Step)) : Type 0 where
  pub count : length lists ≡ places
  pub each : (v : ℕ) → v < places → slice_index_or lists v [] ≡ standing end v steps
