use Rattle.std.proofs.Common.{◌≡◌, ℕ, ◌<◌, ◌++◌, [], length, drop}
use Rattle.std.specs.List.{slice_index_or}
use Rattle.path_certificate.specs.StepLists.{standing}
use Rattle.path_certificate.proofs.listing.StepLists.by.Given as goal

-- the list of a place and what is left for it are all that it is to have
abbrev pub invariant-steps : goal.invariant-steps
invariant-steps l = record {
  count : length l.lists.items ≡ l.places;
  each : (v : ℕ) → v < l.places → slice_index_or l.lists.items v [] ++ standing l.end v (drop l.step-index l.steps) ≡ standing l.end v l.steps;
}
