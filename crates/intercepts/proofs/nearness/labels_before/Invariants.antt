use Rattle.std.proofs.Common.{◌≡◌, ◌+◌, ◌≤◌, drop}
use Rattle.std.specs.Option.{option_map}
use Rattle.ctrl_model.specs.Hits.{labels_before}
use Rattle.intercepts.proofs.nearness.labels_before.Given as goal

-- so many labels end in front of the place, and the labels before the text are these and those behind the place
abbrev pub invariant-places : goal.invariant-places
invariant-places l = record {
  few : l.labels ≤ l.place;
  are : option_map (λ n. n + l.labels) (labels_before l.text (drop l.place l.host)) ≡ labels_before l.text l.host;
}
