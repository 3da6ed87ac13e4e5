-- The rows of links that a change touches, and those that are gone (docs/PROMISES.md, "Rows and batches").
use Rattle.std.specs.Prelude.{◌≡◌, ℕ, true, Some}
use Rattle.ctrl_model.specs.declared.kinds.Kind.TheVariants as kind
use Rattle.ctrl_model.specs.Numbered.{at}
use Rattle.ctrl_model.specs.State.{Link}
use Rattle.row_laws.specs.FittingRecords.{fits}
use Rattle.fabric_graph.specs.FabricTables.{FabricSeen}

-- Each link fits its row.
abbrev pub HaveRows : FabricSeen → Type 0
HaveRows f = (n : ℕ) (l : Link) → at f.links.rows n ≡ Some l → fits kind.Link l ≡ true
