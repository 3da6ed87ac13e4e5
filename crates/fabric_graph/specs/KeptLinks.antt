-- What a fabric keeps besides the order of its table: few links, each fit, and a setting in its range.
use Rattle.std.specs.Prelude.{◌≡◌, ℕ, ◌≤◌, true, length}
use Rattle.ctrl_model.specs.declared.kinds.Kind.TheVariants as kind
use Rattle.ctrl_model.specs.ValueForms.{is_link_cost}
use Rattle.ctrl_model.specs.Limits.{limit}
use Rattle.ctrl_model.specs.Numbered.{Table}
use Rattle.ctrl_model.specs.State.{Link}
use Rattle.ctrl_model.specs.ValidState.{each_passes}
use Rattle.fabric_graph.specs.FabricRules.{is_fit}

-- No more links than may be, each fit, and a least router cost in its range.
pub record AreFit (links : Table Link) (least : ℕ) : Type 0 where
  pub few : length links.rows ≤ limit kind.Link
  pub each : each_passes is_fit links.rows ≡ true
  pub setting : is_link_cost least ≡ true
