-- Which circuits cannot stay as they are once something is gone, or may not be passed through any more (docs/RULES.md, "Settling").
use Rattle.std.specs.Prelude.{ℕ, ◌==◌, Bool, false, not, ◌&&◌, ◌||◌, List}
use Rattle.std.specs.declared.option.Option.{Option}
use Rattle.std.specs.List.{list_any}
use Rattle.std.specs.Option.{option_map_or}
use Rattle.ctrl_model.specs.declared.kinds.Kind.{Kind}
use Rattle.ctrl_model.specs.declared.kinds.Kind.TheVariants as kind
use Rattle.ctrl_model.specs.State.{Circuit}
use Rattle.ctrl_model.specs.Walks.{is_among}
use Rattle.circuits.specs.declared.losses.Loss.{Loss}
use Rattle.circuits.specs.declared.losses.Loss.TheVariants as loss

-- A circuit names an entity: its identity, its service, or the router that it enters by.
abbrev pub names_entity : Kind → ℕ → Circuit → Bool
names_entity kind.Identity n c = c.identity == n
names_entity kind.Service n c = c.service == n
names_entity kind.Router n c = c.ingress == n
names_entity k n c = false

-- A circuit goes over one of some links.
abbrev pub goes_over : List ℕ → Circuit → Bool
goes_over links c = list_any (λ l. is_among l links) c.links

-- A circuit needs an entity, one of some links or one of some terminators.
abbrev pub needs : Option (Kind × ℕ) → List ℕ → List ℕ → Circuit → Bool
needs entity links terminators c =
    option_map_or (λ e. names_entity e.0 e.1 c) entity false || (goes_over links c || is_among c.terminator terminators)

-- A circuit passes through a router, at which some links are and some terminators: it goes over one of the links, and neither
-- enters nor ends there.
abbrev pub passes_through : ℕ → List ℕ → List ℕ → Circuit → Bool
passes_through r links terminators c =
    goes_over links c && (not (c.ingress == r) && not (is_among c.terminator terminators))

-- A circuit cannot stay as it is after a loss.
abbrev pub is_lost : Loss → Circuit → Bool
is_lost (loss.Gone entity links terminators) c = needs entity links.now terminators.now c
is_lost (loss.Closed router links terminators) c = passes_through router.0 links.now terminators.now c
