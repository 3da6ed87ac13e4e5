use Rattle.std.proofs.Common.{◌≡◌, map, take}
use Rattle.ctrl_model.specs.CircuitCommands.{name_of}
use Rattle.intercept_commands.proofs.showing.names_of.Given as goal

-- the names of the services before the index
abbrev pub invariant-services : goal.invariant-services
invariant-services l = l.names.items ≡ map (name_of l.entities.services.rows) (take l.service-index l.services)
