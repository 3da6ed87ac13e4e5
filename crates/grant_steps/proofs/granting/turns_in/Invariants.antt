use Rattle.std.proofs.Common.{◌≡◌, ◌++◌}
use Rattle.entity_store.specs.EntityTables.{entities}
use Rattle.grant_moves.specs.GrantTurns.{turns_of}
use Rattle.grant_steps.specs.GrantKinds.{other_kind}
use Rattle.grant_steps.proofs.granting.turns_in.Given as goal

-- the turns so far and those of the policies that are left are all turns
abbrev pub invariant-policies : goal.invariant-policies
invariant-policies l =
    l.turns.items ++ turns_of l.relation l.on_left l.moved.before l.moved.after (entities (other_kind l.on_left l.relation) l.known) l.policy-iterator
    ≡ turns_of l.relation l.on_left l.moved.before l.moved.after (entities (other_kind l.on_left l.relation) l.known) l.table.rows
