-- What a change of entities makes of their tables (docs/PROMISES.md, "The store of entities").
use Rattle.std.specs.Prelude.{false}
use Rattle.ctrl_model.specs.declared.kinds.Kind.TheVariants as kind
use Rattle.entity_store.specs.declared.changes.EntityChange.{EntityChange}
use Rattle.entity_store.specs.declared.changes.EntityChange.TheVariants as change
use Rattle.entity_store.specs.EntityTables.{Tables, with_entity, with_attributes, with_router, without_entity}

-- The entities after a change. That no side of a policy names one that is removed is not said of them.
abbrev pub after_entity_change : EntityChange → Tables → Tables
after_entity_change (change.Add k name attributes) t = with_entity k name attributes t
after_entity_change (change.AddRouter name attributes cost through) t =
    with_router t.routers.next cost through false (with_entity kind.Router name attributes t)
after_entity_change (change.Describe k n attributes) t = with_attributes k n attributes t
after_entity_change (change.DescribeRouter n attributes cost through connected) t =
    with_router n cost through connected (with_attributes kind.Router n attributes t)
after_entity_change (change.Mark n cost through connected) t = with_router n cost through connected t
after_entity_change (change.Remove k n name) t = without_entity k n t
