-- Small tables for worked examples.
use Rattle.std.specs.Prelude.{[], codes}
use Rattle.ctrl_model.specs.declared.kinds.Kind.TheVariants as kind
use Rattle.entity_store.specs.EntityTables.{Tables, with_entity}
use Rattle.entity_store.specs.WorkedTables.{ann}

-- The identity ann and the service web.
abbrev pub ann_and_web : Tables
ann_and_web = with_entity kind.Service (codes "web") [] ann
