-- The names and rows of the three kinds. Only private functions and proofs of this crate cite this file.
use Rattle.ctrl_model.specs.declared.kinds.Kind.{Kind}
use Rattle.ctrl_model.specs.declared.kinds.Kind.TheVariants as kind
use Rattle.entity_store.specs.declared.kind_rows.AllRows.{AllRows}
use Rattle.entity_store.specs.ListedRows.{Listed, no_entries}

-- Those of a kind.
abbrev pub listed_of : Kind → AllRows → Listed
listed_of kind.Identity all = all.identities
listed_of kind.Service all = all.services
listed_of kind.Router all = all.routers
listed_of _ all = no_entries

-- Those of a kind are changed.
abbrev pub on_kind : Kind → (Listed → Listed) → AllRows → AllRows
on_kind kind.Identity f all = record all { identities = f all.identities }
on_kind kind.Service f all = record all { services = f all.services }
on_kind kind.Router f all = record all { routers = f all.routers }
on_kind _ f all = all
