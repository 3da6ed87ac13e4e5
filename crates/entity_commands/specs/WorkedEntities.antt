-- Small tables and states for worked examples.
use Rattle.std.specs.Prelude.{ℕ, Bool, List, [], ◌∷◌, codes}
use Rattle.ctrl_model.specs.State.{State, Router, start}
use Rattle.entity_store.specs.EntityTables.{Tables, no_entities}

-- A router of the name r1, of this cost and these marks, with these attributes.
abbrev pub r1 : List (List ℕ) → ℕ → Bool → Bool → Router
r1 attributes cost through connected = record { name = codes "r1"; attributes = attributes; cost = cost; through = through; connected = connected }

-- The state of this router alone.
abbrev pub of_router : Router → State
of_router r = record start { routers = record { rows = (1, r) ∷ []; next = 2 } }

-- The tables of this router alone.
abbrev pub holding : Router → Tables
holding r = record no_entities { routers = record { rows = (1, r) ∷ []; next = 2 } }

-- The state of one identity, ann, with these attributes.
abbrev pub of_ann : List (List ℕ) → State
of_ann attributes = record start { identities = record { rows = (1, record { name = codes "ann"; attributes = attributes }) ∷ []; next = 2 } }
