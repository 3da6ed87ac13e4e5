-- Laws on the tables of a state by kind: a change of one kind's table leaves the others.
use Rattle.std.proofs.Common.{◌≡◌, refl}
use Rattle.ctrl_model.specs.declared.kinds.Kind.{Kind}
use Rattle.ctrl_model.specs.declared.kinds.Kind.TheVariants as kind
use Rattle.ctrl_model.specs.Numbered.{Table, no_rows}
use Rattle.ctrl_model.specs.State.{State}
use Rattle.ctrl_model.specs.Tables.{Record, table, with_table}

-- what holds of the new table of one kind and of the old ones of the others holds of the table of each kind
pub with_table-holds : (P : (j : Kind) → Table (Record j) → Type 0) (s : State) (k : Kind) (t : Table (Record k)) → P kind.Attribute no_rows → P k t
    → ((j : Kind) → P j (table j s)) → (j : Kind) → P j (table j (with_table k t s))
with_table-holds P s kind.Identity t none new old kind.Identity = new
with_table-holds P s kind.Service t none new old kind.Service = new
with_table-holds P s kind.Router t none new old kind.Router = new
with_table-holds P s kind.Link t none new old kind.Link = new
with_table-holds P s kind.ServicePolicy t none new old kind.ServicePolicy = new
with_table-holds P s kind.EdgeRouterPolicy t none new old kind.EdgeRouterPolicy = new
with_table-holds P s kind.ServiceEdgeRouterPolicy t none new old kind.ServiceEdgeRouterPolicy = new
with_table-holds P s kind.Terminator t none new old kind.Terminator = new
with_table-holds P s kind.Circuit t none new old kind.Circuit = new
with_table-holds P s kind.Attribute t none new old kind.Attribute = none
with_table-holds P s k t none new old j = old j

-- no table is the setting, the intercepts or the serial
pub with_table-setting : (k : Kind) (t : Table (Record k)) (s : State) → (with_table k t s).least_router_cost ≡ s.least_router_cost
with_table-setting kind.Attribute t s = refl
with_table-setting k t s = refl

pub with_table-intercepts : (k : Kind) (t : Table (Record k)) (s : State) → (with_table k t s).intercepts ≡ s.intercepts
with_table-intercepts kind.Attribute t s = refl
with_table-intercepts k t s = refl

pub with_table-serial : (k : Kind) (t : Table (Record k)) (s : State) → (with_table k t s).serial ≡ s.serial
with_table-serial kind.Attribute t s = refl
with_table-serial k t s = refl
