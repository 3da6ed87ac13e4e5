-- Rows as they are read in a format: the parts of a key behind its table, and those of a value (docs/FORMATS.md, "Rows").
use Rattle.std.specs.Prelude.{◌≡◌, ℕ, zero, suc, Bool, true, false, not, cond, nat_lt, nat_le, ◌==◌, ◌&&◌, List, [], ◌∷◌, length, find, None, Some, Ok, Err}
use Rattle.std.specs.declared.option.Option.{Option}
use Rattle.std.specs.declared.result.Result.{Result}
use Rattle.std.specs.Option.{option_map, option_map_or, option_and_then, is_some}
use Rattle.ctrl_model.specs.declared.addresses.Address.{Address}
use Rattle.ctrl_model.specs.declared.formats.Format.{Format}
use Rattle.ctrl_model.specs.declared.formats.Format.TheVariants.{One, Two}
use Rattle.ctrl_model.specs.declared.intercepts.Intercept.{Intercept}
use Rattle.ctrl_model.specs.declared.intercepts.PortRange.{PortRange}
use Rattle.ctrl_model.specs.AddressForm.{address_of, is_spelling}
use Rattle.ctrl_model.specs.InterceptForm.{is_intercept, is_port_range, is_without_repeats}
use Rattle.ctrl_model.specs.declared.kinds.Kind.{Kind}
use Rattle.ctrl_model.specs.declared.kinds.Kind.TheVariants as kind
use Rattle.ctrl_model.specs.declared.kinds.Side.{Side}
use Rattle.ctrl_model.specs.declared.kinds.Semantic.{Semantic}
use Rattle.ctrl_model.specs.declared.kinds.Relation.{Relation}
use Rattle.ctrl_model.specs.declared.kinds.Relation.TheVariants as relation
use Rattle.ctrl_model.specs.declared.kinds.Precedence.{Precedence}
use Rattle.ctrl_model.specs.State.{start}
use Rattle.row_codec.specs.declared.faults.RowFault.{RowFault}
use Rattle.row_codec.specs.declared.faults.RowFault.TheVariants.{BadRow, BadBatch, NoMemory}
use Rattle.row_codec.specs.declared.rows.Row.{Row}
use Rattle.row_codec.specs.declared.rows.Row.TheVariants as row
use Rattle.row_reading.specs.declared.tables.Table.{Table}
use Rattle.row_reading.specs.declared.tables.Table.TheVariants as table
use Rattle.row_codec.specs.RowForm.{is_count, is_wide}
use Rattle.row_codec.specs.RowKeys.{RowTable, is_long, table_number, tables_of}
use Rattle.row_codec.specs.RowKeys.RowTable.{Next, Setting, Records, Counts, Intercepts, Serial}
use Rattle.row_codec.specs.FieldReading.{Front, front_byte, front_code, front_count, front_flag, front_instance, front_list, front_long, front_name, front_names, front_number, front_short, front_side, front_text, front_wide, kept, both, mapped, alone, relation_meant, semantic_meant, precedence_meant, marks_meant}
use Rattle.ctrl_model.specs.Limits.{longest_path, most_claimed}

-- The host that a number names, none for 0.
abbrev pub host_named : ℕ → Option ℕ
host_named n = cond (n == 0) None (Some n)

-- The number of a kind in a key.
abbrev pub is_kind : ℕ → Bool
is_kind k = nat_le 1 k && nat_le k 9

-- A next number that has a row.
abbrev pub is_next : ℕ → Bool
is_next n = nat_lt 1 n && is_long n

-- A least router cost that has a row.
abbrev pub is_setting : ℕ → Bool
is_setting cost = not (cost == start.least_router_cost) && is_long cost

-- A serial that has a row.
abbrev pub is_serial : ℕ → Bool
is_serial n = nat_lt 0 n && is_wide n

-- The things that stand one behind the other at the front, so many at most.
abbrev pub things_in : {A : Type 0} → (List ℕ → Front A) → ℕ → List ℕ → List A
things_in front zero bytes = []
things_in front (suc n) bytes = option_map_or (λ x. x.0 ∷ things_in front n x.1) (front bytes) []

-- The things of the list that begins some bytes: how many there are as one byte, and the things.
abbrev pub things_of : {A : Type 0} → (List ℕ → Front A) → List ℕ → List A
things_of front bytes = option_map_or (λ n. things_in front n.0 n.1) (front_byte bytes) []

-- The names of the list that begins some bytes.
abbrev pub names_of : List ℕ → List (List ℕ)
names_of bytes = things_of front_name bytes

-- The links of the list that begins some bytes.
abbrev pub links_of : List ℕ → List ℕ
links_of bytes = things_of front_long bytes

-- A name and attributes.
abbrev pub front_entity : List ℕ → Front (List ℕ × List (List ℕ))
front_entity bytes = both front_name front_names bytes

-- A name, attributes, a cost and marks.
abbrev pub front_router : List ℕ → Front (List ℕ × (List (List ℕ) × (ℕ × (Bool × Bool))))
front_router bytes = both front_name (both front_names (both front_short (front_code marks_meant))) bytes

-- The cost of a link, the latencies of its ends, and whether it is up.
abbrev pub front_costs : List ℕ → Front (ℕ × (ℕ × (ℕ × Bool)))
front_costs bytes = both front_short (both front_short (both front_short front_flag)) bytes

-- A name, two routers, and what a link costs.
abbrev pub front_link : List ℕ → Front (List ℕ × (ℕ × (ℕ × (ℕ × (ℕ × (ℕ × Bool))))))
front_link bytes = both front_name (both front_long (both front_long front_costs)) bytes

-- A semantic and two sides.
abbrev pub front_sides : List ℕ → Front (Semantic × (Side × Side))
front_sides bytes = both (front_code semantic_meant) (both front_side front_side) bytes

-- A name, a relation, and the rest of a policy.
abbrev pub front_service_policy : List ℕ → Front (List ℕ × (Relation × (Semantic × (Side × Side))))
front_service_policy bytes = both front_name (both (front_code relation_meant) front_sides) bytes

-- A name, and the rest of a policy.
abbrev pub front_router_policy : List ℕ → Front (List ℕ × (Semantic × (Side × Side)))
front_router_policy bytes = both front_name front_sides bytes

-- An instance, a cost and a precedence.
abbrev pub front_place : List ℕ → Front (List ℕ × (ℕ × Precedence))
front_place bytes = both front_instance (both front_short (front_code precedence_meant)) bytes

-- A service, a router, a host, and the rest of a terminator.
abbrev pub front_terminator : List ℕ → Front (ℕ × (ℕ × (Option ℕ × (List ℕ × (ℕ × Precedence)))))
front_terminator bytes = both front_long (both front_long (both (mapped host_named front_long) front_place)) bytes

-- An identity, a service, a terminator, an ingress, and links.
abbrev pub front_circuit : List ℕ → Front (ℕ × (ℕ × (ℕ × (ℕ × List ℕ))))
front_circuit bytes = both front_long (both front_long (both front_long (both front_long (front_list longest_path front_long)))) bytes

-- The protocols that a byte means: tcp, udp, or both.
abbrev pub protocols_meant : ℕ → Option (Bool × Bool)
protocols_meant n = cond (n == 1) (Some (true, false)) (cond (n == 2) (Some (false, true)) (cond (n == 3) (Some (true, true)) None))

-- A text that is the one spelling of an address.
abbrev pub front_spelling : List ℕ → Front (List ℕ)
front_spelling bytes = kept is_spelling front_text bytes

-- The address of such a text.
abbrev pub front_address : List ℕ → Front Address
front_address bytes = option_and_then (λ x. option_map (λ a. (a, x.1)) (address_of x.0)) (front_spelling bytes)

-- The range of ports from one to another.
abbrev pub port_range_of : ℕ × ℕ → PortRange
port_range_of x = record { low = x.0; high = x.1 }

-- A range of ports: the lowest one and the highest one, where an intercept may have them.
abbrev pub front_port_range : List ℕ → Front PortRange
front_port_range bytes = kept is_port_range (mapped port_range_of (both front_short front_short)) bytes

-- The addresses of the list that begins some bytes.
abbrev pub addresses_of : List ℕ → List Address
addresses_of bytes = things_of front_address bytes

-- The ranges of ports of the list that begins some bytes.
abbrev pub port_ranges_of : List ℕ → List PortRange
port_ranges_of bytes = things_of front_port_range bytes

-- A list of what an intercept claims has something, and nothing twice.
abbrev pub is_claimed : {A : Type 0} → (A → A → Bool) → List A → Bool
is_claimed same xs = nat_le 1 (length xs) && is_without_repeats same xs

-- The intercept of some parts.
abbrev pub intercept_of : (Bool × Bool) × (List Address × List PortRange) → Intercept
intercept_of x = record { tcp = x.0.0; udp = x.0.1; addresses = x.1.0; ports = x.1.1 }

-- Protocols, addresses and ranges of ports.
abbrev pub front_parts : List ℕ → Front ((Bool × Bool) × (List Address × List PortRange))
front_parts bytes = both (front_code protocols_meant) (both (front_list most_claimed front_address) (front_list most_claimed front_port_range)) bytes

-- Those of an intercept.
abbrev pub front_intercept : List ℕ → Front Intercept
front_intercept bytes = kept is_intercept (mapped intercept_of front_parts) bytes

-- A row whose key, behind its table, is read by one rule and whose value by another.
abbrev pub row_read : {K V : Type 0} → (List ℕ → Front K) → (List ℕ → Front V) → (K → V → Row) → List ℕ → List ℕ → Option Row
row_read key_front value_front make rest value = option_and_then (λ k. option_map (λ v. make k v) (alone value_front value)) (alone key_front rest)

-- Nothing.
abbrev pub front_nothing : List ℕ → Front (Unit {0})
front_nothing bytes = Some (tt, bytes)

-- The rows of counts in a format.
abbrev pub count_read : Format → Relation → List ℕ → List ℕ → Option Row
count_read f relation.Dial rest value =
    row_read (both front_number front_number) (kept (is_count f) (front_count f)) (λ k n. row.Dial (record { 0 = k.0 }) (record { 0 = k.1 }) n) rest value
count_read f relation.Bind rest value =
    row_read (both front_number front_number) (kept (is_count f) (front_count f)) (λ k n. row.Bind (record { 0 = k.0 }) (record { 0 = k.1 }) n) rest value
count_read f relation.IdentityRouter rest value =
    row_read (both front_number front_number) (kept (is_count f) (front_count f)) (λ k n. row.IdentityRouter (record { 0 = k.0 }) (record { 0 = k.1 }) n) rest value
count_read f relation.ServiceRouter rest value =
    row_read (both front_number front_number) (kept (is_count f) (front_count f)) (λ k n. row.ServiceRouter (record { 0 = k.0 }) (record { 0 = k.1 }) n) rest value

-- The rows of records.
abbrev pub record_read : Kind → List ℕ → List ℕ → Option Row
record_read kind.Identity rest value = row_read front_number front_entity (λ n v. row.Identity (record { 0 = n }) v.0 v.1) rest value
record_read kind.Service rest value = row_read front_number front_entity (λ n v. row.Service (record { 0 = n }) v.0 v.1) rest value
record_read kind.Router rest value =
    row_read front_number front_router (λ n v. row.Router (record { 0 = n }) v.0 v.1.0 v.1.1.0 v.1.1.1.0 v.1.1.1.1) rest value
record_read kind.Link rest value =
    row_read front_number front_link (λ n v. row.Link (record { 0 = n }) v.0 (record { 0 = v.1.0 }) (record { 0 = v.1.1.0 }) v.1.1.1.0 v.1.1.1.1.0 v.1.1.1.1.1.0 v.1.1.1.1.1.1) rest value
record_read kind.ServicePolicy rest value =
    row_read front_number front_service_policy (λ n v. row.ServicePolicy (record { 0 = n }) v.0 v.1.0 v.1.1.0 v.1.1.1.0 v.1.1.1.1) rest value
record_read kind.EdgeRouterPolicy rest value =
    row_read front_number front_router_policy (λ n v. row.EdgeRouterPolicy (record { 0 = n }) v.0 v.1.0 v.1.1.0 v.1.1.1) rest value
record_read kind.ServiceEdgeRouterPolicy rest value =
    row_read front_number front_router_policy (λ n v. row.ServiceEdgeRouterPolicy (record { 0 = n }) v.0 v.1.0 v.1.1.0 v.1.1.1) rest value
record_read kind.Terminator rest value =
    row_read front_number front_terminator
    (λ n v. row.Terminator (record { 0 = n }) (record { 0 = v.0 }) (record { 0 = v.1.0 }) (option_map (λ h. record { 0 = h }) v.1.1.0) v.1.1.1.0 v.1.1.1.1.0 v.1.1.1.1.1) rest value
record_read kind.Circuit rest value =
    row_read front_number front_circuit
    (λ n v. row.Circuit (record { 0 = n }) (record { 0 = v.0 }) (record { 0 = v.1.0 }) (record { 0 = v.1.1.0 }) (record { 0 = v.1.1.1.0 }) v.1.1.1.1) rest value
record_read kind.Attribute rest value = None

-- The rows of a table in a format: what follows the table in a key, and a value. The last two tables are those of the second format.
abbrev pub table_read : Format → RowTable → List ℕ → List ℕ → Option Row
table_read f Next rest value = row_read (kept is_kind front_byte) (kept is_next front_long) (λ k n. row.Next k n) rest value
table_read f Setting rest value = row_read front_nothing (kept is_setting front_long) (λ u n. row.Setting n) rest value
table_read f (Records k) rest value = record_read k rest value
table_read f (Counts r) rest value = count_read f r rest value
table_read One Intercepts rest value = None
table_read Two Intercepts rest value = row_read front_number front_intercept (λ n i. row.Intercept (record { 0 = n }) i) rest value
table_read One Serial rest value = None
table_read Two Serial rest value = row_read front_nothing (kept is_serial front_wide) (λ u n. row.Serial n) rest value

-- The table of a number, in either format.
abbrev pub row_table_of : ℕ → Option RowTable
row_table_of number = find (λ t. table_number t == number) (tables_of Two)

-- A table as the code sees it.
abbrev pub table_seen : Table → RowTable
table_seen table.Next = Next
table_seen table.Setting = Setting
table_seen (table.Records k) = Records k
table_seen (table.Counts r) = Counts r
table_seen table.Intercepts = Intercepts
table_seen table.Serial = Serial

-- The row that a key and a value are read as in a format.
abbrev pub row_of : Format → List ℕ → List ℕ → Option Row
row_of f key value = option_and_then (λ t. option_and_then (λ found. table_read f found t.1 value) (row_table_of t.0)) (front_byte key)

-- A fault says that nothing is read; where memory was wanting, something is.
abbrev pub Fails : {Y : Type 0} → RowFault → Option Y → Type 0
Fails BadRow read = read ≡ None
Fails BadBatch read = ⊥
Fails NoMemory read = is_some read ≡ true

-- What a function returned, seen by `view`, is what is read, unless memory was wanting.
abbrev pub Gives : {X Y : Type 0} → (X → Y) → Result X RowFault → Option Y → Type 0
Gives view (Ok x) read = read ≡ Some (view x)
Gives view (Err e) read = Fails e read
