-- A row of one state or another: its key, its value in a format, and which rows a state can have there (docs/FORMATS.md, "Rows"). A row
-- of this form may still be one that no valid state has: references, ranges and repeats are judged of the state as a whole. An
-- intercept alone is judged by itself.
use Rattle.std.specs.Prelude.{◌≡◌, ℕ, ◌^◌, Bool, true, false, not, ◌&&◌, ◌==◌, nat_lt, nat_le, List, length}
use Rattle.std.specs.declared.option.Option.{Option}
use Rattle.std.specs.Option.{option_map, option_map_or}
use Rattle.std.specs.List.{list_all}
use Rattle.ctrl_model.specs.declared.formats.Format.{Format}
use Rattle.ctrl_model.specs.declared.formats.Format.TheVariants.{One, Two}
use Rattle.ctrl_model.specs.declared.kinds.Kind.TheVariants as kind
use Rattle.ctrl_model.specs.declared.kinds.Side.{Side}
use Rattle.ctrl_model.specs.declared.kinds.Semantic.{Semantic}
use Rattle.ctrl_model.specs.declared.kinds.Relation.{Relation}
use Rattle.ctrl_model.specs.declared.kinds.Relation.TheVariants.{Dial, Bind, IdentityRouter, ServiceRouter}
use Rattle.ctrl_model.specs.NameForm.{is_name, is_instance}
use Rattle.ctrl_model.specs.ValueForms.{is_service_relation}
use Rattle.ctrl_model.specs.InterceptForm.{is_intercept}
use Rattle.ctrl_model.specs.Limits.{most_entries, longest_path}
use Rattle.ctrl_model.specs.State.{Policy, start}
use Rattle.row_codec.specs.declared.rows.Row.{Row}
use Rattle.row_codec.specs.declared.rows.Row.TheVariants as row
use Rattle.row_codec.specs.RowKeys.{Key, key_in, key_bytes, is_long}
use Rattle.row_codec.specs.RowKeys.RowTable.{Next, Setting, Records, Counts, Intercepts, Serial}
use Rattle.row_codec.specs.RowValues.{long, wide, count_bytes, record_value, intercept_value}

-- The key of a row.
abbrev pub key_of : Row → Key
key_of (row.Next k next) = key_in Next k 0
key_of (row.Setting cost) = key_in Setting 0 0
key_of (row.Identity n name attributes) = key_in (Records kind.Identity) n.0 0
key_of (row.Service n name attributes) = key_in (Records kind.Service) n.0 0
key_of (row.Router n name attributes cost through connected) = key_in (Records kind.Router) n.0 0
key_of (row.Link n name a b cost latency_a latency_b up) = key_in (Records kind.Link) n.0 0
key_of (row.ServicePolicy n name relation semantic identities services) = key_in (Records kind.ServicePolicy) n.0 0
key_of (row.EdgeRouterPolicy n name semantic identities routers) = key_in (Records kind.EdgeRouterPolicy) n.0 0
key_of (row.ServiceEdgeRouterPolicy n name semantic services routers) = key_in (Records kind.ServiceEdgeRouterPolicy) n.0 0
key_of (row.Terminator n service router host instance cost precedence) = key_in (Records kind.Terminator) n.0 0
key_of (row.Circuit n identity service terminator ingress links) = key_in (Records kind.Circuit) n.0 0
key_of (row.Dial identity service count) = key_in (Counts Dial) identity.0 service.0
key_of (row.Bind identity service count) = key_in (Counts Bind) identity.0 service.0
key_of (row.IdentityRouter identity router count) = key_in (Counts IdentityRouter) identity.0 router.0
key_of (row.ServiceRouter service router count) = key_in (Counts ServiceRouter) service.0 router.0
key_of (row.Intercept service intercept) = key_in Intercepts service.0 0
key_of (row.Serial serial) = key_in Serial 0 0

-- The policy of some parts.
abbrev pub policy_of : List ℕ → Relation → Semantic → Side → Side → Policy
policy_of name relation semantic left right = record { name = name; relation = relation; semantic = semantic; left = left; right = right }

-- The value of a row in a format.
abbrev pub value_of : Format → Row → List ℕ
value_of f (row.Next k next) = long next
value_of f (row.Setting cost) = long cost
value_of f (row.Identity n name attributes) = record_value kind.Identity (record { name = name; attributes = attributes })
value_of f (row.Service n name attributes) = record_value kind.Service (record { name = name; attributes = attributes })
value_of f (row.Router n name attributes cost through connected) =
    record_value kind.Router (record { name = name; attributes = attributes; cost = cost; through = through; connected = connected })
value_of f (row.Link n name a b cost latency_a latency_b up) =
    record_value kind.Link (record { name = name; a = a.0; b = b.0; cost = cost; latency_a = latency_a; latency_b = latency_b; up = up })
value_of f (row.ServicePolicy n name relation semantic identities services) =
    record_value kind.ServicePolicy (policy_of name relation semantic identities services)
value_of f (row.EdgeRouterPolicy n name semantic identities routers) =
    record_value kind.EdgeRouterPolicy (policy_of name IdentityRouter semantic identities routers)
value_of f (row.ServiceEdgeRouterPolicy n name semantic services routers) =
    record_value kind.ServiceEdgeRouterPolicy (policy_of name ServiceRouter semantic services routers)
value_of f (row.Terminator n service router host instance cost precedence) =
    record_value kind.Terminator (record {
      service = service.0;
      router = router.0;
      instance = instance;
      host = option_map (λ h. h.0) host;
      cost = cost;
      precedence = precedence;
    })
value_of f (row.Circuit n identity service terminator ingress links) =
    record_value kind.Circuit (record {
      identity = identity.0;
      service = service.0;
      terminator = terminator.0;
      ingress = ingress.0;
      links = links;
    })
value_of f (row.Dial identity service count) = count_bytes f count
value_of f (row.Bind identity service count) = count_bytes f count
value_of f (row.IdentityRouter identity router count) = count_bytes f count
value_of f (row.ServiceRouter service router count) = count_bytes f count
value_of f (row.Intercept service intercept) = intercept_value intercept
value_of f (row.Serial serial) = wide serial

-- A number that fits two bytes.
abbrev pub is_short : ℕ → Bool
is_short n = nat_lt n (2 ^ 16)

-- A list that a row can have: at most 64 names.
abbrev pub are_listed : List (List ℕ) → Bool
are_listed names = nat_le (length names) most_entries && list_all is_name names

-- A side whose two lists a row can have.
abbrev pub is_listed_side : Side → Bool
is_listed_side side = are_listed side.ids && are_listed side.attributes

-- A number that fits eight bytes.
abbrev pub is_wide : ℕ → Bool
is_wide n = nat_lt n (2 ^ 64)

-- A number above 0 that fits four bytes: the number of a host, and a count of the first format that has a row.
abbrev pub is_positive : ℕ → Bool
is_positive n = nat_lt 0 n && is_long n

-- A count that has a row: it is above 0, and fits the bytes that the format gives it.
abbrev pub is_count : Format → ℕ → Bool
is_count One n = is_positive n
is_count Two n = nat_lt 0 n && is_short n

-- Whether a format is the second one.
abbrev pub is_two : Format → Bool
is_two One = false
is_two Two = true

-- A host that a row can have: none, or a number above 0.
abbrev pub is_host : Option ℕ → Bool
is_host host = option_map_or is_positive host true

-- Whether some state can have a row in a format: its numbers fit, its lists keep their limits, and it is there at all.
abbrev pub is_row : Format → Row → Bool
is_row f (row.Next k next) = (nat_le 1 k && nat_le k 9) && (nat_lt 1 next && is_long next)
is_row f (row.Setting cost) = not (cost == start.least_router_cost) && is_long cost
is_row f (row.Identity n name attributes) = is_long n.0 && (is_name name && are_listed attributes)
is_row f (row.Service n name attributes) = is_long n.0 && (is_name name && are_listed attributes)
is_row f (row.Router n name attributes cost through connected) = is_long n.0 && (is_name name && (are_listed attributes && is_short cost))
is_row f (row.Link n name a b cost latency_a latency_b up) =
    is_long n.0 && (is_name name && (is_long a.0 && (is_long b.0 && (is_short cost && (is_short latency_a && is_short latency_b)))))
is_row f (row.ServicePolicy n name relation semantic identities services) =
    is_long n.0 && (is_name name && (is_service_relation relation && (is_listed_side identities && is_listed_side services)))
is_row f (row.EdgeRouterPolicy n name semantic identities routers) =
    is_long n.0 && (is_name name && (is_listed_side identities && is_listed_side routers))
is_row f (row.ServiceEdgeRouterPolicy n name semantic services routers) =
    is_long n.0 && (is_name name && (is_listed_side services && is_listed_side routers))
is_row f (row.Terminator n service router host instance cost precedence) =
    is_long n.0 && (is_long service.0 && (is_long router.0 && (is_host (option_map (λ h. h.0) host) && (is_instance instance && is_short cost))))
is_row f (row.Circuit n identity service terminator ingress links) =
    is_long n.0 && (is_long identity.0 && (is_long service.0 && (is_long terminator.0 && (is_long ingress.0
    && (nat_le (length links) longest_path && list_all is_long links)))))
is_row f (row.Dial identity service count) = is_long identity.0 && (is_long service.0 && is_count f count)
is_row f (row.Bind identity service count) = is_long identity.0 && (is_long service.0 && is_count f count)
is_row f (row.IdentityRouter identity router count) = is_long identity.0 && (is_long router.0 && is_count f count)
is_row f (row.ServiceRouter service router count) = is_long service.0 && (is_long router.0 && is_count f count)
is_row f (row.Intercept service intercept) = is_two f && (is_long service.0 && is_intercept intercept)
is_row f (row.Serial serial) = is_two f && (nat_lt 0 serial && is_wide serial)

-- A key and a value spell a row of a format.
pub record SpellsRow (f : Format) (key value : List ℕ) (r : Row) : Type 0 where
  pub form : is_row f r ≡ true
  pub key_is : key ≡ key_bytes (key_of r)
  pub value_is : value ≡ value_of f r
