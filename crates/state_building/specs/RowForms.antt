-- What a row is: a next number, the setting, a record of a kind, a count of a relation, an intercept, or the serial (docs/FORMATS.md,
-- "Rows").
use Rattle.std.specs.Prelude.{ℕ}
use Rattle.std.specs.Option.{option_map}
use Rattle.ctrl_model.specs.declared.kinds.Kind.{Kind}
use Rattle.ctrl_model.specs.declared.kinds.Kind.TheVariants as kind
use Rattle.ctrl_model.specs.declared.kinds.Relation.{Relation}
use Rattle.ctrl_model.specs.declared.kinds.Relation.TheVariants.{Dial, Bind, IdentityRouter, ServiceRouter}
use Rattle.ctrl_model.specs.declared.intercepts.Intercept.{Intercept}
use Rattle.ctrl_model.specs.Tables.{Record}
use Rattle.row_codec.specs.declared.rows.Row.{Row}
use Rattle.row_codec.specs.declared.rows.Row.TheVariants as row
use Rattle.row_codec.specs.RowForm.{policy_of}

-- Something for each thing that a row can be: for a next number, which a row has of a kind by the kind's number; for the setting; for a
-- record of a kind under its number; for a count of a pair; for an intercept under the number of its service; and for the serial.
pub record Cases (A : Type 0) : Type 0 where
  pub next : ℕ → ℕ → A
  pub setting : ℕ → A
  pub one : (k : Kind) → ℕ → Record k → A
  pub count : Relation → ℕ → ℕ → ℕ → A
  pub intercept : ℕ → Intercept → A
  pub serial : ℕ → A

-- What is said for a row.
abbrev pub by_row : {A : Type 0} → Cases A → Row → A
by_row c (row.Next k next) = c.next k next
by_row c (row.Setting cost) = c.setting cost
by_row c (row.Identity n name attributes) = c.one kind.Identity n.0 (record { name = name; attributes = attributes })
by_row c (row.Service n name attributes) = c.one kind.Service n.0 (record { name = name; attributes = attributes })
by_row c (row.Router n name attributes cost through connected) =
    c.one kind.Router n.0 (record { name = name; attributes = attributes; cost = cost; through = through; connected = connected })
by_row c (row.Link n name a b cost latency_a latency_b up) =
    c.one kind.Link n.0 (record { name = name; a = a.0; b = b.0; cost = cost; latency_a = latency_a; latency_b = latency_b; up = up })
by_row c (row.ServicePolicy n name relation semantic identities services) =
    c.one kind.ServicePolicy n.0 (policy_of name relation semantic identities services)
by_row c (row.EdgeRouterPolicy n name semantic identities routers) =
    c.one kind.EdgeRouterPolicy n.0 (policy_of name IdentityRouter semantic identities routers)
by_row c (row.ServiceEdgeRouterPolicy n name semantic services routers) =
    c.one kind.ServiceEdgeRouterPolicy n.0 (policy_of name ServiceRouter semantic services routers)
by_row c (row.Terminator n service router host instance cost precedence) =
    c.one kind.Terminator n.0 (record {
      service = service.0;
      router = router.0;
      instance = instance;
      host = option_map (λ h. h.0) host;
      cost = cost;
      precedence = precedence;
    })
by_row c (row.Circuit n identity service terminator ingress links) =
    c.one kind.Circuit n.0 (record {
      identity = identity.0;
      service = service.0;
      terminator = terminator.0;
      ingress = ingress.0;
      links = links;
    })
by_row c (row.Dial identity service count) = c.count Dial identity.0 service.0 count
by_row c (row.Bind identity service count) = c.count Bind identity.0 service.0 count
by_row c (row.IdentityRouter identity router count) = c.count IdentityRouter identity.0 router.0 count
by_row c (row.ServiceRouter service router count) = c.count ServiceRouter service.0 router.0 count
by_row c (row.Intercept service intercept) = c.intercept service.0 intercept
by_row c (row.Serial serial) = c.serial serial
