-- What a fabric holds, as contracts see it: the table of links, and the least cost of entering a router (docs/RULES.md, "Records
-- and numbers", "Links and paths").
use Rattle.std.specs.Prelude.{ℕ, Bool}
use Rattle.ctrl_model.specs.Numbered.{Table, no_rows, with_new, with_edit, with_removed}
use Rattle.ctrl_model.specs.State.{Link}

-- The links, and the least router cost.
pub record FabricSeen : Type 0 where
  pub links : Table Link
  pub least : ℕ

-- A fabric without links. The least router cost is 10.
abbrev pub no_links : FabricSeen
no_links = record { links = no_rows; least = 10 }

-- The fabric with one more link, under the next number.
abbrev pub with_link : Link → FabricSeen → FabricSeen
with_link l f = record f { links = with_new l f.links }

-- The fabric, of which one link has this cost and these latencies, and is up or down.
abbrev pub with_set : ℕ → ℕ → ℕ → ℕ → Bool → FabricSeen → FabricSeen
with_set n cost latency_a latency_b up f = record f {
  links = with_edit n (λ l. record l { cost = cost; latency_a = latency_a; latency_b = latency_b; up = up }) f.links;
}

-- The fabric without one link.
abbrev pub without_link : ℕ → FabricSeen → FabricSeen
without_link n f = record f { links = with_removed n f.links }

-- The fabric with another least router cost.
abbrev pub with_least : ℕ → FabricSeen → FabricSeen
with_least cost f = record f { least = cost }

-- The fabric with another next number.
abbrev pub with_next : ℕ → FabricSeen → FabricSeen
with_next next f = record f { links = record f.links { next = next } }
