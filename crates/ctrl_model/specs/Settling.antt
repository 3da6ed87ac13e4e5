-- Settling: after each change circuits whose grant is gone are revoked, what stands no longer is removed, and circuits whose path fails
-- are rerouted (docs/RULES.md, "Settling").
use Rattle.std.specs.Prelude.{ℕ, Bool, true, false, ◌&&◌, nat_lt, cond, List}
use Rattle.std.specs.Option.{option_map_or}
use Rattle.ctrl_model.specs.Numbered.{with_each, with_kept, at, is_present, numbers}
use Rattle.ctrl_model.specs.State.{State, Link, Terminator, Circuit}
use Rattle.ctrl_model.specs.Walks.{is_among}
use Rattle.ctrl_model.specs.Networks.{Network, network_of, is_path, least_path, is_shared, is_counted, is_in_service}

-- Whether a terminator is admissible for a service and its own instance.
abbrev pub admits : Network → ℕ → ℕ → Terminator → Bool
admits w s n e = is_counted s e.instance (n, e) && is_in_service w (n, e)

-- What granted a circuit still stands: its identity and its service are present and the identity is granted Dial on the service, its
-- ingress is shared by the two, and its terminator is present and admissible for the service and the terminator's own instance. It
-- is said over the network and the numbers of the present identities and services, as is whether a circuit stays.
abbrev pub circuit_granted : Network → List ℕ → List ℕ → ℕ × Circuit → Bool
circuit_granted w identities services row =
    is_among row.1.identity identities
    && (is_among row.1.service services
    && (nat_lt 0 (w.dial row.1.identity row.1.service)
    && (is_shared w row.1.identity row.1.service row.1.ingress
    && option_map_or (admits w row.1.service row.1.terminator) (at w.terminators row.1.terminator) false)))

-- What granted the circuit still stands in the state.
abbrev pub granted_in : State → ℕ × Circuit → Bool
granted_in s = circuit_granted (network_of s) (numbers s.identities.rows) (numbers s.services.rows)

-- Circuits stay while what granted them stands. All else stays.
abbrev pub revoke : State → State
revoke s = record s { circuits = with_kept (granted_in s) s.circuits }

-- A link stays whose two routers are present.
abbrev pub link_stays : State → ℕ × Link → Bool
link_stays s row = is_present s.routers.rows row.1.a && is_present s.routers.rows row.1.b

-- A terminator stays whose service and router are present, and its host, if it has one.
abbrev pub terminator_stays : State → ℕ × Terminator → Bool
terminator_stays s row =
    is_present s.services.rows row.1.service
    && (is_present s.routers.rows row.1.router && option_map_or (is_present s.identities.rows) row.1.host true)

-- The links are still a path from the circuit's ingress to its terminator's router.
abbrev pub circuit_reaches : Network → Circuit → Terminator → Bool
circuit_reaches w c e = is_path w c.ingress c.links e.router

-- A circuit stays whose identity, service and terminator are present and whose links are still a path from its ingress to
-- the terminator's router. It is said over the network and the numbers of the present identities and services, so that
-- whoever keeps circuits without a state says it in the same words.
abbrev pub circuit_stays : Network → List ℕ → List ℕ → ℕ × Circuit → Bool
circuit_stays w identities services row =
    is_among row.1.identity identities
    && (is_among row.1.service services && option_map_or (circuit_reaches w row.1) (at w.terminators row.1.terminator) false)

-- The circuit stays in the state.
abbrev pub stays_in : State → ℕ × Circuit → Bool
stays_in s = circuit_stays (network_of s) (numbers s.identities.rows) (numbers s.services.rows)

-- The first filter of what stands no longer.
abbrev pub settle_links : State → State
settle_links s = record s { links = with_kept (link_stays s) s.links }

-- The second filter.
abbrev pub settle_terminators : State → State
settle_terminators s = record s { terminators = with_kept (terminator_stays s) s.terminators }

-- A circuit to a terminator: where its links are a path it stays as it is, even if a cheaper path exists, and else it goes over the
-- least path, if there is one. Its ingress and its terminator never change.
abbrev pub rerouted_to : Network → Circuit → Terminator → Circuit
rerouted_to w c e = cond (circuit_reaches w c e) c (option_map_or (λ links. record c { links = links }) (least_path w c.ingress e.router) c)

-- A circuit of a network, over the least path where its links are a path no more.
abbrev pub rerouted : Network → Circuit → Circuit
rerouted w c = option_map_or (rerouted_to w c) (at w.terminators c.terminator) c

-- Each circuit is judged by itself: it is rerouted where its links are a path no more.
abbrev pub reroute_circuits : State → State
reroute_circuits s = record s { circuits = with_each (rerouted (network_of s)) s.circuits }

-- And it ends where its identity, service or terminator is absent, or where its links are no path even so.
abbrev pub end_circuits : State → State
end_circuits s = record s { circuits = with_kept (stays_in s) s.circuits }

-- The state repaired: links and then terminators are filtered, and then each circuit stays, is rerouted or ends.
abbrev pub repair : State → State
repair s = end_circuits (reroute_circuits (settle_terminators (settle_links s)))

-- The state settled: circuits are revoked, and what is left is repaired.
abbrev pub settle : State → State
settle s = repair (revoke s)
