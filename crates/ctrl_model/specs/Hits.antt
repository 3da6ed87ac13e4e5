-- Which service of an identity a destination belongs to, and which services clash (docs/RULES.md, "Intercepts").
use Rattle.std.specs.Prelude.{◌≡◌, ℕ, ◌+◌, ◌-◌, ◌==◌, ◌≤◌, Bool, true, false, not, ◌&&◌, ◌||◌, nat_le, cond, List, [], ◌∷◌, map, filter, None, Some, bytes_eq}
use Rattle.std.specs.declared.option.Option.{Option}
use Rattle.std.specs.Option.{option_map, option_map_or}
use Rattle.std.specs.List.{flat_map, list_all, list_any}
use Rattle.ctrl_model.specs.declared.addresses.Address.{Address}
use Rattle.ctrl_model.specs.declared.addresses.Address.TheVariants.{Host, Under, Range}
use Rattle.ctrl_model.specs.declared.intercepts.PortRange.{PortRange}
use Rattle.ctrl_model.specs.declared.intercepts.Intercept.{Intercept}
use Rattle.ctrl_model.specs.AddressForm.{first_bits, same_address}
use Rattle.ctrl_model.specs.InterceptForm.{is_intercept, same_ports}
use Rattle.ctrl_model.specs.Limits.{most_bits}
use Rattle.ctrl_model.specs.Membership.{Among}
use Rattle.ctrl_model.specs.Numbered.{at}
use Rattle.ctrl_model.specs.Ranks.{comes_before, least_by}

-- ---- hits

-- How many labels a host has before a dot and a text that ends it, if it ends so.
abbrev pub labels_before : List ℕ → List ℕ → Option ℕ
labels_before text [] = None
labels_before text (b ∷ host) =
    cond (b == 46) (cond (bytes_eq host text) (Some 1) (option_map (λ n. n + 1) (labels_before text host))) (labels_before text host)

-- How near an address is to a destination, if it has it: a host has itself alone, what is under a host has each host of more
-- labels, and is as far as these are many, and a range has each address whose first bits are its own, and is as far as it has
-- bits beside them. A destination is a host, or a range of all bits.
abbrev pub nearness : Address → Address → Option ℕ
nearness (Host text) (Host to) = cond (bytes_eq text to) (Some 0) None
nearness (Under text) (Host to) = labels_before text to
nearness (Range ip bits) (Range to all) = cond (first_bits bits to == ip) (Some (most_bits - bits)) None
nearness address to = None

-- Whether an intercept has a protocol: udp, or else tcp.
abbrev pub has_protocol : Bool → Intercept → Bool
has_protocol udp i = cond udp i.udp i.tcp

-- Whether a range of ports has a port.
abbrev pub has_port : ℕ → PortRange → Bool
has_port port r = nat_le r.low port && nat_le port r.high

-- A hit: a service, how near an address of its intercept is to the destination, that address, and a range with the port.
pub record Hit : Type 0 where
  pub service : ℕ
  pub near : ℕ
  pub address : Address
  pub ports : PortRange

-- The hits of an address of a service: one for each range of the intercept that has the port, if the address has the
-- destination.
abbrev pub hits_at : ℕ → List PortRange → ℕ → Address → Address → List Hit
hits_at service ranges port to a =
    option_map_or (λ near. map (λ r. record { service = service; near = near; address = a; ports = r }) (filter (has_port port) ranges)) (nearness a to) []

-- The hits of an intercept, if it has the protocol: those of its addresses.
abbrev pub hits_in : Bool → Address → ℕ → ℕ → Intercept → List Hit
hits_in udp to port service i = cond (has_protocol udp i) (flat_map (hits_at service i.ports port to) i.addresses) []

-- The hits of a service, by its intercept if it has one.
abbrev pub hits_of : List (ℕ × Intercept) → Bool → Address → ℕ → ℕ → List Hit
hits_of intercepts udp to port service = option_map_or (hits_in udp to port service) (at intercepts service) []

-- The hits of some services.
abbrev pub hits : List (ℕ × Intercept) → List ℕ → Bool → Address → ℕ → List Hit
hits intercepts dialled udp to port = flat_map (hits_of intercepts udp to port) dialled

-- What a hit is ranked by, compared from left to right: how near its address is, how many ports its range has beside the
-- lowest, the lowest of them, and the service's number.
abbrev pub hit_rank : Hit → List ℕ
hit_rank h = h.near ∷ (h.ports.high - h.ports.low) ∷ h.ports.low ∷ h.service ∷ []

-- The hit that is picked of those of the services that an identity may dial: the first by that rank.
abbrev pub picked : List (ℕ × Intercept) → List ℕ → Bool → Address → ℕ → Option Hit
picked intercepts dialled udp to port = least_by hit_rank (hits intercepts dialled udp to port)

-- ---- clashes

-- Two intercepts clash: they have a protocol, an address and a range of ports in common.
abbrev pub do_clash : Intercept → Intercept → Bool
do_clash i j =
    ((i.tcp && j.tcp) || (i.udp && j.udp))
    && (list_any (λ a. list_any (same_address a) j.addresses) i.addresses && list_any (λ r. list_any (same_ports r) j.ports) i.ports)

-- Whether a service other than a given one has an intercept that clashes with its own.
abbrev pub clashes_with : List (ℕ × Intercept) → ℕ → Intercept → ℕ → Bool
clashes_with intercepts service i other = not (other == service) && option_map_or (do_clash i) (at intercepts other) false

-- The clashes of a service, among those that an identity may dial. There are none where the service is not among them, or
-- has no intercept.
abbrev pub clashes : List (ℕ × Intercept) → List ℕ → ℕ → List ℕ
clashes intercepts dialled service =
    cond (list_any (λ n. n == service) dialled) (option_map_or (λ i. filter (clashes_with intercepts service i) dialled) (at intercepts service) []) []

-- ---- hits, said without lists

-- A hit of a destination at a port: its service is among some, the service has an intercept, this has the protocol, one of its
-- addresses is as near to the destination as the hit says, and one of its ranges has the port.
pub record IsHit (intercepts : List (ℕ × Intercept)) (dialled : List ℕ) (udp : Bool) (to : Address) (port : ℕ) (h : Hit) : Type 0 where
  pub intercept : Intercept
  pub dials : Among h.service dialled
  pub claims : at intercepts h.service ≡ Some intercept
  pub protocol : has_protocol udp intercept ≡ true
  pub address : Among h.address intercept.addresses
  pub is_near : nearness h.address to ≡ Some h.near
  pub range : Among h.ports intercept.ports
  pub from : h.ports.low ≤ port
  pub upto : port ≤ h.ports.high

-- The hit that none comes before.
pub record IsPicked (intercepts : List (ℕ × Intercept)) (dialled : List ℕ) (udp : Bool) (to : Address) (port : ℕ) (h : Hit) : Type 0 where
  pub is_hit : IsHit intercepts dialled udp to port h
  pub first : (g : Hit) → IsHit intercepts dialled udp to port g → comes_before hit_rank g h ≡ false

-- Each of some intercepts is one.
abbrev pub are_intercepts : List (ℕ × Intercept) → Bool
are_intercepts intercepts = list_all (λ x. is_intercept x.1) intercepts
