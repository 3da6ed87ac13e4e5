-- The form of the values that commands have in their fields: alphabets, ranges and lengths (docs/FORMATS.md, "Commands").
use Rattle.std.specs.Prelude.{ℕ, ◌+◌, Bool, true, false, not, ◌&&◌, ◌||◌, ◌==◌, nat_le, List, [], ◌∷◌, length, codes}
use Rattle.std.specs.declared.option.Option.{Option}
use Rattle.std.specs.Option.{option_map_or}
use Rattle.std.specs.List.{list_all}
use Rattle.ctrl_model.specs.declared.kinds.Side.{Side}
use Rattle.ctrl_model.specs.declared.kinds.Relation.{Relation}
use Rattle.ctrl_model.specs.declared.kinds.Relation.TheVariants.{Dial, Bind, IdentityRouter, ServiceRouter}
use Rattle.ctrl_model.specs.declared.claims.Reach.{Reach}
use Rattle.ctrl_model.specs.NameForm.{is_name, is_instance}
use Rattle.ctrl_model.specs.Matches.{has_name, is_nothing}
use Rattle.ctrl_model.specs.declared.addresses.Address.{Address}
use Rattle.ctrl_model.specs.declared.addresses.Address.TheVariants.{Host, Under, Range}
use Rattle.ctrl_model.specs.AddressForm.{is_address}
use Rattle.ctrl_model.specs.Limits.{limit, longest_path, most_bits, most_cost, most_entries, most_latency, most_number, most_port}
use Rattle.ctrl_model.specs.Claims.{no_path}
use Rattle.ctrl_model.specs.declared.kinds.Kind.TheVariants as kind

-- A number in a range, its ends included.
abbrev pub in_range : ℕ → ℕ → ℕ → Bool
in_range low high n = nat_le low n && nat_le n high

-- No name stands twice in a list.
abbrev pub is_distinct : List (List ℕ) → Bool
is_distinct [] = true
is_distinct (n ∷ ns) = not (has_name ns n) && is_distinct ns

-- A list of names without repeats.
abbrev pub are_names : List (List ℕ) → Bool
are_names ns = list_all is_name ns && is_distinct ns

-- A list of attributes: names without repeats, no more than a list may have.
abbrev pub are_attributes : List (List ℕ) → Bool
are_attributes ns = nat_le (length ns) most_entries && are_names ns

-- A side as it may be stored: `#all` stands alone, and there are no more entries than a list may have, without repeats.
abbrev pub is_stored_side : Side → Bool
is_stored_side side =
    (not side.all || (is_nothing side.ids && is_nothing side.attributes))
    && (nat_le (length side.ids + length side.attributes) most_entries && (are_names side.ids && are_names side.attributes))

-- A side that a role list says: no entry refers to an attribute named `all`.
abbrev pub is_side : Side → Bool
is_side side = is_stored_side side && not (has_name side.attributes (codes "all"))

-- A relation that a service policy may have.
abbrev pub is_service_relation : Relation → Bool
is_service_relation Dial = true
is_service_relation Bind = true
is_service_relation IdentityRouter = false
is_service_relation ServiceRouter = false

-- A cost of a router or of a terminator.
abbrev pub is_cost : ℕ → Bool
is_cost n = in_range 0 most_cost n

-- The static cost of a link, and the least router cost.
abbrev pub is_link_cost : ℕ → Bool
is_link_cost n = in_range 1 most_cost n

-- The latency that one end of a link reports.
abbrev pub is_latency : ℕ → Bool
is_latency n = in_range 0 most_latency n

-- The number of a record.
abbrev pub is_number : ℕ → Bool
is_number n = in_range 1 most_number n

-- A name that may be left out.
abbrev pub is_name_or_none : Option (List ℕ) → Bool
is_name_or_none n = option_map_or is_name n true

-- A value of a claim: a number of 32 bits, or no path.
abbrev pub is_value : ℕ → Bool
is_value n = nat_le n most_number || (n == no_path)

-- An entry of a claim: at most 256 values.
abbrev pub is_reach : Reach → Bool
is_reach e = is_number e.router.0 && (nat_le (length e.values) (limit kind.Router) && list_all is_value e.values)

-- Some numbers of records, at most so many.
abbrev pub are_numbers : ℕ → List ℕ → Bool
are_numbers most ns = nat_le (length ns) most && list_all is_number ns

-- An address that is one place: a host, or a range of all bits.
abbrev pub is_one_place : Address → Bool
is_one_place (Host text) = true
is_one_place (Under text) = false
is_one_place (Range ip bits) = bits == most_bits

-- The destination of a pick.
abbrev pub is_destination : Address → Bool
is_destination a = is_address a && is_one_place a

-- A port.
abbrev pub is_port : ℕ → Bool
is_port n = in_range 1 most_port n
