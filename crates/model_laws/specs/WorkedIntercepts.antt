-- Intercepts of worked examples, and states with them.
use Rattle.std.specs.Prelude.{ℕ, true, false, List, [], ◌∷◌, codes}
use Rattle.ctrl_model.specs.declared.commands.Command.TheVariants.{CreateIdentity, CreateService, SetIntercept}
use Rattle.ctrl_model.specs.declared.kinds.Relation.TheVariants.{Dial}
use Rattle.ctrl_model.specs.State.{State, start}
use Rattle.ctrl_model.specs.WorkedStates.{after, only, service_policy}
use Rattle.ctrl_model.specs.declared.addresses.Address.{Address}
use Rattle.ctrl_model.specs.declared.addresses.Address.TheVariants.{Host, Under, Range}
use Rattle.ctrl_model.specs.declared.intercepts.PortRange.{PortRange}
use Rattle.ctrl_model.specs.declared.intercepts.Intercept.{Intercept}

-- The ports from one to another.
abbrev pub ports : ℕ → ℕ → PortRange
ports low high = record { low = low; high = high }

-- An intercept over tcp alone.
abbrev pub over_tcp : List Address → List PortRange → Intercept
over_tcp addresses ranges = record { tcp = true; udp = false; addresses = addresses; ports = ranges }

-- An intercept over udp alone.
abbrev pub over_udp : List Address → List PortRange → Intercept
over_udp addresses ranges = record { tcp = false; udp = true; addresses = addresses; ports = ranges }

-- 1 has what is under `example.org` at port 443, and 2 has `api.example.org` at every port.
abbrev pub web_and_api : List (ℕ × Intercept)
web_and_api =
    (1, over_tcp (Under (codes "example.org") ∷ []) (ports 443 443 ∷ []))
    ∷ (2, over_tcp (Host (codes "api.example.org") ∷ []) (ports 1 65535 ∷ []))
    ∷ []

-- Both have what is under `example.org` at port 443.
abbrev pub both_under : List (ℕ × Intercept)
both_under =
    (1, over_tcp (Under (codes "example.org") ∷ []) (ports 443 443 ∷ []))
    ∷ (2, over_tcp (Under (codes "example.org") ∷ []) (ports 443 443 ∷ []))
    ∷ []

-- 1 has `10.0.0.0/8` and 2 has `10.1.0.0/16`, both at port 22.
abbrev pub two_networks : List (ℕ × Intercept)
two_networks = (1, over_tcp (Range 167772160 8 ∷ []) (ports 22 22 ∷ [])) ∷ (2, over_tcp (Range 167837696 16 ∷ []) (ports 22 22 ∷ [])) ∷ []

-- 1 has what is under `b.org` and under `org` at ports in three ranges that overlap, and 2 what is under `b.org` in one of them.
abbrev pub overlapping : List (ℕ × Intercept)
overlapping =
    (1, over_tcp (Under (codes "b.org") ∷ Under (codes "org") ∷ []) (ports 1 100 ∷ ports 50 60 ∷ ports 40 50 ∷ []))
    ∷ (2, over_tcp (Under (codes "b.org") ∷ []) (ports 50 60 ∷ []))
    ∷ []

-- Ann may dial web and api, each by a policy of its own.
abbrev pub two_dialled : State
two_dialled = after (
    CreateIdentity (codes "ann") [] ∷ CreateService (codes "web") [] ∷ CreateService (codes "api") []
    ∷ service_policy (codes "d1") Dial (only (codes "ann")) (only (codes "web"))
    ∷ service_policy (codes "d2") Dial (only (codes "ann")) (only (codes "api"))
    ∷ []) start

-- The two, with intercepts of hosts: that of api is set before that of web.
abbrev pub with_hosts : State
with_hosts = after (
    SetIntercept (codes "api") (over_tcp (Host (codes "api.example.org") ∷ []) (ports 1 65535 ∷ []))
    ∷ SetIntercept (codes "web") (over_tcp (Under (codes "example.org") ∷ []) (ports 443 443 ∷ []))
    ∷ []) two_dialled

-- The two, with intercepts of networks.
abbrev pub with_networks : State
with_networks = after (
    SetIntercept (codes "web") (over_tcp (Range 167772160 8 ∷ []) (ports 22 22 ∷ []))
    ∷ SetIntercept (codes "api") (over_tcp (Range 167837696 16 ∷ []) (ports 22 22 ∷ []))
    ∷ []) two_dialled
