-- A small table, grants and routers for worked examples.
use Rattle.std.specs.Prelude.{ℕ, true, false, List, [], ◌∷◌, codes, None, Some}
use Rattle.std.specs.declared.option.Option.{Option}
use Rattle.ctrl_model.specs.declared.kinds.Precedence.TheVariants.{Normal}
use Rattle.ctrl_model.specs.Networks.{Network}
use Rattle.ctrl_model.specs.State.{Terminator}
use Rattle.grant_denorm.specs.PairCounts.{count_of}
use Rattle.terminators.specs.TermTables.{TermTables, no_terminators, with_term}
use Rattle.terminators.specs.TermRules.{network}

-- An offer of service 1 on a router, under an instance, by a host or by none.
abbrev pub offer : ℕ → List ℕ → Option ℕ → Terminator
offer router instance host = record { service = 1; router = router; instance = instance; host = host; cost = 0; precedence = Normal }

-- Two offers without a host, of which the second stands on router 2.
abbrev pub two_offers : TermTables
two_offers = with_term (offer 2 [] None) (with_term (offer 1 [] None) no_terminators)

-- Beside them one of an instance, as number 3, and on router 1 offers of the hosts 5, 6 and 7, as numbers 4, 5 and 6.
abbrev pub six_offers : TermTables
six_offers = with_term (offer 1 [] (Some 7)) (with_term (offer 1 [] (Some 6)) (with_term (offer 1 [] (Some 5)) (with_term (offer 1 (codes "blue") None) two_offers)))

-- The hosts 5 and 7 have Bind on service 1.
abbrev pub binds : List ((ℕ × ℕ) × ℕ)
binds = ((5, 1), 1) ∷ ((7, 1), 2) ∷ []

-- Router 1 is granted to the hosts 5 and 6, and to service 1. Router 2 is not connected.
abbrev pub offered : Network
offered =
    network six_offers (count_of binds) (count_of (((5, 1), 1) ∷ ((6, 1), 1) ∷ [])) (count_of (((1, 1), 3) ∷ []))
    (record { no = record { 0 = 1 }; cost = 0; through = true; connected = true } ∷ record { no = record { 0 = 2 }; cost = 0; through = true; connected = false } ∷ [])
