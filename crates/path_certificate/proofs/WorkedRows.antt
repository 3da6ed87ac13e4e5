-- The row of three places is a graph, and has the hops of three routers in a line.
use Rattle.std.proofs.Common.{◌≡◌, ℕ, zero, suc, ◌+◌, ◌<◌, Bool, true, false, cond, eqb, eqb-true, Option, None, Some, refl, arith, lit<, lit≤, codes}
use Rattle.std.specs.Option.{option_and_then, option_map}
use Rattle.ctrl_model.specs.Mirrors.{Mirrors, renamed}
use Rattle.ctrl_model.specs.Networks.{network_of, hops, across}
use Rattle.ctrl_model.specs.WorkedStates.{line}
use Rattle.path_certificate.specs.declared.graph.Step.{Step}
use Rattle.path_certificate.specs.Graphs.{IsStep, IsGraph, taken, graph_hops}
use Rattle.path_certificate.specs.WorkedGraphs.{step, row}
use Rattle.path_certificate.proofs.StepLaws.{hop_is}

-- a worked step between two different places
pub joins : (places from link to : ℕ) → from < places → to < places → (from ≡ to → ⊥) → IsStep places (step from link to)
joins places from link to f t ne = record { from = f; to = t; apart = ne; cost = lit≤ tt; small = lit< tt }

pub row_is : IsGraph row.through row.steps
row_is =
    let first = joins 3 0 1 1 (lit< tt) (lit< tt) (λ e. absurd (cc)) in
    let first_back = joins 3 1 1 0 (lit< tt) (lit< tt) (λ e. absurd (cc)) in
    let second = joins 3 1 2 2 (lit< tt) (lit< tt) (λ e. absurd (cc)) in
    let second_back = joins 3 2 2 1 (lit< tt) (lit< tt) (λ e. absurd (cc)) in
    record { few = lit≤ tt; each = (first, (first_back, (second, (second_back, tt)))); ordered = refl }

-- the hops over a link from a place and from its router are the same
abbrev SameHop : ℕ → ℕ → Type 0
SameHop v l = hops (network_of line) 3 (v + 1) l ≡ option_map (renamed (λ n. n + 1)) (graph_hops row 2 v l)

-- the hops of the line from a router, of a link that is its first one or its second one
abbrev line_hop : ℕ → Bool → Bool → Option (ℕ × ℕ)
line_hop v first second = option_and_then (across (network_of line) 3 v)
    (cond first (Some (record { name = codes "l1"; a = 1; b = 2; cost = 1; latency_a = 5; latency_b = 5; up = true }))
    (cond second (Some (record { name = codes "l2"; a = 2; b = 3; cost = 1; latency_a = 5; latency_b = 5; up = true })) None))

-- and those of the row from a place
abbrev row_hop : Option Step → Option (ℕ × ℕ)
row_hop found = option_map (renamed (λ n. n + 1)) (option_and_then (taken row.through 2) found)

first_hop : (a b : Bool) → line_hop 1 a b ≡ row_hop (cond a (Some (step 0 1 1)) None)
first_hop true b = refl
first_hop false true = refl
first_hop false false = refl

middle_hop : (a b : Bool) → line_hop 2 a b ≡ row_hop (cond a (Some (step 1 1 0)) (cond b (Some (step 1 2 2)) None))
middle_hop true b = refl
middle_hop false true = refl
middle_hop false false = refl

last_hop : (l : ℕ) (a b : Bool) → eqb 1 l ≡ a → eqb 2 l ≡ b → line_hop 3 a b ≡ row_hop (cond b (Some (step 2 2 1)) None)
last_hop l true true e f = let one = eqb-true 1 l e in let two = eqb-true 2 l f in absurd (omega (arith, one, two))
last_hop l true false e f = refl
last_hop l false true e f = refl
last_hop l false false e f = refl

same_hop : (v l : ℕ) → v < 3 → SameHop v l
same_hop zero l h = first_hop (eqb 1 l) (eqb 2 l)
same_hop (suc zero) l h = middle_hop (eqb 1 l) (eqb 2 l)
same_hop (suc (suc zero)) l h = last_hop l (eqb 1 l) (eqb 2 l) refl refl
same_hop (suc (suc (suc v))) l h = absurd (omega arith)

pub row_mirrors_line : Mirrors 3 (λ v. v + 1) (graph_hops row 2) (hops (network_of line) 3)
row_mirrors_line = record {
  hop = same_hop;
  stays = λ v l h few is. (hop_is row 2 v l h row_is is).to;
  apart = λ u v a b e. omega arith;
}
