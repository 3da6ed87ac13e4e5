-- That the potentials of the worked rows are the least costs.
use Rattle.std.proofs.Common.{◌≡◌, ℕ, Some, sym, subst, zero, suc, ◌<◌, ◌≤◌, ◌⊎◌, inl, inr, List, [], ◌∷◌, refl, arith, lit<, lit≤}
use Rattle.ctrl_model.specs.Claims.{no_path}
use Rattle.path_certificate.specs.Graphs.{IsGraph, potential, graph_hops, IsPath}
use Rattle.path_certificate.specs.WorkedGraphs.{row, blocked_row, square}
use Rattle.path_search.specs.Supports.{Paid}
use Rattle.path_search.specs.Searches.{IsLeast, IsFirst}
use Rattle.std.proofs.lemmas.Option.{same_Some}
use Rattle.path_certificate.proofs.TightChains.{IsTight}
use Rattle.path_certificate.proofs.WorkedRows.{joins, row_is}
use Rattle.path_search.proofs.LeastCosts.{supported_least}
use Rattle.path_search.proofs.FirstChains.{IsFirstHop, first_path}

blocked_row_is : IsGraph blocked_row.through blocked_row.steps
blocked_row_is = record { few = lit≤ tt; each = row_is.each; ordered = refl }

row_within : (v : ℕ) → potential (42 ∷ 21 ∷ 0 ∷ []) v ≤ no_path
row_within zero = lit≤ tt
row_within (suc zero) = lit≤ tt
row_within (suc (suc zero)) = lit≤ tt
row_within (suc (suc (suc v))) = lit≤ tt

row_paid : (v : ℕ) → v < 3 → potential (42 ∷ 21 ∷ 0 ∷ []) v < no_path → (v ≡ 2) ⊎ Paid row 2 (42 ∷ 21 ∷ 0 ∷ []) v
row_paid zero place there = inr (record { link = 1; hop = (1, 21); is = refl; enough = lit≤ tt })
row_paid (suc zero) place there = inr (record { link = 2; hop = (2, 21); is = refl; enough = lit≤ tt })
row_paid (suc (suc zero)) place there = inl refl
row_paid (suc (suc (suc v))) place there = absurd (omega arith)

pub row_least : IsLeast row 2 (42 ∷ 21 ∷ 0 ∷ [])
row_least =
    supported_least row 2 (42 ∷ 21 ∷ 0 ∷ []) row_is
    (record { places = refl; within = row_within; zero_at_target = refl; paid = row_paid }) refl

blocked_within : (v : ℕ) → potential (no_path ∷ 21 ∷ 0 ∷ []) v ≤ no_path
blocked_within zero = lit≤ tt
blocked_within (suc zero) = lit≤ tt
blocked_within (suc (suc zero)) = lit≤ tt
blocked_within (suc (suc (suc v))) = lit≤ tt

blocked_paid : (v : ℕ) → v < 3 → potential (no_path ∷ 21 ∷ 0 ∷ []) v < no_path
    → (v ≡ 2) ⊎ Paid blocked_row 2 (no_path ∷ 21 ∷ 0 ∷ []) v
blocked_paid zero place there = absurd (omega arith)
blocked_paid (suc zero) place there = inr (record { link = 2; hop = (2, 21); is = refl; enough = lit≤ tt })
blocked_paid (suc (suc zero)) place there = inl refl
blocked_paid (suc (suc (suc v))) place there = absurd (omega arith)

pub blocked_row_least : IsLeast blocked_row 2 (no_path ∷ 21 ∷ 0 ∷ [])
blocked_row_least =
    supported_least blocked_row 2 (no_path ∷ 21 ∷ 0 ∷ []) blocked_row_is
    (record { places = refl; within = blocked_within; zero_at_target = refl; paid = blocked_paid }) refl

pub blocked_row_no_path : (links : List ℕ) → IsPath blocked_row 2 0 links → ⊥
blocked_row_no_path = (blocked_row_least.each 0 (lit< tt)).none refl

-- ---- the square

square_is : IsGraph square.through square.steps
square_is =
    let a = joins 4 0 1 1 (lit< tt) (lit< tt) (λ e. absurd (cc)) in
    let b = joins 4 0 2 2 (lit< tt) (lit< tt) (λ e. absurd (cc)) in
    let c = joins 4 1 1 0 (lit< tt) (lit< tt) (λ e. absurd (cc)) in
    let d = joins 4 1 4 3 (lit< tt) (lit< tt) (λ e. absurd (cc)) in
    let e = joins 4 2 2 0 (lit< tt) (lit< tt) (λ e. absurd (cc)) in
    let f = joins 4 2 3 3 (lit< tt) (lit< tt) (λ e. absurd (cc)) in
    let g = joins 4 3 3 2 (lit< tt) (lit< tt) (λ e. absurd (cc)) in
    let h = joins 4 3 4 1 (lit< tt) (lit< tt) (λ e. absurd (cc)) in
    record { few = lit≤ tt; each = (a, (b, (c, (d, (e, (f, (g, (h, tt)))))))); ordered = refl }

abbrev square_costs : List ℕ
square_costs = 42 ∷ 21 ∷ 21 ∷ 0 ∷ []

square_within : (v : ℕ) → potential square_costs v ≤ no_path
square_within zero = lit≤ tt
square_within (suc zero) = lit≤ tt
square_within (suc (suc zero)) = lit≤ tt
square_within (suc (suc (suc zero))) = lit≤ tt
square_within (suc (suc (suc (suc v)))) = lit≤ tt

square_paid : (v : ℕ) → v < 4 → potential square_costs v < no_path → (v ≡ 3) ⊎ Paid square 3 square_costs v
square_paid zero place there = inr (record { link = 1; hop = (1, 21); is = refl; enough = lit≤ tt })
square_paid (suc zero) place there = inr (record { link = 4; hop = (3, 21); is = refl; enough = lit≤ tt })
square_paid (suc (suc zero)) place there = inr (record { link = 3; hop = (3, 21); is = refl; enough = lit≤ tt })
square_paid (suc (suc (suc zero))) place there = inl refl
square_paid (suc (suc (suc (suc v)))) place there = absurd (omega arith)

square_least : IsLeast square 3 square_costs
square_least =
    supported_least square 3 square_costs square_is
    (record { places = refl; within = square_within; zero_at_target = refl; paid = square_paid }) refl

-- no lesser link than 1 leaves place 0, and the one lesser link than 4 that leaves place 1 leads back
first_at_0 : (m : ℕ) (k : ℕ × ℕ) → m < 1 → graph_hops square 3 0 m ≡ Some k → IsTight square_costs 0 k → ⊥
first_at_0 zero k h is falls = absurd (cc)
first_at_0 (suc m) k h is falls = absurd (omega arith)

first_at_1 : (m : ℕ) (k : ℕ × ℕ) → m < 4 → graph_hops square 3 1 m ≡ Some k → IsTight square_costs 1 k → ⊥
first_at_1 zero k h is falls = absurd (cc)
first_at_1 (suc zero) k h is falls =
    let back : IsTight square_costs 1 (0, 21) = subst (λ (x : ℕ × ℕ). IsTight square_costs 1 x) (sym (same_Some (0, 21) k is)) falls in
    omega (arith, back.falls)
first_at_1 (suc (suc zero)) k h is falls = absurd (cc)
first_at_1 (suc (suc (suc zero))) k h is falls = absurd (cc)
first_at_1 (suc (suc (suc (suc m)))) k h is falls = absurd (omega arith)

pub square_first : IsFirst square 3 square_costs 0 (1 ∷ 4 ∷ [])
square_first =
    let at_0 : IsFirstHop (graph_hops square 3) square_costs 0 1 (1, 21) =
    record { is = refl; falls = record { falls = refl; there = lit< tt }; first = first_at_0 } in
    let at_1 : IsFirstHop (graph_hops square 3) square_costs 1 4 (3, 21) =
    record { is = refl; falls = record { falls = refl; there = lit< tt }; first = first_at_1 } in
    first_path square 3 square_costs 0 (1 ∷ 4 ∷ []) square_is (lit< tt) (lit< tt) square_least ((1, 21), at_0, ((3, 21), at_1, refl))
