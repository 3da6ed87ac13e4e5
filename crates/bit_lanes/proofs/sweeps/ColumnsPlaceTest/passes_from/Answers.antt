use Rattle.std.proofs.Common.{◌≡◌, ℕ, ◌+◌, ◌-◌, ◌%◌, ◌^◌, ◌<◌, false, not, cond, ltb, leb, ap, ◌∙◌, arith}
use Rattle.std.proofs.lemmas.Bool.Decides.{nat_tests}
use Rattle.std.specs.Simd.Lanes.{top}
use Rattle.bit_lanes.specs.Lanes.{together}
use Rattle.bit_lanes.specs.Words.{is_at_most}
use Rattle.bit_lanes.proofs.LaneLemmas.{zipped, mapped, selected, same_lanes, compared, mask_tells}
use Rattle.bit_lanes.proofs.sweeps.ColumnsPlaceTest.passes_from.Goals as goal

-- a sum that would wrap gives the greatest number
saturates : (cost right : ℕ) → cost < 2 ^ 64 → right < 2 ^ 64
    → (cost + cond (ltb right (2 ^ 64 - 1 - cost)) right (2 ^ 64 - 1 - cost)) % 2 ^ 64 ≡ together cost right
saturates cost right c r = grind (arith, nat_tests)

less_or_not : (a b : ℕ) → ltb a b ≡ not (leb b a)
less_or_not a b = grind (arith, nat_tests)

over : (left cost right : ℕ) → cost < 2 ^ 64 → right < 2 ^ 64
    → top 63 (cond (ltb ((cost + cond (top 63 (cond (ltb right (2 ^ 64 - 1 - cost)) (2 ^ 64 - 1) 0)) right (2 ^ 64 - 1 - cost)) % 2 ^ 64) left) (2 ^ 64 - 1) 0)
    ≡ not (leb left (together cost right))
over left cost right c r =
    compared _
    ∙ (ap (λ b. ltb ((cost + cond b right (2 ^ 64 - 1 - cost)) % 2 ^ 64) left) (compared (ltb right (2 ^ 64 - 1 - cost)))
    ∙ (ap (λ s. ltb s left) (saturates cost right c r) ∙ less_or_not (together cost right) left))

pub returns : goal.returns
returns c =
    let left = c.vector_at-left.ensures.vector in
    let cost = c.vector_at-cost.ensures.vector in
    let right = c.vector_at-right.ensures.vector in
    let rest = mapped _ 0 0 8 _ _ cost in
    let sum = zipped _ 0 0 0 8 _ _ _ _ cost (selected 8 _ _ _ _ _ _ (mapped _ 0 false 8 _ _ (zipped _ 0 0 0 8 _ _ _ _ right rest)) right rest) in
    mask_tells (is_at_most c.args.self.now.left.now c.args.self.now.cost.now c.args.self.now.right.now) c.args.place _
    (same_lanes false 8 _ _ _ (mapped _ 0 false 8 _ _ (zipped _ 0 0 0 8 _ _ _ _ sum left))
    (λ i p. over _ _ _ (c.vector_at-cost.ensures.fit _) (c.vector_at-right.ensures.fit _)))
