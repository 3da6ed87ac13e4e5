-- What showing counts has to prove: the pairs that have a count are those that are granted, and fit 64 bits.
use Rattle.std.proofs.Common.{◌≡◌, ℕ, ◌≤◌, List, length, arith}
use Rattle.std.proofs.lemmas.Nat.{mul-le}
use Rattle.ctrl_model.specs.declared.kinds.Relation.{Relation}
use Rattle.ctrl_model.specs.declared.kinds.Relation.TheVariants.{Dial, Bind, IdentityRouter, ServiceRouter}
use Rattle.ctrl_model.specs.State.{State}
use Rattle.ctrl_model.specs.Grants.{count, granted_pairs}
use Rattle.ctrl_model.specs.ValidState.{ValidState}
use Rattle.grant_denorm.specs.MovedCounts.{AreCountsOf}
use Rattle.grant_denorm.specs.PairCounts.{AreCounts}
use Rattle.grant_moves.specs.EntitySides.{left_rows, right_rows}
use Rattle.grant_moves.proofs.GrantedPairs.{pairs_are_granted, granted_at_most}
use Rattle.show_commands.specs.declared.shown_parts.Shown.{Shown}
use Rattle.show_commands.specs.ShownParts.{Shows, with_shown}
use Rattle.grant_moves.proofs.OrderedSides.{left_high, right_high, left_ordered, right_ordered, left_few, right_few}

-- the counts of a relation that are shown
abbrev pub shown_counts : Relation → Shown → List ((ℕ × ℕ) × ℕ)
shown_counts Dial p = p.dial.now
shown_counts Bind p = p.bind.now
shown_counts IdentityRouter p = p.identity_router.now
shown_counts ServiceRouter p = p.service_router.now

are_counts : (r : Relation) (p : Shown) (s : State) → Shows p s → AreCountsOf (count r (with_shown p s)) (shown_counts r p)
are_counts Dial p s shows = shows.dial
are_counts Bind p s shows = shows.bind
are_counts IdentityRouter p s shows = shows.identity_router
are_counts ServiceRouter p s shows = shows.service_router

-- the pairs that have a count are those that the relation grants
pub pairs_of : (r : Relation) (p : Shown) (s : State) → Shows p s → AreCounts (shown_counts r p) → length (shown_counts r p) ≡ granted_pairs r (with_shown p s)
pairs_of r p s shows counts =
    let t = with_shown p s in
    pairs_are_granted r t (left_high r t) (right_high r t) (shown_counts r p) counts (are_counts r p s shows) (left_ordered r t shows.valid) (right_ordered r t shows.valid)

-- a relation grants so few that the pairs of four of them fit 64 bits
few_granted : (r : Relation) (s : State) → ValidState s → granted_pairs r s ≤ 4194304
few_granted r s valid =
    let most = granted_at_most r s in
    let all = mul-le (length (left_rows r s)) (length (right_rows r s)) 2048 2048 (left_few r s valid) (right_few r s valid) in
    omega (arith, most, all)

pub few_pairs : (r : Relation) (p : Shown) (s : State) (n : ℕ) → Shows p s → AreCounts (shown_counts r p) → n ≡ length (shown_counts r p) → n ≤ 4194304
few_pairs r p s n shows counts is = let same = pairs_of r p s shows counts in let few = few_granted r (with_shown p s) shows.valid in omega (arith, is, same, few)
