-- The parts of an explanation that keeps its limits.
use Rattle.std.proofs.Common.{◌≡◌, ◌≤◌, nat_le, ◌&&◌, true, length, leb-true}
use Rattle.std.proofs.lemmas.Bool.{and_parts}
use Rattle.std.specs.List.{list_all}
use Rattle.ctrl_model.specs.declared.claims.Explanation.{Explanation}
use Rattle.reply_codec.specs.ReplyLimits.{is_short_reach, is_short_claim}

pub record ClaimParts (claim : Explanation) : Type 0 where
  pub few_links : length claim.links ≤ 255
  pub few_routers : length claim.routers ≤ 256
  pub few_potentials : length claim.potentials ≤ 256
  pub potentials : list_all is_short_reach claim.potentials ≡ true

pub claim_parts : (claim : Explanation) → is_short_claim claim ≡ true → ClaimParts claim
claim_parts claim h =
    let routers = and_parts (nat_le (length claim.links) 255) (nat_le (length claim.routers) 256 && (nat_le (length claim.potentials) 256 && list_all is_short_reach claim.potentials)) h in
    let potentials = and_parts (nat_le (length claim.routers) 256) (nat_le (length claim.potentials) 256 && list_all is_short_reach claim.potentials) routers.1 in
    let each = and_parts (nat_le (length claim.potentials) 256) (list_all is_short_reach claim.potentials) potentials.1 in
    record {
      few_links = leb-true (length claim.links) 255 routers.0;
      few_routers = leb-true (length claim.routers) 256 potentials.0;
      few_potentials = leb-true (length claim.potentials) 256 each.0;
      potentials = each.1;
    }
