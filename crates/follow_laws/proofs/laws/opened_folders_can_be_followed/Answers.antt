use Rattle.follow_core.proofs.FollowedStores.{holds_state, sought_first}
use Rattle.follow_laws.proofs.laws.opened_folders_can_be_followed.Goals as goal

pub returns : goal.returns
returns c = record {
  holds = λ k h. holds_state k.stored k.state h.format h.valid h.rows;
  sought = λ f records none. sought_first f records none;
}
