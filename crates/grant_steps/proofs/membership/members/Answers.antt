use Rattle.std.proofs.Common.{◌≡◌, rules}
use Rattle.ctrl_model.specs.Matches.{matches}
use Rattle.ctrl_model.specs.Numbered.{numbers}
use Rattle.entity_store.specs.EntityTables.{entities}
use Rattle.grant_steps.proofs.MemberLaws.{marked_members}
use Rattle.grant_steps.proofs.membership.members.Goals as goal

pub returns : goal.returns
returns c =
    let rows = entities c.args.kind c.args.known.now in
    let listed : c.as_slice.result.now ≡ numbers rows = search rules in
    rw (c.of.ensures, c.in_ok-found.ensures, c.as_slice-2.ensures.value, c.in_ok-marks.ensures, listed) (marked_members (λ e. matches c.args.side.now c.args.semantic e) rows)
