use Rattle.ctrl_core.proofs.TakenLaws.{plain_told}
use Rattle.ctrl_core.proofs.row_flaws.plain_flaw_in.Goals as goal

pub returns : goal.returns
returns c =
    plain_told c.args.kind c.args.coming c.args.name.now c.args.attributes.now c.args.stores.now c.plain_flaw.result c.requires.kind c.requires.kept.held c.requires.sound
    c.plain_flaw.ensures.identity c.plain_flaw.ensures.service
