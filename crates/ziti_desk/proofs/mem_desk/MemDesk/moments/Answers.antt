use Rattle.std.proofs.Common.{◌∙◌, sym}
use Rattle.desk_base.proofs.MemLaws.{events_count}
use Rattle.ziti_desk.proofs.mem_desk.MemDesk.moments.Goals as goal

pub returns : goal.returns
returns c =
    let log = c.args.self.now.log in
    c.len.ensures ∙ log.calls.ok.0 ∙ sym (events_count log.calls.items c.args.self.now.said.items log.written.items)
