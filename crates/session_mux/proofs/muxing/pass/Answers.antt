use Rattle.std.proofs.Common.{refl, sym}
use Rattle.session_mux.proofs.RecordLaws.{open_passes, data_passes, close_passes}
use Rattle.session_mux.proofs.muxing.pass.Goals as goal

pub returns-in-Opens : goal.returns-in-Opens
returns-in-Opens c = open_passes c.args.stages.now _ c.args.bytes.now c.in-Opens.session c.in-Opens.role c.in-Opens.len c.in-Opens.ensures (sym c.if-is_unopened.ensures) refl

pub returns-in-Brings : goal.returns-in-Brings
returns-in-Brings c = data_passes c.args.stages.now _ c.args.bytes.now c.in-Brings.session c.in-Brings.len c.in-Brings.ensures (sym c.if-is_opened.ensures) refl

pub returns-in-Closes : goal.returns-in-Closes
returns-in-Closes c = close_passes c.args.stages.now _ c.args.bytes.now c.in-Closes.session c.in-Closes.ensures (sym c.if-is_opened-2.ensures) refl
