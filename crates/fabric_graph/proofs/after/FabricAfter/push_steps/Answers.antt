use Rattle.std.proofs.Common.{sym}
use Rattle.ctrl_model.proofs.TableLaws.{each_passes-at}
use Rattle.fabric_graph.specs.FabricRules.{is_fit}
use Rattle.fabric_graph.proofs.after.FabricAfter.push_steps.Goals as goal

pub push_link-requires-clause-fit : goal.push_link-requires-clause-fit
push_link-requires-clause-fit c = each_passes-at is_fit c.args.self.now.links.rows c.args.no.0 c.in-Some.link c.requires.fit (sym c.in-Some.ensures)
