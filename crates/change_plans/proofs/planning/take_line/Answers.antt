use Rattle.std.proofs.Common.{◌≡◌, Ok, sym, ◌∙◌}
use Rattle.frame_lines.specs.LineReading.{said_by}
use Rattle.change_plans.proofs.PlanLaws.{goes_answered}
use Rattle.change_plans.proofs.planning.take_line.Goals as goal

pub returns-in_ok-planned-in-Ok-clause-turn : goal.returns-in_ok-planned-in-Ok-clause-turn
returns-in_ok-planned-in-Ok-clause-turn c =
    let is : said_by c.args.line.now ≡ Ok c.in-Ok.said = sym c.in_ok-said.ensures.said ∙ c.in-Ok.is in
    goes_answered c.args.number c.args.line.now c.in-Ok.said c.args.core.now.state c.plan_line-planned.new.core.state c.args.out.now.items
    c.plan_line-planned.new.out.items (sym c.passes.ensures ∙ c.if-passes.false) is c.in_ok-planned-in-Ok.ensures.answered
