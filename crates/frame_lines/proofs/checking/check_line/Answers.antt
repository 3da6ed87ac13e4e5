use Rattle.std.proofs.Common.{◌≡◌, Ok, Err, sym, ◌∙◌}
use Rattle.frame_lines.specs.LineReading.{said_by}
use Rattle.frame_lines.proofs.CheckLaws.{checks_passed, checks_said, checks_fault}
use Rattle.frame_lines.proofs.checking.check_line.Goals as goal

pub returns-then-passes : goal.returns-then-passes
returns-then-passes c = checks_passed c.args.number c.args.line.now c.args.out.now.items (sym c.passes.ensures ∙ c.if-passes.true)

pub returns-in-Ok : goal.returns-in-Ok
returns-in-Ok c =
    let is : said_by c.args.line.now ≡ Ok c.in-Ok.said = sym c.in_ok-said.ensures.said ∙ c.in-Ok.is in
    checks_said c.args.number c.args.line.now c.args.out.now.items c.in-Ok.said (sym c.passes.ensures ∙ c.if-passes.false) is

pub returns-in_ok-put_fault-in-Err : goal.returns-in_ok-put_fault-in-Err
returns-in_ok-put_fault-in-Err c =
    let is : said_by c.args.line.now ≡ Err c.in-Err.cause = sym c.in_ok-said.ensures.said ∙ c.in-Err.is in
    checks_fault c.args.number c.args.line.now c.args.out.now.items c.put_fault.new.out.items c.in-Err.cause
    (sym c.passes.ensures ∙ c.if-passes.false) is c.in_ok-put_fault-in-Err.ensures
