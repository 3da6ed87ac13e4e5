use Rattle.std.proofs.Common.{◌≡◌, Ok, Err, refl, sym, ◌∙◌}
use Rattle.frame_lines.specs.LineReading.{said_by}
use Rattle.frame_lines.proofs.TurnLaws.{said_short, says, ends}
use Rattle.frame_lines.proofs.encoding.take_line.Goals as goal

pub put_frame-requires : goal.put_frame-requires
put_frame-requires c =
    let is : said_by c.args.line.now ≡ Ok c.in-Ok.said = sym c.in_ok-said.ensures.said ∙ c.in-Ok.is in
    said_short c.args.line.now c.in-Ok.said is

pub returns-in_ok-put_frame-in-Ok : goal.returns-in_ok-put_frame-in-Ok
returns-in_ok-put_frame-in-Ok c =
    let is : said_by c.args.line.now ≡ Ok c.in-Ok.said = sym c.in_ok-said.ensures.said ∙ c.in-Ok.is in
    says c.args.next c.args.line.now c.args.out.now.items c.put_frame.new.out.items c.in-Ok.said c.in_ok-put_frame-in-Ok.field-0
    (sym c.passes.ensures ∙ c.if-passes.false) is c.in_ok-put_frame-in-Ok.ensures.bytes c.in_ok-put_frame-in-Ok.ensures.next

pub returns-in-Err : goal.returns-in-Err
returns-in-Err c =
    let is : said_by c.args.line.now ≡ Err c.in-Err.cause = sym c.in_ok-said.ensures.said ∙ c.in-Err.is in
    ends c.args.next c.args.line.now c.args.out.now.items c.args.out.now.items c.in-Err.cause (sym c.passes.ensures ∙ c.if-passes.false) is refl
