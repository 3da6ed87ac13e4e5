use Rattle.std.proofs.Common.{◌≡◌, ℕ, List, [], ◌∷◌, sym, ap, ◌∙◌, arith}
use Rattle.frame_lines.specs.TextLines.{lines_of}
use Rattle.answer_lines.specs.AnswerParts.{before_mark}
use Rattle.answer_lines.proofs.PartLaws.{no_mark, at_mark}
use Rattle.answer_lines.proofs.RequestLaws.{turn_on, turn_off}
use Rattle.answer_lines.proofs.LoopLaws.{starts, goes, ends, fails}
use Rattle.answer_lines.proofs.pairing.answer_lines.Goals as goal

pub lines-init : goal.lines-init
lines-init c = record {
  so_far = starts (before_mark (lines_of c.args.text.now)) c.args.out.now.items c.args.replies.now.items;
  few = omega arith;
}

pub lines-preserved : goal.lines-preserved
lines-preserved c =
    let line = c.cut_line.result.0.now in
    let behind : List (List ℕ) = lines_of c.cut_line.result.1.now in
    let cut = c.cut_line.ensures in
    let is : before_mark (lines_of c.lines.rest.now) ≡ line ∷ before_mark behind =
    ap before_mark cut.lines ∙ (no_mark line behind (sym c.is_mark.ensures ∙ c.if-is_mark.false)).0 in
    let turned = turn_on c.lines.number c.lines.next line c.lines.out.items c.take_line.new.out.items c.lines.replies.items c.take_line.new.replies.items _
    c.in-Ok.turn c.in-Ok.is c.in_ok-turn.ensures in
    record {
      so_far = goes (before_mark (lines_of c.args.text.now)) (before_mark (lines_of c.lines.rest.now)) (before_mark behind) line c.lines.number c.lines.next
          c.args.out.now.items c.lines.out.items c.take_line.new.out.items c.args.replies.now.items c.lines.replies.items c.take_line.new.replies.items
          c.lines.ok c.both-ok.result c.in-Ok.turn c.lines.invariant.so_far is turned c.both-ok.ensures;
      few = omega (arith, cut.shorter, c.lines.invariant.few);
    }

pub returns-then-is_mark : goal.returns-then-is_mark
returns-then-is_mark c =
    let line = c.cut_line.result.0.now in
    let behind : List (List ℕ) = lines_of c.cut_line.result.1.now in
    let none : before_mark (lines_of c.lines.rest.now) ≡ [] =
    ap before_mark c.cut_line.ensures.lines ∙ (at_mark line behind (sym c.is_mark.ensures ∙ c.if-is_mark.true)).0 in
    ends (before_mark (lines_of c.args.text.now)) (before_mark (lines_of c.lines.rest.now)) c.lines.number c.lines.next c.args.out.now.items c.lines.out.items
    c.args.replies.now.items c.lines.replies.items c.lines.ok c.lines.invariant.so_far none

pub returns-in-Err : goal.returns-in-Err
returns-in-Err c =
    let line = c.cut_line.result.0.now in
    let behind : List (List ℕ) = lines_of c.cut_line.result.1.now in
    let cut = c.cut_line.ensures in
    let is : before_mark (lines_of c.lines.rest.now) ≡ line ∷ before_mark behind =
    ap before_mark cut.lines ∙ (no_mark line behind (sym c.is_mark.ensures ∙ c.if-is_mark.false)).0 in
    let turned = turn_off c.lines.number c.lines.next line c.lines.out.items c.take_line.new.out.items c.lines.replies.items c.take_line.new.replies.items _
    c.in-Err.cause c.in-Err.is c.in_ok-turn.ensures in
    fails (before_mark (lines_of c.args.text.now)) (before_mark (lines_of c.lines.rest.now)) (before_mark behind) line c.lines.number c.lines.next
    c.args.out.now.items c.lines.out.items c.args.replies.now.items c.lines.replies.items c.lines.ok c.in-Err.cause c.lines.invariant.so_far is turned
