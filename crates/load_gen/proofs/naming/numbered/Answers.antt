use Rattle.std.proofs.Common.{◌≡◌, ◌++◌, ◌<◌, ◌^◌, true, decimal, Err, sym, ap, ◌∙◌, arith, rules, true≢false}
use Rattle.ctrl_model.specs.NameForm.{is_name}
use Rattle.load_gen.proofs.NumberedNames.{is_name-numbered}
use Rattle.load_gen.proofs.naming.numbered.Goals as goal

pub unreachable-requires : goal.unreachable-requires
unreachable-requires c =
    let small : c.args.number < 2 ^ 32 = omega arith in
    let text : c.as_bytes.result.now ≡ c.args.letter.now ++ decimal c.args.number = search rules in
    let name : is_name c.as_bytes.result.now ≡ true = ap is_name text ∙ is_name-numbered c.args.letter.now c.args.number small c.requires in
    true≢false (sym name ∙ c.of.ensures.bad.0 (c.in-Err-BadName.is ∙ ap Err c.in-Err-BadName.field-0-is))
