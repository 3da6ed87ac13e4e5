use Rattle.std.proofs.Common.{◌+◌, ◌-◌, ◌==◌, length, take, drop, sym, ◌∙◌, arith, rules, tests}
use Rattle.std.proofs.lemmas.List.Splits.{length-slice_split}
use Rattle.std.proofs.lemmas.Iterator.{YieldsList-from_slice}
use Rattle.std.proofs.lemmas.Iterator.Search.{position_from_yields_List}
use Rattle.ctrl_model.proofs.CutLaws.{cut_found, cut_nowhere}
use Rattle.ctrl_model.proofs.addresses.cut_at.Goals as goal

pub returns-in-Some-clause-parts : goal.returns-in-Some-clause-parts
returns-in-Some-clause-parts c =
    let at = position_from_yields_List (λ b. b == c.args.at) _ _ _ c.position.ensures.ran (YieldsList-from_slice c.args.bytes.now cc) (λ x b q k. search (rules, tests)) in
    cut_found (λ b. b == c.args.at) c.args.bytes.now c.in-Some.place (sym at ∙ c.in-Some.is)

pub returns-in-None-clause-parts : goal.returns-in-None-clause-parts
returns-in-None-clause-parts c =
    let at = position_from_yields_List (λ b. b == c.args.at) _ _ _ c.position.ensures.ran (YieldsList-from_slice c.args.bytes.now cc) (λ x b q k. search (rules, tests)) in
    cut_nowhere (λ b. b == c.args.at) c.args.bytes.now (sym at ∙ c.in-None.is)

pub returns-in-Some-clause-more : goal.returns-in-Some-clause-more
returns-in-Some-clause-more c = let some = length-slice_split (λ b. b == c.args.at) (take (length c.args.bytes.now - (c.in-Some.place + 1)) (drop (c.in-Some.place + 1) c.args.bytes.now)) in omega (arith, some)
