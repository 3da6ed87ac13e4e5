use Rattle.std.proofs.Common.{◌≡◌, ◌+◌, ◌-◌, ◌==◌, length, take, drop, codes, bytes_eq, sym, ap, ◌∙◌, rules, tests}
use Rattle.std.specs.Option.{option_map_or}
use Rattle.std.proofs.lemmas.List.{take_rest}
use Rattle.std.proofs.lemmas.Iterator.{YieldsList-from_slice}
use Rattle.std.proofs.lemmas.Iterator.Search.{position_from_yields_List}
use Rattle.body_fields.specs.PlaceMarks.{has_no_star}
use Rattle.body_fields.proofs.intercept_fields.is_unmarked.Goals as goal

pub returns-in-Some : goal.returns-in-Some
returns-in-Some c =
    let at = position_from_yields_List (λ b. b == 47) _ _ _ c.position.ensures.ran (YieldsList-from_slice c.args.bytes.now cc) (λ x b q k. search (rules, tests)) in
    let behind : c.eq.result ≡ bytes_eq (take (length c.args.bytes.now - (c.in-Some.place + 1)) (drop (c.in-Some.place + 1) c.args.bytes.now)) (codes "32") = search rules in
    behind ∙ ap (λ l. bytes_eq l (codes "32")) (take_rest c.args.bytes.now (c.in-Some.place + 1))
    ∙ ap (λ o. option_map_or (λ place. bytes_eq (drop (place + 1) c.args.bytes.now) (codes "32")) o (has_no_star c.args.bytes.now)) (sym c.in-Some.is ∙ at)

pub returns-in-None : goal.returns-in-None
returns-in-None c =
    let at = position_from_yields_List (λ b. b == 47) _ _ _ c.position.ensures.ran (YieldsList-from_slice c.args.bytes.now cc) (λ x b q k. search (rules, tests)) in
    c.has_no_star.ensures
    ∙ ap (λ o. option_map_or (λ place. bytes_eq (drop (place + 1) c.args.bytes.now) (codes "32")) o (has_no_star c.args.bytes.now)) (sym c.in-None.is ∙ at)
