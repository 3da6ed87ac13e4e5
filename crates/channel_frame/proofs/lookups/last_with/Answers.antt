use Rattle.std.proofs.Common.{◌∙◌, rules, tests}
use Rattle.std.proofs.lemmas.Iterator.Adapters.{YieldsList-from_rev_slice}
use Rattle.std.proofs.lemmas.Iterator.Search.{find_from_yields_List}
use Rattle.channel_frame.specs.HeaderValues.{has_key}
use Rattle.channel_frame.proofs.LookupLaws.{find-reverse}
use Rattle.channel_frame.proofs.lookups.last_with.Goals as goal

pub returns : goal.returns
returns c =
    let key = c.args.key in
    let headers = c.args.headers.now in
    find_from_yields_List (has_key key) _ _ _ c.find.ensures.ran (YieldsList-from_rev_slice headers cc) (λ x b q k. search (rules, tests))
    ∙ find-reverse (has_key key) headers
