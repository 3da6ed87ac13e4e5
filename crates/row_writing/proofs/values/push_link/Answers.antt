use Rattle.std.proofs.Common.{ℕ, List, [], ◌∷◌, ◌++◌}
use Rattle.std.proofs.lemmas.Result.{on_ok_weaker}
use Rattle.row_codec.specs.RowValues.{long, short, text, flag}
use Rattle.row_writing.proofs.SpellingLaws.{three_written}
use Rattle.row_writing.proofs.values.push_link.Goals as goal

pub returns : goal.returns
returns c =
    let a = c.args in
    let costs : List ℕ = short a.cost ++ (short a.latencies.0 ++ (short a.latencies.1 ++ flag a.up ∷ [])) in
    on_ok_weaker c.push_costs.result
    (λ e. three_written a.out.now.items (text a.name.now) (long a.ends.0.0 ++ long a.ends.1.0) costs _ _ _ c.in_ok-push_name.ensures c.in_ok-push_longs.ensures e)
    c.push_costs.ensures
