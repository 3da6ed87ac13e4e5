use Rattle.std.proofs.Common.{◌++◌, List, ℕ, drop, ◌∙◌, ap, take-append-drop}
use Rattle.desk_base.proofs.stopping.Keeping.front.Goals as goal

pub returns-clause-front : goal.returns-clause-front
returns-clause-front c =
    let rest = drop c.count.result c.args.bytes.now in
    (rest, ap (λ (l : List ℕ). l ++ rest) c.split_at.ensures.front ∙ take-append-drop c.count.result c.args.bytes.now)
