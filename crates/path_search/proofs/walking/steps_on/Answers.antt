use Rattle.std.proofs.Common.{rules, of_calls, ◌≡◌, true, sym, ap, ◌∙◌, List, drop, length, nat_lt, arith}
use Rattle.std.proofs.lemmas.Fn.{always_returns_same}
use Rattle.std.proofs.lemmas.List.Sums.{prefix_len_is}
use Rattle.std.specs.List.{prefix_len}
use Rattle.path_certificate.specs.declared.graph.Step.{Step}
use Rattle.path_certificate.specs.Graphs.{IsStep, is_ordered}
use Rattle.path_search.proofs.PlaceSteps.{before_rises, each_behind}
use Rattle.path_search.proofs.walking.steps_on.Goals as goal

pub returns-clause-rest : goal.returns-clause-rest
returns-clause-rest c =
    let v = c.args.place in
    let xs = c.steps-steps.result.now in
    let none : Step = record { from = 0; to = 0; link = 0; cost = 0 } in
    let ordered : is_ordered xs ≡ true = rw c.steps-steps.ensures.steps c.steps-steps.ensures.graph.ordered in
    let point = c.partition_point-before.ensures.partitioned (λ s. nat_lt s.from v) (always_returns_same _ _ _ (λ a r f k. search (rules, of_calls)))
    (λ i j d le l e. before_rises v xs i j d ordered le l e) in
    let many = prefix_len_is (λ s. nat_lt s.from v) xs c.partition_point-before.result none c.partition_point-before.ensures.bound
    (λ k l. point.0 k none (omega arith) l) (λ l. point.1 c.partition_point-before.result none (omega arith) l) in
    rw c.split_at.ensures.back (ap (λ n. drop n xs) (sym many) ∙ ap (λ (ys : List Step). drop (prefix_len (λ s. nat_lt s.from v) ys) ys) c.steps-steps.ensures.steps)

pub returns-clause-each : goal.returns-clause-each
returns-clause-each c =
    let each = c.steps-steps.ensures.graph.each in
    rw c.split_at.ensures.back (each_behind (IsStep (length c.args.graph.now.through)) c.partition_point-before.result c.steps-steps.result.now (rw c.steps-steps.ensures.steps each))
