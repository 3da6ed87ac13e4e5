use Rattle.std.proofs.Common.{◌==◌, sym, ◌∙◌, subst, arith}
use Rattle.std.proofs.lemmas.List.Sums.{count_by-le-length}
use Rattle.ctrl_model.specs.Membership.{Among}
use Rattle.ctrl_model.proofs.Members.{is_among-from}
use Rattle.ctrl_model.proofs.NumberedLaws.{among_present}
use Rattle.grant_denorm.specs.PairCounts.{count_of}
use Rattle.core_stores.specs.OpenCircuits.{SetsEach}
use Rattle.core_stores.proofs.LoadLaws.{counted_anew}
use Rattle.core_stores.proofs.loads.count_open.Goals as goal

pub set_each-requires-clause-there : goal.set_each-requires-clause-there
set_each-requires-clause-there c = λ n there.
    sym (among_present c.args.stores.now.terminators.terminators.rows n)
    ∙ is_among-from n _ (subst (λ ns. Among n ns) (c.as_slice.ensures ∙ c.in_ok-numbers.ensures.all) there)

pub set_each-requires-clause-most : goal.set_each-requires-clause-most
set_each-requires-clause-most c = λ n.
    let counted = c.in_ok-loads.ensures.tally n in
    let least = count_by-le-length (λ row. row.1.terminator == n) c.args.stores.now.circuits.circuits.rows in
    let few = c.in_ok-loads.ensures.few in
    omega (arith, counted, least, few)

pub returns-clause-ok : goal.returns-clause-ok
returns-clause-ok c =
    let st = c.args.stores.now in
    let loads = c.in_ok-loads.loads in
    counted_anew st (λ n. count_of loads n 0) c.set_each.new.terminators c.in_ok-numbers.ensures.keeps c.in_ok-loads.ensures.tally
    (subst (λ ns. SetsEach (λ n. count_of loads n 0) ns st.terminators c.set_each.new.terminators) (c.as_slice.ensures ∙ c.in_ok-numbers.ensures.all) c.set_each.ensures)
