use Rattle.std.proofs.Common.{◌+◌, ◌∙◌, arith}
use Rattle.ctrl_model.specs.declared.kinds.Relation.TheVariants.{Dial, Bind, IdentityRouter, ServiceRouter}
use Rattle.show_commands.proofs.ShowLaws.{pairs_of, few_pairs}
use Rattle.show_commands.proofs.showing.count_grants.Goals as goal

pub overflow_add-result-3 : goal.overflow_add-result-3
overflow_add-result-3 c =
    let dial = few_pairs Dial c.args.shown.now c.requires.state c.pairs.result c.requires.shows c.pairs.ensures.counts c.pairs.ensures.number in
    let bind = few_pairs Bind c.args.shown.now c.requires.state c.pairs-2.result c.requires.shows c.pairs-2.ensures.counts c.pairs-2.ensures.number in
    let identity = few_pairs IdentityRouter c.args.shown.now c.requires.state c.pairs-3.result c.requires.shows c.pairs-3.ensures.counts c.pairs-3.ensures.number in
    let service = few_pairs ServiceRouter c.args.shown.now c.requires.state c.pairs-4.result c.requires.shows c.pairs-4.ensures.counts c.pairs-4.ensures.number in
    omega (arith, dial, bind, identity, service)

pub overflow_add-result-2 : goal.overflow_add-result-2
overflow_add-result-2 c =
    let dial = few_pairs Dial c.args.shown.now c.requires.state c.pairs.result c.requires.shows c.pairs.ensures.counts c.pairs.ensures.number in
    let bind = few_pairs Bind c.args.shown.now c.requires.state c.pairs-2.result c.requires.shows c.pairs-2.ensures.counts c.pairs-2.ensures.number in
    let identity = few_pairs IdentityRouter c.args.shown.now c.requires.state c.pairs-3.result c.requires.shows c.pairs-3.ensures.counts c.pairs-3.ensures.number in
    omega (arith, dial, bind, identity)

pub overflow_add-result : goal.overflow_add-result
overflow_add-result c =
    let dial = few_pairs Dial c.args.shown.now c.requires.state c.pairs.result c.requires.shows c.pairs.ensures.counts c.pairs.ensures.number in
    let bind = few_pairs Bind c.args.shown.now c.requires.state c.pairs-2.result c.requires.shows c.pairs-2.ensures.counts c.pairs-2.ensures.number in
    omega (arith, dial, bind)

pub returns : goal.returns
returns c = λ s shows i. (c.pairs.ensures.number ∙ pairs_of Dial c.args.shown.now s shows c.pairs.ensures.counts) i
    + (c.pairs-2.ensures.number ∙ pairs_of Bind c.args.shown.now s shows c.pairs-2.ensures.counts) i
    + (c.pairs-3.ensures.number ∙ pairs_of IdentityRouter c.args.shown.now s shows c.pairs-3.ensures.counts) i
    + (c.pairs-4.ensures.number ∙ pairs_of ServiceRouter c.args.shown.now s shows c.pairs-4.ensures.counts) i
