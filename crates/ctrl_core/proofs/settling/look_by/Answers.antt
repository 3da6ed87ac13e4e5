use Rattle.std.proofs.Common.{sym, ◌∙◌}
use Rattle.core_stores.specs.StoredState.{state_of}
use Rattle.model_laws.proofs.RevokedLaws.{AreGranted-from}
use Rattle.ctrl_core.specs.Changes.{after_change}
use Rattle.core_stores.specs.ChangeParts.{circuit_part}
use Rattle.ctrl_core.proofs.LookedCircuits.{no_part, some_part, still_of, still_routed}
use Rattle.ctrl_core.proofs.StepLaws.{emptied_counted, without_pairs}
use Rattle.ctrl_core.proofs.settling.look_by.Goals as goal

pub returns-then-is_some : goal.returns-then-is_some
returns-then-is_some c =
    still_routed c.args.change.now c.args.stores.now (some_part _ c.of_circuits.result (circuit_part c.args.change.now) c.of_circuits.ensures ∙ sym c.is_some.ensures ∙ c.if-is_some.true) (AreGranted-from (state_of c.args.stores.now) (c.requires.granted c.if-not-granted.false))

pub returns-then-has_no_pair : goal.returns-then-has_no_pair
returns-then-has_no_pair c =
    let s = state_of c.args.stores.now in
    let t = after_change c.args.change.now s in
    let pairs = c.in_ok-pairs.pairs in
    without_pairs pairs s t (sym c.has_no_pair.ensures ∙ c.if-has_no_pair.true)
    (still_of c.args.change.now c.args.stores.now c.requires.can pairs (AreGranted-from s (c.requires.granted c.if-not-granted.false))
    (emptied_counted s t c.args.steps.now c.args.after.now pairs c.requires.steps c.requires.counts c.in_ok-pairs.ensures))

pub returns : goal.returns
returns c =
    let s = state_of c.args.stores.now in
    let t = after_change c.args.change.now s in
    let pairs = c.in_ok-pairs.pairs in (
      pairs,
      no_part (circuit_part c.args.change.now) (some_part _ c.of_circuits.result (circuit_part c.args.change.now) c.of_circuits.ensures ∙ sym c.is_some.ensures ∙ c.if-is_some.false),
      c.in_ok-looked.ensures,
      still_of c.args.change.now c.args.stores.now c.requires.can pairs (AreGranted-from s (c.requires.granted c.if-not-granted.false))
          (emptied_counted s t c.args.steps.now c.args.after.now pairs c.requires.steps c.requires.counts c.in_ok-pairs.ensures),
    )
