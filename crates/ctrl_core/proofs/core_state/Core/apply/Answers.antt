use Rattle.std.proofs.Common.{sym, ◌∙◌}
use Rattle.std.proofs.lemmas.Bool.{true≢false}
use Rattle.ctrl_core.proofs.KeptRows.{raised_next, still_next}
use Rattle.ctrl_core.proofs.core_state.Core.apply.Goals as goal
use Rattle.ctrl_core.proofs.core_state.Core.apply.Goals.{then-not-is_empty, else-not-is_empty}

pub returns-clause-next : goal.returns-clause-next
returns-clause-next c =
    let s = c.args.self.now.state in
    let led = c.in_ok-reply.ensures in
    elim c.if-not-is_empty.branch [
      | then-not-is_empty w ↦
          w.self-is
          ∙ raised_next c.args.planned s c.go_on.new.self w.count_on.new.self led.was_valid led.same_serial c.requires.can
          (λ none. true≢false (sym (c.is_empty.ensures.1 none) ∙ w.if-not-is_empty.true)) led.next w.count_on.ensures
      | else-not-is_empty w ↦ w.self-is ∙ still_next c.args.planned s c.go_on.new.self led.was_valid c.requires.can (c.is_empty.ensures.0 w.if-not-is_empty.false) led.next
    ]
