use Rattle.std.proofs.Common.{sym, ap, ◌∙◌, true≢false}
use Rattle.std.proofs.lemmas.Result.{IfOk-weaker}
use Rattle.slot_reading.specs.BatchRows.{rows_after, rows_in}
use Rattle.change_plans.proofs.CarriedLaws.{answered_last, answered_next, answered_still, both_ok, goes_next, rising}
use Rattle.change_plans.proofs.carrying.advance.Goals as goal

pub change_all-requires : goal.change_all-requires
change_all-requires c = rising c.args.core.now (rows_in c.args.rows.now.entries) c.requires.goes

pub returns-then-is_empty-clause-answered : goal.returns-then-is_empty-clause-answered
returns-then-is_empty-clause-answered c =
    answered_still c.args.planned c.args.core.now.state c.requires.goes.valid c.requires.can (c.is_empty.ensures.0 c.if-is_empty.true)

pub returns-then-serial-eq-LAST_SERIAL-clause-answered : goal.returns-then-serial-eq-LAST_SERIAL-clause-answered
returns-then-serial-eq-LAST_SERIAL-clause-answered c =
    answered_last c.args.planned c.args.core.now.state c.requires.goes.valid c.requires.can
    (λ none. true≢false (sym (c.is_empty.ensures.1 none) ∙ c.if-is_empty.false)) (sym c.serial.ensures ∙ c.if-serial-eq-LAST_SERIAL.true)

pub returns-in-Ok-clause-answered : goal.returns-in-Ok-clause-answered
returns-in-Ok-clause-answered c =
    both_ok c.apply.result _ _ _
    (λ r said moved. answered_next c.args.planned c.args.core.now.state c.apply.new.self r (λ last. c.if-serial-eq-LAST_SERIAL.false (c.serial.ensures ∙ last)) said moved)
    c.apply.ensures.reply c.apply.ensures.next

pub returns-in-Ok-clause-goes : goal.returns-in-Ok-clause-goes
returns-in-Ok-clause-goes c =
    IfOk-weaker c.apply.result _ _
    (λ r moved. goes_next c.args.planned c.args.core.now c.apply.new.self (rows_in c.args.rows.now.entries) (rows_in c.change_all.new.rows.entries) c.requires.goes c.requires.can
    (λ last. c.if-serial-eq-LAST_SERIAL.false (c.serial.ensures ∙ last)) moved
    (c.in-Ok.ensures.rows ∙ ap (rows_after (rows_in c.args.rows.now.entries)) c.as_slice.ensures))
    c.apply.ensures.next
