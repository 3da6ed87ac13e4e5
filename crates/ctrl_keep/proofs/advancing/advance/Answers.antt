use Rattle.std.proofs.Common.{◌≡◌, inl, Bool, refl, sym, ap, ◌∙◌, subst}
use Rattle.ziti_outside.specs.Images.{Image}
use Rattle.ziti_outside.proofs.MomentLaws.{Leaves-weaker}
use Rattle.row_codec.specs.Batches.{batch_between}
use Rattle.ctrl_core.specs.KeptFormat.{kept_format}
use Rattle.ctrl_core.specs.Changes.{led}
use Rattle.ctrl_core.specs.KeptState.{Cored}
use Rattle.ctrl_keep.specs.KeptController.{machine_with}
use Rattle.ctrl_keep.specs.Faults.{KeptOrFull}
use Rattle.ctrl_keep.proofs.KeptStates.{batch_form, batch_changes, kept_leads, still_opens}
use Rattle.ctrl_keep.proofs.AdvancedPlans.{next_of, valid_next, some_changes, step_last, can_advance, step_still, step_next, advance_either, advance_next, keeps_next, fails_with_room, advance_fails, keeps_still, same_fault, behind_kept, quiet_stops, step_full}
use Rattle.ctrl_keep.proofs.FollowedSteps.{follows_still, follows_kept, gate_moved}
use Rattle.ctrl_keep.proofs.advancing.advance.Goals as goal

pub keep-kept-requires-clause-batch : goal.keep-kept-requires-clause-batch
keep-kept-requires-clause-batch g c =
    let can = can_advance c.args.planned c.args.core.now c.args.store.now c.as_slice.result.now c.is_empty.result c.serial.result c.requires.planned c.as_slice.ensures c.is_empty.ensures c.if-is_empty.false c.serial.ensures c.if-serial-eq-LAST_SERIAL.false in
    batch_form kept_format c.args.core.now.state (next_of c.args.planned c.args.core.now.state) c.args.planned.batch can.keeps.valid (valid_next c.args.planned c.args.core.now c.args.store.now can) can.leads.batch

pub keep-kept-requires-clause-changes : goal.keep-kept-requires-clause-changes
keep-kept-requires-clause-changes g c =
    let can = can_advance c.args.planned c.args.core.now c.args.store.now c.as_slice.result.now c.is_empty.result c.serial.result c.requires.planned c.as_slice.ensures c.is_empty.ensures c.if-is_empty.false c.serial.ensures c.if-serial-eq-LAST_SERIAL.false in
    batch_changes kept_format c.args.core.now.state (next_of c.args.planned c.args.core.now.state) c.args.store.now.rows c.args.planned.batch can.keeps.valid (valid_next c.args.planned c.args.core.now c.args.store.now can) tt tt can.keeps.rows can.leads.batch can.changes

pub keep-kept-requires-clause-leads : goal.keep-kept-requires-clause-leads
keep-kept-requires-clause-leads g c =
    let can = can_advance c.args.planned c.args.core.now c.args.store.now c.as_slice.result.now c.is_empty.result c.serial.result c.requires.planned c.as_slice.ensures c.is_empty.ensures c.if-is_empty.false c.serial.ensures c.if-serial-eq-LAST_SERIAL.false in
    kept_leads c.args.store.now c.args.core.now.state (led c.args.planned c.args.core.now.state) c.args.planned.batch can.keeps.format can.keeps.valid
    (valid_next c.args.planned c.args.core.now c.args.store.now can) can.keeps.rows can.leads.batch can.changes

pub returns-in_err-reply-in-Ok-true-clause-behind : goal.returns-in_err-reply-in-Ok-true-clause-behind
returns-in_err-reply-in-Ok-true-clause-behind g c = λ none spent told image m.
    let kept = subst (λ (b : Bool). KeptOrFull c.args.planned.batch c.args.store.now c.keep-kept.new.store c.args.desk.now c.keep-kept.new.desk b) c.in-Ok-true.field-0-test c.in-Ok-true.ensures.kept in
    behind_kept c.args.planned c.args.core.now c.args.store.now c.keep-kept.new.store (g.D.Desk.seen c.keep-kept.new.desk).reads (g.D.Desk.stopped c.keep-kept.new.desk).images
    (can_advance c.args.planned c.args.core.now c.args.store.now c.as_slice.result.now c.is_empty.result c.serial.result c.requires.planned c.as_slice.ensures c.is_empty.ensures c.if-is_empty.false c.serial.ensures c.if-serial-eq-LAST_SERIAL.false) kept.0 kept.1 (λ fresh. c.keep-kept.ensures.stands fresh told) image m

pub returns-in_err-reply-in-Ok-true-clause-stops : goal.returns-in_err-reply-in-Ok-true-clause-stops
returns-in_err-reply-in-Ok-true-clause-stops g c = λ told.
    let kept = subst (λ (b : Bool). KeptOrFull c.args.planned.batch c.args.store.now c.keep-kept.new.store c.args.desk.now c.keep-kept.new.desk b) c.in-Ok-true.field-0-test c.in-Ok-true.ensures.kept in
    Leaves-weaker _ (c.keep-kept.ensures.stops told) (advance_either c.args.planned c.args.core.now c.args.store.now (can_advance c.args.planned c.args.core.now c.args.store.now c.as_slice.result.now c.is_empty.result c.serial.result c.requires.planned c.as_slice.ensures c.is_empty.ensures c.if-is_empty.false c.serial.ensures c.if-serial-eq-LAST_SERIAL.false) kept.0)

pub returns-in-Err-clause-fault : goal.returns-in-Err-clause-fault
returns-in-Err-clause-fault g c =
    advance_fails c.args.planned.batch c.args.core.now c.args.store.now c.keep-kept.new.store c.is_spent.result c.args.desk.now c.keep-kept.new.desk c.in-Err.fault c.requires.planned.keeps
    c.is_spent.ensures c.in-Err.ensures.fault

pub returns-in-Err-clause-keeps : goal.returns-in-Err-clause-keeps
returns-in-Err-clause-keeps g c = λ fresh.
    keeps_still c.args.planned.batch c.args.core.now c.args.store.now c.keep-kept.new.store c.args.desk.now c.keep-kept.new.desk c.in-Err.fault c.requires.planned.keeps c.in-Err.ensures.fault
    (sym c.is_spent.ensures ∙ fresh)

pub returns-in-Err-clause-behind : goal.returns-in-Err-clause-behind
returns-in-Err-clause-behind g c = λ none spent told image m.
    advance_next c.args.planned c.args.core.now c.args.store.now (can_advance c.args.planned c.args.core.now c.args.store.now c.as_slice.result.now c.is_empty.result c.serial.result c.requires.planned c.as_slice.ensures c.is_empty.ensures c.if-is_empty.false c.serial.ensures c.if-serial-eq-LAST_SERIAL.false)
    (fails_with_room c.args.planned.batch c.args.store.now c.keep-kept.new.store c.args.desk.now c.keep-kept.new.desk c.in-Err.fault c.in-Err.ensures.fault) image
    (c.keep-kept.ensures.behind (same_fault _ c.keep-kept.result c.in-Err.fault _ c.in-Err.is none) (sym c.is_spent.ensures ∙ spent) told image m)

pub returns-in-Err-clause-stops : goal.returns-in-Err-clause-stops
returns-in-Err-clause-stops g c = λ told.
    Leaves-weaker _ (c.keep-kept.ensures.stops told) (advance_either c.args.planned c.args.core.now c.args.store.now (can_advance c.args.planned c.args.core.now c.args.store.now c.as_slice.result.now c.is_empty.result c.serial.result c.requires.planned c.as_slice.ensures c.is_empty.ensures c.if-is_empty.false c.serial.ensures c.if-serial-eq-LAST_SERIAL.false)
    (fails_with_room c.args.planned.batch c.args.store.now c.keep-kept.new.store c.args.desk.now c.keep-kept.new.desk c.in-Err.fault c.in-Err.ensures.fault))

pub returns-in_ok-reply-in-Ok-true-clause-step : goal.returns-in_ok-reply-in-Ok-true-clause-step
returns-in_ok-reply-in-Ok-true-clause-step g c =
    let kept = subst (λ (b : Bool). KeptOrFull c.args.planned.batch c.args.store.now c.keep-kept.new.store c.args.desk.now c.keep-kept.new.desk b) c.in-Ok-true.field-0-test c.in-Ok-true.ensures.kept in
    step_next c.args.planned c.args.core.now c.apply.new.self c.args.store.now c.keep-kept.new.store c.in_ok-reply-in-Ok-true.reply
    (can_advance c.args.planned c.args.core.now c.args.store.now c.as_slice.result.now c.is_empty.result c.serial.result c.requires.planned c.as_slice.ensures c.is_empty.ensures c.if-is_empty.false c.serial.ensures c.if-serial-eq-LAST_SERIAL.false) kept.0
    c.in_ok-reply-in-Ok-true.ensures.reply c.in_ok-reply-in-Ok-true.ensures.next kept.1

pub returns-in_ok-reply-in-Ok-true-clause-still : goal.returns-in_ok-reply-in-Ok-true-clause-still
returns-in_ok-reply-in-Ok-true-clause-still g c = λ same.
    let kept = subst (λ (b : Bool). KeptOrFull c.args.planned.batch c.args.store.now c.keep-kept.new.store c.args.desk.now c.keep-kept.new.desk b) c.in-Ok-true.field-0-test c.in-Ok-true.ensures.kept in
    absurd (gate_moved c.args.core.now.state c.apply.new.self.state c.args.planned.batch c.args.store.now c.keep-kept.new.store kept.1 same)

pub returns-in_ok-reply-in-Ok-true-clause-follows : goal.returns-in_ok-reply-in-Ok-true-clause-follows
returns-in_ok-reply-in-Ok-true-clause-follows g c = λ told.
    let kept = subst (λ (b : Bool). KeptOrFull c.args.planned.batch c.args.store.now c.keep-kept.new.store c.args.desk.now c.keep-kept.new.desk b) c.in-Ok-true.field-0-test c.in-Ok-true.ensures.kept in
    let next : c.apply.new.self.state ≡ next_of c.args.planned c.args.core.now.state = ap (λ (n : Cored). n.state) c.in_ok-reply-in-Ok-true.ensures.next in
    follows_kept c.args.core.now.state c.apply.new.self.state c.args.planned.batch c.args.store.now c.keep-kept.new.store _ _
    ((can_advance c.args.planned c.args.core.now c.args.store.now c.as_slice.result.now c.is_empty.result c.serial.result c.requires.planned c.as_slice.ensures c.is_empty.ensures c.if-is_empty.false c.serial.ensures c.if-serial-eq-LAST_SERIAL.false).leads.batch ∙ ap (batch_between kept_format c.args.core.now.state) (sym next)) kept.1 (c.in-Ok-true.ensures.added c.in-Ok-true.field-0-test told)

pub returns-in_ok-reply-in-Ok-true-clause-keeps : goal.returns-in_ok-reply-in-Ok-true-clause-keeps
returns-in_ok-reply-in-Ok-true-clause-keeps g c = λ fresh.
    let kept = subst (λ (b : Bool). KeptOrFull c.args.planned.batch c.args.store.now c.keep-kept.new.store c.args.desk.now c.keep-kept.new.desk b) c.in-Ok-true.field-0-test c.in-Ok-true.ensures.kept in
    keeps_next c.args.planned c.args.core.now c.apply.new.self c.args.store.now c.keep-kept.new.store (can_advance c.args.planned c.args.core.now c.args.store.now c.as_slice.result.now c.is_empty.result c.serial.result c.requires.planned c.as_slice.ensures c.is_empty.ensures c.if-is_empty.false c.serial.ensures c.if-serial-eq-LAST_SERIAL.false) c.in_ok-reply-in-Ok-true.ensures.next kept.1

pub returns-in_ok-reply-in-Ok-true-clause-stops : goal.returns-in_ok-reply-in-Ok-true-clause-stops
returns-in_ok-reply-in-Ok-true-clause-stops g c = λ told.
    let kept = subst (λ (b : Bool). KeptOrFull c.args.planned.batch c.args.store.now c.keep-kept.new.store c.args.desk.now c.keep-kept.new.desk b) c.in-Ok-true.field-0-test c.in-Ok-true.ensures.kept in
    Leaves-weaker _ (c.keep-kept.ensures.stops told) (advance_either c.args.planned c.args.core.now c.args.store.now (can_advance c.args.planned c.args.core.now c.args.store.now c.as_slice.result.now c.is_empty.result c.serial.result c.requires.planned c.as_slice.ensures c.is_empty.ensures c.if-is_empty.false c.serial.ensures c.if-serial-eq-LAST_SERIAL.false) kept.0)

pub returns-in-Ok-false-clause-step : goal.returns-in-Ok-false-clause-step
returns-in-Ok-false-clause-step g c =
    let full = subst (λ (b : Bool). KeptOrFull c.args.planned.batch c.args.store.now c.keep-kept.new.store c.args.desk.now c.keep-kept.new.desk b) c.in-Ok-false.field-0-test c.in-Ok-false.ensures.kept in
    step_full c.args.planned c.args.core.now c.args.store.now c.keep-kept.new.store (can_advance c.args.planned c.args.core.now c.args.store.now c.as_slice.result.now c.is_empty.result c.serial.result c.requires.planned c.as_slice.ensures c.is_empty.ensures c.if-is_empty.false c.serial.ensures c.if-serial-eq-LAST_SERIAL.false) full.0 full.1

pub returns-in-Ok-false-clause-stops : goal.returns-in-Ok-false-clause-stops
returns-in-Ok-false-clause-stops g c = λ told.
    let full = subst (λ (b : Bool). KeptOrFull c.args.planned.batch c.args.store.now c.keep-kept.new.store c.args.desk.now c.keep-kept.new.desk b) c.in-Ok-false.field-0-test c.in-Ok-false.ensures.kept in
    quiet_stops c.args.desk.now c.keep-kept.new.desk _ full.2
    (λ (image : Image) m. inl (still_opens c.args.core.now c.args.store.now (g.D.Desk.seen c.args.desk.now).reads (g.D.Desk.stopped c.args.desk.now).images c.requires.planned.keeps (c.requires.stands told) image m))

pub returns-then-is_empty-clause-step : goal.returns-then-is_empty-clause-step
returns-then-is_empty-clause-step g c =
    step_still c.args.planned c.args.core.now c.args.store.now c.as_slice.result.now c.is_empty.result c.as_slice.ensures c.is_empty.ensures c.if-is_empty.true

pub returns-then-is_empty-clause-stops : goal.returns-then-is_empty-clause-stops
returns-then-is_empty-clause-stops g c = λ told.
    quiet_stops c.args.desk.now c.args.desk.now _ refl
    (λ (image : Image) m. inl (still_opens c.args.core.now c.args.store.now (g.D.Desk.seen c.args.desk.now).reads (g.D.Desk.stopped c.args.desk.now).images c.requires.planned.keeps (c.requires.stands told) image m))

pub returns-in-Ok-false-clause-still : goal.returns-in-Ok-false-clause-still
returns-in-Ok-false-clause-still g c = λ same.
    let full = subst (λ (b : Bool). KeptOrFull c.args.planned.batch c.args.store.now c.keep-kept.new.store c.args.desk.now c.keep-kept.new.desk b) c.in-Ok-false.field-0-test c.in-Ok-false.ensures.kept in
    full.2

pub returns-in-Ok-false-clause-follows : goal.returns-in-Ok-false-clause-follows
returns-in-Ok-false-clause-follows g c = λ told.
    let full = subst (λ (b : Bool). KeptOrFull c.args.planned.batch c.args.store.now c.keep-kept.new.store c.args.desk.now c.keep-kept.new.desk b) c.in-Ok-false.field-0-test c.in-Ok-false.ensures.kept in
    follows_still _ _ _ _ (ap (machine_with c.args.core.now.state) full.1) (ap (λ d. (g.D.Desk.seen d).reads) full.2)

pub returns-then-is_empty-clause-follows : goal.returns-then-is_empty-clause-follows
returns-then-is_empty-clause-follows g c = λ told. follows_still _ _ _ _ refl refl

pub returns-then-is_empty-clause-still : goal.returns-then-is_empty-clause-still
returns-then-is_empty-clause-still g c = λ _. refl

pub returns-then-serial-eq-LAST_SERIAL-clause-stops : goal.returns-then-serial-eq-LAST_SERIAL-clause-stops
returns-then-serial-eq-LAST_SERIAL-clause-stops g c = λ told.
    quiet_stops c.args.desk.now c.args.desk.now _ refl
    (λ (image : Image) m. inl (still_opens c.args.core.now c.args.store.now (g.D.Desk.seen c.args.desk.now).reads (g.D.Desk.stopped c.args.desk.now).images c.requires.planned.keeps (c.requires.stands told) image m))

pub returns-then-serial-eq-LAST_SERIAL-clause-step : goal.returns-then-serial-eq-LAST_SERIAL-clause-step
returns-then-serial-eq-LAST_SERIAL-clause-step g c =
    step_last c.args.planned c.args.core.now c.args.store.now c.serial.result
    (some_changes c.args.planned c.as_slice.result.now c.is_empty.result c.as_slice.ensures c.is_empty.ensures c.if-is_empty.false) c.serial.ensures c.if-serial-eq-LAST_SERIAL.true
