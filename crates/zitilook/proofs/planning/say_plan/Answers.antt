use Rattle.std.proofs.Common.{◌≡◌, ℕ, List, [], sym, ◌∙◌, subst}
use Rattle.std.proofs.lemmas.Bool.{iff_false}
use Rattle.ziti_outside.specs.Told.{Took, TookFront}
use Rattle.change_lines.specs.PlanTexts.{plan_text}
use Rattle.zitilook.specs.declared.status.Status.TheVariants.{Done, ReadFault, WriteFault, DiskFault}
use Rattle.zitilook.proofs.FolderLaws.{noted_ends, said_ends, unsaid_ends}
use Rattle.zitilook.proofs.PlanningLaws.{plan_cut, plan_none, plan_whole}
use Rattle.zitilook.proofs.planning.say_plan.Goals as goal

pub returns-then-is_empty-clause-says : goal.returns-then-is_empty-clause-says
returns-then-is_empty-clause-says g c = λ s input is.
    let e = c.end_with.ensures in
    plan_none s input c.end_with.result (g.D.Desk.seen c.args.desk.now) (g.D.Desk.seen c.end_with.new.desk) e.status
    (sym is.told ∙ c.is_empty.ensures.0 c.if-is_empty.true) e.others.replies e.noted

pub returns-then-is_empty-clause-ends : goal.returns-then-is_empty-clause-ends
returns-then-is_empty-clause-ends g c =
    let e = c.end_with.ensures in
    let is : c.end_with.result ≡ Done = e.status in
    noted_ends g.D.Desk.seen g.D.Desk.stopped c.args.desk.now c.end_with.new.desk c.end_with.result
    (λ (w : c.end_with.result ≡ WriteFault). absurd cc) (λ (d : c.end_with.result ≡ DiskFault). absurd cc) e.others e.stops

pub returns-then-is_empty-clause-read : goal.returns-then-is_empty-clause-read
returns-then-is_empty-clause-read g c = λ r. let no : Done ≡ ReadFault = sym c.end_with.ensures.status ∙ r in absurd cc

pub returns-in-Ok-clause-says : goal.returns-in-Ok-clause-says
returns-in-Ok-clause-says g c = λ s input is.
    let o = c.say.ensures.others in
    let e = c.end_with-in-Ok.ensures in
    let seen = g.D.Desk.seen in
    let some : plan_text s input ≡ [] → ⊥ = λ none. iff_false c.is_empty.ensures c.if-is_empty.false (is.told ∙ none) in
    plan_whole s input c.status_of.result c.end_with-in-Ok.result (seen c.args.desk.now) (seen c.say.new.self) (seen c.end_with-in-Ok.new.desk) e.status
    some (c.status_of.ensures.decides s input is some)
    (subst (λ (text : List ℕ). Took (seen c.args.desk.now).said (seen c.say.new.self).said text) (c.as_slice.ensures ∙ is.told) c.in-Ok.ensures.taken) e.others.replies o.notes o.failed_notes e.noted

pub returns-in-Ok-clause-ends : goal.returns-in-Ok-clause-ends
returns-in-Ok-clause-ends g c =
    let e = c.end_with-in-Ok.ensures in
    let f = c.status_of.ensures.faultless in
    said_ends g.D.Desk.seen g.D.Desk.stopped c.args.desk.now c.say.new.self c.end_with-in-Ok.new.desk c.end_with-in-Ok.result c.as_slice.result.now
    (λ w. f.written (sym e.status ∙ w)) (λ d. f.undisked (sym e.status ∙ d)) c.say.ensures.others c.say.ensures.stops c.in-Ok.ensures.cause.calm e.others e.stops

pub returns-in-Ok-clause-read : goal.returns-in-Ok-clause-read
returns-in-Ok-clause-read g c = λ r. c.status_of.ensures.faultless.read (sym c.end_with-in-Ok.ensures.status ∙ r)

pub returns-in-Err-clause-says : goal.returns-in-Err-clause-says
returns-in-Err-clause-says g c = λ s input is.
    let o = c.say.ensures.others in
    let e = c.end_with-in-Err.ensures in
    let seen = g.D.Desk.seen in
    plan_cut s input c.end_with-in-Err.result (seen c.args.desk.now) (seen c.say.new.self) (seen c.end_with-in-Err.new.desk) e.status
    (λ none. iff_false c.is_empty.ensures c.if-is_empty.false (is.told ∙ none))
    (subst (λ (text : List ℕ). TookFront (seen c.args.desk.now).said (seen c.say.new.self).said text) (c.as_slice.ensures ∙ is.told) c.in-Err.ensures.taken) e.others.replies o.notes o.failed_notes e.noted

pub returns-in-Err-clause-ends : goal.returns-in-Err-clause-ends
returns-in-Err-clause-ends g c =
    let e = c.end_with-in-Err.ensures in
    unsaid_ends g.D.Desk.seen g.D.Desk.stopped c.args.desk.now c.say.new.self c.end_with-in-Err.new.desk c.end_with-in-Err.result c.as_slice.result.now
    e.status c.say.ensures.others c.say.ensures.stops c.in-Err.ensures.cause.failed e.others e.stops

pub returns-in-Err-clause-read : goal.returns-in-Err-clause-read
returns-in-Err-clause-read g c = λ r. let no : WriteFault ≡ ReadFault = sym c.end_with-in-Err.ensures.status ∙ r in absurd cc
