use Rattle.std.proofs.Common.{List, subst}
use Rattle.std.proofs.lemmas.Result.{err_from_is_err_and}
use Rattle.session_mux.specs.declared.sessions.Session.{Session}
use Rattle.session_mux.specs.Completion.{Standing}
use Rattle.session_mux.specs.SessionSteps.{SessionsGive}
use Rattle.session_mux.specs.MuxSteps.{MayWantMemory}
use Rattle.session_mux.proofs.StepLaws.{held_step, held_wants, at_most_given, alone_given}
use Rattle.session_mux.proofs.muxing.Mux.held_event.Goals as goal

pub returns-clause-ok : goal.returns-clause-ok
returns-clause-ok c =
    let v : Standing = record { form = c.self.inside.form; input = c.self.inside.input; before = c.self.inside.before; sessions = c.self.inside.sessions } in
    held_step v c.args.self.now c.next_event.new.self c.in_ok-event.event c.self.view_is c.in_ok-event.ensures.ok

pub returns-in_err-event-clause-memory : goal.returns-in_err-event-clause-memory
returns-in_err-event-clause-memory c =
    let v : Standing = record { form = c.self.inside.form; input = c.self.inside.input; before = c.self.inside.before; sessions = c.self.inside.sessions } in
    rw (err_from_is_err_and c.from_residual.result c.from_residual.ensures.1).1 (subst MayWantMemory c.self.view_is (held_wants v c.self.invariant.2 c.in_err-event.ensures.memory))

pub invariant_of-self-2 : goal.invariant_of-self-2
invariant_of-self-2 c =
    let xs : List Session = c.self.inside.sessions in
    let ys : List Session = c.next_event.new.self in
    let gives : SessionsGive xs ys c.in_ok-event.event = c.in_ok-event.ensures.ok in (
      c.self.invariant.0,
      at_most_given xs ys c.in_ok-event.event c.self.inside.before gives c.self.invariant.1,
      λ is. alone_given xs ys c.in_ok-event.event gives (c.self.invariant.2 is),
    )
