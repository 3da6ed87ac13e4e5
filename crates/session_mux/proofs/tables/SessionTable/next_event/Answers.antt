use Rattle.std.proofs.Common.{◌≡◌, ◌<◌, List, length, set, subst, ap, ◌∙◌, arith}
use Rattle.session_mux.specs.declared.sessions.Session.{Session}
use Rattle.session_mux.specs.declared.sessions.Session.TheVariants as session
use Rattle.std.proofs.lemmas.List.{get_or_read}
use Rattle.std.proofs.lemmas.Result.{err_from_is_err_and}
use Rattle.session_mux.specs.SessionSteps.{SessionsGive, GivesEvent, HasWhole}
use Rattle.session_mux.specs.Completion.{session_at}
use Rattle.session_mux.proofs.TableLaws.{gives_set}
use Rattle.session_mux.proofs.tables.SessionTable.next_event.Goals as goal

pub returns-clause-ok : goal.returns-clause-ok
returns-clause-ok c =
    let within : c.self.inside.ready < length c.self.inside.all.items = omega (arith, c.self.invariant.0, c.self.ranges) in
    let there : c.index_mut.result.now ≡ session_at c.self.inside.all.items c.self.inside.ready = get_or_read c.self.inside.all.items c.self.inside.ready c.index_mut.result.now within c.index_mut.ensures.value session.Unopened in
    let gives = subst (λ (x : Session). GivesEvent c.self.inside.ready x c.next_event.new.self c.in_ok-event.event) there c.in_ok-event.ensures.ok in
    subst (λ (xs : List Session). SessionsGive xs (set c.self.inside.all.items c.self.inside.ready c.next_event.new.self) c.in_ok-event.event) c.self.view_is
    (gives_set c.self.inside.ready c.next_event.new.self c.self.inside.all.items c.in_ok-event.event within c.self.invariant.1 gives)

pub returns-in_err-event-clause-memory : goal.returns-in_err-event-clause-memory
returns-in_err-event-clause-memory c =
    let within : c.self.inside.ready < length c.self.inside.all.items = omega (arith, c.self.invariant.0, c.self.ranges) in
    let there : c.index_mut.result.now ≡ session_at c.self.inside.all.items c.self.inside.ready = get_or_read c.self.inside.all.items c.self.inside.ready c.index_mut.result.now within c.index_mut.ensures.value session.Unopened in
    let same = there ∙ ap (λ (xs : List Session). session_at xs c.self.inside.ready) c.self.view_is in
    rw (err_from_is_err_and c.from_residual.result c.from_residual.ensures.1).1 (c.self.inside.ready, subst HasWhole same c.in_err-event.ensures.memory)
