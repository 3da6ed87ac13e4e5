use Rattle.std.proofs.Common.{◌≡◌, ◌<◌, List, [], length, sym, ap, ◌∙◌, arith}
use Rattle.std.proofs.lemmas.List.{get_or_read}
use Rattle.session_mux.specs.declared.sessions.Session.{Session}
use Rattle.session_mux.specs.declared.sessions.Session.TheVariants as session
use Rattle.session_mux.specs.Completion.{session_at, session_events, rest_len, events_held}
use Rattle.session_mux.proofs.TableLaws.{held_quiet, from_zero}
use Rattle.session_mux.proofs.tables.SessionTable.len.Goals as goal

pub returns-clause-rest : goal.returns-clause-rest
returns-clause-rest c = λ quiet.
    let xs : List Session = c.self.inside.all.items in
    let within : c.args.session < length xs = omega (arith, c.self.invariant.0, c.ranges.session) in
    let there : c.index.result.now ≡ session_at xs c.args.session = get_or_read xs c.args.session c.index.result.now within c.index.ensures session.Unopened in
    let none : session_events c.args.session c.index.result.now ≡ [] =
    ap (session_events c.args.session) there ∙ sym (from_zero c.args.session (session_at xs c.args.session)) ∙ held_quiet 0 xs (ap (events_held 0) c.self.view_is ∙ quiet) c.args.session
    in
    let rest = c.len.ensures.rest c.args.session none in
    (rest.0 ∙ ap rest_len there ∙ ap (λ (ys : List Session). rest_len (session_at ys c.args.session)) c.self.view_is, rest.1)
