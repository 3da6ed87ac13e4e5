use Rattle.std.proofs.Common.{◌≡◌, ℕ, get_or, sym, ap, ◌∙◌}
use Rattle.run_notes.specs.Inputs.{held_or_closed}
use Rattle.run_notes.proofs.NoteLaws.{rest_held, some_held}
use Rattle.run_notes.proofs.telling.rest_of.Goals as goal

pub returns-then-held-eq0 : goal.returns-then-held-eq0
returns-then-held-eq0 c =
    let closed = c.args.sessions.now.closed in
    let none : c.session_rest-held.result ≡ 0 = c.if-held-eq0.true in
    c.closed.ensures
    ∙ ap (λ (n : ℕ). held_or_closed n (get_or closed c.args.session 0)) (sym none)
    ∙ rest_held c.args.mux.now closed c.args.session c.session_rest-held.result c.requires.moved (c.session_rest-held.ensures.unfinished c.requires.quiet)

pub returns : goal.returns
returns c =
    let closed = c.args.sessions.now.closed in
    some_held c.session_rest-held.result (get_or closed c.args.session 0) c.if-held-eq0.false
    ∙ rest_held c.args.mux.now closed c.args.session c.session_rest-held.result c.requires.moved (c.session_rest-held.ensures.unfinished c.requires.quiet)
