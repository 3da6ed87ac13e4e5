use Rattle.std.proofs.Common.{◌≡◌, ℕ, ◌+◌, ◌<◌, List, length, ap, subst, ◌∙◌, arith}
use Rattle.std.proofs.lemmas.Result.{err_from_is_err_and}
use Rattle.session_mux.specs.declared.sessions.Form.TheVariants.{Plain}
use Rattle.session_mux.specs.Arrivals.{Data}
use Rattle.session_mux.specs.Completion.{Standing, sessions_after}
use Rattle.session_mux.specs.MuxSteps.{MayWantMemory}
use Rattle.session_mux.proofs.StepLaws.{plain_step, plain_moved_wants, plain_wants}
use Rattle.session_mux.proofs.muxing.Mux.step_plain.Goals as goal

pub returns-clause-ok : goal.returns-clause-ok
returns-clause-ok c =
    let v : Standing = record { form = c.self.inside.form; input = c.self.inside.input; before = c.self.inside.before; sessions = c.self.inside.sessions } in
    let within : 0 < length v.sessions = omega (arith, c.in_ok-feed.ensures.numbers) in
    let more : length v.input ≡ 0 → ⊥ = λ none. omega (arith, none, c.len.ensures, c.if-len-eq0.false) in
    let form : v.form ≡ Plain = ap (λ (x : Standing). x.form) c.self.view_is ∙ c.requires.form in
    let after : c.feed.new.self ≡ sessions_after (Data 0 v.input) v.sessions = c.in_ok-feed.ensures.ok ∙ ap (λ (b : List ℕ). sessions_after (Data 0 b) v.sessions) c.as_slice.ensures in (
      plain_step v c.args.self.now c.clear.new.self (v.before + c.len-2.result) c.feed.new.self c.self.view_is c.requires.form within c.requires.quiet
          c.clear.ensures (ap (λ (n : ℕ). v.before + n) c.len-2.ensures) after,
      omega (arith, ap length c.clear.ensures, c.len.ensures, c.if-len-eq0.false, ap (λ (x : Standing). length x.input) c.self.view_is),
      plain_moved_wants v c.args.self.now v.form c.clear.new.self (v.before + c.len-2.result) c.feed.new.self c.self.view_is within more after form form,
    )

pub returns-in_err-feed-clause-memory : goal.returns-in_err-feed-clause-memory
returns-in_err-feed-clause-memory c =
    let v : Standing = record { form = c.self.inside.form; input = c.self.inside.input; before = c.self.inside.before; sessions = c.self.inside.sessions } in
    let more : length v.input ≡ 0 → ⊥ = λ none. omega (arith, none, c.len.ensures, c.if-len-eq0.false) in
    rw (err_from_is_err_and c.from_residual.result c.from_residual.ensures.1).1 (subst MayWantMemory c.self.view_is (plain_wants v (ap (λ (x : Standing). x.form) c.self.view_is ∙ c.requires.form) more c.in_err-feed.ensures.memory))

pub feed-requires-clause-room : goal.feed-requires-clause-room
feed-requires-clause-room c = omega (arith, c.self.invariant.1 0, c.self.invariant.0, ap length c.as_slice.ensures)
