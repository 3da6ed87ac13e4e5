use Rattle.std.specs.Prelude.{nat_lt, Bool}
use Rattle.std.proofs.Common.{◌≡◌, ◌+◌, ℕ, sym, ap, ◌∙◌, arith}
use Rattle.std.proofs.lemmas.Bool.{lt-ltb, le-ltb}
use Rattle.session_mux.specs.Completion.{end_of}
use Rattle.run_notes.specs.Inputs.{rest_at}
use Rattle.run_notes.proofs.RestLaws.{any_at, any_more}
use Rattle.run_notes.proofs.telling.has_session_rest.Goals as goal

pub returns-then-rest_of-gt0 : goal.returns-then-rest_of-gt0
returns-then-rest_of-gt0 c =
    let left : ℕ → Bool = λ (s : ℕ). nat_lt 0 (rest_at (end_of c.args.mux.now) c.args.sessions.now.closed s) in
    let same : 0 + c.numbers.number ≡ c.numbers.number = omega arith in
    sym (any_at left 0 c.args.count c.numbers.number (omega (arith, c.numbers-test.true)) (ap left same ∙ ap (nat_lt 0) (sym c.rest_of.ensures) ∙ lt-ltb 0 c.rest_of.result c.if-rest_of-gt0.true))

pub numbers-preserved : goal.numbers-preserved
numbers-preserved c =
    let left : ℕ → Bool = λ (s : ℕ). nat_lt 0 (rest_at (end_of c.args.mux.now) c.args.sessions.now.closed s) in
    any_more left c.numbers.number c.numbers.invariant (ap (nat_lt 0) (sym c.rest_of.ensures) ∙ le-ltb 0 c.rest_of.result c.if-rest_of-gt0.false)
