use Rattle.std.proofs.Common.{◌≡◌, ℕ, ◌+◌, ◌<◌, ◌≤◌, List, [], length, take, drop, refl, sym, ap, subst, ◌∙◌, arith}
use Rattle.std.proofs.lemmas.List.{length-drop}
use Rattle.std.proofs.lemmas.Result.{err_from_is_err_and}
use Rattle.session_mux.specs.declared.sessions.Session.{Session}
use Rattle.session_mux.specs.Arrivals.{Data}
use Rattle.session_mux.specs.Completion.{Standing, sessions_after, events_held}
use Rattle.session_mux.proofs.TableLaws.{AtMost, at_most_data}
use Rattle.session_mux.proofs.GoingLaws.{data_gives}
use Rattle.session_mux.proofs.StepLaws.{trace_step, trace_wants, not_plain}
use Rattle.session_mux.proofs.muxing.Mux.step_data.Goals as goal

pub invariant_of-self-2 : goal.invariant_of-self-2
invariant_of-self-2 c =
    let long : 4 + c.args.len ≤ length c.self.inside.input = omega (arith, c.requires.long, ap (λ (x : Standing). length x.input) c.self.view_is) in
    let within : c.args.session < length c.self.inside.sessions = omega (arith, c.in_ok-feed.ensures.numbers, c.ranges.session) in
    let few : length c.split_at-2.result.0.now ≤ 4 + c.args.len = omega (arith, c.split_at-2.ensures.front_len) in (
      omega (arith, ap length c.skip.ensures, length-drop (4 + c.args.len) c.self.inside.input, c.self.invariant.0, long),
      subst (λ (xs : List Session). AtMost xs (c.self.inside.before + (4 + c.args.len))) (sym c.in_ok-feed.ensures.ok)
          (at_most_data c.args.session c.split_at-2.result.0.now c.self.inside.sessions c.self.inside.before (4 + c.args.len) within few c.self.invariant.1),
      not_plain c.self.inside.form (ap (λ (x : Standing). x.form) c.self.view_is ∙ c.requires.form),
    )

pub returns-clause-ok : goal.returns-clause-ok
returns-clause-ok c =
    let v : Standing = record { form = c.self.inside.form; input = c.self.inside.input; before = c.self.inside.before; sessions = c.self.inside.sessions } in
    let st : Standing = c.args.self.now in
    let n : ℕ = 4 + c.args.len in
    let bytes : List ℕ = take c.args.len (drop 4 st.input) in
    let quiet : events_held 0 v.sessions ≡ [] = ap (λ (x : Standing). events_held 0 x.sessions) c.self.view_is ∙ c.requires.quiet in
    let within : c.args.session < length v.sessions = omega (arith, c.in_ok-feed.ensures.numbers, c.ranges.session) in
    let piece : c.split_at-2.result.0.now ≡ bytes =
    c.split_at-2.ensures.front ∙ ap (take c.args.len) (c.split_at.ensures.back ∙ ap (drop 4) c.as_slice.ensures) ∙ ap (λ (x : Standing). take c.args.len (drop 4 x.input)) c.self.view_is
    in
    let after : c.feed.new.self ≡ sessions_after (Data c.args.session bytes) v.sessions =
    c.in_ok-feed.ensures.ok ∙ ap (λ (b : List ℕ). sessions_after (Data c.args.session b) v.sessions) piece
    in
    let some : 0 < n = omega arith in (
      trace_step v st (Data c.args.session bytes) n [] c.skip.new.self (v.before + n) c.feed.new.self c.self.view_is c.requires.form c.requires.there some c.requires.long c.requires.quiet
          (data_gives c.args.session bytes v.sessions within quiet) c.skip.ensures refl after,
      omega (arith, ap length c.skip.ensures, length-drop n v.input, c.requires.long, ap (λ (x : Standing). length x.input) c.self.view_is),
      λ wants. trace_wants st (Data c.args.session bytes) n c.requires.form c.requires.there some c.requires.long,
    )

pub returns-in_err-feed-clause-memory : goal.returns-in_err-feed-clause-memory
returns-in_err-feed-clause-memory c =
    let some : 0 < 4 + c.args.len = omega arith in
    rw (err_from_is_err_and c.from_residual.result c.from_residual.ensures.1).1 (trace_wants c.args.self.now (Data c.args.session (take c.args.len (drop 4 c.args.self.now.input))) (4 + c.args.len) c.requires.form c.requires.there some c.requires.long)

pub feed-requires-clause-room : goal.feed-requires-clause-room
feed-requires-clause-room c =
    let long : 4 + c.args.len ≤ length c.self.inside.input = omega (arith, c.requires.long, ap (λ (x : Standing). length x.input) c.self.view_is) in
    omega (arith, c.self.invariant.1 c.args.session, c.split_at-2.ensures.front_len, long, c.self.invariant.0)
