use Rattle.std.proofs.Common.{◌≡◌, ◌+◌, List, length, take, drop, map, false, refl, sym, ap, ◌∙◌, arith}
use Rattle.session_mux.specs.declared.sessions.Stage.{Stage}
use Rattle.session_mux.specs.Arrivals.{Data, Close, role_at, Unfinished, Bad, stage_at, record_front}
use Rattle.session_mux.specs.Completion.{Standing, stage_of}
use Rattle.session_mux.specs.RecordSteps.{is_unopened}
use Rattle.session_mux.proofs.RecordLaws.{opened_before}
use Rattle.session_mux.proofs.StepLaws.{trace_unfinished, trace_has_moved, trace_bad_front, trace_not_open}
use Rattle.session_mux.proofs.muxing.Mux.step_trace.Goals as goal

pub returns-in-Unfinished-clause-ok : goal.returns-in-Unfinished-clause-ok
returns-in-Unfinished-clause-ok c =
    let st : Standing = c.args.self.now in
    let bytes : c.as_slice.result.now ≡ st.input = c.as_slice.ensures ∙ ap (λ (x : Standing). x.input) c.self.view_is in
    let front : record_front (map stage_of st.sessions) st.input ≡ Unfinished = ap (record_front (map stage_of st.sessions)) (sym bytes) ∙ c.in-Unfinished.ensures.front (map stage_of st.sessions) in
    (refl, trace_unfinished st c.requires.form front c.requires.quiet, trace_has_moved st c.requires.form front, omega (arith, c.in-Unfinished.ensures.fits, ap length bytes))

pub returns-in-Bad-clause-ok : goal.returns-in-Bad-clause-ok
returns-in-Bad-clause-ok c =
    let v : Standing = record { form = c.self.inside.form; input = c.self.inside.input; before = c.self.inside.before; sessions = c.self.inside.sessions } in
    let st : Standing = c.args.self.now in
    (refl, trace_bad_front v st c.self.view_is c.requires.form c.as_slice.result.now c.as_slice.ensures (c.in-Bad.ensures.front (map stage_of st.sessions)) c.requires.quiet)

pub returns-else-may_open-clause-ok : goal.returns-else-may_open-clause-ok
returns-else-may_open-clause-ok c =
    let v : Standing = record { form = c.self.inside.form; input = c.self.inside.input; before = c.self.inside.before; sessions = c.self.inside.sessions } in
    let st : Standing = c.args.self.now in
    let stages : List Stage = map stage_of st.sessions in
    let stage : is_unopened (stage_at stages c.in-Opens.session) ≡ false = ap (λ (x : Standing). is_unopened (stage_at (map stage_of x.sessions) c.in-Opens.session)) (sym c.self.view_is) ∙ sym c.may_open.ensures ∙ c.if-may_open.false in
    let front : record_front stages c.as_slice.result.now ≡ Bad =
    c.in-Opens.ensures.front stages
    ∙ opened_before (stage_at stages c.in-Opens.session) c.in-Opens.session (role_at c.in-Opens.role (take c.in-Opens.len (drop 4 c.as_slice.result.now))) (4 + c.in-Opens.len) stage
    in
    (refl, trace_bad_front v st c.self.view_is c.requires.form c.as_slice.result.now c.as_slice.ensures front c.requires.quiet)

pub returns-else-is_open-clause-ok : goal.returns-else-is_open-clause-ok
returns-else-is_open-clause-ok c =
    let v : Standing = record { form = c.self.inside.form; input = c.self.inside.input; before = c.self.inside.before; sessions = c.self.inside.sessions } in (
      refl,
      trace_not_open v c.args.self.now c.self.view_is c.requires.form c.as_slice.result.now c.as_slice.ensures
          c.in-Brings.session (Data c.in-Brings.session (take c.in-Brings.len (drop 4 c.as_slice.result.now))) (4 + c.in-Brings.len)
          (sym c.is_open.ensures ∙ c.if-is_open.false) c.in-Brings.ensures.front c.requires.quiet,
    )

pub returns-else-is_open-2-clause-ok : goal.returns-else-is_open-2-clause-ok
returns-else-is_open-2-clause-ok c =
    let v : Standing = record { form = c.self.inside.form; input = c.self.inside.input; before = c.self.inside.before; sessions = c.self.inside.sessions } in (
      refl,
      trace_not_open v c.args.self.now c.self.view_is c.requires.form c.as_slice.result.now c.as_slice.ensures
          c.in-Closes.session (Close c.in-Closes.session) 2 (sym c.is_open-in-Closes.ensures ∙ c.if-is_open-2.false) c.in-Closes.ensures.front c.requires.quiet,
    )
