use Rattle.std.proofs.Common.{◌≡◌, ℕ, ◌+◌, ◌<◌, [], ◌∷◌, length, take, drop, Some, refl, sym, ap, subst, ◌∙◌, arith}
use Rattle.ctrl_model.specs.declared.kinds.Who.{Who}
use Rattle.session_mux.specs.declared.events.Event.TheVariants as event
use Rattle.session_mux.specs.Arrivals.{Open, role_at}
use Rattle.session_mux.specs.Completion.{Standing, events_held, GoesTo}
use Rattle.session_mux.proofs.GoingLaws.{open_gives}
use Rattle.session_mux.proofs.StepLaws.{trace_step}
use Rattle.session_mux.proofs.muxing.Mux.step_open.Goals as goal

pub returns-clause-ok : goal.returns-clause-ok
returns-clause-ok c =
    let v : Standing = record { form = c.self.inside.form; input = c.self.inside.input; before = c.self.inside.before; sessions = c.self.inside.sessions } in
    let st : Standing = c.args.self.now in
    let n : ℕ = 4 + c.args.len in
    let who : Who = c.in_ok-who.who in
    let quiet : events_held 0 v.sessions ≡ [] = ap (λ (x : Standing). events_held 0 x.sessions) c.self.view_is ∙ c.requires.quiet in
    let within : c.args.session < length v.sessions = omega (arith, c.open.ensures.numbers, c.ranges.session) in
    let name : c.split_at-2.result.0.now ≡ take c.args.len (drop 4 st.input) =
    c.split_at-2.ensures.front ∙ ap (take c.args.len) (c.split_at.ensures.back ∙ ap (drop 4) c.as_slice.ensures) ∙ ap (λ (x : Standing). take c.args.len (drop 4 x.input)) c.self.view_is
    in
    let says : role_at c.args.role (take c.args.len (drop 4 st.input)) ≡ Some who = ap (role_at c.args.role) (sym name) ∙ c.in_ok-who.ensures in
    let some : 0 < n = omega arith in
    subst (λ (w : Who). GoesTo st (record { form = v.form; input = c.skip.new.self; before = v.before + n; sessions = c.open.new.self }) (event.Opened c.args.session w ∷ [])) (sym c.in_ok-told.ensures)
    (trace_step v st (Open c.args.session who) n (event.Opened c.args.session who ∷ []) c.skip.new.self (v.before + n) c.open.new.self c.self.view_is c.requires.form (c.requires.there who says) some c.requires.long c.requires.quiet
    (open_gives c.args.session who v.sessions within quiet) c.skip.ensures refl c.open.ensures.after)
