use Rattle.std.proofs.Common.{◌≡◌, ℕ, ◌+◌, ◌<◌, [], ◌∷◌, length, refl, sym, ap, subst, ◌∙◌, arith}
use Rattle.session_mux.specs.declared.events.Event.TheVariants as event
use Rattle.session_mux.specs.Arrivals.{Close}
use Rattle.session_mux.specs.Completion.{Standing, session_at, rest_len, events_held, GoesTo}
use Rattle.session_mux.proofs.GoingLaws.{close_gives}
use Rattle.session_mux.proofs.StepLaws.{trace_step}
use Rattle.session_mux.proofs.muxing.Mux.step_close.Goals as goal

pub returns : goal.returns
returns c =
    let v : Standing = record { form = c.self.inside.form; input = c.self.inside.input; before = c.self.inside.before; sessions = c.self.inside.sessions } in
    let st : Standing = c.args.self.now in
    let quiet : events_held 0 v.sessions ≡ [] = ap (λ (x : Standing). events_held 0 x.sessions) c.self.view_is ∙ c.requires.quiet in
    let within : c.args.session < length v.sessions = omega (arith, c.close.ensures.numbers, c.ranges.session) in
    let some : 0 < 2 = omega arith in
    subst (λ (m : ℕ). GoesTo st (record { form = v.form; input = c.skip.new.self; before = v.before + 2; sessions = c.close.new.self }) (event.Closed c.args.session m ∷ [])) (sym (c.len-rest.ensures.rest quiet).0)
    (trace_step v st (Close c.args.session) 2 (event.Closed c.args.session (rest_len (session_at v.sessions c.args.session)) ∷ []) c.skip.new.self (v.before + 2) c.close.new.self c.self.view_is c.requires.form c.requires.there some c.requires.long c.requires.quiet
    (close_gives c.args.session v.sessions within quiet) c.skip.ensures refl c.close.ensures.after)

pub overflow_cast-rest : goal.overflow_cast-rest
overflow_cast-rest c =
    let quiet : events_held 0 c.self.inside.sessions ≡ [] = ap (λ (x : Standing). events_held 0 x.sessions) c.self.view_is ∙ c.requires.quiet in
    omega (arith, (c.len-rest.ensures.rest quiet).1)
