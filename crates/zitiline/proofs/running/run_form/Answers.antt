use Rattle.std.proofs.Common.{Some, sym, subst}
use Rattle.live_lines.specs.declared.kinds.Kind.{Kind}
use Rattle.live_lines.specs.LiveLines.{reading_of}
use Rattle.live_lines.specs.InTime.{IsInTime}
use Rattle.zitiline.specs.declared.words.Asked.TheVariants.{Turn}
use Rattle.zitiline.specs.declared.words.Form.{Form}
use Rattle.zitiline.specs.declared.words.Form.TheVariants as form
use Rattle.zitiline.specs.Headline.{Runs}
use Rattle.zitiline.proofs.TurnLaws.{turn_runs, not_live, same_kind}
use Rattle.zitiline.proofs.running.run_form.Goals as goal

pub returns-in-Whole : goal.returns-in-Whole
returns-in-Whole g c =
    let first = c.args.exchange.now in
    let now = c.run_whole.new.exchange in
    let of = form.Whole c.in-Whole.whole in
    let e = c.run_whole.ensures in
    let RunsOf : Form → Type 0 = λ turn. Runs {S = g.row.S.Denot} {D = g.row.D.Denot}
    (record { left = g.S.Source.left; faults = g.S.Source.faults; tells = g.D.Desk.tells; seen = g.D.Desk.seen; stopped = g.D.Desk.stopped }) (Some (Turn turn))
    first now c.run_whole.result in
    subst RunsOf (sym c.in-Whole.is)
    (turn_runs {S = g.row.S.Denot} {D = g.row.D.Denot} (record { left = g.S.Source.left; faults = g.S.Source.faults; tells = g.D.Desk.tells; seen = g.D.Desk.seen; stopped = g.D.Desk.stopped })
    of first now c.run_whole.result e.answers (λ kind is. absurd (not_live c.in-Whole.whole kind is)) e.read e.cause e.folder)

pub returns-in-Live : goal.returns-in-Live
returns-in-Live g c =
    let first = c.args.exchange.now in
    let now = c.run_live.new.exchange in
    let of = form.Live c.in-Live.kind in
    let e = c.run_live.ensures in
    let RunsOf : Form → Type 0 = λ turn. Runs {S = g.row.S.Denot} {D = g.row.D.Denot}
    (record { left = g.S.Source.left; faults = g.S.Source.faults; tells = g.D.Desk.tells; seen = g.D.Desk.seen; stopped = g.D.Desk.stopped }) (Some (Turn turn))
    first now c.run_live.result in
    subst RunsOf (sym c.in-Live.is)
    (turn_runs {S = g.row.S.Denot} {D = g.row.D.Denot} (record { left = g.S.Source.left; faults = g.S.Source.faults; tells = g.D.Desk.tells; seen = g.D.Desk.seen; stopped = g.D.Desk.stopped })
    of first now c.run_live.result e.answers
    (λ kind is. subst (λ (k : Kind). IsInTime (reading_of k) g.S.Source.left g.D.Desk.seen first now) (same_kind c.in-Live.kind kind is) e.in_time)
    e.read e.cause e.folder)
