use Rattle.std.proofs.Common.{Some, refl, sym, subst}
use Rattle.zitiline.specs.declared.words.Asked.{Asked}
use Rattle.zitiline.specs.Headline.{Runs}
use Rattle.zitiline.proofs.PageLaws.{page_runs}
use Rattle.zitiline.proofs.running.run_asked.Goals as goal

pub returns-in-Tell : goal.returns-in-Tell
returns-in-Tell g c =
    let first = c.args.exchange.now in
    let now = record first { desk = c.tell_page.new.desk } in
    let RunsOf : Asked → Type 0 = λ asked. Runs {S = g.row.S.Denot} {D = g.row.D.Denot}
    (record { left = g.S.Source.left; faults = g.S.Source.faults; tells = g.D.Desk.tells; seen = g.D.Desk.seen; stopped = g.D.Desk.stopped }) (Some asked) first now c.tell_page.result in
    subst RunsOf (sym c.in-Tell.is)
    (page_runs {S = g.row.S.Denot} {D = g.row.D.Denot}
    (record { left = g.S.Source.left; faults = g.S.Source.faults; tells = g.D.Desk.tells; seen = g.D.Desk.seen; stopped = g.D.Desk.stopped })
    c.in-Tell.page first now c.tell_page.result refl c.tell_page.ensures.page c.tell_page.ensures.cause c.tell_page.ensures.folder)
