use Rattle.row_store.proofs.MoveLaws.{cut_alone, cut_done}
use Rattle.row_store.proofs.moving.stand_alone.Goals as goal

pub returns-in_err-cut-clause-alone : goal.returns-in_err-cut-clause-alone
returns-in_err-cut-clause-alone g c =
    let e = c.cut.ensures in
    cut_alone g.D.Desk.tells c.args.standing c.in_ok-now.now c.requires.named c.in_ok-now.ensures.switched c.in_ok-now.ensures.opened c.let_stand.ensures.elsewhere c.let_stand.ensures.alone
    e.others e.stops e.remembers e.elsewhere c.in_err-cut.ensures.cut_short

pub returns-clause-alone : goal.returns-clause-alone
returns-clause-alone g c =
    let e = c.cut.ensures in
    cut_alone g.D.Desk.tells c.args.standing c.in_ok-now.now c.requires.named c.in_ok-now.ensures.switched c.in_ok-now.ensures.opened c.let_stand.ensures.elsewhere c.let_stand.ensures.alone
    e.others e.stops e.remembers e.elsewhere (cut_done 0 _ _ c.in_ok-cut.ensures.cut)
