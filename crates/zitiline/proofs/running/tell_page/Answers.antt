use Rattle.std.proofs.Common.{ℕ, List, subst}
use Rattle.ziti_outside.specs.Told.{Took, TookFront}
use Rattle.zitiline.proofs.PageLaws.{told_page, cut_page}
use Rattle.zitiline.proofs.running.tell_page.Goals as goal

pub returns-in-Ok-clause-page : goal.returns-in-Ok-clause-page
returns-in-Ok-clause-page g c =
    let old = g.D.Desk.seen c.args.desk.now in
    let mid = g.D.Desk.seen c.say.new.self in
    let others = c.say.ensures.others in
    told_page c.args.page c.end_with.result old mid (g.D.Desk.seen c.end_with.new.desk) c.end_with.ensures.status
    (subst (λ (bytes : List ℕ). Took old.said mid.said bytes) c.page_text.ensures c.in-Ok.ensures.taken) c.end_with.ensures.others.replies
    others.notes others.failed_notes c.end_with.ensures.noted

pub returns-in-Err-clause-page : goal.returns-in-Err-clause-page
returns-in-Err-clause-page g c =
    let old = g.D.Desk.seen c.args.desk.now in
    let mid = g.D.Desk.seen c.say.new.self in
    let others = c.say.ensures.others in
    cut_page c.args.page c.end_with-in-Err.result old mid (g.D.Desk.seen c.end_with-in-Err.new.desk) c.end_with-in-Err.ensures.status
    (subst (λ (bytes : List ℕ). TookFront old.said mid.said bytes) c.page_text.ensures c.in-Err.ensures.taken) c.end_with-in-Err.ensures.others.replies
    others.notes others.failed_notes c.end_with-in-Err.ensures.noted
