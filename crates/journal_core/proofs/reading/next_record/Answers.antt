use Rattle.std.proofs.Common.{ℕ, ◌+◌, List, length, sym, ap, ◌∙◌, subst}
use Rattle.std.proofs.lemmas.Result.{err_from_is_err_and}
use Rattle.ziti_outside.specs.Images.{StandAt}
use Rattle.journal_core.specs.Slots.{IsRecord}
use Rattle.journal_core.proofs.ReadLaws.{head_stands, head_there, record_fails}
use Rattle.journal_core.proofs.reading.next_record.Goals as goal

pub returns-in_err-bytes_at-in-Some-clause-fault : goal.returns-in_err-bytes_at-in-Some-clause-fault
returns-in_err-bytes_at-in-Some-clause-fault g c =
    let p = err_from_is_err_and c.from_residual-in_err-bytes_at-in-Some.result c.from_residual-in_err-bytes_at-in-Some.ensures.1 in
    let same = c.in_ok-end.ensures.parts in
    rw p.1 (record_fails g.D.Desk.tells c.args.at ((g.D.Desk.seen c.args.desk.now).reads c.args.part) p.0 (rw p.2 c.in_err-bytes_at-in-Some.ensures.fault) (λ told.
    subst (λ image. (payload : List ℕ) × IsRecord c.args.at payload (image c.args.part)) same
    (head_there g.D.Desk.tells c.args.at c.in_ok-end.end c.in-Some.len _ c.in_ok-len_behind.field-0 c.in-Some.is c.in_ok-len_behind.ensures.found told
    (c.in_ok-end.ensures.length told ∙ ap (λ image. length (image c.args.part)) (sym same)))))

pub returns-in_ok-bytes_at-in-Some-clause-found : goal.returns-in_ok-bytes_at-in-Some-clause-found
returns-in_ok-bytes_at-in-Some-clause-found g c = λ told.
    let same = c.in_ok-end.ensures.parts in
    let later = c.in_ok-len_behind.ensures.reads.parts in
    let bytes = c.in_ok-bytes_at-in-Some.ensures.bytes in
    subst (λ image. IsRecord c.args.at c.in_ok-bytes_at-in-Some.field-0 (image c.args.part)) same
    (head_stands g.D.Desk.tells c.args.at c.in_ok-end.end c.in-Some.len c.in_ok-bytes_at-in-Some.field-0 _ c.in_ok-len_behind.field-0 c.in-Some.is c.in_ok-len_behind.ensures.found told
    bytes.0 (subst (λ image. StandAt (c.args.at + 5) c.in_ok-bytes_at-in-Some.field-0 (image c.args.part)) later (bytes.1 told)))
