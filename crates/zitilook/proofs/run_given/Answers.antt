use Rattle.std.proofs.Common.{◌∙◌, ℕ, List, map, subst, ap}
use Rattle.std.specs.String.{string_bytes}
use Rattle.program_words.proofs.AskedLaws.{asked_with, asked_without, failed_with, failed_without, wanting_with}
use Rattle.zitilook.specs.Headline.{RunsOver}
use Rattle.zitilook.proofs.run_given.Goals as goal

pub returns-in-Ok-clause-words : goal.returns-in-Ok-clause-words
returns-in-Ok-clause-words c d =
    let RunsOf : List (List ℕ) → Type 0 = λ ws. RunsOver {S = c.row.S.Denot} {D = c.row.D.Denot} {E = c.row.E.Denot} (record { left = c.S.Source.left; faults = c.S.Source.faults; tells = c.D.Desk.tells; seen = c.D.Desk.seen; stopped = c.D.Desk.stopped }) c.E.Desk.tells c.E.Desk.seen c.E.Desk.stopped ws d.args.source.now d.run_over.new.source d.args.other.now d.run_over.new.other d.args.desk.now d.run_over.new.desk d.run_over.result in
    asked_with d.args.given d.asked_words.result _ _ _ d.in-Ok.is d.asked_words.ensures.words
    (λ words same. subst RunsOf (ap (map string_bytes) (d.as_slice.ensures.value ∙ same)) d.run_over.ensures.runs)

pub returns-in-Ok-clause-no_text : goal.returns-in-Ok-clause-no_text
returns-in-Ok-clause-no_text c d =
    let RunsOf : List (List ℕ) → Type 0 = λ ws. RunsOver {S = c.row.S.Denot} {D = c.row.D.Denot} {E = c.row.E.Denot} (record { left = c.S.Source.left; faults = c.S.Source.faults; tells = c.D.Desk.tells; seen = c.D.Desk.seen; stopped = c.D.Desk.stopped }) c.E.Desk.tells c.E.Desk.seen c.E.Desk.stopped ws d.args.source.now d.run_over.new.source d.args.other.now d.run_over.new.other d.args.desk.now d.run_over.new.desk d.run_over.result in
    failed_with d.args.given d.asked_words.result _ _ _ _ d.in-Ok.is d.asked_words.ensures.no_text
    (λ same. subst RunsOf (ap (map string_bytes) (d.as_slice.ensures.value ∙ same)) d.run_over.ensures.runs)

pub returns-in-Ok-clause-no_memory : goal.returns-in-Ok-clause-no_memory
returns-in-Ok-clause-no_memory c d = wanting_with d.args.given d.asked_words.result _ _ _ d.in-Ok.is d.asked_words.ensures.no_memory

pub returns-in-Err-clause-words : goal.returns-in-Err-clause-words
returns-in-Err-clause-words c d = asked_without d.args.given d.asked_words.result _ _ _ d.in-Err.is d.asked_words.ensures.words

pub returns-in-Err-clause-no_text : goal.returns-in-Err-clause-no_text
returns-in-Err-clause-no_text c d = failed_without d.args.given d.asked_words.result _ _ _ _ d.in-Err.is d.asked_words.ensures.no_text
