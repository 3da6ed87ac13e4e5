use Rattle.std.proofs.Common.{ℕ, List, Result, sym, ◌∙◌, subst}
use Rattle.zitilook.specs.Looks.{Tells}
use Rattle.zitilook.specs.Notes.{absent_note}
use Rattle.zitilook.proofs.SaidLaws.{found_none, found_some, no_text, some_text}
use Rattle.zitilook.proofs.running.say_found.Goals as goal

pub returns-then-is_empty-clause-tells : goal.returns-then-is_empty-clause-tells
returns-then-is_empty-clause-tells g c =
    let note = absent_note c.args.name.now in
    subst (λ (r : Result (List ℕ) (List ℕ)). Tells r (g.D.Desk.seen c.args.desk.now) (g.D.Desk.seen c.tell_refused.new.desk) c.tell_refused.result)
    (sym (found_none note c.args.text.now (no_text c.args.text.now (sym c.is_empty.ensures ∙ c.if-is_empty.true)))) (c.tell_refused.ensures.told note c.absent_note.ensures)

pub returns-clause-tells : goal.returns-clause-tells
returns-clause-tells g c =
    subst (λ (r : Result (List ℕ) (List ℕ)). Tells r (g.D.Desk.seen c.args.desk.now) (g.D.Desk.seen c.say_text.new.desk) c.say_text.result)
    (sym (found_some (absent_note c.args.name.now) c.args.text.now (some_text c.args.text.now (sym c.is_empty.ensures ∙ c.if-is_empty.false)))) c.say_text.ensures.says
