use Rattle.std.proofs.Common.{ℕ, List, Option, sym, ap, ◌∙◌, subst}
use Rattle.std.specs.Option.{option_map}
use Rattle.zitilook.specs.LookedTexts.{told_under}
use Rattle.zitilook.specs.Looks.{Tells}
use Rattle.zitilook.proofs.running.tell_made.Goals as goal

pub returns-in-Some-clause-tells : goal.returns-in-Some-clause-tells
returns-in-Some-clause-tells g c = λ wanted is.
    subst (λ (o : Option (List ℕ)). Tells (told_under o wanted) (g.D.Desk.seen c.args.desk.now) (g.D.Desk.seen c.say_found_made.new.desk) c.say_found_made.result)
    (sym (ap (option_map (λ n. n.now)) c.in-Some.is) ∙ c.asked_name.ensures) (c.say_found_made.ensures.tells wanted is)

pub returns-in-None-clause-tells : goal.returns-in-None-clause-tells
returns-in-None-clause-tells g c = λ wanted is.
    subst (λ (o : Option (List ℕ)). Tells (told_under o wanted) (g.D.Desk.seen c.args.desk.now) (g.D.Desk.seen c.say_made.new.desk) c.say_made.result)
    (sym (ap (option_map (λ n. n.now)) c.in-None.is) ∙ c.asked_name.ensures) (c.say_made.ensures.says wanted is)
