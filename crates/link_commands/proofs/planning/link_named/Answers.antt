use Rattle.std.proofs.Common.{sym, ◌∙◌, ap}
use Rattle.std.specs.Result.{result_ok}
use Rattle.link_commands.proofs.PlanLaws.{found_there}
use Rattle.link_commands.proofs.planning.link_named.Goals as goal

pub unwrap-link-requires : goal.unwrap-link-requires
unwrap-link-requires c =
    found_there (λ r. r.now) c.args.name.now c.args.fabric.now c.in_ok-no.no c.link.result
    (ap result_ok (sym c.find.ensures.found) ∙ sym c.ok.ensures.value ∙ c.in_ok-no.was) c.find.ensures.numbers c.link.ensures
