use Rattle.std.proofs.Common.{Err, sym, subst}
use Rattle.circuit_rules.specs.Decisions.{Decides}
use Rattle.circuit_rules.specs.Views.{asked, network}
use Rattle.grant_denorm.specs.PairCounts.{count_of}
use Rattle.access_reasons.proofs.PathLaws.{denied-by, found-by}
use Rattle.access_reasons.proofs.searching.lacks_path.Goals as goal

pub returns-in-Ok : goal.returns-in-Ok
returns-in-Ok c =
    sym (found-by (network c.args.view.now) (network c.granted_view.result) (count_of c.in_ok-dial.dial) (asked c.in_ok-ask.ask) c.args.identity c.args.service _
    c.granted_view.ensures.network c.in_ok-ask.ensures c.in-Ok.ensures.decides)

pub returns-in-Err-Denied : goal.returns-in-Err-Denied
returns-in-Err-Denied c =
    sym (denied-by (network c.args.view.now) (network c.granted_view.result) (count_of c.in_ok-dial.dial) (asked c.in_ok-ask.ask) c.args.identity c.args.service _
    c.granted_view.ensures.network c.in_ok-ask.ensures c.in_ok-dial.ensures
    (subst (λ f. Decides (network c.granted_view.result) (asked c.in_ok-ask.ask) (Err f)) c.in-Err-Denied.field-0-is c.in-Err-Denied.ensures.decides))
