use Rattle.std.proofs.Common.{◌≡◌, ◌++◌, map, drop}
use Rattle.access_reasons.specs.Reasons.{dialer_finding}
use Rattle.access_reasons.specs.StateStores.{facts_in}
use Rattle.access_reasons.proofs.dialing.put_dialers.Given as goal

-- the findings so far and those of the identities that are left are all
abbrev pub invariant-identities : goal.invariant-identities
invariant-identities l =
    l.findings.items ++ map (dialer_finding (facts_in l.stores) l.service) (drop l.identity-index l.identities)
    ≡ l.initial.findings.items ++ map (dialer_finding (facts_in l.stores) l.service) l.identities
