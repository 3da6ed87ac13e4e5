use Rattle.ziti_outside.proofs.ImageLaws.{Torn-whole, Torn-none, CutShort-whole, CutShort-none}
use Rattle.ziti_outside.proofs.laws.stops_allow_both_ends.Goals as goal

pub returns-clause-written : goal.returns-clause-written
returns-clause-written c = Torn-whole

pub returns-clause-unwritten : goal.returns-clause-unwritten
returns-clause-unwritten c = Torn-none

pub returns-clause-cut : goal.returns-clause-cut
returns-clause-cut c = CutShort-whole

pub returns-clause-uncut : goal.returns-clause-uncut
returns-clause-uncut c = CutShort-none
