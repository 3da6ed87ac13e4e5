use Rattle.std.proofs.Common.{◌-◌, get_or}
use Rattle.attr_pool.specs.Chains.{IsLinkTo}
use Rattle.attr_pool.proofs.chains.link_to.Given as goal

abbrev pub invariant-links : goal.invariant-links
invariant-links l = IsLinkTo l.chained.slots.items l.chain l.number l.place

abbrev pub decreases-links : goal.decreases-links
decreases-links l = l.number - get_or l.chained.links.items l.place 0
