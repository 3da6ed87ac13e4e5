use Rattle.std.proofs.Common.{◌≡◌, [], replicate}
use Rattle.path_certificate.proofs.listing.no_lists.Given as goal

abbrev pub invariant-places : goal.invariant-places
invariant-places l = l.lists.items ≡ replicate l.counter []
