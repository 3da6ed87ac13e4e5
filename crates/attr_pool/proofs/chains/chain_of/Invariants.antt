use Rattle.std.proofs.Common.{◌≡◌, ◌<◌, ◌+◌, ◌*◌, ◌%◌, take}
use Rattle.std.specs.List.{fold}
use Rattle.attr_pool.proofs.chains.chain_of.Given as goal

abbrev pub invariant-bytes : goal.invariant-bytes
invariant-bytes l = (l.chain ≡ fold (λ chain byte. (chain * 31 + byte) % 4096) 0 (take l.byte-index l.name)) × (l.chain < 4096)
