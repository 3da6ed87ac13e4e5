use Rattle.std.proofs.Common.{rules}
use Rattle.entity_store.proofs.changed_routers.routers_after.Goals as goal

pub returns-in-DescribeRouter : goal.returns-in-DescribeRouter
returns-in-DescribeRouter c = search rules
