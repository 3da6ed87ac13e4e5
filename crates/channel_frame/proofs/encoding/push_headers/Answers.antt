use Rattle.channel_frame.proofs.HeaderLaws.{value_fits}
use Rattle.channel_frame.proofs.encoding.push_headers.Goals as goal

pub push_header-requires : goal.push_header-requires
push_header-requires c = value_fits c.args.headers.now c.headers.header-index c.header-item.result c.header-item.is c.headers-test.true c.requires
