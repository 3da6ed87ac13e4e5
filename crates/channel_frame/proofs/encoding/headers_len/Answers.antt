use Rattle.std.proofs.Common.{arith}
use Rattle.channel_frame.proofs.HeaderLaws.{header_within}
use Rattle.channel_frame.proofs.encoding.headers_len.Goals as goal

pub overflow_add-len : goal.overflow_add-len
overflow_add-len c = omega (arith, c.requires, header_within c.args.headers.now c.headers.header-index c.header-item.result c.header-item.is c.headers-test.true)

pub overflow_add-len-in-headers : goal.overflow_add-len-in-headers
overflow_add-len-in-headers c = omega (arith, c.requires, header_within c.args.headers.now c.headers.header-index c.header-item.result c.header-item.is c.headers-test.true)
