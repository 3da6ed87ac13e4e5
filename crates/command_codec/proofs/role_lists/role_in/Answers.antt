use Rattle.std.proofs.Common.{Err, sym, ap}
use Rattle.command_codec.proofs.SideLaws.{role_in-none}
use Rattle.command_codec.proofs.role_lists.role_in.Goals as goal

pub returns-in-Err-BadRole-clause-role : goal.returns-in-Err-BadRole-clause-role
returns-in-Err-BadRole-clause-role c =
    sym (role_in-none c.args.bytes.now (c.in-Err-BadRole.ensures.bad.0 (ap Err c.in-Err-BadRole.field-0-is)))
