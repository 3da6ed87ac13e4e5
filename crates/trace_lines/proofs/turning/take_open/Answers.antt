use Rattle.trace_lines.proofs.TakeLaws.{takes_open}
use Rattle.trace_lines.proofs.turning.take_open.Goals as goal

pub returns-in-Unopened : goal.returns-in-Unopened
returns-in-Unopened c = takes_open c.args.session c.args.who c.args.seat c.args.out.now.items c.put_open.new.out.items c.in-Unopened.is c.in_ok-put_open-in-Unopened.ensures
