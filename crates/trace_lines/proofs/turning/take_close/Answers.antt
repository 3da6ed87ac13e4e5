use Rattle.trace_lines.proofs.TakeLaws.{takes_close}
use Rattle.trace_lines.proofs.turning.take_close.Goals as goal

pub returns-in_ok-put_close-in-Opened : goal.returns-in_ok-put_close-in-Opened
returns-in_ok-put_close-in-Opened c =
    takes_close c.args.session c.args.seat c.in-Opened.field-0 c.args.out.now.items c.put_close.new.out.items c.in-Opened.is c.in_ok-put_close-in-Opened.ensures
