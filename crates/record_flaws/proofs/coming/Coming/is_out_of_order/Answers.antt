use Rattle.std.proofs.Common.{◌||◌, nat_le, sym, ap, le-ltb}
use Rattle.record_flaws.proofs.coming.Coming.is_out_of_order.Goals as goal

pub returns-else-self-next : goal.returns-else-self-next
returns-else-self-next c =
    let coming = c.args.self.now in
    sym (ap (λ below. below || nat_le coming.end coming.number) (le-ltb coming.number c.args.next c.if-self-next.false))
