use Rattle.std.proofs.Common.{◌+◌, drop, refl, sym, subst, ◌∙◌, arith}
use Rattle.frame_lines.specs.declared.decoding.Turned.{Turned}
use Rattle.frame_lines.specs.FrameTurns.{TurnsOn}
use Rattle.frame_lines.proofs.DecodeLaws.{turning_start, turning_put, turned_short, turned_ended, told_fits, turn_there, line_there}
use Rattle.frame_lines.proofs.decoding.tell_whole.Goals as goal

pub items-init : goal.items-init
items-init g c = record {
  turning = turning_start g.K.LineKind.reading c.args.number c.args.at c.args.bytes.now c.new-out.result.items c.new-out.ensures.items;
  within = omega arith;
}

pub past-used-requires : goal.past-used-requires
past-used-requires g c =
    let told = turn_there g.K.LineKind.reading _ _ _ _ _ (sym c.in-Told.is ∙ c.in_ok-len.ensures.turn) c.in_ok-place.ensures c.split_at.ensures.back in
    (told_fits g.K.LineKind.reading c.in_order.ensures (c.args.at + c.items.used) c.in-Told.len c.items.used c.args.bytes.now c.items.invariant.within told).1

pub items-preserved : goal.items-preserved
items-preserved g c =
    let k = g.K.LineKind.reading in
    let at = c.args.at + c.items.used in
    let bytes = c.args.bytes.now in
    let told = turn_there k _ _ at _ _ (sym c.in-Told.is ∙ c.in_ok-len.ensures.turn) c.in_ok-place.ensures c.split_at.ensures.back in
    let line = line_there k _ _ _ at _ _ c.in_ok-len.ensures.line c.in_ok-place.ensures c.split_at.ensures.back in
    let fits = (told_fits k c.in_order.ensures at c.in-Told.len c.items.used bytes c.items.invariant.within told).1 in
    record {
      turning = turning_put k c.in_order.ensures c.args.number c.args.at bytes c.items.out.items c.put_first.new.out.items c.items.next c.in_ok-then-in-Told.then c.items.used c.past-used.result
          c.in-Told.len told line c.in_ok-then-in-Told.ensures c.past-used.ensures c.items.invariant.turning;
      within = omega (arith, fits, c.past-used.ensures);
    }

pub items-smaller : goal.items-smaller
items-smaller g c =
    let k = g.K.LineKind.reading in
    let at = c.args.at + c.items.used in
    let told = turn_there k _ _ at _ _ (sym c.in-Told.is ∙ c.in_ok-len.ensures.turn) c.in_ok-place.ensures c.split_at.ensures.back in
    let fits = told_fits k c.in_order.ensures at c.in-Told.len c.items.used c.args.bytes.now c.items.invariant.within told in
    let long = fits.0 in
    let there = fits.1 in
    omega (arith, long, there, c.past-used.ensures)

pub returns-in-Short-clause-turns : goal.returns-in-Short-clause-turns
returns-in-Short-clause-turns g c =
    let k = g.K.LineKind.reading in
    let here = c.in_ok-place.place in
    let rest = drop c.items.used c.args.bytes.now in
    let is = turn_there k _ here here _ rest (sym c.in-Short.is ∙ c.in_ok-len.ensures.turn) refl c.split_at.ensures.back in
    let put = line_there k _ _ here here _ rest c.in_ok-len.ensures.line refl c.split_at.ensures.back in
    record {
      stands = turned_short k c.args.number c.args.at c.args.bytes.now c.items.out.items c.of.result c.items.next (c.args.at + c.items.used) rest here c.in_ok-place.ensures is
          (c.of.ensures ∙ put) c.items.invariant.turning;
    }

pub returns-in-Ended-clause-turns : goal.returns-in-Ended-clause-turns
returns-in-Ended-clause-turns g c =
    let k = g.K.LineKind.reading in
    let here = c.in_ok-place.place in
    let rest = drop c.items.used c.args.bytes.now in
    let is = turn_there k _ here here _ rest (sym c.in-Ended.is ∙ c.in_ok-len.ensures.turn) refl c.split_at.ensures.back in
    let put = line_there k _ _ here here _ rest c.in_ok-len.ensures.line refl c.split_at.ensures.back in
    subst (λ (t : Turned). TurnsOn k c.args.number c.args.at c.args.bytes.now t) (sym c.ended.ensures)
    (record {
      stands = turned_ended k c.in_order.ensures c.args.number c.args.at c.args.bytes.now c.items.out.items c.put_first.new.out.items c.items.next (c.args.at + c.items.used) rest here
          c.in-Ended.cause c.in_ok-place.ensures is put c.items.invariant.turning;
    })

pub returns-in-Ended-clause-within : goal.returns-in-Ended-clause-within
returns-in-Ended-clause-within g c = let within = c.items.invariant.within in rw c.ended.ensures within
