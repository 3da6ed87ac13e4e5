use Rattle.std.proofs.Common.{◌≡◌, length, arith}
use Rattle.std.specs.Fn.{FnOnceReturnsAtMut}
use Rattle.record_tables.specs.Changes.{one_call}
use Rattle.record_tables.proofs.ChangedEntries.{unchanged, same_length, step_changed, rows-changed, numbers-changed, Between-changed, named-changed}
use Rattle.record_tables.proofs.entries.change_each.Goals as goal

pub places-init : goal.places-init
places-init g c = record {
  count = c.len-count.ensures.len;
  so_far = unchanged (λ old new. FnOnceReturnsAtMut (one_call g.F.Fn) c.args.change.now old tt new) c.args.entries.now.entries;
}

pub change_again_at-requires-clause-within : goal.change_again_at-requires-clause-within
change_again_at-requires-clause-within g c =
    let P = λ (old new : g.row.R.Denot). FnOnceReturnsAtMut (one_call g.F.Fn) c.args.change.now old tt new in
    let test = c.places-test.true in
    let count = c.places.invariant.count in
    let same = same_length P c.args.entries.now.entries c.places.entries.entries c.places.place c.places.invariant.so_far in
    omega arith

pub places-preserved : goal.places-preserved
places-preserved g c =
    let P = λ (old new : g.row.R.Denot). FnOnceReturnsAtMut (one_call g.F.Fn) c.args.change.now old tt new in
    let test = c.places-test.true in
    let count = c.places.invariant.count in
    record {
      count = count;
      so_far = step_changed P c.args.entries.now.entries c.places.entries.entries c.change_again_at.new.entries.entries c.places.place c.places.invariant.so_far (omega arith) c.change_again_at.ensures;
    }

pub returns-clause-rows : goal.returns-clause-rows
returns-clause-rows g c = λ f does.
    let P = λ (old new : g.row.R.Denot). FnOnceReturnsAtMut (one_call g.F.Fn) c.args.change.now old tt new in
    let test = c.places-test.false in
    let end = c.places.auto.place-end in
    let count = c.places.invariant.count in
    let all : c.places.place ≡ length c.args.entries.now.entries = omega arith in
    rows-changed P f does c.args.entries.now.entries c.places.entries.entries (rw all at c.places.invariant.so_far)

pub returns-clause-order : goal.returns-clause-order
returns-clause-order g c = λ next b.
    Between-changed (λ old new. FnOnceReturnsAtMut (one_call g.F.Fn) c.args.change.now old tt new) next c.args.entries.now.entries c.places.entries.entries c.places.place 1 c.places.invariant.so_far b

pub returns-clause-numbers : goal.returns-clause-numbers
returns-clause-numbers g c =
    numbers-changed (λ old new. FnOnceReturnsAtMut (one_call g.F.Fn) c.args.change.now old tt new) c.args.entries.now.entries c.places.entries.entries c.places.place c.places.invariant.so_far

pub returns-clause-named : goal.returns-clause-named
returns-clause-named g c =
    named-changed (λ old new. FnOnceReturnsAtMut (one_call g.F.Fn) c.args.change.now old tt new) g.R.Named.name_of c.requires.keeps c.args.entries.now.entries c.places.entries.entries c.places.place c.places.invariant.so_far c.requires.named
