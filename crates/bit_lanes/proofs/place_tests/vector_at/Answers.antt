use Rattle.std.proofs.Common.{◌≡◌, ◌+◌, ◌-◌, length, get_or, min, ap, ◌∙◌, arith, take, drop}
use Rattle.std.proofs.lemmas.Simd.{get_or-chunk, length-chunk}
use Rattle.std.proofs.lemmas.List.{length-take, length-drop}
use Rattle.bit_lanes.proofs.place_tests.vector_at.Goals as goal

pub returns-clause-vector : goal.returns-clause-vector
returns-clause-vector c =
    let few : c.args.place + 8 - c.args.place ≡ 8 = omega arith in
    let cut = take (c.args.place + 8 - c.args.place) (drop c.args.place c.args.words.now) in
    let cut_long : length cut ≡ min (c.args.place + 8 - c.args.place) (length (drop c.args.place c.args.words.now)) = length-take _ _ in
    let rest_long : length (drop c.args.place c.args.words.now) ≡ length c.args.words.now - c.args.place = length-drop _ _ in
    record {
      long = length-chunk 0 8 cut (omega arith);
      each = λ n less.
          let first : 0 + n ≡ n = omega arith in
          get_or-chunk 0 8 cut n 0 less
          ∙ (ap (λ k. get_or cut k 0) first
          ∙ (ap (λ k. get_or (take k (drop c.args.place c.args.words.now)) n 0) few ∙ get_or-chunk c.args.place 8 c.args.words.now n 0 less));
    }

pub returns-clause-fit : goal.returns-clause-fit
returns-clause-fit c = λ i. (c.type_inv.words i).fits
