use Rattle.std.proofs.Common.{ℕ, drop, ◌∙◌, ap, sym, arith}
use Rattle.desk_base.specs.Pieces.{first}
use Rattle.desk_base.proofs.PieceLaws.{without_at, drop_min}
use Rattle.desk_base.proofs.mem_source.rest_of.Goals as goal

pub returns-clause-bytes : goal.returns-clause-bytes
returns-clause-bytes c =
    let here = without_at (λ v. v.items) c.args.pieces.now c.args.next c.args.at c.index-pieces-next.result (omega (arith, c.if-next-pieces.false)) c.index-pieces-next.is in
    c.split_at.ensures.back ∙ ap (λ (n : ℕ). drop n c.as_slice-piece.result.now) c.min.ensures ∙ drop_min c.args.at c.as_slice-piece.result.now ∙ ap (drop c.args.at) c.as_slice-piece.ensures.value ∙ sym (ap first here)
