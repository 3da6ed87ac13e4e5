use Rattle.std.proofs.Common.{◌∙◌, ◌++◌, List, ℕ, ap, take, append_assoc, take-append-drop}
use Rattle.std.proofs.KnownBytes.{Appends-trans}
use Rattle.desk_base.proofs.outlets.write_whole.Goals as goal

pub pieces-preserved : goal.pieces-preserved
pieces-preserved g c =
    let written = c.pieces.invariant.written in
    let rest = c.pieces.rest.now in
    let piece = take c.in_ok-count.count rest in
    record {
      written = written ++ piece;
      same = rw c.split_at.ensures.back (append_assoc written piece _ ∙ ap (λ (xs : List ℕ). written ++ xs) (take-append-drop c.in_ok-count.count rest) ∙ c.pieces.invariant.same);
      appended = Appends-trans _ _ _ written piece c.pieces.invariant.appended c.in_ok-count.ensures.bytes;
      calm = c.in_ok-count.ensures.cause.calm ∙ c.pieces.invariant.calm;
    }
