use Rattle.std.proofs.Common.{◌++◌, ℕ, List, sym, ap, ◌∙◌}
use Rattle.std.specs.String.{string_bytes}
use Rattle.session_mux.specs.Completion.{end_of}
use Rattle.run_notes.specs.Inputs.{rest_at}
use Rattle.run_notes.specs.Notes.{session_rest_lines}
use Rattle.run_notes.proofs.RestLaws.{lines_more}
use Rattle.run_notes.proofs.telling.session_rests.Goals as goal

pub numbers-preserved : goal.numbers-preserved
numbers-preserved c =
    let lines : ℕ → List ℕ = λ (s : ℕ). session_rest_lines s (rest_at (end_of c.args.mux.now) c.args.sessions.now.closed s) in
    let n = c.numbers.number in
    c.in_ok-push_str.ensures.bytes
    ∙ ap (λ (l : List ℕ). string_bytes c.numbers.lines ++ l) (c.as_str.ensures.value ∙ c.in_ok-line.ensures ∙ ap (session_rest_lines n) c.rest_of.ensures)
    ∙ ap (λ (l : List ℕ). l ++ lines n) c.numbers.invariant
    ∙ sym (lines_more lines n)
