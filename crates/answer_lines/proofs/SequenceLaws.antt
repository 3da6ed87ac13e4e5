-- The sequence numbers of requests.
use Rattle.std.proofs.Common.{◌≡◌, ℕ, ◌+◌, Bool, true, false, cond, List, [], ◌∷◌, map, Ok, Err, refl, ap}
use Rattle.std.specs.declared.result.Result.{Result}
use Rattle.channel_frame.specs.declared.frames.Frame.{Frame}
use Rattle.frame_lines.specs.declared.lines.Line.{Line}
use Rattle.frame_lines.specs.declared.lines.LineCause.{LineCause}
use Rattle.frame_lines.specs.TextLines.{passes}
use Rattle.frame_lines.specs.LineReading.{said_by}
use Rattle.frame_lines.specs.TextReading.{frame_of, next_after, and_then_frames, frames_from}
use Rattle.answer_lines.specs.AnswerLines.{Request, and_requests, requests_from}

abbrev asked : List Request → List ℕ
asked requests = map (λ (r : Request). r.sequence) requests

abbrev sent : List Frame → List ℕ
sent frames = map (λ (f : Frame). f.sequence) frames

with_said : (said : Result Line LineCause) (number next : ℕ) (line : List ℕ) (requests : ℕ → List Request) (frames : ℕ → List Frame)
    → ((n : ℕ) → asked (requests n) ≡ sent (frames n)) → asked (and_requests number next line said requests) ≡ sent (and_then_frames next said frames)
with_said (Err cause) number next line requests frames each = refl
with_said (Ok said) number next line requests frames each =
    ap (λ (ns : List ℕ). (frame_of next said).sequence ∷ ns) (each (next_after (frame_of next said).sequence))

at : (t : Bool) (said : Result Line LineCause) (number next : ℕ) (line : List ℕ) (requests : ℕ → List Request) (frames : ℕ → List Frame)
    → ((n : ℕ) → asked (requests n) ≡ sent (frames n))
    → asked (cond t (requests next) (and_requests number next line said requests)) ≡ sent (cond t (frames next) (and_then_frames next said frames))
at true said number next line requests frames each = each next
at false said number next line requests frames each = with_said said number next line requests frames each

pub same_sequences : (lines : List (List ℕ)) (number next : ℕ) → asked (requests_from lines number next) ≡ sent (frames_from lines next)
same_sequences [] number next = refl
same_sequences (line ∷ lines) number next =
    at (passes line) (said_by line) number next line (requests_from lines (number + 1)) (frames_from lines) (λ n. same_sequences lines (number + 1) n)
