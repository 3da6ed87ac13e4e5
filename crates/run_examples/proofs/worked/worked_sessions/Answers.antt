use Rattle.std.proofs.Common.{◌≡◌, ℕ, List, [], ◌∷◌, refl, ap, ◌∙◌}
use Rattle.std.specs.List.{flat_map}
use Rattle.std.specs.Fmt.{digits}
use Rattle.std.specs.Str.{is_utf8, chars}
use Rattle.serde_json.proofs.OnLiterals.{serde_json_on_literals}
use Rattle.channel_frame.specs.declared.frames.Frame.{Frame}
use Rattle.channel_frame.specs.WorkedFrames.{ann_frame}
use Rattle.ctrl_model.specs.declared.kinds.Who.{Who}
use Rattle.ctrl_model.specs.declared.kinds.Who.TheVariants.{Admin, Identity}
use Rattle.ctrl_model.specs.State.{start}
use Rattle.session_mux.specs.declared.sessions.Form.TheVariants.{Trace}
use Rattle.session_mux.specs.Completion.{completed}
use Rattle.session_mux.specs.WorkedTraces.{one_session, two_sessions, one_faulty}
use Rattle.ctrl_serve.specs.FrameAnswer.{no_bounds, alone, spoken}
use Rattle.run_notes.specs.Inputs.{no_counts}
use Rattle.run_examples.proofs.worked.worked_sessions.Goals as goal

-- The bytes of the replies to some frames of a trace.
abbrev said_to : List (ℕ × (Who × Frame)) → List ℕ
said_to frames = flat_map (λ bytes. bytes) (spoken Trace no_bounds no_counts (alone start) frames)

pub returns-clause-one : goal.returns-clause-one
unfolding serde_json_on_literals is_utf8 chars digits
returns-clause-one c =
    let frames : completed Trace one_session ≡ (0, (Admin, ann_frame)) ∷ [] = refl in
    ap said_to frames ∙ refl

pub returns-clause-two : goal.returns-clause-two
unfolding serde_json_on_literals is_utf8 chars digits
returns-clause-two c =
    let frames : completed Trace two_sessions ≡ (1, (Identity (97 ∷ 110 ∷ 110 ∷ []), ann_frame)) ∷ (0, (Admin, ann_frame)) ∷ [] = refl in
    ap said_to frames ∙ refl

pub returns-clause-other_goes_on : goal.returns-clause-other_goes_on
unfolding serde_json_on_literals is_utf8 chars digits
returns-clause-other_goes_on c =
    let frames : completed Trace one_faulty ≡ (1, (Identity (97 ∷ 110 ∷ 110 ∷ []), ann_frame)) ∷ [] = refl in
    ap said_to frames ∙ refl
