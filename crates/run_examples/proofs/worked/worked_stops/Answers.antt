use Rattle.std.proofs.Common.{◌≡◌, ◌⊎◌, inl, inr, ℕ, zero, suc, ◌-◌, ◌≤◌, List, [], ◌∷◌, ◌++◌, length, take, Some, refl, sym, ap, ◌∙◌, subst, length-append, arith}
use Rattle.std.specs.Fmt.{digits}
use Rattle.std.specs.Str.{is_utf8, chars}
use Rattle.serde_json.proofs.OnLiterals.{serde_json_on_literals}
use Rattle.ziti_outside.specs.Images.{Image}
use Rattle.ziti_outside.specs.Told.{Took, IsFront}
use Rattle.channel_frame.specs.WorkedFrames.{ann_frame, ann_bytes, reply_bytes}
use Rattle.ctrl_model.specs.State.{State, start}
use Rattle.row_store.specs.declared.bounds.StoreBounds.{StoreBounds}
use Rattle.row_store.specs.OpenedStates.{OpensToState}
use Rattle.ctrl_keep.specs.WorkedMachines.{at_most, machine_at}
use Rattle.row_store.proofs.OneStates.{one_state}
use Rattle.session_mux.specs.declared.events.Event.{Event}
use Rattle.session_mux.specs.declared.events.Event.TheVariants.{Arrived}
use Rattle.session_mux.specs.declared.sessions.Form.TheVariants.{Plain}
use Rattle.session_mux.specs.Completion.{completed}
use Rattle.run_notes.specs.Inputs.{events_in}
use Rattle.ctrl_serve.specs.FrameAnswer.{machine_behind, each_reply, replies_to}
use Rattle.ctrl_serve.specs.SaidReplies.{joined}
use Rattle.ctrl_serve.specs.RunStops.{HoldsFirst, IsBetween, IsWithin, state_behind}
use Rattle.run_examples.specs.WorkedStops.{only_ann, ann_and_bob, bob_bytes}
use Rattle.run_examples.proofs.worked.worked_stops.Goals as goal

-- The state behind the frame that creates ann, in a new folder with these bounds.
abbrev behind_ann : StoreBounds → ℕ → State
behind_ann bounds count = (machine_behind bounds (machine_at start 8) (take count (completed Plain ann_bytes))).state

ann_is_there : behind_ann (at_most 57) 1 ≡ only_ann
unfolding serde_json_on_literals is_utf8 chars digits
ann_is_there = refl

ann_is_refused : behind_ann (at_most 56) 1 ≡ start
unfolding serde_json_on_literals is_utf8 chars digits
ann_is_refused = refl

one_frame : length (completed Plain ann_bytes) ≡ 1
one_frame = refl

-- A folder that holds the frame has ann, and so is not at the start.
start_has_none : (image : Image) → OpensToState image start → HoldsFirst Plain (at_most 57) (machine_at start 8) ann_bytes 1 image reply_bytes → ⊥
start_has_none image opens h =
    let one : h.count ≡ 1 = omega (arith, h.at_least, h.at_most, one_frame) in
    let there : OpensToState image only_ann = subst (OpensToState image) ann_is_there (subst (λ (k : ℕ). OpensToState image (behind_ann (at_most 57) k)) one h.opens) in
    let same : start ≡ only_ann = one_state image start only_ann opens there in
    let next : 1 ≡ 2 = ap (λ (s : State). s.identities.next) same in
    omega (arith, next)

pub returns-clause-no_frame : goal.returns-clause-no_frame
returns-clause-no_frame c image opens = record { count = 0; at_least = omega arith; at_most = omega arith; one_ahead = ([], refl); opens = opens }

pub returns-clause-before : goal.returns-clause-before
returns-clause-before c image opens = record { count = 0; at_least = omega arith; at_most = omega arith; one_ahead = ([], refl); opens = opens }

pub returns-clause-ahead : goal.returns-clause-ahead
returns-clause-ahead c image opens =
    record { count = 1; at_least = omega arith; at_most = omega (arith, one_frame); one_ahead = ([], refl); opens = subst (OpensToState image) (sym ann_is_there) opens }

pub returns-clause-acknowledged : goal.returns-clause-acknowledged
returns-clause-acknowledged c image opens =
    record { count = 1; at_least = omega arith; at_most = omega (arith, one_frame); one_ahead = (reply_bytes, refl); opens = subst (OpensToState image) (sym ann_is_there) opens }

pub returns-clause-lost : goal.returns-clause-lost
returns-clause-lost c image opens holds = start_has_none image opens holds

pub returns-clause-refused : goal.returns-clause-refused
returns-clause-refused c image opens =
    record { count = 1; at_least = omega arith; at_most = omega (arith, one_frame); one_ahead = (_, refl); opens = subst (OpensToState image) (sym ann_is_refused) opens }

pub returns-clause-refusal : goal.returns-clause-refusal
unfolding serde_json_on_literals is_utf8 chars digits
returns-clause-refusal c = refl

-- ---- two frames

-- The replies to both, one list a reply.
abbrev both_replies : List (List ℕ)
both_replies = each_reply Plain (at_most 200) (machine_at start 8) (ann_bytes ++ bob_bytes)

-- The state behind the first of both.
abbrev behind_both : ℕ → State
behind_both count = (machine_behind (at_most 200) (machine_at start 8) (take count (completed Plain (ann_bytes ++ bob_bytes)))).state

first_is_there : behind_both 1 ≡ only_ann
unfolding serde_json_on_literals is_utf8 chars digits
first_is_there = refl

both_are_there : behind_both 2 ≡ ann_and_bob
unfolding serde_json_on_literals is_utf8 chars digits
both_are_there = refl

two_frames : length (completed Plain (ann_bytes ++ bob_bytes)) ≡ 2
two_frames = refl

first_reply : joined (take 1 both_replies) ≡ reply_bytes
unfolding serde_json_on_literals is_utf8 chars digits
first_reply = refl

-- Nothing has no reply as its front.
no_reply : (bytes : List ℕ) → bytes ≡ reply_bytes → IsFront bytes [] → ⊥
no_reply bytes same front =
    let none : length (bytes ++ front.0) ≡ 0 = ap length front.1 in
    let long : length bytes ≡ 49 = ap length same in
    omega (arith, none, long, length-append bytes front.0)

-- A folder with both holds no fewer frames, and of two the first reply was taken.
two_are_too_many : (image : Image) (count : ℕ) → OpensToState image ann_and_bob → count ≤ 2 → IsFront (joined (take (count - 1) both_replies)) [] → OpensToState image (behind_both count) → ⊥
two_are_too_many image zero opens few front holds =
    let next : 3 ≡ 1 = ap (λ (s : State). s.identities.next) (one_state image ann_and_bob start opens holds) in
    omega (arith, next)
two_are_too_many image (suc zero) opens few front holds =
    let next : 3 ≡ 2 = ap (λ (s : State). s.identities.next) (one_state image ann_and_bob only_ann opens (subst (OpensToState image) first_is_there holds)) in
    omega (arith, next)
two_are_too_many image (suc (suc zero)) opens few front holds = no_reply (joined (take 1 both_replies)) first_reply front
two_are_too_many image (suc (suc (suc n))) opens few front holds = absurd (omega (arith, few))

pub returns-clause-replied : goal.returns-clause-replied
unfolding serde_json_on_literals is_utf8 chars digits
returns-clause-replied c = refl

pub returns-clause-one_ahead : goal.returns-clause-one_ahead
returns-clause-one_ahead c image opens = record {
  count = 2;
  at_least = omega arith;
  at_most = omega (arith, two_frames);
  one_ahead = subst (λ (bytes : List ℕ). IsFront bytes reply_bytes) (sym first_reply) ([], refl);
  opens = subst (OpensToState image) (sym both_are_there) opens;
}

pub returns-clause-two_ahead : goal.returns-clause-two_ahead
returns-clause-two_ahead c image opens holds = two_are_too_many image holds.count opens (omega (arith, holds.at_most, two_frames)) holds.one_ahead holds.opens

-- ---- the parts of a turn

-- The one event of ann's frame.
abbrev ann_comes : Event
ann_comes = Arrived 0 ann_frame

one_event : events_in Plain ann_bytes ≡ ann_comes ∷ []
one_event = refl

-- The state behind it, and the reply to it.
event_adds_ann : state_behind Plain (at_most 57) (machine_at start 8) (ann_comes ∷ []) ≡ only_ann
unfolding serde_json_on_literals is_utf8 chars digits
event_adds_ann = refl

event_is_replied : replies_to Plain (at_most 57) (machine_at start 8) (ann_comes ∷ []) ≡ reply_bytes ∷ []
unfolding serde_json_on_literals is_utf8 chars digits
event_is_replied = refl

-- One byte is not all of the reply, and it is one.
one_byte_is_less : (bytes : List ℕ) → bytes ≡ reply_bytes → Took (Some []) (Some (take 1 reply_bytes)) bytes → ⊥
one_byte_is_less bytes same took =
    let one : 1 ≡ length bytes = ap length took in
    let long : length bytes ≡ 49 = ap length same in
    omega (arith, one, long)

one_byte_is_some : (bytes : List ℕ) → bytes ≡ [] → Took (Some []) (Some (take 1 reply_bytes)) bytes → ⊥
one_byte_is_some bytes none took =
    let one : 1 ≡ length bytes = ap length took in
    omega (arith, one, ap length none)

-- Within the turn of ann's frame a stop finds her once a byte of the reply was taken.
ann_is_found : (image : Image) (events : List Event) (front : List ℕ) → events ≡ ann_comes ∷ [] → OpensToState image start → Took (Some []) (Some (take 1 reply_bytes)) ([] ++ front)
    → OpensToState image (state_behind Plain (at_most 57) (machine_at start 8) events) ⊎ ((front ≡ []) × OpensToState image start) → ⊥
ann_is_found image events front same opens took (inl found) =
    let there : OpensToState image only_ann =
    subst (OpensToState image) event_adds_ann (subst (λ (es : List Event). OpensToState image (state_behind Plain (at_most 57) (machine_at start 8) es)) same found) in
    let next : 1 ≡ 2 = ap (λ (s : State). s.identities.next) (one_state image start only_ann opens there) in
    omega (arith, next)
ann_is_found image events front same opens took (inr found) = one_byte_is_some ([] ++ front) found.0 took

unkept : (image : Image) (answered unanswered : List Event) → answered ++ unanswered ≡ ann_comes ∷ [] → OpensToState image start
    → IsBetween Plain (at_most 57) (machine_at start 8) (Some []) image (take 1 reply_bytes) answered
    ⊎ IsWithin Plain (at_most 57) (machine_at start 8) (Some []) image (take 1 reply_bytes) answered unanswered → ⊥
unkept image [] unanswered split opens (inl between) = one_byte_is_some [] refl between.replies
unkept image [] unanswered split opens (inr within) =
    ann_is_found image (Arrived within.session within.frame ∷ []) within.front (ap (take 1) (sym within.first ∙ split)) opens within.replies within.found
unkept image (e ∷ []) unanswered split opens (inl between) =
    let first : e ∷ [] ≡ ann_comes ∷ [] = ap (take 1) split in
    one_byte_is_less (joined (replies_to Plain (at_most 57) (machine_at start 8) (e ∷ [])))
    (ap (λ (es : List Event). joined (replies_to Plain (at_most 57) (machine_at start 8) es)) first ∙ ap joined event_is_replied) between.replies
unkept image (e ∷ []) unanswered split opens (inr within) =
    let one : length (e ∷ unanswered) ≡ 1 = ap length split in
    omega (arith, one, ap length within.first)
unkept image (e ∷ f ∷ answered) unanswered split opens finds =
    let one : length (e ∷ f ∷ (answered ++ unanswered)) ≡ 1 = ap length split in
    omega (arith, one)

pub returns-clause-between : goal.returns-clause-between
returns-clause-between c image opens = record { answered = []; unanswered = events_in Plain ann_bytes; split = refl; finds = inl (record { replies = refl; found = opens }) }

pub returns-clause-torn_reply : goal.returns-clause-torn_reply
returns-clause-torn_reply c image opens = record {
  answered = [];
  unanswered = ann_comes ∷ [];
  split = sym one_event;
  finds = inr (record {
    session = 0;
    frame = ann_frame;
    later = [];
    first = refl;
    reply = reply_bytes;
    is_reply = event_is_replied;
    front = take 1 reply_bytes;
    is_front = (_, refl);
    replies = refl;
    found = inl (subst (OpensToState image) (sym event_adds_ann) opens);
  });
}

pub returns-clause-torn_unkept : goal.returns-clause-torn_unkept
returns-clause-torn_unkept c image opens found = unkept image found.answered found.unanswered (found.split ∙ one_event) opens found.finds
