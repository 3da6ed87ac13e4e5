-- What a stop finds holds every frame whose reply was taken whole, and at most one frame more.
use Rattle.std.specs.Prelude.{⊤}
use Rattle.std.proofs.Common.{◌≡◌, ◌⊎◌, inl, inr, ℕ, zero, suc, ◌+◌, ◌-◌, ◌<◌, ◌≤◌, List, [], ◌∷◌, ◌++◌, length, take, Some, refl, sym, ap, ◌∙◌, subst, append_assoc, append-nil, length-append, arith}
use Rattle.std.proofs.lemmas.Grind.{flat_map-append}
use Rattle.std.proofs.lemmas.List.{append_cancel_left}
use Rattle.std.proofs.Math.Seq.{take-append_seam}
use Rattle.ziti_outside.specs.Images.{Image}
use Rattle.ziti_outside.specs.Told.{Took, IsFront}
use Rattle.ziti_outside.proofs.Moves.{IsFront-none, IsFront-then, IsFront-longer}
use Rattle.channel_frame.specs.declared.frames.Frame.{Frame}
use Rattle.ctrl_model.specs.declared.kinds.Who.{Who}
use Rattle.serve_loop.specs.Answerers.{Answerer}
use Rattle.session_mux.specs.declared.events.Event.{Event}
use Rattle.session_mux.specs.declared.events.Event.TheVariants.{Arrived}
use Rattle.session_mux.specs.declared.sessions.Form.{Form}
use Rattle.session_mux.specs.Completion.{completed, frame_by, frames_by, senders_after}
use Rattle.run_notes.specs.Inputs.{events_in, frames_in, senders_in, no_counts}
use Rattle.run_notes.specs.KnownSessions.{count_at, counted}
use Rattle.serve_loop.specs.AnsweredFrames.{tag, reply_text, spoken, machine_behind, replies_to, each_reply}
use Rattle.serve_loop.specs.SaidReplies.{joined}
use Rattle.serve_loop.specs.RunStops.{machine_by, IsBetween, IsWithin, StopFinds, HoldsFirst}
use Rattle.serve_loop.proofs.SaidLaws.{later_replies, replies_parted}

-- ---- fronts of joined replies

-- The replies to fewer frames are a front of those to more.
joined_more : (i j : ℕ) (replies : List (List ℕ)) → i ≤ j → IsFront (joined (take i replies)) (joined (take j replies))
joined_more zero j replies fewer = IsFront-none (joined (take j replies))
joined_more (suc i) zero replies fewer = absurd (omega (arith, fewer))
joined_more (suc i) (suc j) [] fewer = IsFront-none []
joined_more (suc i) (suc j) (reply ∷ replies) fewer =
    IsFront-then reply (joined (take i replies)) (joined (take j replies)) (reply ++ joined (take j replies)) (joined_more i j replies (omega (arith, fewer))) refl

-- What is a front behind the same bytes is one without them.
behind_same : (bytes part whole : List ℕ) → IsFront (bytes ++ part) (bytes ++ whole) → IsFront part whole
behind_same bytes part whole front = (front.0, append_cancel_left bytes (part ++ front.0) whole (sym (append_assoc bytes part front.0) ∙ front.1))

-- A front of nothing has no byte.
front_of_none : (part : List ℕ) → IsFront part [] → length part ≡ 0
front_of_none part front = let e : length (part ++ front.0) ≡ 0 = ap length front.1 in omega (arith, e, length-append part front.0)

-- Each of some replies has a byte.
abbrev HaveBytes : List (List ℕ) → Type 0
HaveBytes [] = ⊤
HaveBytes (reply ∷ replies) = (0 < length reply) × HaveBytes replies

-- No more replies are wholly among the joined ones than were joined.
replies_fewer : (n : ℕ) (done rest : List (List ℕ)) → HaveBytes (done ++ rest) → n ≤ length (done ++ rest) → IsFront (joined (take n (done ++ rest))) (joined done) → n ≤ length done
replies_fewer zero done rest have few front = omega arith
replies_fewer (suc n) [] [] have few front = few
replies_fewer (suc n) [] (reply ∷ rest) have few front =
    let none : length (reply ++ joined (take n rest)) ≡ 0 = front_of_none (reply ++ joined (take n rest)) front in
    absurd (omega (arith, none, have.0, length-append reply (joined (take n rest))))
replies_fewer (suc n) (reply ∷ done) rest have few front =
    let fewer : n ≤ length done = replies_fewer n done rest have.1 (omega (arith, few)) (behind_same reply (joined (take n (done ++ rest))) (joined done) front) in
    omega (arith, fewer)

-- ---- the replies along frames

-- Each frame of a reply has a byte.
abbrev pub RepliesHaveBytes : {M : Type 0} → Answerer M → Type 0
RepliesHaveBytes {M} answerer = (sequence : ℕ) (who : Who) (frame : Frame) (m : M) → 0 < length (answerer.reply sequence who frame m)

-- So each reply along some frames has.
spoken_each : {M : Type 0} (form : Form) (answerer : Answerer M) → RepliesHaveBytes answerer → (counts : List ℕ) (m : M) (frames : List (ℕ × (Who × Frame))) → HaveBytes (spoken form answerer counts m frames)
spoken_each form answerer some counts m [] = tt
spoken_each form answerer some counts m (x ∷ frames) =
    let one : 0 < length (reply_text form answerer x.0 (count_at counts x.0) x.1.0 x.1.1 m) =
    omega (arith, length-append (tag form x.0) (answerer.reply (count_at counts x.0) x.1.0 x.1.1 m), some (count_at counts x.0) x.1.0 x.1.1 m) in
    (one, spoken_each form answerer some (counted counts x.0) (answerer.next x.1.0 x.1.1 m) frames)

-- There is one reply a frame.
spoken_length : {M : Type 0} (form : Form) (answerer : Answerer M) (counts : List ℕ) (m : M) (frames : List (ℕ × (Who × Frame))) → length (spoken form answerer counts m frames) ≡ length frames
spoken_length form answerer counts m [] = refl
spoken_length form answerer counts m (x ∷ frames) = ap suc (spoken_length form answerer (counted counts x.0) (answerer.next x.1.0 x.1.1 m) frames)

-- ---- the frames by the first events

-- Behind the frames by some events come those by the others.
frames_then : (events later : List Event) (senders : List Who) → (more : List (ℕ × (Who × Frame))) × (frames_by events senders ++ more ≡ frames_by (events ++ later) senders)
frames_then [] later senders = (frames_by later senders, refl)
frames_then (e ∷ events) later senders =
    let rest = frames_then events later (senders_after e senders) in
    (rest.0, append_assoc (frame_by e senders) (frames_by events (senders_after e senders)) rest.0 ∙ ap (λ (fs : List (ℕ × (Who × Frame))). frame_by e senders ++ fs) rest.1)

-- What stands before others is the first so many of them.
first_of : {A : Type 0} (done rest all : List A) → done ++ rest ≡ all → take (length done) all ≡ done
first_of done rest all e = ap (take (length done)) (sym e) ∙ take-append_seam done rest

-- The frames by the first events of an input are its first frames, and the replies to these events its first replies.
pub record AreFirst {M : Type 0} (form : Form) (answerer : Answerer M) (m : M) (used : List ℕ) (answered : List Event) : Type 0 where
  pub frames : take (length (frames_in form answered)) (completed form used) ≡ frames_in form answered
  pub few : length (frames_in form answered) ≤ length (completed form used)
  pub replies : take (length (frames_in form answered)) (each_reply form answerer m used) ≡ replies_to form answerer m answered

-- So it is where the others follow.
frames_first : {M : Type 0} (form : Form) (answerer : Answerer M) (m : M) (used : List ℕ) (answered unanswered : List Event) → answered ++ unanswered ≡ events_in form used → AreFirst form answerer m used answered
frames_first form answerer m used answered unanswered split =
    let later = frames_then answered unanswered (senders_in form) in
    let parted : frames_in form answered ++ later.0 ≡ completed form used = later.1 ∙ ap (frames_in form) split in
    let said : replies_to form answerer m answered ++ later_replies form answerer m answered unanswered ≡ each_reply form answerer m used =
    replies_parted form answerer m answered unanswered ∙ ap (replies_to form answerer m) split in
    let count : length (frames_in form answered) + length later.0 ≡ length (completed form used) = sym (length-append (frames_in form answered) later.0) ∙ ap length parted in
    record {
      frames = first_of (frames_in form answered) later.0 (completed form used) parted;
      few = omega (arith, count);
      replies =
          ap (λ (n : ℕ). take n (each_reply form answerer m used)) (sym (spoken_length form answerer no_counts m (frames_in form answered)))
          ∙ first_of (replies_to form answerer m answered) (later_replies form answerer m answered unanswered) (each_reply form answerer m used) said;
    }

-- No more frames were acknowledged than were answered.
acknowledged_few : {M : Type 0} (form : Form) (answerer : Answerer M) → RepliesHaveBytes answerer → (m : M) (used : List ℕ) (answered unanswered : List Event) (n : ℕ) → answered ++ unanswered ≡ events_in form used
    → n ≤ length (completed form used) → IsFront (joined (take n (each_reply form answerer m used))) (joined (replies_to form answerer m answered)) → n ≤ length (frames_in form answered)
acknowledged_few form answerer some m used answered unanswered n split few front =
    let done = replies_to form answerer m answered in
    let rest = later_replies form answerer m answered unanswered in
    let said : each_reply form answerer m used ≡ done ++ rest = sym (replies_parted form answerer m answered unanswered ∙ ap (replies_to form answerer m) split) in
    let all : length (each_reply form answerer m used) ≡ length (completed form used) = spoken_length form answerer no_counts m (completed form used) in
    let have : HaveBytes (done ++ rest) = subst HaveBytes said (spoken_each form answerer some no_counts m (completed form used)) in
    let within : n ≤ length (done ++ rest) = subst (λ (rs : List (List ℕ)). n ≤ length rs) said (omega (arith, few, all)) in
    let short : IsFront (joined (take n (done ++ rest))) (joined done) = subst (λ (rs : List (List ℕ)). IsFront (joined (take n rs)) (joined done)) said front in
    subst (λ (k : ℕ). n ≤ k) (spoken_length form answerer no_counts m (frames_in form answered)) (replies_fewer n done rest have within short)

-- ---- what a stop finds

-- The bytes that were taken, behind those before.
taken_behind : (before taken bytes : List ℕ) → Took (Some before) (Some (before ++ taken)) bytes → taken ≡ bytes
taken_behind before taken bytes took = append_cancel_left before taken bytes took

-- A folder that opens to the state behind some events holds the first frames, where what was taken is a front of the replies to these
-- events, and has the replies to all their frames but the last.
holds_at : {M : Type 0} (form : Form) (answerer : Answerer M) → RepliesHaveBytes answerer → (m : M) (used : List ℕ) (n : ℕ) (image : Image) (taken : List ℕ) (answered unanswered : List Event) → answered ++ unanswered ≡ events_in form used
    → n ≤ length (completed form used) → IsFront (joined (take n (each_reply form answerer m used))) (joined (replies_to form answerer m answered))
    → IsFront (joined (take (length (frames_in form answered) - 1) (each_reply form answerer m used))) taken → answerer.opens image (machine_by form answerer m answered)
    → HoldsFirst form answerer m used n image taken
holds_at form answerer some m used n image taken answered unanswered split few front ahead found =
    let first = frames_first form answerer m used answered unanswered split in
    record {
      count = length (frames_in form answered);
      at_least = acknowledged_few form answerer some m used answered unanswered n split few front;
      at_most = first.few;
      one_ahead = ahead;
      opens = subst (λ (fs : List (ℕ × (Who × Frame))). answerer.opens image (machine_behind answerer m fs)) (sym first.frames) found;
    }

-- Between two frames it holds exactly the answered ones.
holds_between : {M : Type 0} (form : Form) (answerer : Answerer M) → RepliesHaveBytes answerer → (m : M) (used : List ℕ) (n : ℕ) (image : Image) (taken : List ℕ) (answered unanswered : List Event) → answered ++ unanswered ≡ events_in form used
    → n ≤ length (completed form used) → IsFront (joined (take n (each_reply form answerer m used))) taken → taken ≡ joined (replies_to form answerer m answered)
    → answerer.opens image (machine_by form answerer m answered) → HoldsFirst form answerer m used n image taken
holds_between form answerer some m used n image taken answered unanswered split few front same found =
    let count = length (frames_in form answered) in
    let first = frames_first form answerer m used answered unanswered split in
    let all : joined (take count (each_reply form answerer m used)) ≡ taken = ap joined first.replies ∙ sym same in
    holds_at form answerer some m used n image taken answered unanswered split few
    (subst (λ (bytes : List ℕ). IsFront (joined (take n (each_reply form answerer m used))) bytes) same front)
    (subst (λ (bytes : List ℕ). IsFront (joined (take (count - 1) (each_reply form answerer m used))) bytes) all
    (joined_more (count - 1) count (each_reply form answerer m used) (omega arith)))
    found

-- Once the next frame was carried out it holds that one too, whose reply may be taken in part.
holds_ahead : {M : Type 0} (form : Form) (answerer : Answerer M) → RepliesHaveBytes answerer → (m : M) (used before : List ℕ) (n : ℕ) (image : Image) (taken : List ℕ) (answered unanswered : List Event) → answered ++ unanswered ≡ events_in form used
    → n ≤ length (completed form used) → IsFront (joined (take n (each_reply form answerer m used))) taken
    → (w : IsWithin form answerer m (Some before) image (before ++ taken) answered unanswered)
    → answerer.opens image (machine_by form answerer m (answered ++ Arrived w.session w.frame ∷ [])) → HoldsFirst form answerer m used n image taken
holds_ahead form answerer some m used before n image taken answered unanswered split few front w found =
    let done = replies_to form answerer m answered in
    let more = answered ++ Arrived w.session w.frame ∷ [] in
    let first = frames_first form answerer m used answered unanswered split in
    let same : taken ≡ joined done ++ w.front = taken_behind before taken (joined done ++ w.front) w.replies in
    let further : more ++ w.later ≡ events_in form used =
    append_assoc answered (Arrived w.session w.frame ∷ []) w.later ∙ ap (λ (es : List Event). answered ++ es) (sym w.first) ∙ split in
    let count : length (frames_in form more) ≡ length (frames_in form answered) + 1 =
    sym (spoken_length form answerer no_counts m (frames_in form more)) ∙ ap length w.is_reply ∙ length-append done (w.reply ∷ [])
    ∙ ap (λ (k : ℕ). k + 1) (spoken_length form answerer no_counts m (frames_in form answered)) in
    let one : length (frames_in form more) - 1 ≡ length (frames_in form answered) = omega (arith, count) in
    let last : joined done ++ w.reply ≡ joined (replies_to form answerer m more) =
    ap (λ (bytes : List ℕ). joined done ++ bytes) (sym (append-nil w.reply)) ∙ sym (flat_map-append (λ (x : List ℕ). x) done (w.reply ∷ [])) ∙ ap joined (sym w.is_reply) in
    let part = IsFront-then (joined done) w.front w.reply (joined (replies_to form answerer m more)) w.is_front last in
    let known = subst (λ (bytes : List ℕ). IsFront (joined (take n (each_reply form answerer m used))) bytes) same front in
    let ahead : IsFront (joined done) taken = (w.front, sym same) in
    holds_at form answerer some m used n image taken more w.later further few
    (IsFront-longer (joined (take n (each_reply form answerer m used))) (joined done ++ w.front) part.0 (joined (replies_to form answerer m more)) known part.1)
    (subst (λ (k : ℕ). IsFront (joined (take k (each_reply form answerer m used))) taken) (sym one)
    (subst (λ (rs : List (List ℕ)). IsFront (joined rs) taken) (sym first.replies) ahead))
    found

-- Within the turn of a frame it holds the answered ones, and maybe that one.
holds_within : {M : Type 0} (form : Form) (answerer : Answerer M) → RepliesHaveBytes answerer → (m : M) (used before : List ℕ) (n : ℕ) (image : Image) (taken : List ℕ) (answered unanswered : List Event) → answered ++ unanswered ≡ events_in form used
    → n ≤ length (completed form used) → IsFront (joined (take n (each_reply form answerer m used))) taken → (w : IsWithin form answerer m (Some before) image (before ++ taken) answered unanswered)
    → answerer.opens image (machine_by form answerer m (answered ++ Arrived w.session w.frame ∷ [])) ⊎ ((w.front ≡ []) × answerer.opens image (machine_by form answerer m answered))
    → HoldsFirst form answerer m used n image taken
holds_within form answerer some m used before n image taken answered unanswered split few front w (inl found) =
    holds_ahead form answerer some m used before n image taken answered unanswered split few front w found
holds_within form answerer some m used before n image taken answered unanswered split few front w (inr found) =
    let done = replies_to form answerer m answered in
    let same : taken ≡ joined done =
    taken_behind before taken (joined done ++ w.front) w.replies ∙ ap (λ (bytes : List ℕ). joined done ++ bytes) found.0 ∙ append-nil (joined done) in
    holds_between form answerer some m used n image taken answered unanswered split few front same found.1

-- Wherever a stop fell it holds the first frames.
stop_falls : {M : Type 0} (form : Form) (answerer : Answerer M) → RepliesHaveBytes answerer → (m : M) (used before : List ℕ) (n : ℕ) (image : Image) (taken : List ℕ) (answered unanswered : List Event) → answered ++ unanswered ≡ events_in form used
    → n ≤ length (completed form used) → IsFront (joined (take n (each_reply form answerer m used))) taken
    → IsBetween form answerer m (Some before) image (before ++ taken) answered ⊎ IsWithin form answerer m (Some before) image (before ++ taken) answered unanswered
    → HoldsFirst form answerer m used n image taken
stop_falls form answerer some m used before n image taken answered unanswered split few front (inl b) =
    holds_between form answerer some m used n image taken answered unanswered split few front (taken_behind before taken (joined (replies_to form answerer m answered)) b.replies) b.found
stop_falls form answerer some m used before n image taken answered unanswered split few front (inr w) =
    holds_within form answerer some m used before n image taken answered unanswered split few front w w.found

pub stop_holds : {M : Type 0} (form : Form) (answerer : Answerer M) → RepliesHaveBytes answerer → (m : M) (used before taken : List ℕ) (image : Image) (n : ℕ)
    → StopFinds form answerer m (events_in form used) (Some before) image (before ++ taken) → n ≤ length (completed form used)
    → IsFront (joined (take n (each_reply form answerer m used))) taken → HoldsFirst form answerer m used n image taken
stop_holds form answerer some m used before taken image n stop few front =
    stop_falls form answerer some m used before n image taken stop.answered stop.unanswered stop.split few front stop.finds
