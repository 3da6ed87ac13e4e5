-- Many calls, one after another.
use Rattle.std.proofs.Common.{◌≡◌, ℕ, ◌+◌, ◌-◌, List, [], ◌∷◌, ◌++◌, length, Option, None, Some, Result, Ok, Err, refl, sym, ap, subst, ◌∙◌, inl, inr, append_assoc, arith}
use Rattle.std.specs.Option.{option_map}
use Rattle.std.proofs.lemmas.List.{append-nil}
use Rattle.channel_frame.specs.declared.frames.Frame.{Frame}
use Rattle.channel_frame.specs.declared.frames.FrameFault.{FrameFault}
use Rattle.channel_frame.specs.declared.frames.Front.{Front}
use Rattle.channel_frame.specs.declared.frames.Front.TheVariants as front_is
use Rattle.channel_frame.specs.StreamReading.{front, frames_of, rest_of, fault_in, fault_of}
use Rattle.channel_frame.specs.SessionBytes.{SessionBytes, no_bytes, with_more, frames_held, left_at, settled, placed}
use Rattle.channel_frame.proofs.SessionLaws.{goes_on, more_twice, no_more, quiet_short, settled_quiet, gives_frame, tells_fault}
use Rattle.frame_stream.specs.declared.faults.StreamFault.{StreamFault}
use Rattle.frame_stream.specs.declared.faults.StreamFault.TheVariants.{Bad, NoMemory}
use Rattle.frame_stream.specs.StreamSteps.{NextGives, at_fault}
use Rattle.frame_stream.specs.Calls.{Call, Came, Answered, Leads, bytes_in, frame_in, frames_in, ReadsAlike, IsAskedOut, HasRead}

-- ---- going on from one to another gives these frames first, and leaves the same

pub record StepsOn (a b : SessionBytes) (fs : List Frame) : Type 0 where
  pub frames : frames_held a ≡ fs ++ frames_held b
  pub left : settled a ≡ settled b

stays_put : (a b : SessionBytes) → a ≡ b → StepsOn a b []
stays_put a b e = subst (λ (x : SessionBytes). StepsOn a x []) e (record { frames = refl; left = refl })

steps_then : (a b c : SessionBytes) (fs gs : List Frame) → StepsOn a b fs → StepsOn b c gs → StepsOn a c (fs ++ gs)
steps_then a b c fs gs p q =
    record {
      frames = p.frames ∙ ap (λ (hs : List Frame). fs ++ hs) q.frames ∙ sym (append_assoc fs gs (frames_held c));
      left = p.left ∙ q.left;
    }

-- whatever comes from then on
steps_more : (a b : SessionBytes) (fs : List Frame) (more : List ℕ) → StepsOn a b fs → StepsOn (with_more a more) (with_more b more) fs
steps_more a b fs more on =
    let x = goes_on a more in
    let y = goes_on b more in
    record {
      frames =
          x.frames
          ∙ ap (λ (hs : List Frame). hs ++ frames_held (with_more (settled a) more)) on.frames
          ∙ ap (λ (s : SessionBytes). (fs ++ frames_held b) ++ frames_held (with_more s more)) on.left
          ∙ append_assoc fs (frames_held b) (frames_held (with_more (settled b) more))
          ∙ ap (λ (hs : List Frame). fs ++ hs) (sym y.frames);
      left = x.left ∙ ap (λ (s : SessionBytes). settled (with_more s more)) on.left ∙ sym y.left;
    }

answer_steps : (old new : SessionBytes) (answer : Result (Option Frame) StreamFault) → NextGives old new answer → StepsOn old new (frame_in answer)
answer_steps old new (Ok (Some f)) t =
    let g = gives_frame old f t.len t.none t.there in
    subst (λ (x : SessionBytes). StepsOn old x (f ∷ [])) (sym t.after) (record { frames = g.frames; left = g.left })
answer_steps old new (Ok None) h = stays_put old new (sym h.same)
answer_steps old new (Err (Bad n at)) (e, fault, is, inl m) =
    let t = tells_fault old e m.none m.there in
    subst (λ (x : SessionBytes). StepsOn old x []) (sym m.after) (record { frames = t.frames; left = t.left })
answer_steps old new (Err (Bad n at)) (e, fault, is, inr m) = stays_put old new (sym m.same)
answer_steps old new (Err NoMemory) h = stays_put old new (sym h.1)

-- all bytes that come first, and then what was given
pub calls_step : (calls : List Call) (a b : SessionBytes) → Leads a calls b → StepsOn (with_more a (bytes_in calls)) b (frames_in calls)
calls_step [] a b is = stays_put (with_more a []) b (no_more a ∙ is)
calls_step (Came piece ∷ calls) a b leads =
    subst (λ (x : SessionBytes). StepsOn x b (frames_in calls)) (more_twice a piece (bytes_in calls)) (calls_step calls (with_more a piece) b leads)
calls_step (Answered answer ∷ calls) a b (between, gives, leads) =
    steps_then (with_more a (bytes_in calls)) (with_more between (bytes_in calls)) b (frame_in answer) (frames_in calls)
    (steps_more a between (frame_in answer) (bytes_in calls) (answer_steps a between answer gives))
    (calls_step calls between b leads)

pub reads_alike : (calls : List Call) (b : SessionBytes) → Leads no_bytes calls b → ReadsAlike calls b
reads_alike calls b leads =
    let on = calls_step calls no_bytes b leads in
    record { frames = sym on.frames; left = sym on.left }

-- ---- where it was asked until nothing more came

left_fault : (at : Front) (n : ℕ) (rest : List ℕ) → placed (left_at at n rest).fault (left_at at n rest).given ≡ option_map (λ e. (e, n)) (fault_in at)
left_fault front_is.Short n rest = refl
left_fault (front_is.Bad e) n rest = refl
left_fault (front_is.Whole f m) n rest = refl

left_held : (at : Front) (n : ℕ) (rest : List ℕ) → (left_at at n rest).fault ≡ None → (left_at at n rest).held ≡ rest
left_held front_is.Short n rest none = refl
left_held (front_is.Bad e) n rest none = absurd cc
left_held (front_is.Whole f m) n rest none = refl

fault_all : (bytes : List ℕ) (b : SessionBytes) → b ≡ settled (with_more no_bytes bytes) → placed b.fault b.given ≡ fault_of bytes
fault_all bytes b is =
    let r : List ℕ = rest_of bytes in
    let n : ℕ = length bytes - length r in
    let from : 0 + n ≡ n = omega arith in
    ap (λ (x : SessionBytes). placed x.fault x.given) is ∙ left_fault (front r) (0 + n) r ∙ ap (λ (m : ℕ). option_map (λ e. (e, m)) (fault_in (front r))) from

held_all : (bytes : List ℕ) (b : SessionBytes) → b ≡ settled (with_more no_bytes bytes) → b.fault ≡ None → b.held ≡ rest_of bytes
held_all bytes b is none =
    let r : List ℕ = rest_of bytes in
    ap (λ (x : SessionBytes). x.held) is ∙ left_held (front r) (0 + (length bytes - length r)) r (ap (λ (x : SessionBytes). x.fault) (sym is) ∙ none)

nothing_whole : (b : SessionBytes) → IsAskedOut b → frames_held b ≡ []
nothing_whole b out = ap frames_held (sym out) ∙ (settled_quiet b).frames

pub has_read : (calls : List Call) (b : SessionBytes) → Leads no_bytes calls b → IsAskedOut b → HasRead calls b
has_read calls b leads out =
    let r = reads_alike calls b leads in
    let is : b ≡ settled (with_more no_bytes (bytes_in calls)) = sym out ∙ r.left in
    record {
      frames = sym (append-nil (frames_in calls)) ∙ ap (λ (fs : List Frame). frames_in calls ++ fs) (sym (nothing_whole b out)) ∙ r.frames;
      fault = fault_all (bytes_in calls) b is;
      held = held_all (bytes_in calls) b is;
    }

pub cut_alike : (calls others : List Call) (b c : SessionBytes) → Leads no_bytes calls b → Leads no_bytes others c → IsAskedOut b → IsAskedOut c
    → bytes_in calls ≡ bytes_in others → (frames_in calls ≡ frames_in others) × (b ≡ c)
cut_alike calls others b c p q out done same =
    let x = reads_alike calls b p in
    let y = reads_alike others c q in (
      (has_read calls b p out).frames ∙ ap frames_of same ∙ sym (has_read others c q done).frames,
      sym out ∙ x.left ∙ ap (λ (bytes : List ℕ). settled (with_more no_bytes bytes)) same ∙ sym y.left ∙ done,
    )

-- ---- what is left behind an answer

pub out_none : (old new : SessionBytes) → NextGives old new (Ok None) → IsAskedOut new
out_none old new h = subst IsAskedOut (sym h.same) (quiet_short old h.none h.short).left

met_out : (b : SessionBytes) (e : FrameFault) → IsAskedOut (at_fault b e)
met_out b e = refl

met_is : (b : SessionBytes) (e : FrameFault) → b.fault ≡ Some e → b.held ≡ [] → at_fault b e ≡ b
met_is b e some held =
    ap (λ (h : List ℕ). record { given = b.given; held = h; fault = Some e }) (sym held) ∙ ap (λ (o : Option FrameFault). record { given = b.given; held = b.held; fault = o }) (sym some)

pub out_met : (old new : SessionBytes) (n at : ℕ) → NextGives old new (Err (Bad n at)) → IsAskedOut new
out_met old new n at (e, fault, is, inl m) = subst IsAskedOut (sym m.after) (met_out old e)
out_met old new n at (e, fault, is, inr m) = subst IsAskedOut (met_is old e m.some m.held ∙ sym m.same) (met_out old e)
