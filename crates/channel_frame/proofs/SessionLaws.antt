-- A session's bytes that come in pieces are read as the whole of them.
use Rattle.std.proofs.Common.{◌≡◌, ℕ, zero, suc, ◌+◌, ◌-◌, ◌<◌, ◌≤◌, List, [], ◌∷◌, ◌++◌, length, drop, Option, None, Some, Result, Ok, Err, refl, sym, ap, subst, ◌∙◌, ◌⊎◌, inl, inr, append_assoc, arith}
use Rattle.std.proofs.lemmas.Bool.{cases_lt}
use Rattle.std.proofs.lemmas.List.{append-nil, drop-append-le, length-append, length-drop}
use Rattle.channel_frame.specs.declared.frames.Frame.{Frame}
use Rattle.channel_frame.specs.declared.frames.FrameFault.{FrameFault}
use Rattle.channel_frame.specs.declared.frames.Head.{Head}
use Rattle.channel_frame.specs.declared.frames.Header.{Header}
use Rattle.channel_frame.specs.declared.frames.Front.{Front}
use Rattle.channel_frame.specs.declared.frames.Front.TheVariants.{Short, Bad, Whole}
use Rattle.channel_frame.specs.StreamReading.{head_of, frame_len, headers_of, headers_part, with_headers, front, and_then_frames, frames_past, frames_of, and_then_rest, rest_past, rest_of}
use Rattle.channel_frame.specs.SessionBytes.{SessionBytes, held_with, with_more, frames_unless, frames_held, left_at, settled, placed, fault_unless, fault_held}
use Rattle.channel_frame.proofs.HeadLaws.{head_limits}
use Rattle.channel_frame.proofs.FrontLaws.{front_stays, whole_within, front_headed, front_behind}
use Rattle.channel_frame.proofs.ReadingLaws.{HasNone, drop_before, frames_step, rest_step, reading_stops, reading_stops_bad}

-- ---- bytes behind bytes

-- what is read of some bytes and of what follows them
pub record ReadsOn (bytes more : List ℕ) (frames : List Frame) (rest : List ℕ) : Type 0 where
  pub frames_on : frames_of (bytes ++ more) ≡ frames ++ frames_of (rest ++ more)
  pub rest_on : rest_of (bytes ++ more) ≡ rest_of (rest ++ more)
  pub within : length rest ≤ length bytes
  pub none : HasNone rest

cut_behind : (n : ℕ) (bytes more : List ℕ) → n ≤ length bytes → drop n (bytes ++ more) ≡ drop n bytes ++ more
cut_behind n bytes more le = drop-append-le n bytes more le

reads_on_at : (bytes more : List ℕ) (at : Front) (next : ℕ → List Frame) (rest : ℕ → List ℕ) → front bytes ≡ at
    → ((n : ℕ) → 0 < n → ReadsOn (drop n bytes) more (next (n - 1)) (rest (n - 1))) → ReadsOn bytes more (and_then_frames at next) (and_then_rest bytes at rest)
reads_on_at bytes more Short next rest e later = record { frames_on = refl; rest_on = refl; within = omega arith; none = λ f n w. cc }
reads_on_at bytes more (Bad d) next rest e later = record { frames_on = refl; rest_on = refl; within = omega arith; none = λ f n w. cc }
reads_on_at bytes more (Whole f n) next rest e later =
    let long = whole_within bytes f n e in
    let there : front (bytes ++ more) ≡ Whole f n = front_stays bytes more (λ s. cc) ∙ e in
    let r = later n (omega (arith, long.0)) in
    let cut : drop n (bytes ++ more) ≡ drop n bytes ++ more = cut_behind n bytes more long.1 in
    record {
      frames_on = frames_step (bytes ++ more) f n there ∙ ap (λ (xs : List ℕ). f ∷ frames_of xs) cut ∙ ap (λ (fs : List Frame). f ∷ fs) r.frames_on;
      rest_on = rest_step (bytes ++ more) f n there ∙ ap rest_of cut ∙ r.rest_on;
      within = omega (arith, r.within, length-drop n bytes);
      none = r.none;
    }

nothing_reads_on : (more : List ℕ) → ReadsOn [] more [] []
nothing_reads_on more = record { frames_on = refl; rest_on = refl; within = omega arith; none = λ f n w. cc }

reads_on_past : (bytes more : List ℕ) (n : ℕ) → ReadsOn (drop n bytes) more (frames_past bytes n) (rest_past bytes n)
reads_on_past [] more zero = nothing_reads_on more
reads_on_past [] more (suc n) = nothing_reads_on more
reads_on_past (b ∷ bytes) more (suc n) = reads_on_past bytes more n
reads_on_past (b ∷ bytes) more zero =
    reads_on_at (b ∷ bytes) more (front (b ∷ bytes)) (frames_past bytes) (rest_past bytes) refl (λ n lt. rw (drop_before n b bytes lt) (reads_on_past bytes more (n - 1)))

-- the frames of some bytes and of what follows are the frames of the bytes, and those of their tail and what follows
pub reads_on : (bytes more : List ℕ) → ReadsOn bytes more (frames_of bytes) (rest_of bytes)
reads_on bytes more = reads_on_past bytes more 0

-- ---- a session's bytes and more of them

-- what more bytes do to a session, and to what is left of it
pub record GoesOn (b : SessionBytes) (more : List ℕ) : Type 0 where
  pub frames : frames_held (with_more b more) ≡ frames_held b ++ frames_held (with_more (settled b) more)
  pub left : settled (with_more b more) ≡ settled (with_more (settled b) more)

bad_on : (g : ℕ) (h r more : List ℕ) (e : FrameFault) → rest_of h ≡ r → front r ≡ Bad e → ReadsOn h more (frames_of h) r
    → (frames_of (h ++ more) ≡ frames_of h ++ []) × (left_at (front (rest_of (h ++ more))) (g + (length (h ++ more) - length (rest_of (h ++ more)))) (rest_of (h ++ more))
    ≡ record { given = g + (length h - length r); held = []; fault = Some e })
bad_on g h r more e is bad on =
    let there : front (r ++ more) ≡ Bad e = front_stays r more (λ s. cc) ∙ bad in
    let stop = reading_stops_bad (r ++ more) e there in
    let rest : rest_of (h ++ more) ≡ r ++ more = on.rest_on ∙ stop.1 in
    let len : g + (length (h ++ more) - length (r ++ more)) ≡ g + (length h - length r) = omega (arith, length-append h more, length-append r more, on.within) in (
      on.frames_on ∙ ap (λ (fs : List Frame). frames_of h ++ fs) stop.0,
      ap (λ (q : List ℕ). left_at (front q) (g + (length (h ++ more) - length q)) q) rest ∙ ap (λ (f : Front). left_at f (g + (length (h ++ more) - length (r ++ more))) (r ++ more)) there ∙ ap (λ (n : ℕ). record { given = n; held = []; fault = Some e }) len,
    )

-- where the tail of what is held is faulty
goes_on_bad : (g : ℕ) (h more : List ℕ) (e : FrameFault) → front (rest_of h) ≡ Bad e → GoesOn (record { given = g; held = h; fault = None }) more
goes_on_bad g h more e bad =
    let b : SessionBytes = record { given = g; held = h; fault = None } in
    let is : settled b ≡ record { given = g + (length h - length (rest_of h)); held = []; fault = Some e } = ap (λ (f : Front). left_at f (g + (length h - length (rest_of h))) (rest_of h)) bad in
    let on = bad_on g h (rest_of h) more e refl bad (reads_on h more) in
    record {
      frames = on.0 ∙ ap (λ (x : SessionBytes). frames_of h ++ frames_held (with_more x more)) (sym is);
      left = on.1 ∙ ap (λ (x : SessionBytes). settled (with_more x more)) (sym is);
    }

-- where it is unfinished
goes_on_short : (g : ℕ) (h more : List ℕ) → settled (record { given = g; held = h; fault = None }) ≡ record { given = g + (length h - length (rest_of h)); held = rest_of h; fault = None }
    → GoesOn (record { given = g; held = h; fault = None }) more
goes_on_short g h more is =
    let r : List ℕ = rest_of h in
    let q : List ℕ = rest_of (r ++ more) in
    let on = reads_on h more in
    let after = reads_on (r ++ more) [] in
    let len : g + (length (h ++ more) - length q) ≡ g + (length h - length r) + (length (r ++ more) - length q) = omega (arith, length-append h more, length-append r more, on.within, after.within) in
    record {
      frames = on.frames_on ∙ ap (λ (x : SessionBytes). frames_of h ++ frames_held (with_more x more)) (sym is);
      left =
          ap (λ (t : List ℕ). left_at (front t) (g + (length (h ++ more) - length t)) t) on.rest_on
          ∙ ap (λ (n : ℕ). left_at (front q) n q) len
          ∙ ap (λ (x : SessionBytes). settled (with_more x more)) (sym is);
    }

goes_on_at : (g : ℕ) (h more : List ℕ) (at : Front) → front (rest_of h) ≡ at → GoesOn (record { given = g; held = h; fault = None }) more
goes_on_at g h more Short e = goes_on_short g h more (ap (λ (f : Front). left_at f (g + (length h - length (rest_of h))) (rest_of h)) e)
goes_on_at g h more (Bad d) e = goes_on_bad g h more d e
goes_on_at g h more (Whole f n) e = absurd ((reads_on h more).none f n e)

goes_on_parts : (g : ℕ) (h : List ℕ) (o : Option FrameFault) (more : List ℕ) → GoesOn (record { given = g; held = h; fault = o }) more
goes_on_parts g h None more = goes_on_at g h more (front (rest_of h)) refl
goes_on_parts g h (Some e) more = record { frames = refl; left = refl }

-- more bytes are read behind what is left
pub goes_on : (b : SessionBytes) (more : List ℕ) → GoesOn b more
goes_on b more = goes_on_parts b.given b.held b.fault more

-- ---- what is left is quiet: no frame and no new fault is in it

-- nothing is whole in what the session holds
pub record IsQuiet (b : SessionBytes) : Type 0 where
  pub frames : frames_held b ≡ []
  pub left : settled b ≡ b

quiet_at : (g : ℕ) (r : List ℕ) → front r ≡ Short → IsQuiet (record { given = g; held = r; fault = None })
quiet_at g r e =
    let stop = reading_stops r (λ f n w. cc) in
    let same : g + (length r - length r) ≡ g = omega arith in
    record {
      frames = stop.0;
      left = ap (λ (t : List ℕ). left_at (front t) (g + (length r - length t)) t) stop.1 ∙ ap (λ (f : Front). left_at f (g + (length r - length r)) r) e ∙ ap (λ (n : ℕ). record { given = n; held = r; fault = None }) same;
    }

quiet_faulty : (g : ℕ) (e : FrameFault) → IsQuiet (record { given = g; held = []; fault = Some e })
quiet_faulty g e = record { frames = refl; left = refl }

pub quiet_short : (b : SessionBytes) → b.fault ≡ None → front b.held ≡ Short → IsQuiet b
quiet_short b none e =
    let is : ◌≡◌ {A = SessionBytes} (record { given = b.given; held = b.held; fault = None }) b = ap (λ (o : Option FrameFault). record { given = b.given; held = b.held; fault = o }) (sym none) in
    subst IsQuiet is (quiet_at b.given b.held e)

settled_quiet_at : (g : ℕ) (h : List ℕ) (at : Front) → front (rest_of h) ≡ at → IsQuiet (settled (record { given = g; held = h; fault = None }))
settled_quiet_at g h Short e = subst IsQuiet (sym (ap (λ (f : Front). left_at f (g + (length h - length (rest_of h))) (rest_of h)) e)) (quiet_at (g + (length h - length (rest_of h))) (rest_of h) e)
settled_quiet_at g h (Bad d) e = subst IsQuiet (sym (ap (λ (f : Front). left_at f (g + (length h - length (rest_of h))) (rest_of h)) e)) (quiet_faulty (g + (length h - length (rest_of h))) d)
settled_quiet_at g h (Whole f n) e = absurd ((reads_on h []).none f n e)

settled_quiet_parts : (g : ℕ) (h : List ℕ) (o : Option FrameFault) → IsQuiet (settled (record { given = g; held = h; fault = o }))
settled_quiet_parts g h None = settled_quiet_at g h (front (rest_of h)) refl
settled_quiet_parts g h (Some e) = quiet_faulty g e

pub settled_quiet : (b : SessionBytes) → IsQuiet (settled b)
settled_quiet b = settled_quiet_parts b.given b.held b.fault

-- what is left of a quiet session has no new fault
fault_none_at : (b : SessionBytes) (o : Option FrameFault) → b.fault ≡ o → fault_unless o b ≡ None
fault_none_at b None e = ap (λ (o : Option FrameFault). placed o b.given) e
fault_none_at b (Some d) e = refl

pub quiet_fault : (b : SessionBytes) → IsQuiet b → fault_held b ≡ None
quiet_fault b quiet = ap (fault_unless b.fault) quiet.left ∙ fault_none_at b b.fault refl

-- where a fault was met, there is nothing more
pub met_nothing : (b : SessionBytes) (e : FrameFault) → b.fault ≡ Some e → (frames_held b ≡ []) × (fault_held b ≡ None)
met_nothing b e some = (ap (λ (o : Option FrameFault). frames_unless o b.held) some, ap (λ (o : Option FrameFault). fault_unless o (settled b)) some)

-- ---- a frame at a time

-- what giving the frame at the front does
pub record GivesFrame (b after : SessionBytes) (f : Frame) : Type 0 where
  pub frames : frames_held b ≡ f ∷ frames_held after
  pub left : settled b ≡ settled after
  pub fault : fault_held b ≡ fault_held after

gives_frame_parts : (g : ℕ) (h : List ℕ) (f : Frame) (n : ℕ) → front h ≡ Whole f n
    → GivesFrame (record { given = g; held = h; fault = None }) (record { given = g + n; held = drop n h; fault = None }) f
gives_frame_parts g h f n e =
    let long = whole_within h f n e in
    let on = reads_on (drop n h) [] in
    let q : List ℕ = rest_of (drop n h) in
    let rest : rest_of h ≡ q = rest_step h f n e in
    let len : g + (length h - length q) ≡ g + n + (length (drop n h) - length q) = omega (arith, length-drop n h, long.1, on.within) in
    let left = ap (λ (t : List ℕ). left_at (front t) (g + (length h - length t)) t) rest ∙ ap (λ (m : ℕ). left_at (front q) m q) len in
    record {
      frames = frames_step h f n e;
      left = left;
      fault = ap (fault_unless None) left;
    }

pub gives_frame : (b : SessionBytes) (f : Frame) (n : ℕ) → b.fault ≡ None → front b.held ≡ Whole f n
    → GivesFrame b (record { given = b.given + n; held = drop n b.held; fault = None }) f
gives_frame b f n none e =
    let is : ◌≡◌ {A = SessionBytes} (record { given = b.given; held = b.held; fault = None }) b = ap (λ (o : Option FrameFault). record { given = b.given; held = b.held; fault = o }) (sym none) in
    subst (λ (x : SessionBytes). GivesFrame x (record { given = b.given + n; held = drop n b.held; fault = None }) f) is (gives_frame_parts b.given b.held f n e)

-- what telling the fault at the front does
pub record TellsFault (b : SessionBytes) (e : FrameFault) : Type 0 where
  pub frames : frames_held b ≡ []
  pub left : settled b ≡ record { given = b.given; held = []; fault = Some e }
  pub fault : fault_held b ≡ Some (e, b.given)

tells_fault_parts : (g : ℕ) (h : List ℕ) (e : FrameFault) → front h ≡ Bad e → TellsFault (record { given = g; held = h; fault = None }) e
tells_fault_parts g h e bad =
    let stop = reading_stops_bad h e bad in
    let same : g + (length h - length h) ≡ g = omega arith in
    let left : settled (record { given = g; held = h; fault = None }) ≡ record { given = g; held = []; fault = Some e } =
    ap (λ (t : List ℕ). left_at (front t) (g + (length h - length t)) t) stop.1 ∙ ap (λ (f : Front). left_at f (g + (length h - length h)) h) bad ∙ ap (λ (n : ℕ). record { given = n; held = []; fault = Some e }) same
    in
    record { frames = stop.0; left = left; fault = ap (fault_unless None) left }

pub tells_fault : (b : SessionBytes) (e : FrameFault) → b.fault ≡ None → front b.held ≡ Bad e → TellsFault b e
tells_fault b e none bad =
    let is : ◌≡◌ {A = SessionBytes} (record { given = b.given; held = b.held; fault = None }) b = ap (λ (o : Option FrameFault). record { given = b.given; held = b.held; fault = o }) (sym none) in
    subst (λ (x : SessionBytes). TellsFault x e) is (tells_fault_parts b.given b.held e bad)

-- ---- more and more bytes

more_twice_parts : (g : ℕ) (h : List ℕ) (o : Option FrameFault) (x y : List ℕ) → with_more (held_with o g h x) y ≡ held_with o g h (x ++ y)
more_twice_parts g h None x y = ap (λ (t : List ℕ). record { given = g; held = t; fault = None }) (append_assoc h x y)
more_twice_parts g h (Some e) x y = refl

pub more_twice : (b : SessionBytes) (x y : List ℕ) → with_more (with_more b x) y ≡ with_more b (x ++ y)
more_twice b x y = more_twice_parts b.given b.held b.fault x y

no_more_parts : (g : ℕ) (h : List ℕ) (o : Option FrameFault) → held_with o g h [] ≡ record { given = g; held = h; fault = o }
no_more_parts g h None = ap (λ (t : List ℕ). record { given = g; held = t; fault = None }) (append-nil h)
no_more_parts g h (Some e) = refl

pub no_more : (b : SessionBytes) → with_more b [] ≡ b
no_more b = no_more_parts b.given b.held b.fault

-- ---- the fault is told once

-- either no fault is held yet, and what comes has the fault of all; or it is held, and nothing is read of what comes
abbrev pub FaultOn : SessionBytes → List ℕ → Type 0
FaultOn b more =
    ((fault_held b ≡ None) × (fault_held (with_more b more) ≡ fault_held (with_more (settled b) more)))
    ⊎ ((fault_held (with_more b more) ≡ fault_held b) × (fault_held (with_more (settled b) more) ≡ None) × (frames_held (with_more (settled b) more) ≡ []))

fault_on_at : (g : ℕ) (h more : List ℕ) (at : Front) → front (rest_of h) ≡ at → FaultOn (record { given = g; held = h; fault = None }) more
fault_on_at g h more Short e =
    let b : SessionBytes = record { given = g; held = h; fault = None } in
    let is : settled b ≡ record { given = g + (length h - length (rest_of h)); held = rest_of h; fault = None } = ap (λ (f : Front). left_at f (g + (length h - length (rest_of h))) (rest_of h)) e in
    inl (
      ap (fault_unless None) is,
      ap (fault_unless None) (goes_on b more).left
          ∙ ap (λ (x : SessionBytes). fault_unless None (settled (with_more x more))) is
          ∙ sym (ap (λ (x : SessionBytes). fault_held (with_more x more)) is),
    )
fault_on_at g h more (Bad d) e =
    let b : SessionBytes = record { given = g; held = h; fault = None } in
    let is : settled b ≡ record { given = g + (length h - length (rest_of h)); held = []; fault = Some d } = ap (λ (f : Front). left_at f (g + (length h - length (rest_of h))) (rest_of h)) e in
    inr (
      ap (fault_unless None) (goes_on b more).left
          ∙ ap (λ (x : SessionBytes). fault_unless None (settled (with_more x more))) is
          ∙ sym (ap (fault_unless None) is),
      ap (λ (x : SessionBytes). fault_held (with_more x more)) is,
      ap (λ (x : SessionBytes). frames_held (with_more x more)) is,
    )
fault_on_at g h more (Whole f n) e = absurd ((reads_on h more).none f n e)

fault_on_parts : (g : ℕ) (h : List ℕ) (o : Option FrameFault) (more : List ℕ) → FaultOn (record { given = g; held = h; fault = o }) more
fault_on_parts g h None more = fault_on_at g h more (front (rest_of h)) refl
fault_on_parts g h (Some e) more = inl (refl, refl)

pub fault_on : (b : SessionBytes) (more : List ℕ) → FaultOn b more
fault_on b more = fault_on_parts b.given b.held b.fault more

-- ---- how long an unfinished frame may be

not_short : (h : Head) (bytes : List ℕ) (o : Option (List Header)) → with_headers h bytes o ≡ Short → ⊥
not_short h bytes None e = cc
not_short h bytes (Some hs) e = cc

few_headed : (bytes : List ℕ) (r : Result Head FrameFault) → 20 ≤ length bytes → head_of bytes ≡ r → front bytes ≡ Short → length bytes ≤ 1114131
few_headed bytes (Err d) long e short =
    let bad : front bytes ≡ Bad d = front_headed bytes (Err d) long e in
    absurd cc
few_headed bytes (Ok h) long e short =
    let limits = head_limits bytes h e in
    elim (cases_lt (length bytes) (frame_len h)) [
      | inl lt ↦ omega (arith, limits.0, limits.1)
      | inr le ↦ absurd (not_short h bytes (headers_of (headers_part h bytes)) (sym (front_behind bytes h long e le) ∙ short))
    ]

pub short_few : (bytes : List ℕ) → front bytes ≡ Short → length bytes ≤ 1114131
short_few bytes short =
    elim (cases_lt (length bytes) 20) [
      | inl lt ↦ omega arith
      | inr le ↦ few_headed bytes (head_of bytes) le refl short
    ]
