-- One call, said of the bytes before and after it.
use Rattle.std.proofs.Common.{◌≡◌, ℕ, ◌+◌, ◌<◌, Bool, true, false, cond, ltb, List, ◌++◌, length, Option, None, Some, Result, Ok, Err, refl, sym, ap, subst, ◌∙◌, inl, inr, arith}
use Rattle.std.proofs.lemmas.Bool.{cases_lt}
use Rattle.channel_frame.specs.declared.frames.Head.{Head}
use Rattle.channel_frame.specs.declared.frames.Header.{Header}
use Rattle.channel_frame.specs.declared.frames.FrameFault.{FrameFault}
use Rattle.channel_frame.specs.declared.frames.FrameFault.TheVariants.{BadMarker, TooLong, NoMemory}
use Rattle.channel_frame.specs.declared.frames.Front.TheVariants.{Short, Bad}
use Rattle.channel_frame.specs.StreamReading.{starts_with_marker, head_of, headers_of, headers_part, with_headers, with_head, front}
use Rattle.channel_frame.proofs.AnnouncedLaws.{head_stays}
use Rattle.channel_frame.proofs.FrontLaws.{front_short, front_headed}
use Rattle.std.specs.Prelude.{◌^◌, OnOk, OnErr}
use Rattle.std.proofs.lemmas.List.{length-append}
use Rattle.frame_stream.specs.StreamSteps.{IsFault, HoldsNoneAfter, KnowsHead}

-- ---- want of memory is no fault of the bytes

head_fault : (b c : Bool) (h : Head) → ◌≡◌ {A = Result Head FrameFault} (cond b (cond c (Err TooLong) (Ok h)) (Err BadMarker)) (Err NoMemory) → ⊥
head_fault true true h e = cc
head_fault true false h e = cc
head_fault false c h e = cc

headers_fault : (h : Head) (bytes : List ℕ) (o : Option (List Header)) → with_headers h bytes o ≡ Bad NoMemory → ⊥
headers_fault h bytes None e = cc
headers_fault h bytes (Some hs) e = cc

cut_fault : (b : Bool) (h : Head) (bytes : List ℕ) → cond b Short (with_headers h bytes (headers_of (headers_part h bytes))) ≡ Bad NoMemory → ⊥
cut_fault true h bytes e = cc
cut_fault false h bytes e = headers_fault h bytes (headers_of (headers_part h bytes)) e

behind_fault : (bytes : List ℕ) (r : Result Head FrameFault) → (r ≡ Err NoMemory → ⊥) → with_head bytes r ≡ Bad NoMemory → ⊥
behind_fault bytes (Err d) other e = other cc
behind_fault bytes (Ok h) other e = cut_fault (ltb (length bytes) (20 + h.headers_len + h.body_len)) h bytes e

no_head_fault : (bytes : List ℕ) → head_of bytes ≡ Err NoMemory → ⊥
no_head_fault bytes e = head_fault (starts_with_marker bytes) _ _ e

pub is_fault : (bytes : List ℕ) (e : FrameFault) → front bytes ≡ Bad e → IsFault e
is_fault bytes e is none =
    let want : front bytes ≡ Bad NoMemory = is ∙ ap Bad none in
    elim (cases_lt (length bytes) 20) [
      | inl lt ↦
          let short : front bytes ≡ Short = front_short bytes lt in
          cc
      | inr le ↦ behind_fault bytes (head_of bytes) (no_head_fault bytes) (sym (front_headed bytes (head_of bytes) le refl) ∙ want)
    ]

-- ---- a head that is known stays

pub known_stays : (o : Option Head) (held more : List ℕ) → KnowsHead o held → KnowsHead o (held ++ more)
known_stays None held more knows = tt
known_stays (Some h) held more knows = head_stays held more h knows

-- a piece comes behind the bytes held, or no memory is there and they stay
pub feed_keeps : {T E : Type 0} (r : Result T E) (given : ℕ) (held piece new : List ℕ) (o : Option FrameFault) (head : Option Head) → OnOk r (new ≡ held ++ piece) → OnErr r (new ≡ held)
    → given + length held + length piece < 2 ^ 63 → o ≡ None → KnowsHead head held → (given + length new < 2 ^ 63) × HoldsNoneAfter o new × KnowsHead head new
feed_keeps (Ok x) given held piece new o head ok err room none knows = (
  omega (arith, ap length ok, length-append held piece, room),
  subst (λ (p : Option FrameFault). HoldsNoneAfter p new) (sym none) tt,
  subst (KnowsHead head) (sym ok) (known_stays head held piece knows),
)
feed_keeps (Err e) given held piece new o head ok err room none knows = (
  omega (arith, ap length err, room),
  subst (λ (p : Option FrameFault). HoldsNoneAfter p new) (sym none) tt,
  subst (KnowsHead head) (sym err) knows,
)
