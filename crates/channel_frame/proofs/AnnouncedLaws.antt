-- A head that was read stays, whatever comes behind it.
use Rattle.std.proofs.Common.{◌≡◌, ℕ, ◌≤◌, Bool, true, false, cond, ltb, List, ◌++◌, length, Option, Some, None, Result, Ok, Err, refl, sym, ap, ◌∙◌, arith}
use Rattle.std.proofs.lemmas.Bool.{ltb-false, le-ltb}
use Rattle.std.proofs.lemmas.List.{length-append, get_or_append_left}
use Rattle.channel_frame.specs.declared.frames.Head.{Head}
use Rattle.channel_frame.specs.declared.frames.FrameFault.{FrameFault}
use Rattle.channel_frame.specs.StreamReading.{head_of}
use Rattle.channel_frame.specs.AnnouncedFrames.{there, first_head}
use Rattle.channel_frame.proofs.HeadLaws.{head_of-same}

-- this head was read
pub record IsRead (bytes : List ℕ) (h : Head) : Type 0 where
  pub long : 20 ≤ length bytes
  pub is_head : head_of bytes ≡ Ok h

head_past : (r : Result Head FrameFault) (h : Head) → there r ≡ Ok (Some h) → r ≡ Ok h
head_past (Err e) h is = absurd cc
head_past (Ok g) h is = cc

-- the test of `first_head`
long_past : (b : Bool) (r x : Result (Option Head) FrameFault) → cond b (Ok None) r ≡ x → (x ≡ Ok None → ⊥) → (b ≡ false) × (r ≡ x)
long_past true r x e other = absurd (other (sym e))
long_past false r x e other = (refl, e)

pub head_is_read : (bytes : List ℕ) (h : Head) → first_head bytes ≡ Ok (Some h) → IsRead bytes h
head_is_read bytes h e =
    let p = long_past (ltb (length bytes) 20) (there (head_of bytes)) (Ok (Some h)) e (λ no. cc) in
    record { long = ltb-false _ _ p.0; is_head = head_past (head_of bytes) h p.1 }

-- ---- a head that was read stays, whatever comes behind it

pub head_stays : (bytes more : List ℕ) (h : Head) → first_head bytes ≡ Ok (Some h) → first_head (bytes ++ more) ≡ Ok (Some h)
head_stays bytes more h e =
    let s = head_is_read bytes h e in
    let same : head_of (bytes ++ more) ≡ head_of bytes = head_of-same (bytes ++ more) bytes (λ i lt. get_or_append_left bytes more 0 i (omega (arith, s.long, lt))) in
    let long : ltb (length (bytes ++ more)) 20 ≡ false = le-ltb _ _ (omega (arith, s.long, length-append bytes more)) in
    ap (λ (t : Bool). cond t (Ok None) (there (head_of (bytes ++ more)))) long ∙ ap there (same ∙ s.is_head)
