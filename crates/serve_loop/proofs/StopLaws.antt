-- What a stop within a turn of the serving loop finds.
use Rattle.std.proofs.Common.{◌≡◌, ◌⊎◌, inl, inr, List, ℕ, [], refl, subst}
use Rattle.std.specs.declared.option.Option.{Option}
use Rattle.ziti_outside.specs.Images.{Image}
use Rattle.ziti_outside.specs.Moments.{Now, Saying, Elapses, Leaves}
use Rattle.ziti_outside.proofs.Moves.{Took-taken, IsFront-none}
use Rattle.ziti_outside.proofs.MomentLaws.{Elapses-then, Elapses-weaker}
use Rattle.ziti_outside.specs.Views.{Seen, Stopped}
use Rattle.serve_loop.specs.Answerers.{Answerer}
use Rattle.serve_loop.specs.Turns.{Turn}

-- A stop within the answering of a frame finds no byte of the reply taken.
stop_answering : {M : Type 0} (answerer : Answerer M) (before next : M) (reply : List ℕ) (said : Option (List ℕ)) (image : Image) (taken : List ℕ)
    → Now (λ i. answerer.opens i before ⊎ answerer.opens i next) said image taken → Turn answerer before next reply said image taken
stop_answering answerer before next reply said image taken now = record {
  front = [];
  is_front = IsFront-none reply;
  replies = Took-taken said taken now.replies;
  found = elim now.found as (λ _. answerer.opens image next ⊎ (◌≡◌ {A = List ℕ} [] [] × answerer.opens image before)) [ inl p ↦ inr (refl, p) | inr p ↦ inl p ];
}

-- A stop within the saying of the reply finds the folder as it is then.
stop_saying : {M : Type 0} (answerer : Answerer M) (before next : M) (bytes : List ℕ) (said : Option (List ℕ)) (images : Image → Type 0) (image : Image) (taken : List ℕ)
    → ((i : Image) → images i → answerer.opens i next) → Saying images said bytes image taken → Turn answerer before next bytes said image taken
stop_saying answerer before next bytes said images image taken opens now = record {
  front = now.front;
  is_front = now.is_front;
  replies = now.replies;
  found = inl (opens image now.found);
}

-- A turn that ended before its reply was said.
pub turn_stops_short : {D M : Type 0} {seen : D → Seen} {stopped : D → Stopped} {old new : D}
    (answerer : Answerer M) (before next : M) (reply : List ℕ) → Leaves seen stopped old new (λ i. answerer.opens i before ⊎ answerer.opens i next)
    → Elapses (stopped old) (stopped new) (Turn answerer before next reply (seen old).said)
turn_stops_short {seen = seen} {old = old} answerer before next reply answering =
    Elapses-weaker (Turn answerer before next reply (seen old).said) answering.time (λ i w now. stop_answering answerer before next reply (seen old).said i w now)

-- A turn with the saying of its reply, all of it or a front, behind which the folder opens to the machine now.
pub turn_stops : {D M : Type 0} {seen : D → Seen} {stopped : D → Stopped} {old mid new : D}
    (answerer : Answerer M) (before next now : M) (reply bytes : List ℕ) → Leaves seen stopped old mid (λ i. answerer.opens i before ⊎ answerer.opens i next)
    → now ≡ next → bytes ≡ reply → ((i : Image) → (stopped mid).images i → answerer.opens i now)
    → Elapses (stopped mid) (stopped new) (Saying (stopped mid).images (seen mid).said bytes)
    → Elapses (stopped old) (stopped new) (Turn answerer before next reply (seen old).said)
turn_stops {M = M} {seen = seen} {stopped = stopped} {old = old} {mid = mid} answerer before next now reply bytes answering is same opens saying =
    Elapses-then (Turn answerer before next reply (seen old).said) answering.time saying
    (λ i w p. stop_answering answerer before next reply (seen old).said i w p)
    (λ i w p.
    subst (λ (x : Option (List ℕ)). Turn answerer before next reply x i w) answering.quiet
    (subst (λ (x : List ℕ). Turn answerer before next x (seen mid).said i w) same
    (stop_saying answerer before next bytes (seen mid).said (stopped mid).images i w (λ j left. subst (λ (x : M). answerer.opens j x) is (opens j left)) p)))
