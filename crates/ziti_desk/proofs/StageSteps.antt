-- What one more call does to the stages of a desk over a drive.
use Rattle.std.proofs.Common.{◌≡◌, ◌⊎◌, inl, inr, ℕ, zero, suc, ◌≤◌, List, [], ◌∷◌, ◌++◌, length, None, Some, Ok, Err, refl, sym, ap, ◌∙◌, subst, arith, append_assoc, append-nil, length-append}
use Rattle.std.proofs.lemmas.List.{append_cancel_left}
use Rattle.std.specs.declared.option.Option.{Option}
use Rattle.std.specs.declared.result.Result.{Result}
use Rattle.ziti_outside.specs.Images.{Image}
use Rattle.ziti_outside.specs.Moments.{Now, Saying, Elapses, Remembers, Leaves}
use Rattle.ziti_outside.specs.Views.{Seen, Stopped}
use Rattle.ziti_outside.specs.Told.{Took, AreTaken, IsFront, Hands}
use Rattle.ziti_outside.proofs.Moves.{IsFront-none, IsFront-all, IsFront-longer}
use Rattle.desk_base.specs.DriveStops.{Finds}
use Rattle.ziti_desk.specs.Stages.{IsBetween, StopsWithin, next_of, PairsFrom, staged}

-- A desk whose replies nobody asks for leaves what its folder leaves.
pub finds_of_leaves : {D : Type 0} {seen : D → Seen} {stopped : D → Stopped} {old new : D} {X : Image → Type 0}
    → Leaves seen stopped old new X → Remembers (stopped old) (stopped new)
    → Finds (λ d. (stopped d).moment) (λ d time image. (taken : List ℕ) × (stopped d).since time image taken) (λ d. (stopped d).images) old new X
finds_of_leaves {D} {seen} {stopped} {old} {new} {X} call remembers = record {
  later = call.time.later;
  nothing_else = λ t i le p. elim (call.time.nothing_else t i p.0 le p.1) as (λ _. ((taken : List ℕ) × (stopped old).since t i taken) ⊎ X i) [ inl q ↦ inl (p.0, q) | inr n ↦ inr n.found ];
  found = call.found;
  still = λ t i le p. (p.0, remembers.still t i p.0 le p.1);
}

next_grown : {S : Type 0} (stages : List S) (before now : S) → next_of (stages ++ before ∷ []) now ≡ next_of stages before
next_grown [] before now = refl
next_grown (x ∷ xs) before now = refl

-- The pairs since a moment are those before the call, those within it, and those now.
pairs_grown : {S : Type 0} (within : S → S → Image → List ℕ → Type 0) (last : S → Image → List ℕ → Type 0) (stages : List S) (before now : S) (t : ℕ) (i : Image) (w : List ℕ)
    → t ≤ length stages → PairsFrom within last (stages ++ before ∷ []) now t i w → PairsFrom within last stages before t i w ⊎ (within before now i w ⊎ last now i w)
pairs_grown within last [] before now zero i w le p = inr p
pairs_grown within last [] before now (suc t) i w le p = absurd (omega arith)
pairs_grown within last (x ∷ xs) before now zero i w le (inl here) = inl (inl (subst (λ s. within x s i w) (next_grown xs before now) here))
pairs_grown within last (x ∷ xs) before now zero i w le (inr later) =
    elim (pairs_grown within last xs before now zero i w (omega arith) later)
    as (λ _. PairsFrom within last (x ∷ xs) before zero i w ⊎ (within before now i w ⊎ last now i w))
    [ inl old ↦ inl (inr old) | inr new ↦ inr new ]
pairs_grown within last (x ∷ xs) before now (suc t) i w le p = pairs_grown within last xs before now t i w (omega arith) p

-- No pair is lost.
pairs_kept : {S : Type 0} (within : S → S → Image → List ℕ → Type 0) (last : S → Image → List ℕ → Type 0) (stages : List S) (before now : S) (t : ℕ) (i : Image) (w : List ℕ)
    → t ≤ length stages → (last before i w → within before now i w) → PairsFrom within last stages before t i w → PairsFrom within last (stages ++ before ∷ []) now t i w
pairs_kept within last [] before now zero i w le carry p = inl (carry p)
pairs_kept within last [] before now (suc t) i w le carry p = absurd (omega arith)
pairs_kept within last (x ∷ xs) before now zero i w le carry (inl here) = inl (subst (λ s. within x s i w) (sym (next_grown xs before now)) here)
pairs_kept within last (x ∷ xs) before now zero i w le carry (inr later) = inr (pairs_kept within last xs before now zero i w (omega arith) carry later)
pairs_kept within last (x ∷ xs) before now (suc t) i w le carry p = pairs_kept within last xs before now t i w (omega arith) carry p

-- What holds of the pairs within a call and now holds of those that it adds.
stage_elapses : {S : Type 0} (within : S → S → Image → List ℕ → Type 0) (last : S → Image → List ℕ → Type 0) (images : S → Image → Type 0) (stages more : List S) (before now : S) (X : Image → List ℕ → Type 0)
    → more ≡ stages ++ before ∷ [] → ((i : Image) (w : List ℕ) → within before now i w → X i w) → ((i : Image) (w : List ℕ) → last now i w → X i w)
    → Elapses (staged within last images stages before) (staged within last images more now) X
stage_elapses within last images stages more before now X same x y = rw same (record {
  later = omega (arith, length-append stages (before ∷ []));
  nothing_else = λ t i w le p. elim (pairs_grown within last stages before now t i w le p) as (λ _. PairsFrom within last stages before t i w ⊎ X i w)
      [ inl old ↦ inl old | inr new ↦ elim new as (λ _. PairsFrom within last stages before t i w ⊎ X i w) [ inl here ↦ inr (x i w here) | inr then ↦ inr (y i w then) ] ];
})

stage_remembers : {S : Type 0} (within : S → S → Image → List ℕ → Type 0) (last : S → Image → List ℕ → Type 0) (images : S → Image → Type 0) (stages more : List S) (before now : S)
    → more ≡ stages ++ before ∷ [] → ((i : Image) (w : List ℕ) → last before i w → within before now i w)
    → Remembers (staged within last images stages before) (staged within last images more now)
stage_remembers within last images stages more before now same carry =
    rw same (record { still = λ t i w le p. pairs_kept within last stages before now t i w le (carry i w) p })

-- Between two times at which the same was taken nothing else was.
between_same : (known : Option (List ℕ)) (taken : List ℕ) → IsBetween known known taken → AreTaken known taken
between_same None taken p = tt
between_same (Some xs) taken p =
    let none : p.0.0 ++ p.1.0 ≡ [] = append_cancel_left xs (p.0.0 ++ p.1.0) [] (sym (append_assoc xs p.0.0 p.1.0) ∙ ap (λ (l : List ℕ). l ++ p.1.0) p.0.1 ∙ p.1.1 ∙ sym (append-nil xs)) in
    sym p.0.1 ∙ ap (λ (l : List ℕ). xs ++ l) (front_of_none p.0.0 p.1.0 none) ∙ append-nil xs
  where
    front_of_none : (a b : List ℕ) → a ++ b ≡ [] → a ≡ []
    front_of_none [] b e = refl
    front_of_none (x ∷ a) b e = absurd (omega (arith, ap length e))

-- What was taken at the first time lies between it and a later one.
between_first : (before now : Option (List ℕ)) (taken part : List ℕ) → Took before now part → AreTaken before taken → IsBetween before now taken
between_first None now taken part took are = tt
between_first (Some xs) None taken part took are = absurd took
between_first (Some xs) (Some ys) taken part took are =
    (([], append-nil xs ∙ sym are), (part, ap (λ (l : List ℕ). l ++ part) are ∙ sym took))

-- What was taken within a say is what was taken before it with a front of its bytes.
between_said : (before now : Option (List ℕ)) (taken part bytes : List ℕ) → IsFront part bytes → Took before now part → IsBetween before now taken
    → (front : List ℕ) × IsFront front bytes × Took before (Some taken) front
between_said None now taken part bytes is took p = ([], IsFront-none bytes, tt)
between_said (Some xs) None taken part bytes is took p = absurd p
between_said (Some xs) (Some ys) taken part bytes is took p =
    let whole : p.0.0 ++ p.1.0 ≡ part = append_cancel_left xs (p.0.0 ++ p.1.0) part (sym (append_assoc xs p.0.0 p.1.0) ∙ ap (λ (l : List ℕ). l ++ p.1.0) p.0.1 ∙ p.1.1 ∙ took) in
    (p.0.0, IsFront-longer p.0.0 part is.0 bytes (p.1.0, whole) is.1, sym p.0.1)

-- What a say took, whatever came of it.
hands_part : {T E : Type 0} (r : Result T E) (before now : Option (List ℕ)) (bytes : List ℕ) → Hands before now r bytes → (part : List ℕ) × IsFront part bytes × Took before now part
hands_part (Ok x) before now bytes p = (bytes, IsFront-all bytes, p)
hands_part (Err e) before now bytes p = p

-- A call on the folder, seen from a desk over its drive.
pub record StageOutcome {S : Type 0} (within : S → S → Image → List ℕ → Type 0) (last : S → Image → List ℕ → Type 0) (images : S → Image → Type 0) (stages more : List S) (before now : S) (X : Image → List ℕ → Type 0) : Type 0 where
  pub time : Elapses (staged within last images stages before) (staged within last images more now) X
  pub remembers : Remembers (staged within last images stages before) (staged within last images more now)

pub drive_outcome : {F O : Type 0} {moment : F → ℕ} {since : F → ℕ → Image → Type 0} {may_leave : F → Image → Type 0} {stages more : List (F × O)} {old new : F} {replies : O} {X : Image → Type 0} (contents : O → Option (List ℕ))
    → ((f : F) (t : ℕ) (i : Image) → t ≤ moment f → may_leave f i → since f t i) → ((f : F) (i : Image) → since f (moment f) i → may_leave f i)
    → more ≡ stages ++ (old, replies) ∷ [] → Finds moment since may_leave old new X → ((i : Image) → may_leave old i → X i)
    → StageOutcome (StopsWithin moment since contents) (λ stage. Now (may_leave stage.0) (contents stage.1)) (λ stage. may_leave stage.0) stages more (old, replies) (new, replies) (Now X (contents replies))
drive_outcome {moment = moment} {since = since} {may_leave = may_leave} {stages = stages} {more = more} {old = old} {new = new} {replies = replies} {X = X} contents counts only same finds own = record {
  time = stage_elapses (StopsWithin moment since contents) (λ stage. Now (may_leave stage.0) (contents stage.1)) (λ stage. may_leave stage.0) stages more (old, replies) (new, replies) (Now X (contents replies)) same
      (λ i w p. record {
        found = elim (finds.nothing_else (moment old) i (omega arith) p.found) as (λ _. X i) [ inl past ↦ own i (only old i past) | inr here ↦ here ];
        replies = between_same (contents replies) w p.replies;
      })
      (λ i w n. record { found = finds.found i n.found; replies = n.replies });
  remembers = stage_remembers (StopsWithin moment since contents) (λ stage. Now (may_leave stage.0) (contents stage.1)) (λ stage. may_leave stage.0) stages more (old, replies) (new, replies) same
      (λ i w n. record {
        found = finds.still (moment old) i (omega arith) (counts old (moment old) i (omega arith) n.found);
        replies = between_first (contents replies) (contents replies) w [] (took_none (contents replies)) n.replies;
      });
}
  where
    took_none : (known : Option (List ℕ)) → Took known known []
    took_none None = tt
    took_none (Some xs) = sym (append-nil xs)

pub say_outcome : {F O T E : Type 0} (r : Result T E) (moment : F → ℕ) (since : F → ℕ → Image → Type 0) (may_leave : F → Image → Type 0) (contents : O → Option (List ℕ)) (stages more : List (F × O)) (drive : F) (old new : O) (bytes : List ℕ)
    → ((f : F) (t : ℕ) (i : Image) → t ≤ moment f → may_leave f i → since f t i) → ((f : F) (i : Image) → since f (moment f) i → may_leave f i)
    → more ≡ stages ++ (drive, old) ∷ [] → Hands (contents old) (contents new) r bytes
    → StageOutcome (StopsWithin moment since contents) (λ stage. Now (may_leave stage.0) (contents stage.1)) (λ stage. may_leave stage.0) stages more (drive, old) (drive, new) (Saying (may_leave drive) (contents old) bytes)
say_outcome r moment since may_leave contents stages more drive old new bytes counts only same hands =
    let took = hands_part r (contents old) (contents new) bytes hands in
    let saying : (i : Image) (w : List ℕ) → may_leave drive i → IsBetween (contents old) (contents new) w → Saying (may_leave drive) (contents old) bytes i w =
    λ i w m b. let s = between_said (contents old) (contents new) w took.0 bytes took.1 took.2 b in record { found = m; front = s.0; is_front = s.1; replies = s.2 } in
    record {
      time = stage_elapses (StopsWithin moment since contents) (λ stage. Now (may_leave stage.0) (contents stage.1)) (λ stage. may_leave stage.0) stages more (drive, old) (drive, new) (Saying (may_leave drive) (contents old) bytes) same
          (λ i w p. saying i w (only drive i p.found) p.replies)
          (λ i w n. saying i w n.found (between_last (contents old) (contents new) w took.0 took.2 n.replies));
      remembers = stage_remembers (StopsWithin moment since contents) (λ stage. Now (may_leave stage.0) (contents stage.1)) (λ stage. may_leave stage.0) stages more (drive, old) (drive, new) same
          (λ i w n. record { found = counts drive (moment drive) i (omega arith) n.found; replies = between_first (contents old) (contents new) w took.0 took.2 n.replies });
    }
  where
    between_last : (before now : Option (List ℕ)) (taken part : List ℕ) → Took before now part → AreTaken now taken → IsBetween before now taken
    between_last None now taken part took are = tt
    between_last (Some xs) None taken part took are = absurd took
    between_last (Some xs) (Some ys) taken part took are = ((part, sym took ∙ sym are), ([], append-nil taken ∙ are))
