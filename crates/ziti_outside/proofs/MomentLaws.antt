-- How the moments of several calls join up, and what the calls leave alone. A crate above joins its disk calls by these.
use Rattle.std.proofs.Common.{◌⊎◌, ℕ, ◌≤◌, List, inl, inr, refl, ◌∙◌, arith}
use Rattle.ziti_outside.specs.Images.{Image}
use Rattle.ziti_outside.specs.Moments.{Elapses, Remembers, Leaves}
use Rattle.ziti_outside.specs.Untouched.{OnlySays, OnlyNotes, OnlyDisk, OnlyReads}
use Rattle.ziti_outside.specs.Views.{Seen, Stopped}

-- No time went on.
pub Elapses-none : (now : Stopped) (X : Image → List ℕ → Type 0) → Elapses now now X
Elapses-none now X = record { later = omega arith; nothing_else = λ t i w le s. inl s }

-- One stretch of time after another.
pub Elapses-then : {a b c : Stopped} {X Y : Image → List ℕ → Type 0} (Z : Image → List ℕ → Type 0)
    → Elapses a b X → Elapses b c Y → ((i : Image) (w : List ℕ) → X i w → Z i w) → ((i : Image) (w : List ℕ) → Y i w → Z i w)
    → Elapses a c Z
Elapses-then {a} {b} {c} {X} {Y} Z first second x y = record {
  later = let p = first.later in let q = second.later in omega arith;
  nothing_else = λ t i w le s. elim (second.nothing_else t i w (let p = first.later in omega arith) s) as (λ _. a.since t i w ⊎ Z i w) [
    | inl m ↦ elim (first.nothing_else t i w le m) as (λ _. a.since t i w ⊎ Z i w) [ inl p ↦ inl p | inr p ↦ inr (x i w p) ]
    | inr p ↦ inr (y i w p)
  ];
}

-- The pairs of a stretch of time are fewer than others.
pub Elapses-weaker : {a b : Stopped} {X : Image → List ℕ → Type 0} (Z : Image → List ℕ → Type 0)
    → Elapses a b X → ((i : Image) (w : List ℕ) → X i w → Z i w) → Elapses a b Z
Elapses-weaker {a} {b} {X} Z time x = record {
  later = time.later;
  nothing_else = λ t i w le s. elim (time.nothing_else t i w le s) as (λ _. a.since t i w ⊎ Z i w) [ inl p ↦ inl p | inr p ↦ inr (x i w p) ];
}

-- Every pair since the start of a stretch of time is one of these, where those of the start itself are.
pub Elapses-all : {a b : Stopped} {X : Image → List ℕ → Type 0}
    → Elapses a b X → ((i : Image) (w : List ℕ) → a.since a.moment i w → X i w) → (i : Image) (w : List ℕ) → b.since a.moment i w → X i w
Elapses-all {a} {b} {X} time start i w s =
    elim (time.nothing_else a.moment i w (omega arith) s) as (λ _. X i w) [ inl p ↦ start i w p | inr p ↦ p ]

-- What was remembered over two stretches of time.
pub Remembers-then : {a b c : Stopped} → a.moment ≤ b.moment → Remembers a b → Remembers b c → Remembers a c
Remembers-then {a} {b} {c} le first second = record {
  still = λ t i w early p. second.still t i w (omega arith) (first.still t i w early p);
}

-- A desk to which nothing was done leaves its own images.
pub Leaves-none : {D : Type 0} {seen : D → Seen} {stopped : D → Stopped}
    (desk : D) → Leaves seen stopped desk desk (stopped desk).images
Leaves-none desk = record { time = Elapses-none _ _; found = λ i p. p; quiet = refl }

-- The images that a stop may leave are fewer than others.
pub Leaves-weaker : {D : Type 0} {seen : D → Seen} {stopped : D → Stopped} {old new : D} {X : Image → Type 0}
    (Z : Image → Type 0) → Leaves seen stopped old new X → ((i : Image) → X i → Z i) → Leaves seen stopped old new Z
Leaves-weaker Z call x = record {
  time = Elapses-weaker _ call.time (λ i w n. record { found = x i n.found; replies = n.replies });
  found = λ i p. x i (call.found i p);
  quiet = call.quiet;
}

-- One call on the folder after another.
pub Leaves-then : {D : Type 0} {seen : D → Seen} {stopped : D → Stopped} {old mid new : D} {X Y : Image → Type 0}
    (Z : Image → Type 0) → Leaves seen stopped old mid X → Leaves seen stopped mid new Y
    → ((i : Image) → X i → Z i) → ((i : Image) → Y i → Z i) → Leaves seen stopped old new Z
Leaves-then {D} {seen} {stopped} {old} {mid} {new} {X} {Y} Z first second x y = record {
  time = Elapses-then _ first.time second.time
      (λ i w n. record { found = x i n.found; replies = n.replies })
      (λ i w n. record { found = y i n.found; replies = rw (← first.quiet) n.replies });
  found = λ i p. y i (second.found i p);
  quiet = second.quiet ∙ first.quiet;
}

-- Nothing was done, so replies alone were said.
pub OnlySays-none : {D : Type 0} {seen : D → Seen} {stopped : D → Stopped}
    (desk : D) → OnlySays seen stopped desk desk
OnlySays-none desk = record { notes = refl; failed_notes = refl; parts = refl; found = λ i p. p; failed_calls = refl }

-- Replies alone were said, twice.
pub OnlySays-then : {D : Type 0} {seen : D → Seen} {stopped : D → Stopped} {old mid new : D}
    → OnlySays seen stopped old mid → OnlySays seen stopped mid new
    → OnlySays seen stopped old new
OnlySays-then first second = record {
  notes = second.notes ∙ first.notes;
  failed_notes = second.failed_notes ∙ first.failed_notes;
  parts = second.parts ∙ first.parts;
  found = λ i p. first.found i (second.found i p);
  failed_calls = second.failed_calls ∙ first.failed_calls;
}

-- Nothing was done, so notes alone were written.
pub OnlyNotes-none : {D : Type 0} {seen : D → Seen} {stopped : D → Stopped}
    (desk : D) → OnlyNotes seen stopped desk desk
OnlyNotes-none desk = record { replies = refl; failed_says = refl; parts = refl; found = λ i p. p; failed_calls = refl }

-- Notes alone were written, twice.
pub OnlyNotes-then : {D : Type 0} {seen : D → Seen} {stopped : D → Stopped} {old mid new : D}
    → OnlyNotes seen stopped old mid → OnlyNotes seen stopped mid new
    → OnlyNotes seen stopped old new
OnlyNotes-then first second = record {
  replies = second.replies ∙ first.replies;
  failed_says = second.failed_says ∙ first.failed_says;
  parts = second.parts ∙ first.parts;
  found = λ i p. first.found i (second.found i p);
  failed_calls = second.failed_calls ∙ first.failed_calls;
}

-- Nothing was done, so the folder alone was touched.
pub OnlyDisk-none : {D : Type 0} {seen : D → Seen} (desk : D) → OnlyDisk seen desk desk
OnlyDisk-none desk = record { replies = refl; notes = refl; failed_says = refl; failed_notes = refl }

-- The folder alone was touched, twice.
pub OnlyDisk-then : {D : Type 0} {seen : D → Seen} {old mid new : D}
    → OnlyDisk seen old mid → OnlyDisk seen mid new → OnlyDisk seen old new
OnlyDisk-then first second = record {
  replies = second.replies ∙ first.replies;
  notes = second.notes ∙ first.notes;
  failed_says = second.failed_says ∙ first.failed_says;
  failed_notes = second.failed_notes ∙ first.failed_notes;
}

-- Nothing was done, so the folder was read alone.
pub OnlyReads-none : {D : Type 0} {seen : D → Seen} {stopped : D → Stopped}
    (desk : D) → OnlyReads seen stopped desk desk
OnlyReads-none desk = record {
  parts = refl;
  others = OnlyDisk-none desk;
  stops = Leaves-none desk;
  remembers = record { still = λ t i w le p. p };
}

-- The folder was read alone, twice.
pub OnlyReads-then : {D : Type 0} {seen : D → Seen} {stopped : D → Stopped} {old mid new : D}
    → OnlyReads seen stopped old mid → OnlyReads seen stopped mid new
    → OnlyReads seen stopped old new
OnlyReads-then first second = record {
  parts = second.parts ∙ first.parts;
  others = OnlyDisk-then first.others second.others;
  stops = Leaves-then _ first.stops second.stops (λ i p. p) (λ i p. first.stops.found i p);
  remembers = Remembers-then first.stops.time.later first.remembers second.remembers;
}
