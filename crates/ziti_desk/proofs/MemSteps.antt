-- What a call on a desk over memory does to what its log tells.
use Rattle.std.specs.Prelude.{⊤, OnOk, OnErr, IsTrue}
use Rattle.std.proofs.Common.{◌≡◌, inl, inr, ℕ, Bool, true, false, List, [], ◌∷◌, ◌++◌, length, take, Some, Ok, Err, refl, sym, ap, ◌∙◌, subst, arith, append-nil, length-append}
use Rattle.std.proofs.lemmas.List.{take_all}
use Rattle.std.specs.declared.result.Result.{Result}
use Rattle.ziti_outside.specs.declared.desk.Part.{Part}
use Rattle.ziti_outside.specs.declared.failed.Failed.{Failed}
use Rattle.ziti_outside.specs.Images.{Image, Holds, Torn, CutShort, Else, OnPart, After, IsStable}
use Rattle.ziti_outside.specs.Moments.{Now, Saying, Elapses, Remembers}
use Rattle.ziti_outside.proofs.ImageLaws.{Torn-none, CutShort-none}
use Rattle.ziti_outside.proofs.Moves.{IsFront-all}
use Rattle.ziti_outside.proofs.MomentLaws.{Elapses-none}
use Rattle.desk_base.specs.declared.mem_log.Call.{Call}
use Rattle.desk_base.specs.declared.mem_log.Call.TheVariants.{Said, Wrote, Cut, Synced}
use Rattle.desk_base.specs.declared.mem_log.Log.{Log}
use Rattle.desk_base.specs.declared.mem_parts.Images.{Images}
use Rattle.desk_base.specs.MemEvents as of
use Rattle.desk_base.specs.MemEvents.{Event, Writing, Cutting, Syncing, events, said_count, written_count, reads_by, said_by, may_by, reads_after, said_after, Within, Leaving, Since, Replayed, LogsCall, IsDone, IsPending, image_of, with_part, written_over, logged, stopped_by}
use Rattle.desk_base.specs.MemStops.{unwritten, uncut, with_part_here, with_part_else}
use Rattle.desk_base.proofs.MemLaws.{reads_push, said_push, may_push, events_push, said_count_push, written_count_push, step_elapses, step_remembers}

-- The log got one call more, and the parts and the replies are as behind it.
pub record Stepped (first held : Image) (log : Log) (said said_before : List ℕ) (before : List Event) (e : Event) : Type 0 where
  pub replayed : Replayed first held log.calls.items said log.written.items
  pub more : logged log said ≡ before ++ e ∷ []

pub stepped : (first held now : Image) (log new : Log) (said said_now a b : List ℕ) (call : Call) (e : Event) → Replayed first held log.calls.items said log.written.items → LogsCall call b log new
    → said_now ≡ said ++ a → said_count (call ∷ []) ≡ length a → written_count (call ∷ []) ≡ length b → events (call ∷ []) a b ≡ e ∷ [] → now ≡ reads_by e held → said_now ≡ said_by e said
    → Stepped first now new said_now said (logged log said) e
stepped first held now log new said said_now a b call e old logs grown few small is reads taken =
    let calls = log.calls.items in
    let written = log.written.items in
    let same : logged new said_now ≡ logged log said ++ e ∷ [] =
    rw logs.calls (rw logs.written (rw grown (events_push calls call said a written b old.said_all old.written_all ∙ ap (λ (l : List Event). events calls said written ++ l) is))) in
    record {
      replayed = record {
        reads = reads ∙ ap (reads_by e) old.reads ∙ sym (reads_push first (logged log said) e) ∙ ap (reads_after first) (sym same);
        taken = taken ∙ ap (said_by e) old.taken ∙ sym (said_push [] (logged log said) e) ∙ ap (said_after []) (sym same);
        said_all = ap said_count logs.calls ∙ said_count_push calls call ∙ omega (arith, old.said_all, few, ap length grown, length-append said a);
        written_all = ap written_count logs.calls ∙ written_count_push calls call ∙ omega (arith, old.written_all, small, ap length logs.written, length-append written b);
      };
      more = same;
    }

-- A call on the folder says nothing.
abbrev pub Quiet : Event → Type 0
Quiet (of.Saying bytes) = ⊥
Quiet (Writing part at bytes done) = ⊤
Quiet (Cutting part len done) = ⊤
Quiet (Syncing part) = ⊤

quiet_within : (e : Event) (s w : List ℕ) → Quiet e → Within e s w → w ≡ s
quiet_within (of.Saying bytes) s w quiet within = absurd quiet
quiet_within (Writing part at bytes done) s w quiet within = within
quiet_within (Cutting part len done) s w quiet within = within
quiet_within (Syncing part) s w quiet within = within

pub quiet_said : (e : Event) (s : List ℕ) → Quiet e → said_by e s ≡ s
quiet_said (of.Saying bytes) s quiet = absurd quiet
quiet_said (Writing part at bytes done) s quiet = refl
quiet_said (Cutting part len done) s quiet = refl
quiet_said (Syncing part) s quiet = refl

-- What a call on the folder did, done or not: what the log tells is true of the desk behind it, and a stop within it leaves one of
-- these images.
pub record Outcome (first now : Image) (log new : Log) (said : List ℕ) (X : Image → Type 0) : Type 0 where
  pub replayed : Replayed first now new.calls.items said new.written.items
  pub time : Elapses (stopped_by first (logged log said)) (stopped_by first (logged new said)) (Now X (Some said))
  pub found : (c : Image) → Leaving first (logged new said) c → X c
  pub remembers : Remembers (stopped_by first (logged log said)) (stopped_by first (logged new said))

-- Nothing was done.
pub outcome_none : (first held now : Image) (log new : Log) (said : List ℕ) (X : Image → Type 0) → Replayed first held log.calls.items said log.written.items
    → new ≡ log → now ≡ held → ((c : Image) → Leaving first (logged log said) c → X c) → Outcome first now log new said X
outcome_none first held now log new said X old same reads within =
    rw same (rw reads (record { replayed = old; time = Elapses-none _ _; found = within; remembers = record { still = λ t c w le p. p } }))

-- One call was logged.
pub outcome_more : (first held now : Image) (log new : Log) (said text : List ℕ) (X : Image → Type 0) (call : Call) (e : Event) → Replayed first held log.calls.items said log.written.items → LogsCall call text log new
    → Quiet e → said_count (call ∷ []) ≡ 0 → written_count (call ∷ []) ≡ length text → events (call ∷ []) [] text ≡ e ∷ [] → now ≡ reads_by e held
    → ((c : Image) → Leaving first (logged log said) c → X c) → ((c : Image) → may_by e held (λ i. Leaving first (logged log said) i) c → X c) → Outcome first now log new said X
outcome_more first held now log new said text X call e old logs quiet none few is reads within behind =
    let step = stepped first held now log new said said [] text call e old logs (sym (append-nil said)) none few is reads (sym (quiet_said e said quiet)) in
    let es = logged log said in
    let after : (c : Image) → may_by e (reads_after first es) (λ i. Leaving first es i) c → X c = λ c m. behind c (subst (λ (r : Image). may_by e r (λ i. Leaving first es i) c) (sym old.reads) m) in
    record {
      replayed = step.replayed;
      time = step_elapses first es (logged new said) e (Now X (Some said)) step.more
          (λ c w m at. record { found = within c m; replies = quiet_within e _ w quiet at ∙ sym old.taken })
          (λ c w m same. record { found = after c m; replies = same ∙ quiet_said e _ quiet ∙ sym old.taken });
      found = λ c m. after c (may_push first (λ i. i ≡ first) es e c (subst (λ (l : List Event). Leaving first l c) step.more m));
      remembers = step_remembers first es (logged new said) e step.more;
    }

-- A write, done or failed.
pub write_outcome : (r : Result ⊤ Failed) (first : Image) (held now : Images) (log new : Log) (said : List ℕ) (part : Part) (at : ℕ) (bytes : List ℕ)
    → Replayed first (image_of held) log.calls.items said log.written.items
    → OnOk r (IsDone (Writing part at bytes true) (Wrote part at (length bytes) true) bytes held now log new) → OnErr r (IsPending (Wrote part at (length bytes) false) bytes held now log new)
    → Outcome first (image_of now) log new said (After (OnPart part (Torn at (length bytes))) (λ i. Leaving first (logged log said) i))
write_outcome r first held now log new said part at bytes old ok err = by r ok err
  where
    X : Image → Type 0
    X = After (OnPart part (Torn at (length bytes))) (λ i. Leaving first (logged log said) i)

    within : (c : Image) → Leaving first (logged log said) c → X c
    within c m = unwritten part at (length bytes) c m

    whole : (done : Bool) → events (Wrote part at (length bytes) done ∷ []) [] bytes ≡ Writing part at bytes done ∷ []
    whole done = ap (λ (l : List ℕ). Writing part at l done ∷ []) (take_all (length bytes) bytes (omega arith))

    by : (r : Result ⊤ Failed) → OnOk r (IsDone (Writing part at bytes true) (Wrote part at (length bytes) true) bytes held now log new) → OnErr r (IsPending (Wrote part at (length bytes) false) bytes held now log new) → Outcome first (image_of now) log new said X
    by (Ok u) done pending = outcome_more first (image_of held) (image_of now) log new said bytes X (Wrote part at (length bytes) true) (Writing part at bytes true) old done.logged tt refl (omega arith) (whole true) done.reads within (λ c m. m)
    by (Err e) done pending = elim pending.logged as (λ _. Outcome first (image_of now) log new said X) [
      | inl same ↦ outcome_none first (image_of held) (image_of now) log new said X old same pending.reads within
      | inr logs ↦ outcome_more first (image_of held) (image_of now) log new said bytes X (Wrote part at (length bytes) false) (Writing part at bytes false) old logs tt refl (omega arith) (whole false) pending.reads within (λ c m. m)
    ]

-- A cut, done or failed.
pub cut_outcome : (r : Result ⊤ Failed) (first : Image) (held now : Images) (log new : Log) (said : List ℕ) (part : Part) (len : ℕ)
    → Replayed first (image_of held) log.calls.items said log.written.items
    → OnOk r (IsDone (Cutting part len true) (Cut part len true) [] held now log new) → OnErr r (IsPending (Cut part len false) [] held now log new)
    → Outcome first (image_of now) log new said (After (OnPart part (CutShort len)) (λ i. Leaving first (logged log said) i))
cut_outcome r first held now log new said part len old ok err = by r ok err
  where
    X : Image → Type 0
    X = After (OnPart part (CutShort len)) (λ i. Leaving first (logged log said) i)

    within : (c : Image) → Leaving first (logged log said) c → X c
    within c m = uncut part len c m

    by : (r : Result ⊤ Failed) → OnOk r (IsDone (Cutting part len true) (Cut part len true) [] held now log new) → OnErr r (IsPending (Cut part len false) [] held now log new) → Outcome first (image_of now) log new said X
    by (Ok u) done pending = outcome_more first (image_of held) (image_of now) log new said [] X (Cut part len true) (Cutting part len true) old done.logged tt refl refl refl done.reads within (λ c m. m)
    by (Err e) done pending = elim pending.logged as (λ _. Outcome first (image_of now) log new said X) [
      | inl same ↦ outcome_none first (image_of held) (image_of now) log new said X old same pending.reads within
      | inr logs ↦ outcome_more first (image_of held) (image_of now) log new said [] X (Cut part len false) (Cutting part len false) old logs tt refl refl refl pending.reads within (λ c m. m)
    ]

-- A sync, done or failed.
pub sync_outcome : (r : Result ⊤ Failed) (first : Image) (held : Images) (log new : Log) (said : List ℕ) (part : Part) → Replayed first (image_of held) log.calls.items said log.written.items
    → OnOk r (LogsCall (Synced part) [] log new) → OnErr r (new ≡ log) → Outcome first (image_of held) log new said (λ i. Leaving first (logged log said) i)
sync_outcome (Ok u) first held log new said part old logs same =
    outcome_more first (image_of held) (image_of held) log new said [] (λ i. Leaving first (logged log said) i) (Synced part) (Syncing part) old logs tt refl refl refl refl (λ c m. m) (λ c m. m.0)
sync_outcome (Err e) first held log new said part old logs same =
    outcome_none first (image_of held) (image_of held) log new said (λ i. Leaving first (logged log said) i) old same refl (λ c m. m)

-- Behind a sync a stop leaves in the part what it reads.
pub sync_stable : (r : Result ⊤ Failed) (first : Image) (held : Images) (log new : Log) (said : List ℕ) (part : Part) → Replayed first (image_of held) log.calls.items said log.written.items
    → OnOk r (LogsCall (Synced part) [] log new) → OnOk r (IsStable part (image_of held) (λ i. Leaving first (logged new said) i))
sync_stable (Err e) first held log new said part old logs = tt
sync_stable (Ok u) first held log new said part old logs =
    let step = stepped first (image_of held) (image_of held) log new said said [] [] (Synced part) (Syncing part) old logs (sym (append-nil said)) refl refl refl refl refl in
    let es = logged log said in
    record {
      each = λ c m.
          let both = may_push first (λ i. i ≡ first) es (Syncing part) c (subst (λ (l : List Event). Leaving first l c) step.more m) in
          both.1 ∙ ap (λ (r : Image). r part) (sym old.reads);
    }

-- A say, done or failed.
pub record SayOutcome (first : Image) (held : Images) (log new : Log) (said said_now bytes : List ℕ) : Type 0 where
  pub replayed : Replayed first (image_of held) new.calls.items said_now new.written.items
  pub time : Elapses (stopped_by first (logged log said)) (stopped_by first (logged new said_now)) (Saying (λ i. Leaving first (logged log said) i) (Some said) bytes)
  pub found : (c : Image) → Leaving first (logged new said_now) c → Leaving first (logged log said) c
  pub remembers : Remembers (stopped_by first (logged log said)) (stopped_by first (logged new said_now))

say_done : (first : Image) (held : Images) (log new : Log) (said said_now bytes : List ℕ) → Replayed first (image_of held) log.calls.items said log.written.items
    → LogsCall (Said (length bytes)) [] log new → said_now ≡ said ++ bytes → SayOutcome first held log new said said_now bytes
say_done first held log new said said_now bytes old logs grown =
    let es = logged log said in
    let M : Image → Type 0 = λ i. Leaving first es i in
    let whole : events (Said (length bytes) ∷ []) bytes [] ≡ of.Saying bytes ∷ [] = ap (λ (l : List ℕ). of.Saying l ∷ []) (take_all (length bytes) bytes (omega arith)) in
    let step = stepped first (image_of held) (image_of held) log new said said_now bytes [] (Said (length bytes)) (of.Saying bytes) old logs grown (omega arith) refl whole refl grown in
    record {
      replayed = step.replayed;
      time = step_elapses first es (logged new said_now) (of.Saying bytes) (Saying M (Some said) bytes) step.more
          (λ c w m at. record { found = m; front = at.0; is_front = at.1; replies = at.2 ∙ ap (λ (l : List ℕ). l ++ at.0) (sym old.taken) })
          (λ c w m same. record { found = m; front = bytes; is_front = IsFront-all bytes; replies = same ∙ ap (λ (l : List ℕ). l ++ bytes) (sym old.taken) });
      found = λ c m. may_push first (λ i. i ≡ first) es (of.Saying bytes) c (subst (λ (l : List Event). Leaving first l c) step.more m);
      remembers = step_remembers first es (logged new said_now) (of.Saying bytes) step.more;
    }

pub say_outcome : (r : Result ⊤ Failed) (first : Image) (held : Images) (log new : Log) (said said_now bytes : List ℕ) → Replayed first (image_of held) log.calls.items said log.written.items
    → OnOk r (LogsCall (Said (length bytes)) [] log new × (said_now ≡ said ++ bytes)) → OnErr r ((said_now ≡ said) × (new ≡ log)) → SayOutcome first held log new said said_now bytes
say_outcome (Ok u) first held log new said said_now bytes old ok err = say_done first held log new said said_now bytes old ok.0 ok.1
say_outcome (Err e) first held log new said said_now bytes old ok err =
    rw err.0 (rw err.1 (record { replayed = old; time = Elapses-none _ _; found = λ c m. m; remembers = record { still = λ t c w le p. p } }))

-- What was written is read.
pub written_holds : (r : Result ⊤ Failed) (held now : Images) (log new : Log) (part : Part) (at : ℕ) (bytes : List ℕ)
    → OnOk r (IsDone (Writing part at bytes true) (Wrote part at (length bytes) true) bytes held now log new) → OnOk r (IsTrue true → Holds at bytes (image_of held part) (image_of now part))
written_holds (Err e) held now log new part at bytes ok = tt
written_holds (Ok u) held now log new part at bytes ok = λ told.
    ap (λ (r : Image). r part) ok.reads ∙ with_part_here part _ (image_of held)

-- What was cut off is gone.
pub cut_holds : (r : Result ⊤ Failed) (held now : Images) (log new : Log) (part : Part) (len : ℕ)
    → OnOk r (IsDone (Cutting part len true) (Cut part len true) [] held now log new) → OnOk r (IsTrue true → image_of now part ≡ take len (image_of held part))
cut_holds (Err e) held now log new part len ok = tt
cut_holds (Ok u) held now log new part len ok = λ told.
    ap (λ (r : Image). r part) ok.reads ∙ with_part_here part _ (image_of held)

-- What a write that failed left, and a cut that did: nothing was done to what the parts read.
pub write_torn : (r : Result ⊤ Failed) (held now : Images) (log new : Log) (part : Part) (at : ℕ) (bytes : List ℕ)
    → OnErr r (IsPending (Wrote part at (length bytes) false) bytes held now log new) → OnErr r (IsTrue true → Torn at (length bytes) (image_of held part) (image_of now part))
write_torn (Ok u) held now log new part at bytes err = tt
write_torn (Err e) held now log new part at bytes err = λ told.
    subst (λ (r : Image). Torn at (length bytes) (image_of held part) (r part)) (sym err.reads) (Torn-none at (length bytes) (image_of held part))

pub cut_torn : (r : Result ⊤ Failed) (held now : Images) (log new : Log) (part : Part) (len : ℕ)
    → OnErr r (IsPending (Cut part len false) [] held now log new) → OnErr r (IsTrue true → CutShort len (image_of held part) (image_of now part))
cut_torn (Ok u) held now log new part len err = tt
cut_torn (Err e) held now log new part len err = λ told.
    subst (λ (r : Image). CutShort len (image_of held part) (r part)) (sym err.reads) (CutShort-none len (image_of held part))

-- No other part was changed.
pub write_elsewhere : (r : Result ⊤ Failed) (held now : Images) (log new : Log) (part : Part) (at : ℕ) (bytes : List ℕ)
    → OnOk r (IsDone (Writing part at bytes true) (Wrote part at (length bytes) true) bytes held now log new) → OnErr r (IsPending (Wrote part at (length bytes) false) bytes held now log new) → Else part (image_of held) (image_of now)
write_elsewhere (Ok u) held now log new part at bytes ok err = subst (λ (i : Image). Else part (image_of held) i) (sym ok.reads) (with_part_else part _ (image_of held))
write_elsewhere (Err e) held now log new part at bytes ok err = subst (λ (i : Image). Else part (image_of held) i) (sym err.reads) (record { same = λ q differs. refl })

pub cut_elsewhere : (r : Result ⊤ Failed) (held now : Images) (log new : Log) (part : Part) (len : ℕ)
    → OnOk r (IsDone (Cutting part len true) (Cut part len true) [] held now log new) → OnErr r (IsPending (Cut part len false) [] held now log new) → Else part (image_of held) (image_of now)
cut_elsewhere (Ok u) held now log new part len ok err = subst (λ (i : Image). Else part (image_of held) i) (sym ok.reads) (with_part_else part _ (image_of held))
cut_elsewhere (Err e) held now log new part len ok err = subst (λ (i : Image). Else part (image_of held) i) (sym err.reads) (record { same = λ q differs. refl })

-- A desk of which no call has been made.
pub replayed_none : (first held : Image) (calls : List Call) (said written : List ℕ) → held ≡ first → calls ≡ [] → said ≡ [] → written ≡ [] → Replayed first held calls said written
replayed_none first held calls said written reads a b c = rw a (rw b (rw c (record { reads = reads; taken = refl; said_all = refl; written_all = refl })))
