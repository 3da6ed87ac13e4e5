-- How one more call joins the log of a desk over memory.
use Rattle.std.proofs.Common.{◌≡◌, ◌⊎◌, inl, inr, ℕ, zero, suc, ◌+◌, ◌≤◌, List, [], ◌∷◌, ◌++◌, length, take, drop, refl, sym, ap, ◌∙◌, arith, append-nil, length-append}
use Rattle.std.proofs.lemmas.List.{length-drop, take-append-le, drop-append-le}
use Rattle.ziti_outside.specs.Images.{Image}
use Rattle.ziti_outside.specs.Moments.{Elapses, Remembers}
use Rattle.ziti_outside.proofs.Moves.{IsFront-none}
use Rattle.desk_base.specs.declared.mem_log.Call.{Call}
use Rattle.desk_base.specs.declared.mem_log.Call.TheVariants.{Said, Wrote, Cut, Synced}
use Rattle.desk_base.specs.MemEvents.{events, said_count, written_count, Event, Saying, Writing, Cutting, Syncing, reads_by, said_by, may_by, reads_after, said_after, MayAfter, Within, Pairs, Leaving, Since, stopped_by}

pub reads_push : (r : Image) (es : List Event) (e : Event) → reads_after r (es ++ e ∷ []) ≡ reads_by e (reads_after r es)
reads_push r [] e = refl
reads_push r (x ∷ es) e = reads_push (reads_by x r) es e

pub said_push : (s : List ℕ) (es : List Event) (e : Event) → said_after s (es ++ e ∷ []) ≡ said_by e (said_after s es)
said_push s [] e = refl
said_push s (x ∷ es) e = said_push (said_by x s) es e

pub may_push : (r : Image) (may : Image → Type 0) (es : List Event) (e : Event) (c : Image) → MayAfter r may (es ++ e ∷ []) c → may_by e (reads_after r es) (MayAfter r may es) c
may_push r may [] e c m = m
may_push r may (x ∷ es) e c m = may_push (reads_by x r) (may_by x r may) es e c m

pub may_pop : (r : Image) (may : Image → Type 0) (es : List Event) (e : Event) (c : Image) → may_by e (reads_after r es) (MayAfter r may es) c → MayAfter r may (es ++ e ∷ []) c
may_pop r may [] e c m = m
may_pop r may (x ∷ es) e c m = may_pop (reads_by x r) (may_by x r may) es e c m

-- At its start a call has taken nothing.
within_now : (e : Event) (s w : List ℕ) → w ≡ s → Within e s w
within_now (Saying bytes) s w same = ([], IsFront-none bytes, same ∙ sym (append-nil s))
within_now (Writing part at bytes done) s w same = same
within_now (Cutting part len done) s w same = same
within_now (Syncing part) s w same = same

-- The pairs since a moment are those before the call, those within it, and those behind it.
pub pairs_push : (r : Image) (may : Image → Type 0) (s : List ℕ) (es : List Event) (e : Event) (t : ℕ) (c : Image) (w : List ℕ) → t ≤ length es → Pairs r may s (es ++ e ∷ []) t c w
    → Pairs r may s es t c w ⊎ ((MayAfter r may es c × Within e (said_after s es) w) ⊎ (may_by e (reads_after r es) (MayAfter r may es) c × (w ≡ said_by e (said_after s es))))
pairs_push r may s [] e zero c w le p = inr p
pairs_push r may s [] e (suc t) c w le p = absurd (omega arith)
pairs_push r may s (x ∷ es) e zero c w le (inl here) = inl (inl here)
pairs_push r may s (x ∷ es) e zero c w le (inr later) =
    elim (pairs_push (reads_by x r) (may_by x r may) (said_by x s) es e zero c w (omega arith) later)
    as (λ _. Pairs r may s (x ∷ es) zero c w ⊎ ((MayAfter r may (x ∷ es) c × Within e (said_after s (x ∷ es)) w) ⊎ (may_by e (reads_after r (x ∷ es)) (MayAfter r may (x ∷ es)) c × (w ≡ said_by e (said_after s (x ∷ es))))))
    [ inl old ↦ inl (inr old) | inr new ↦ inr new ]
pairs_push r may s (x ∷ es) e (suc t) c w le p = pairs_push (reads_by x r) (may_by x r may) (said_by x s) es e t c w (omega arith) p

-- No pair is lost.
pub pairs_keep : (r : Image) (may : Image → Type 0) (s : List ℕ) (es : List Event) (e : Event) (t : ℕ) (c : Image) (w : List ℕ) → t ≤ length es → Pairs r may s es t c w → Pairs r may s (es ++ e ∷ []) t c w
pairs_keep r may s [] e zero c w le p = inl (p.0, within_now e s w p.1)
pairs_keep r may s [] e (suc t) c w le p = absurd (omega arith)
pairs_keep r may s (x ∷ es) e zero c w le (inl here) = inl here
pairs_keep r may s (x ∷ es) e zero c w le (inr later) = inr (pairs_keep (reads_by x r) (may_by x r may) (said_by x s) es e zero c w (omega arith) later)
pairs_keep r may s (x ∷ es) e (suc t) c w le p = pairs_keep (reads_by x r) (may_by x r may) (said_by x s) es e t c w (omega arith) p

-- Time went on by one call, or by none.
pub step_elapses : (first : Image) (es more : List Event) (e : Event) (X : Image → List ℕ → Type 0) → more ≡ es ++ e ∷ []
    → ((c : Image) (w : List ℕ) → Leaving first es c → Within e (said_after [] es) w → X c w)
    → ((c : Image) (w : List ℕ) → may_by e (reads_after first es) (λ i. Leaving first es i) c → w ≡ said_by e (said_after [] es) → X c w)
    → Elapses (stopped_by first es) (stopped_by first more) X
step_elapses first es more e X same within behind = rw same (record {
  later = omega (arith, length-append es (e ∷ []));
  nothing_else = λ t c w le s. elim (pairs_push first (λ i. i ≡ first) [] es e t c w le s) as (λ _. Since first es t c w ⊎ X c w) [
    | inl old ↦ inl old
    | inr new ↦ elim new as (λ _. Since first es t c w ⊎ X c w) [ inl p ↦ inr (within c w p.0 p.1) | inr p ↦ inr (behind c w p.0 p.1) ]
  ];
})

pub step_remembers : (first : Image) (es more : List Event) (e : Event) → more ≡ es ++ e ∷ [] → Remembers (stopped_by first es) (stopped_by first more)
step_remembers first es more e same = rw same (record { still = λ t c w le p. pairs_keep first (λ i. i ≡ first) [] es e t c w le p })

-- Calls that a log has, and one more, with the bytes of each.
pub events_push : (calls : List Call) (call : Call) (s a w b : List ℕ) → said_count calls ≡ length s → written_count calls ≡ length w
    → events (calls ++ call ∷ []) (s ++ a) (w ++ b) ≡ events calls s w ++ events (call ∷ []) a b
events_push [] call [] a [] b e f = refl
events_push [] call (x ∷ s) a w b e f = absurd (omega (arith, e))
events_push [] call [] a (x ∷ w) b e f = absurd (omega (arith, f))
events_push (Said n ∷ calls) call s a w b e f =
    let few : n ≤ length s = omega (arith, e) in
    let rest : said_count calls ≡ length (drop n s) = omega (arith, e, length-drop n s) in
    rw (take-append-le n s a few) (rw (drop-append-le n s a few) (ap (λ (l : List Event). Saying (take n s) ∷ l) (events_push calls call (drop n s) a w b rest f)))
events_push (Wrote p at n done ∷ calls) call s a w b e f =
    let few : n ≤ length w = omega (arith, f) in
    let rest : written_count calls ≡ length (drop n w) = omega (arith, f, length-drop n w) in
    rw (take-append-le n w b few) (rw (drop-append-le n w b few) (ap (λ (l : List Event). Writing p at (take n w) done ∷ l) (events_push calls call s a (drop n w) b e rest)))
events_push (Cut p len done ∷ calls) call s a w b e f = ap (λ (l : List Event). Cutting p len done ∷ l) (events_push calls call s a w b e f)
events_push (Synced p ∷ calls) call s a w b e f = ap (λ (l : List Event). Syncing p ∷ l) (events_push calls call s a w b e f)

-- A log has as many moments as calls.
pub events_count : (calls : List Call) (s w : List ℕ) → length (events calls s w) ≡ length calls
events_count [] s w = refl
events_count (Said n ∷ calls) s w = ap suc (events_count calls (drop n s) w)
events_count (Wrote p at n done ∷ calls) s w = ap suc (events_count calls s (drop n w))
events_count (Cut p len done ∷ calls) s w = ap suc (events_count calls s w)
events_count (Synced p ∷ calls) s w = ap suc (events_count calls s w)

pub said_count_push : (calls : List Call) (call : Call) → said_count (calls ++ call ∷ []) ≡ said_count calls + said_count (call ∷ [])
said_count_push [] call = omega arith
said_count_push (Said n ∷ calls) call = omega (arith, said_count_push calls call)
said_count_push (Wrote p at n done ∷ calls) call = said_count_push calls call
said_count_push (Cut p len done ∷ calls) call = said_count_push calls call
said_count_push (Synced p ∷ calls) call = said_count_push calls call

pub written_count_push : (calls : List Call) (call : Call) → written_count (calls ++ call ∷ []) ≡ written_count calls + written_count (call ∷ [])
written_count_push [] call = omega arith
written_count_push (Said n ∷ calls) call = written_count_push calls call
written_count_push (Wrote p at n done ∷ calls) call = omega (arith, written_count_push calls call)
written_count_push (Cut p len done ∷ calls) call = written_count_push calls call
written_count_push (Synced p ∷ calls) call = written_count_push calls call
