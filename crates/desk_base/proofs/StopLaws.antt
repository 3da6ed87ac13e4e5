-- What a stop of a desk over memory leaves, found call by call.
use Rattle.std.specs.Prelude.{OnOk}
use Rattle.std.specs.declared.result.Result.{Result}
use Rattle.std.proofs.Common.{Ok, Err, ◌≡◌, inl, inr, ℕ, zero, suc, ◌+◌, ◌-◌, ◌≤◌, ◌<◌, min, List, [], ◌∷◌, ◌++◌, length, take, drop, get_or, refl, sym, ap, ◌∙◌, subst, arith, append_assoc, length-append, take-append-drop}
use Rattle.std.proofs.lemmas.Bool.{cases_lt}
use Rattle.std.proofs.lemmas.List.{drop_all, drop_more, take_all, drop-drop, length-take}
use Rattle.ziti_outside.specs.declared.desk.Part.{Part}
use Rattle.ziti_outside.specs.declared.desk.Part.TheVariants.{Zero, One, Mark}
use Rattle.ziti_outside.specs.Images.{Image, Torn, CutShort, OnPart, After}
use Rattle.ziti_outside.proofs.ImageLaws.{Torn-whole}
use Rattle.desk_base.specs.declared.mem_log.Call.{Call}
use Rattle.desk_base.specs.declared.mem_log.Call.TheVariants.{Said, Wrote, Cut, Synced}
use Rattle.desk_base.specs.declared.mem_parts.Images.{Images}
use Rattle.desk_base.specs.MemEvents as of
use Rattle.desk_base.specs.MemEvents.{events, Event, Saying, Writing, Cutting, Syncing, at_parts, with_part, written_over, image_of, reads_by, said_by, may_by, reads_after, said_after, MayAfter, Within, Pairs, Leaving}
use Rattle.desk_base.specs.MemStops.{own_image, with_part_here, with_part_else}
use Rattle.desk_base.specs.StopPoints.{PairsAt, event_of, said_past, written_past, KeepsOf, Reached}
use Rattle.desk_base.proofs.MemLaws.{reads_push, said_push, may_pop}

-- A log is its first call and the others.
pub events_first : (call : Call) (calls : List Call) (s w : List ℕ) → events (call ∷ calls) s w ≡ event_of call s w ∷ events calls (said_past call s) (written_past call w)
events_first (Said n) calls s w = refl
events_first (Wrote p at n done) calls s w = refl
events_first (Cut p len done) calls s w = refl
events_first (Synced p) calls s w = refl

-- The log from a call on.
pub log_next : (seen calls : List Call) (index : ℕ) (d : Call) (s w : List ℕ) → seen ≡ calls → index < length calls
    → events (drop index calls) s w ≡ event_of (get_or seen index d) s w ∷ events (drop (index + 1) calls) (said_past (get_or seen index d) s) (written_past (get_or seen index d) w)
log_next seen calls index d s w same lt =
    rw same (ap (λ (l : List Call). events l s w) (drop_more calls index d lt) ∙ events_first (get_or calls index d) (drop (index + 1) calls) s w)

-- A pair of one moment is a pair of the moments from an earlier one on.
pub at_since : (r : Image) (may : Image → Type 0) (s : List ℕ) (es : List Event) (early t : ℕ) (c : Image) (w : List ℕ) → early ≤ t → PairsAt r may s es t c w → Pairs r may s es early c w
at_since r may s [] early zero c w le p = p
at_since r may s [] early (suc t) c w le p = absurd p
at_since r may s (e ∷ es) zero zero c w le p = inl p
at_since r may s (e ∷ es) zero (suc t) c w le p = inr (at_since (reads_by e r) (may_by e r may) (said_by e s) es zero t c w (omega arith) p)
at_since r may s (e ∷ es) (suc early) zero c w le p = absurd (omega (arith, le))
at_since r may s (e ∷ es) (suc early) (suc t) c w le p = at_since (reads_by e r) (may_by e r may) (said_by e s) es early t c w (omega (arith, le)) p

-- The pairs of a moment, seen from that moment.
pub at_behind : (r : Image) (may : Image → Type 0) (s : List ℕ) (done es : List Event) (c : Image) (w : List ℕ)
    → PairsAt (reads_after r done) (MayAfter r may done) (said_after s done) es 0 c w → PairsAt r may s (done ++ es) (length done) c w
at_behind r may s [] es c w p = p
at_behind r may s (e ∷ done) es c w p = at_behind (reads_by e r) (may_by e r may) (said_by e s) done es c w p

-- Of two images that a stop may leave, any part of the one may stand in the other: the parts are written apart.
pub record Mixes (may : Image → Type 0) : Type 0 where
  pub mixed : (p : Part) (c d : Image) → may c → may d → may (with_part p (d p) c)

-- A part of its own bytes.
pub self_part : (p : Part) (a b m : List ℕ) → with_part p (at_parts a b m p) (at_parts a b m) ≡ at_parts a b m
self_part Zero a b m = refl
self_part One a b m = refl
self_part Mark a b m = refl

mixes_first : (a b m : List ℕ) → Mixes (λ i. i ≡ at_parts a b m)
mixes_first a b m = record {
  mixed = λ p c d e f. ap (λ (i : Image). with_part p (d p) i) e ∙ ap (λ (i : Image). with_part p (i p) (at_parts a b m)) f ∙ self_part p a b m;
}

mix_at : (P : List ℕ → List ℕ → Type 0) (p q : Part) (x y : List ℕ) (c d : Image) → (q ≡ p → P x y) → P (c q) (d q) → P (with_part p x c q) (with_part p y d q)
mix_at P Zero Zero x y c d here there = here refl
mix_at P Zero One x y c d here there = there
mix_at P Zero Mark x y c d here there = there
mix_at P One Zero x y c d here there = there
mix_at P One One x y c d here there = here refl
mix_at P One Mark x y c d here there = there
mix_at P Mark Zero x y c d here there = there
mix_at P Mark One x y c d here there = there
mix_at P Mark Mark x y c d here there = here refl

mixes_after : (q : Part) (step : List ℕ → List ℕ → Type 0) (may : Image → Type 0) → Mixes may → Mixes (After (OnPart q step) may)
mixes_after q step may mixes = record {
  mixed = λ p c d mc md. record {
    from = with_part p (md.from p) mc.from;
    was = mixes.mixed p mc.from md.from mc.was md.was;
    by = record {
      here = mix_at step p q (md.from p) (d p) mc.from c (λ same. subst (λ (o : Part). step (md.from o) (d o)) same md.by.here) mc.by.here;
      others = record { same = λ o differs. mix_at (λ x y. x ≡ y) p o (d p) (md.from p) c mc.from (λ same. md.by.others.same p (λ e. differs (same ∙ e))) (mc.by.others.same o differs) };
    };
  };
}

mixes_by : (e : Event) (r : Image) (may : Image → Type 0) → Mixes may → Mixes (may_by e r may)
mixes_by (of.Saying bytes) r may mixes = mixes
mixes_by (Writing q at bytes done) r may mixes = mixes_after q (Torn at (length bytes)) may mixes
mixes_by (Cutting q len done) r may mixes = mixes_after q (CutShort len) may mixes
mixes_by (Syncing q) r may mixes = record {
  mixed = λ p c d mc md. (mixes.mixed p c d mc.0 md.0, mix_at (λ x y. x ≡ r q) p q (d p) (d p) c c (λ same. ap d (sym same) ∙ md.1) mc.1);
}

mixes_all : (r : Image) (may : Image → Type 0) (es : List Event) → Mixes may → Mixes (MayAfter r may es)
mixes_all r may [] mixes = mixes
mixes_all r may (e ∷ es) mixes = mixes_all (reads_by e r) (may_by e r may) es (mixes_by e r may mixes)

-- What a stop keeps of a call is among what the call may leave.
kept_found : (e : Event) (r : Image) (may : Image → Type 0) (c d : Image) → Mixes may → may r → may c → KeepsOf e r c d → may_by e r may d
kept_found (of.Saying bytes) r may c d mixes mr mc k = subst may (sym k) mc
kept_found (Writing p at bytes done) r may c d mixes mr mc k = record { from = c; was = mc; by = k }
kept_found (Cutting p len done) r may c d mixes mr mc k = record { from = c; was = mc; by = k }
kept_found (Syncing p) r may c d mixes mr mc k =
    (subst may (sym k) (mixes.mixed p c r mc mr), ap (λ (i : Image). i p) k ∙ with_part_here p (r p) c)

-- A stop at the start of a log.
pub reached_none : (first reads image : Image) (es : List Event) (said : List ℕ) → reads ≡ first → image ≡ first → said ≡ [] → Reached first es es 0 reads image said
reached_none first reads image es said e f g = record { done = []; split = refl; far = refl; reading = e; taken = g; found = f }

-- A stop one call later.
pub reached_more : (a b m : List ℕ) (es rest : List Event) (n : ℕ) (e : Event) (reads reads_now image image_now : Image) (said said_now : List ℕ)
    → Reached (at_parts a b m) es (e ∷ rest) n reads image said → reads_now ≡ reads_by e reads → KeepsOf e reads image image_now → said_now ≡ said_by e said
    → Reached (at_parts a b m) es rest (n + 1) reads_now image_now said_now
reached_more a b m es rest n e reads reads_now image image_now said said_now old r k t =
    let first : Image = at_parts a b m in
    let done = old.done in
    let kept : KeepsOf e (reads_after first done) image image_now = subst (λ (i : Image). KeepsOf e i image image_now) old.reading k in
    record {
      done = done ++ e ∷ [];
      split = append_assoc done (e ∷ []) rest ∙ old.split;
      far = length-append done (e ∷ []) ∙ omega (arith, old.far);
      reading = r ∙ ap (reads_by e) old.reading ∙ sym (reads_push first done e);
      taken = t ∙ ap (said_by e) old.taken ∙ sym (said_push [] done e);
      found = may_pop first (λ i. i ≡ first) done e image_now
          (kept_found e (reads_after first done) (MayAfter first (λ i. i ≡ first) done) image image_now (mixes_all first (λ i. i ≡ first) done (mixes_first a b m)) (own_image first (reads_after first done) done refl) old.found kept);
    }

-- A stop behind the last call.
pub stop_last : (first : Image) (es : List Event) (n : ℕ) (reads image : Image) (said : List ℕ) → Reached first es [] n reads image said → PairsAt first (λ i. i ≡ first) [] es n image said
stop_last first es n reads image said old =
    subst (λ (l : List Event). PairsAt first (λ i. i ≡ first) [] l n image said) old.split
    (subst (λ (k : ℕ). PairsAt first (λ i. i ≡ first) [] (old.done ++ []) k image said) old.far (at_behind first (λ i. i ≡ first) [] old.done [] image said (old.found, old.taken)))

-- A stop within a call.
pub stop_within : (first : Image) (es rest : List Event) (n : ℕ) (e : Event) (reads image : Image) (said taken : List ℕ) → Reached first es (e ∷ rest) n reads image said → Within e said taken
    → PairsAt first (λ i. i ≡ first) [] es n image taken
stop_within first es rest n e reads image said taken old within =
    subst (λ (l : List Event). PairsAt first (λ i. i ≡ first) [] l n image taken) old.split
    (subst (λ (k : ℕ). PairsAt first (λ i. i ≡ first) [] (old.done ++ e ∷ rest) k image taken) old.far
    (at_behind first (λ i. i ≡ first) [] old.done (e ∷ rest) image taken (old.found, subst (λ (s : List ℕ). Within e s taken) old.taken within)))

-- A write of fewer bytes is one that a stop within a longer one leaves.
torn_more : (at count most : ℕ) (old new : List ℕ) → count ≤ most → Torn at count old new → Torn at most old new
torn_more at count most old new le torn =
    let more : (at + count) + (most - count) ≡ at + most = omega arith in
    record {
      before = torn.before;
      after = further (at + count) (most - count) (at + most) new more ∙ ap (drop (most - count)) torn.after ∙ sym (further (at + count) (most - count) (at + most) old more);
      no_shorter = torn.no_shorter;
      no_longer = let p = torn.no_longer in omega arith;
    }
  where
    further : (k n m : ℕ) (l : List ℕ) → k + n ≡ m → drop m l ≡ drop n (drop k l)
    further k n m l same = ap (λ (x : ℕ). drop x l) (sym same) ∙ sym (drop-drop n k l)

-- What is kept of a write: at most as many bytes, of any values.
pub write_kept : (part : Part) (at : ℕ) (text bytes : List ℕ) (old new : Image) → length text ≤ length bytes → new ≡ with_part part (written_over at text (old part)) old → OnPart part (Torn at (length bytes)) old new
write_kept part at text bytes old new le same = rw same (record {
  here = subst (λ (l : List ℕ). Torn at (length bytes) (old part) l) (sym (with_part_here part (written_over at text (old part)) old))
      (torn_more at (length text) (length bytes) (old part) (written_over at text (old part)) le (Torn-whole at text (old part) (written_over at text (old part)) refl));
  others = with_part_else part (written_over at text (old part)) old;
})

-- What is kept of a cut: a length between.
pub cut_kept : (part : Part) (len kept : ℕ) (old new : Image) → min len (length (old part)) ≤ kept → new ≡ with_part part (take kept (old part)) old → OnPart part (CutShort len) old new
cut_kept part len kept old new le same = rw same (record {
  here = subst (λ (l : List ℕ). CutShort len (old part) l) (sym (with_part_here part (take kept (old part)) old))
      (record { no_shorter = omega (arith, length-take kept (old part)); front = (drop kept (old part), take-append-drop kept (old part)) });
  others = with_part_else part (take kept (old part)) old;
})

-- A write behind the end is one at the end.
pub over_min : (at : ℕ) (bytes old : List ℕ) → written_over (min at (length old)) bytes old ≡ written_over at bytes old
over_min at bytes old = elim (cases_lt at (length old)) as (λ _. written_over (min at (length old)) bytes old ≡ written_over at bytes old) [
  | inl within ↦ let same : min at (length old) ≡ at = omega arith in ap (λ (n : ℕ). written_over n bytes old) same
  | inr past ↦
      let same : min at (length old) ≡ length old = omega arith in
      ap (λ (n : ℕ). written_over n bytes old) same
      ∙ rw (take_all (length old) old (omega arith)) (rw (take_all at old past) (rw (drop_all (length old + length bytes) old (omega arith)) (rw (drop_all (at + length bytes) old (omega arith)) refl)))
]

-- What follows from what holds at success.
pub ok_then : {T E : Type 0} {P Q : Type 0} (r : Result T E) → OnOk r P → (P → Q) → OnOk r Q
ok_then (Ok x) p then = then p
ok_then (Err e) p then = tt

-- What always holds holds at success.
pub at_ok : {T E : Type 0} {P : Type 0} (r : Result T E) → P → OnOk r P
at_ok (Ok x) p = p
at_ok (Err e) p = tt

-- A call does to the parts what it does whatever was said, and to the replies what it does whatever was written.
pub reads_alone : (call : Call) (said written : List ℕ) (r : Image) → reads_by (event_of call [] written) r ≡ reads_by (event_of call said written) r
reads_alone (Said n) s w r = refl
reads_alone (Wrote p at n done) s w r = refl
reads_alone (Cut p len done) s w r = refl
reads_alone (Synced p) s w r = refl

pub keeps_alone : (call : Call) (said written : List ℕ) (r old new : Image) → KeepsOf (event_of call [] written) r old new → KeepsOf (event_of call said written) r old new
keeps_alone (Said n) s w r old new k = k
keeps_alone (Wrote p at n done) s w r old new k = k
keeps_alone (Cut p len done) s w r old new k = k
keeps_alone (Synced p) s w r old new k = k

pub says_alone : (call : Call) (said written taken : List ℕ) → said_by (event_of call said []) taken ≡ said_by (event_of call said written) taken
says_alone (Said n) s w t = refl
says_alone (Wrote p at n done) s w t = refl
says_alone (Cut p len done) s w t = refl
says_alone (Synced p) s w t = refl

pub within_alone : (call : Call) (said written old new : List ℕ) → Within (event_of call said []) old new → Within (event_of call said written) old new
within_alone (Said n) s w old new p = p
within_alone (Wrote q at n done) s w old new p = p
within_alone (Cut q len done) s w old new p = p
within_alone (Synced q) s w old new p = p

-- A stop one call of a log later.
pub log_more : (first : Images) (seen calls : List Call) (index : ℕ) (d : Call) (es : List Event) (s w s_now w_now : List ℕ) (reads reads_now image image_now : Image) (said said_now : List ℕ)
    → seen ≡ calls → index < length calls → s_now ≡ said_past (get_or seen index d) s → w_now ≡ written_past (get_or seen index d) w
    → Reached (image_of first) es (events (drop index calls) s w) index reads image said
    → reads_now ≡ reads_by (event_of (get_or seen index d) s w) reads → KeepsOf (event_of (get_or seen index d) s w) reads image image_now → said_now ≡ said_by (event_of (get_or seen index d) s w) said
    → Reached (image_of first) es (events (drop (index + 1) calls) s_now w_now) (index + 1) reads_now image_now said_now
log_more first seen calls index d es s w s_now w_now reads reads_now image image_now said said_now same lt same_said same_written old r k t =
    let call = get_or seen index d in
    let rest = events (drop (index + 1) calls) (said_past call s) (written_past call w) in
    let head = log_next seen calls index d s w same lt in
    rw (same_said, same_written)
    (reached_more first.zero.items first.one.items first.mark.items es rest index (event_of call s w) reads reads_now image image_now said said_now
    (subst (λ (l : List Event). Reached (image_of first) es l index reads image said) head old) r k t)

-- A stop within a call of a log.
pub log_within : (first : Images) (seen calls : List Call) (index : ℕ) (d : Call) (es : List Event) (s w : List ℕ) (reads image : Image) (said taken : List ℕ)
    → seen ≡ calls → index < length seen → Reached (image_of first) es (events (drop index calls) s w) index reads image said → Within (event_of (get_or seen index d) s []) said taken
    → PairsAt (image_of first) (λ i. i ≡ image_of first) [] es index image taken
log_within first seen calls index d es s w reads image said taken same lt old within =
    let call = get_or seen index d in
    let rest = events (drop (index + 1) calls) (said_past call s) (written_past call w) in
    let head = log_next seen calls index d s w same (omega (arith, lt, ap length same)) in
    stop_within (image_of first) es rest index (event_of call s w) reads image said taken (subst (λ (l : List Event). Reached (image_of first) es l index reads image said) head old) (within_alone call s w said taken within)

-- A stop behind the last call of a log.
pub log_last : (first : Images) (calls : List Call) (index : ℕ) (es : List Event) (s w : List ℕ) (reads image : Image) (said : List ℕ)
    → length calls ≤ index → Reached (image_of first) es (events (drop index calls) s w) index reads image said
    → PairsAt (image_of first) (λ i. i ≡ image_of first) [] es index image said
log_last first calls index es s w reads image said le old =
    stop_last (image_of first) es index reads image said (subst (λ (l : List Call). Reached (image_of first) es (events l s w) index reads image said) (drop_all index calls le) old)
