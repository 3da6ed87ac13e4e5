-- A stop of a desk over memory that keeps nothing of what is pending, or all of it, found call by call.
use Rattle.std.proofs.Common.{◌≡◌, ℕ, ◌+◌, ◌-◌, ◌≤◌, ◌<◌, min, Bool, true, false, ◌||◌, if◌then◌else◌, List, [], ◌∷◌, ◌++◌, length, take, drop, refl, sym, ap, ◌∙◌, subst, arith, take-append-drop, append-nil, add-zero, get_or}
use Rattle.std.specs.Prelude.{All}
use Rattle.std.specs.List.{list_any}
use Rattle.std.proofs.lemmas.List.Folds.{list_any-append}
use Rattle.std.proofs.lemmas.List.Elements.{All-head, All-tail}
use Rattle.std.proofs.lemmas.List.{take_all, take_min, drop_all}
use Rattle.std.proofs.Math.Seq.{take-append_seam, take-append-add}
use Rattle.ziti_outside.specs.declared.desk.Part.{Part}
use Rattle.ziti_outside.specs.declared.desk.Part.TheVariants.{Zero, One, Mark}
use Rattle.ziti_outside.specs.Images.{Image}
use Rattle.desk_base.specs.declared.mem_log.Call.{Call}
use Rattle.desk_base.specs.declared.mem_log.Call.TheVariants.{Said, Wrote, Cut, Synced}
use Rattle.desk_base.specs.declared.mem_parts.Images.{Images}
use Rattle.desk_base.specs.declared.stopping.Keeping.{Keeping}
use Rattle.desk_base.specs.declared.stopping.Keeping.TheVariants as choice
use Rattle.desk_base.specs.MemEvents.{events, image_of, Event, Saying, Writing, Cutting, Syncing, at_parts, with_part, written_over, reads_by, said_by, reads_after, said_after}
use Rattle.desk_base.specs.StopPoints.{event_of, said_past, written_past, is_part, syncs, up_to_sync, as_done, done_from_sync, synced_parts, whole_parts, KeepsOf, Reached}
use Rattle.desk_base.specs.KeptSteps.{synced_by, whole_by, KeepsBy, StaysChosen, ChosenAt, SaysChosen, KeepsChosen, KeptSoFar}
use Rattle.desk_base.proofs.MemLaws.{reads_push, said_push}
use Rattle.desk_base.proofs.StopLaws.{self_part, log_next, log_more, reached_none, says_alone}

or_true : (b : Bool) → (b || true) ≡ true
or_true true = refl
or_true false = refl

or_none : (b : Bool) → (b || false) ≡ b
or_none true = refl
or_none false = refl

or_assoc : (a b c : Bool) → ((a || b) || c) ≡ (a || (b || c))
or_assoc true b c = refl
or_assoc false b c = refl

-- One call more, which syncs the part, or does not.
any_push : (p : Part) (es : List Event) (e : Event) (b : Bool) → syncs p e ≡ b → list_any (syncs p) (es ++ e ∷ []) ≡ (list_any (syncs p) es || b)
any_push p [] e b same = rw same (or_none b)
any_push p (x ∷ es) e b same = ap (λ (c : Bool). syncs p x || c) (any_push p es e b same) ∙ sym (or_assoc (syncs p x) (list_any (syncs p) es) b)

-- Behind its sync all calls are up to it.
pub up_to_here : (p : Part) (es : List Event) (e : Event) → syncs p e ≡ true → up_to_sync p (es ++ e ∷ []) ≡ es ++ e ∷ []
up_to_here p [] e same = rw same refl
up_to_here p (x ∷ es) e same =
    rw (any_push p (x ∷ es) e true same ∙ or_true (list_any (syncs p) (x ∷ es))) (ap (λ (l : List Event). x ∷ l) (up_to_here p es e same))

-- A call that does not sync it comes behind them.
pub up_to_same : (p : Part) (es : List Event) (e : Event) → syncs p e ≡ false → up_to_sync p (es ++ e ∷ []) ≡ up_to_sync p es
up_to_same p [] e same = rw same refl
up_to_same p (x ∷ es) e same =
    rw (any_push p (x ∷ es) e false same ∙ or_none (list_any (syncs p) (x ∷ es)), up_to_same p es e same) refl

pub done_here : (p : Part) (es : List Event) (e : Event) → syncs p e ≡ true → done_from_sync p (es ++ e ∷ []) ≡ es ++ e ∷ []
done_here p [] e same = rw same refl
done_here p (x ∷ es) e same =
    rw (any_push p (x ∷ es) e true same ∙ or_true (list_any (syncs p) (x ∷ es))) (ap (λ (l : List Event). x ∷ l) (done_here p es e same))

pub done_more : (p : Part) (es : List Event) (e : Event) → syncs p e ≡ false → done_from_sync p (es ++ e ∷ []) ≡ done_from_sync p es ++ as_done e ∷ []
done_more p [] e same = rw same refl
done_more p (x ∷ es) e same =
    rw (any_push p (x ∷ es) e false same ∙ or_none (list_any (syncs p) (x ∷ es)), done_more p es e same) refl

-- A part that was changed, by what it read itself.
changed_apart : (f : List ℕ → List ℕ) (q p : Part) (c d : Image) → c p ≡ d p → with_part q (f (c q)) c p ≡ with_part q (f (d q)) d p
changed_apart f Zero Zero c d same = ap f same
changed_apart f Zero One c d same = same
changed_apart f Zero Mark c d same = same
changed_apart f One Zero c d same = same
changed_apart f One One c d same = ap f same
changed_apart f One Mark c d same = same
changed_apart f Mark Zero c d same = same
changed_apart f Mark One c d same = same
changed_apart f Mark Mark c d same = ap f same

-- A part that a sync brought to these bytes.
synced_apart : (q p : Part) (c d : Image) (x : List ℕ) → (is_part p q ≡ true → d p ≡ x) → (is_part p q ≡ false → c p ≡ x) → with_part q (d q) c p ≡ x
synced_apart Zero Zero c d x here there = here refl
synced_apart Zero One c d x here there = there refl
synced_apart Zero Mark c d x here there = there refl
synced_apart One Zero c d x here there = there refl
synced_apart One One c d x here there = here refl
synced_apart One Mark c d x here there = there refl
synced_apart Mark Zero c d x here there = there refl
synced_apart Mark One c d x here there = there refl
synced_apart Mark Mark c d x here there = here refl

-- The parts one call later, where nothing that is pending is kept.
pub synced_more : (first : Image) (es : List Event) (e : Event) (old new : Image) → ((p : Part) → old p ≡ synced_parts first es p) → new ≡ synced_by e (reads_after first es) old
    → (p : Part) → new p ≡ synced_parts first (es ++ e ∷ []) p
synced_more first es (Saying bytes) old new was now p = rw (now, up_to_same p es (Saying bytes) refl) (was p)
synced_more first es (Writing q at bytes done) old new was now p = rw (now, up_to_same p es (Writing q at bytes done) refl) (was p)
synced_more first es (Cutting q len done) old new was now p = rw (now, up_to_same p es (Cutting q len done) refl) (was p)
synced_more first es (Syncing q) old new was now p = ap (λ (i : Image). i p) now ∙ synced_apart q p old (reads_after first es) (synced_parts first (es ++ Syncing q ∷ []) p)
    (λ here. sym (ap (λ (l : List Event). reads_after first l p) (up_to_here p es (Syncing q) here) ∙ ap (λ (i : Image). i p) (reads_push first es (Syncing q))))
    (λ there. was p ∙ sym (ap (λ (l : List Event). reads_after first l p) (up_to_same p es (Syncing q) there)))

-- And where all of it is.
pub whole_on : (first : Image) (es : List Event) (e : Event) (p : Part) → syncs p e ≡ false → whole_parts first (es ++ e ∷ []) p ≡ reads_by (as_done e) (reads_after first (done_from_sync p es)) p
whole_on first es e p none = ap (λ (l : List Event). reads_after first l p) (done_more p es e none) ∙ ap (λ (i : Image). i p) (reads_push first (done_from_sync p es) (as_done e))

pub whole_more : (first : Image) (es : List Event) (e : Event) (old new : Image) → ((p : Part) → old p ≡ whole_parts first es p) → new ≡ whole_by e (reads_after first es) old
    → (p : Part) → new p ≡ whole_parts first (es ++ e ∷ []) p
whole_more first es (Saying bytes) old new was now p = ap (λ (i : Image). i p) now ∙ was p ∙ sym (whole_on first es (Saying bytes) p refl)
whole_more first es (Writing q at bytes done) old new was now p =
    ap (λ (i : Image). i p) now ∙ changed_apart (written_over at bytes) q p old (reads_after first (done_from_sync p es)) (was p) ∙ sym (whole_on first es (Writing q at bytes done) p refl)
whole_more first es (Cutting q len done) old new was now p =
    ap (λ (i : Image). i p) now ∙ changed_apart (take len) q p old (reads_after first (done_from_sync p es)) (was p) ∙ sym (whole_on first es (Cutting q len done) p refl)
whole_more first es (Syncing q) old new was now p = ap (λ (i : Image). i p) now ∙ synced_apart q p old (reads_after first es) (whole_parts first (es ++ Syncing q ∷ []) p)
    (λ here. sym (ap (λ (l : List Event). reads_after first l p) (done_here p es (Syncing q) here) ∙ ap (λ (i : Image). i p) (reads_push first es (Syncing q))))
    (λ there. was p ∙ sym (whole_on first es (Syncing q) p there))

-- A part that nothing was written to.
nothing_over : (p : Part) (at : ℕ) (a b m : List ℕ) → with_part p (written_over at [] (at_parts a b m p)) (at_parts a b m) ≡ at_parts a b m
nothing_over p at a b m =
    let old = at_parts a b m p in
    let same : written_over at [] old ≡ old = ap (λ (n : ℕ). take at old ++ drop n old) (add-zero at) ∙ take-append-drop at old in
    ap (λ (l : List ℕ). with_part p l (at_parts a b m)) same ∙ self_part p a b m

-- What is found of a write.
pub write_chosen : (k : Keeping) (p : Part) (at : ℕ) (text bytes : List ℕ) (done : Bool) (reads : Image) (image : Images) (new : Image) → (k ≡ choice.Nothing → text ≡ []) → (k ≡ choice.All → text ≡ bytes)
    → new ≡ with_part p (written_over at text (image_of image p)) (image_of image) → KeepsBy k (Writing p at bytes done) reads (image_of image) new
write_chosen k p at text bytes done reads image new none all same =
    let over : List ℕ → Image = λ l. with_part p (written_over at l (image_of image p)) (image_of image) in
    record {
      nothing = λ is. same ∙ ap over (none is) ∙ nothing_over p at image.zero.items image.one.items image.mark.items;
      all = λ is. same ∙ ap over (all is);
    }

-- What is found of a cut.
pub cut_chosen : (k : Keeping) (p : Part) (len long gone : ℕ) (done : Bool) (reads : Image) (image : Images) (new : Image) → long ≡ length (image_of image p) → (k ≡ choice.Nothing → gone ≡ 0) → (k ≡ choice.All → gone ≡ long - len)
    → new ≡ with_part p (take (long - gone) (image_of image p)) (image_of image) → KeepsBy k (Cutting p len done) reads (image_of image) new
cut_chosen k p len long gone done reads image new size none all same =
    let old = image_of image p in
    let left : List ℕ → Image = λ l. with_part p l (image_of image) in
    record {
      nothing = λ is. same ∙ ap left (take_all (long - gone) old (omega (arith, size, none is))) ∙ self_part p image.zero.items image.one.items image.mark.items;
      all = λ is.
          let shorter : long - gone ≡ min len (length old) = omega (arith, size, all is) in
          same ∙ ap left (ap (λ (n : ℕ). take n old) shorter ∙ take_min len old);
    }

-- What is found of a part that was synced.
pub sync_chosen : (k : Keeping) (p : Part) (text : List ℕ) (reads old new : Image) → text ≡ reads p → new ≡ with_part p text old → KeepsBy k (Syncing p) reads old new
sync_chosen k p text reads old new read same =
    let synced = same ∙ ap (λ (l : List ℕ). with_part p l old) read in
    record { nothing = λ is. synced; all = λ is. synced }

-- And of a say.
pub say_chosen : (k : Keeping) (bytes : List ℕ) (reads old : Image) → KeepsBy k (Saying bytes) reads old old
say_chosen k bytes reads old = record { nothing = λ is. refl; all = λ is. refl }

-- A call does so to the parts whatever was said.
pub chosen_alone : (k : Keeping) (call : Call) (s w : List ℕ) (r old new : Image) → KeepsBy k (event_of call [] w) r old new → KeepsBy k (event_of call s w) r old new
chosen_alone k (Said n) s w r old new by = record { nothing = by.nothing; all = by.all }
chosen_alone k (Wrote p at n done) s w r old new by = by
chosen_alone k (Cut p len done) s w r old new by = by
chosen_alone k (Synced p) s w r old new by = by

-- The calls before a stop, and those with the one that it falls in.
done_take : (done rest es : List Event) (n : ℕ) → done ++ rest ≡ es → length done ≡ n → take n es ≡ done
done_take done rest es n split far = rw (sym split, sym far) (take-append_seam done rest)

next_take : (done rest es : List Event) (e : Event) (n : ℕ) → done ++ e ∷ rest ≡ es → length done ≡ n → take (n + 1) es ≡ done ++ e ∷ []
next_take done rest es e n split far = rw (sym split, sym far) (take-append-add done (e ∷ rest) 1)

-- The parts one call later.
pub chosen_more : (first : Image) (es rest : List Event) (n : ℕ) (e : Event) (k : Keeping) (reads old new : Image) (said : List ℕ)
    → Reached first es (e ∷ rest) n reads old said → KeepsBy k e reads old new → ChosenAt first (take n es) k old → ChosenAt first (take (n + 1) es) k new
chosen_more first es rest n e k reads old new said at by was =
    let done = at.done in
    let here = done_take done (e ∷ rest) es n at.split at.far in
    let next = next_take done rest es e n at.split at.far in
    record {
      nothing = λ is p. synced_more first done e old new (λ q. was.nothing is q ∙ ap (λ (l : List Event). synced_parts first l q) here) (by.nothing is ∙ ap (λ (r : Image). synced_by e r old) at.reading) p
          ∙ sym (ap (λ (l : List Event). synced_parts first l p) next);
      all = λ is p. whole_more first done e old new (λ q. was.all is q ∙ ap (λ (l : List Event). whole_parts first l q) here) (by.all is ∙ ap (λ (r : Image). whole_by e r old) at.reading) p
          ∙ sym (ap (λ (l : List Event). whole_parts first l p) next);
    }

-- A stop within a call.
pub chosen_within : (first : Image) (es rest : List Event) (n : ℕ) (e : Event) (k : Keeping) (reads image : Image) (said taken : List ℕ)
    → Reached first es (e ∷ rest) n reads image said → ChosenAt first (take n es) k image → SaysChosen k e said taken → KeepsChosen k first es n image taken
chosen_within first es rest n e k reads image said taken at was says =
    let here = done_take at.done (e ∷ rest) es n at.split at.far in
    let next = next_take at.done rest es e n at.split at.far in
    record {
      nothing = λ is. record { parts = was.nothing is; said = says.nothing is ∙ at.taken ∙ sym (ap (said_after []) here) };
      all = λ is. record { parts = was.all is; said = says.all is ∙ ap (said_by e) at.taken ∙ sym (said_push [] at.done e) ∙ sym (ap (said_after []) next) };
    }

-- A stop behind the last call.
pub chosen_last : (first : Image) (es : List Event) (n : ℕ) (k : Keeping) (reads image : Image) (said : List ℕ)
    → Reached first es [] n reads image said → ChosenAt first (take n es) k image → KeepsChosen k first es n image said
chosen_last first es n k reads image said at was =
    let whole : at.done ≡ es = sym (append-nil at.done) ∙ at.split in
    let here = done_take at.done [] es n at.split at.far in
    let next : take (n + 1) es ≡ es = take_all (n + 1) es (omega (arith, at.far, ap length whole)) in
    record {
      nothing = λ is. record { parts = was.nothing is; said = at.taken ∙ sym (ap (said_after []) here) };
      all = λ is. record { parts = was.all is; said = at.taken ∙ ap (said_after []) whole ∙ sym (ap (said_after []) next) };
    }

-- How much is kept stays so.
pub stays_on : (a b c : Keeping) → StaysChosen a b → StaysChosen b c → StaysChosen a c
stays_on a b c first next = record { nothing = λ is. next.nothing (first.nothing is); all = λ is. next.all (first.all is) }

pub keeps_from : (a b : Keeping) (e : Event) (r old new : Image) → StaysChosen a b → KeepsBy b e r old new → KeepsBy a e r old new
keeps_from a b e r old new stays by = record { nothing = λ is. by.nothing (stays.nothing is); all = λ is. by.all (stays.all is) }

-- A stop at the start of a log.
pub chosen_none : (first reads image : Image) (es : List Event) (k : Keeping) (said : List ℕ) → reads ≡ first → image ≡ first → said ≡ [] → Reached first es es 0 reads image said × KeptSoFar first (take 0 es) k k image
chosen_none first reads image es k said e f g = (
  reached_none first reads image es said e f g,
  record {
    chosen = record { nothing = λ is p. ap (λ (i : Image). i p) f; all = λ is p. ap (λ (i : Image). i p) f };
    stays = record { nothing = λ is. is; all = λ is. is };
  },
)

-- A stop one call of a log later.
pub log_chosen : (first : Images) (seen calls : List Call) (index : ℕ) (d : Call) (es : List Event) (s w s_now w_now : List ℕ) (k now later : Keeping) (reads reads_now image image_now : Image) (said said_now : List ℕ)
    → seen ≡ calls → index < length calls → s_now ≡ said_past (get_or seen index d) s → w_now ≡ written_past (get_or seen index d) w
    → Reached (image_of first) es (events (drop index calls) s w) index reads image said × KeptSoFar (image_of first) (take index es) k now image
    → reads_now ≡ reads_by (event_of (get_or seen index d) s w) reads → KeepsOf (event_of (get_or seen index d) s w) reads image image_now → said_now ≡ said_by (event_of (get_or seen index d) s w) said
    → KeepsBy now (event_of (get_or seen index d) s w) reads image image_now → StaysChosen now later
    → Reached (image_of first) es (events (drop (index + 1) calls) s_now w_now) (index + 1) reads_now image_now said_now × KeptSoFar (image_of first) (take (index + 1) es) k later image_now
log_chosen first seen calls index d es s w s_now w_now k now later reads reads_now image image_now said said_now same lt same_said same_written old r kept t by stays =
    let e = event_of (get_or seen index d) s w in
    let rest = events (drop (index + 1) calls) (said_past (get_or seen index d) s) (written_past (get_or seen index d) w) in (
      log_more first seen calls index d es s w s_now w_now reads reads_now image image_now said said_now same lt same_said same_written old.0 r kept t,
      record {
        chosen = chosen_more (image_of first) es rest index e k reads image image_now said
            (subst (λ (l : List Event). Reached (image_of first) es l index reads image said) (log_next seen calls index d s w same lt) old.0) (keeps_from k now e reads image image_now old.1.stays by) old.1.chosen;
        stays = stays_on k now later old.1.stays stays;
      },
    )

-- A stop within a call of a log.
pub log_chosen_within : (first : Images) (seen calls : List Call) (index : ℕ) (d : Call) (es : List Event) (s w : List ℕ) (k now : Keeping) (reads image : Image) (said taken : List ℕ)
    → seen ≡ calls → index < length seen → Reached (image_of first) es (events (drop index calls) s w) index reads image said × KeptSoFar (image_of first) (take index es) k now image
    → SaysChosen now (event_of (get_or seen index d) s []) said taken → KeepsChosen k (image_of first) es index image taken
log_chosen_within first seen calls index d es s w k now reads image said taken same lt old says =
    let call = get_or seen index d in
    let rest = events (drop (index + 1) calls) (said_past call s) (written_past call w) in
    chosen_within (image_of first) es rest index (event_of call s w) k reads image said taken
    (subst (λ (l : List Event). Reached (image_of first) es l index reads image said) (log_next seen calls index d s w same (omega (arith, lt, ap length same))) old.0) old.1.chosen
    (record { nothing = λ is. says.nothing (old.1.stays.nothing is); all = λ is. says.all (old.1.stays.all is) ∙ says_alone call s w said })

-- A stop behind the last call of a log.
pub log_chosen_last : (first : Images) (calls : List Call) (index : ℕ) (es : List Event) (s w : List ℕ) (k now : Keeping) (reads image : Image) (said : List ℕ)
    → length calls ≤ index → Reached (image_of first) es (events (drop index calls) s w) index reads image said × KeptSoFar (image_of first) (take index es) k now image
    → KeepsChosen k (image_of first) es index image said
log_chosen_last first calls index es s w k now reads image said le old =
    chosen_last (image_of first) es index k reads image said (subst (λ (l : List Call). Reached (image_of first) es (events l s w) index reads image said) (drop_all index calls le) old.0) old.1.chosen

-- Behind a call that syncs it a part is as it was read, and where none does, as it was at first.
pub up_to_none : (p : Part) (es : List Event) → list_any (syncs p) es ≡ false → up_to_sync p es ≡ []
up_to_none p [] none = refl
up_to_none p (x ∷ es) none = rw none refl

pub up_to_last : (p : Part) (before behind : List Event) (e : Event) → syncs p e ≡ true → list_any (syncs p) behind ≡ false → up_to_sync p (before ++ e ∷ behind) ≡ before ++ e ∷ []
up_to_last p [] behind e is none = rw is (ap (λ (l : List Event). e ∷ l) (up_to_none p behind none))
up_to_last p (x ∷ before) behind e is none =
    rw (list_any-append (syncs p) (x ∷ before) (e ∷ behind), is, or_true (list_any (syncs p) (x ∷ before))) (ap (λ (l : List Event). x ∷ l) (up_to_last p before behind e is none))

-- Where no call failed, all are as they were made.
pub done_as_made : (p : Part) (es : List Event) → All (λ e. as_done e ≡ e) es → done_from_sync p es ≡ es
done_as_made p [] made = refl
done_as_made p (x ∷ es) made =
    rw (done_as_made p es (All-tail (λ e. as_done e ≡ e) x es made)) (ap (λ (e : Event). e ∷ es) (either (list_any (syncs p) (x ∷ es)) (All-head (λ e. as_done e ≡ e) x es made)))
  where
    either : {e f : Event} (b : Bool) → f ≡ e → (if b then e else f) ≡ e
    either true same = refl
    either false same = same

-- A part syncs itself.
pub syncs_own : (p : Part) → syncs p (Syncing p) ≡ true
syncs_own Zero = refl
syncs_own One = refl
syncs_own Mark = refl

-- Two images that are the same in each part.
pub by_parts : (c d : Image) → c Zero ≡ d Zero → c One ≡ d One → c Mark ≡ d Mark → (p : Part) → c p ≡ d p
by_parts c d zero one mark Zero = zero
by_parts c d zero one mark One = one
by_parts c d zero one mark Mark = mark
