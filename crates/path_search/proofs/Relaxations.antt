-- What relaxing a step keeps, and what it gains; and what a turn of the search does.
use Rattle.std.proofs.Common.{◌≡◌, ℕ, ◌+◌, ◌<◌, ◌≤◌, ◌⊎◌, ◌==◌, not, Bool, true, false, inl, inr, ⊎_elim, List, [], ◌∷◌, ◌++◌, length, get_or, take, replicate, refl, sym, ◌∙◌, ap, subst, arith, ltb, ltb-true, ltb-false, eqb-true, eq-eqb, sum, length-set, get_or-set_same, get_or-set_other}
use Rattle.std.proofs.lemmas.List.{length-replicate, get_or-replicate, take_more, take_all}
use Rattle.std.proofs.lemmas.Bool.{and_parts, and_from, cases_eq, not_from_false, false_from_ne_true, false≢true}
use Rattle.std.proofs.lemmas.List.Sums.{sum_by-set}
use Rattle.std.specs.Bool.{OnTrue, OnFalse}
use Rattle.std.specs.List.{slice_set}
use Rattle.ctrl_model.specs.Membership.{Among}
use Rattle.ctrl_model.proofs.Members.{each_among, Among-get_or, by_append, by_filter, Among-filter, list_all-from_among}
use Rattle.path_certificate.specs.declared.graph.Step.{Step}
use Rattle.path_certificate.specs.declared.listing.StepEnd.TheVariants as step_end
use Rattle.ctrl_model.specs.Claims.{no_path, reach_over}
use Rattle.path_certificate.specs.Graphs.{GraphSeen, counts, IsStep, IsGraph, potential, improves, none_improves}
use Rattle.path_certificate.specs.StepLists.{standing}
use Rattle.path_certificate.proofs.StepLaws.{hop_of}
use Rattle.path_search.specs.Supports.{Paid, Supported, reached, lowered, Relaxed, AllFixed, Spread}

-- ---- one step

-- what an improving step says in numbers
record Improves (g : GraphSeen) (t : ℕ) (p : List ℕ) (s : Step) : Type 0 where
  counted : counts g.through t s ≡ true
  less : reached p s < potential p s.from

improving : (g : GraphSeen) (t : ℕ) (p : List ℕ) (s : Step) → improves g.through t p s ≡ true → Improves g t p s
improving g t p s e =
    let both = and_parts (counts g.through t s) (ltb (reached p s) (potential p s.from)) e in
    record { counted = both.0; less = ltb-true (reached p s) (potential p s.from) both.1 }

-- the potential of the step's start, and of any other place
pub lowered_at : (p : List ℕ) (s : Step) → s.from < length p → potential (lowered p s) s.from ≡ reached p s
lowered_at p s within = get_or-set_same p s.from (reached p s) 0 within

pub lowered_off : (p : List ℕ) (s : Step) (v : ℕ) → (v ≡ s.from → ⊥) → potential (lowered p s) v ≡ potential p v
lowered_off p s v ne = get_or-set_other p s.from v (reached p s) 0 ne

-- no potential rises
pub lowered-le : (p : List ℕ) (s : Step) (v : ℕ) → s.from < length p → reached p s < potential p s.from
    → potential (lowered p s) v ≤ potential p v
lowered-le p s v within less =
    ⊎_elim
    (λ e. subst (λ x. potential (lowered p s) x ≤ potential p x) (sym e)
    (let at : potential (lowered p s) s.from ≡ reached p s = lowered_at p s within in omega arith))
    (λ ne. let off : potential (lowered p s) v ≡ potential p v = lowered_off p s v ne in omega arith)
    (cases_eq v s.from)

-- the step itself pays for its start, and what paid for another place still does
lowered_paid : (g : GraphSeen) (t : ℕ) (p : List ℕ) (s : Step) → IsGraph g.through g.steps → Among s g.steps
    → Supported g t p → Improves g t p s → s.from < length p → (v : ℕ) → v < length g.through
    → potential (lowered p s) v < no_path → (v ≡ s.from) ⊎ (v ≡ s.from → ⊥) → (v ≡ t) ⊎ Paid g t (lowered p s) v
lowered_paid g t p s graph m kept better within v place there (inl e) =
    let step = each_among (IsStep (length g.through)) g.steps s graph.each m in
    let at : potential (lowered p s) s.from ≡ reached p s = lowered_at p s within in
    let off : potential (lowered p s) s.to ≡ potential p s.to = lowered_off p s s.to (λ x. step.apart (sym x)) in
    let low : potential (lowered p s) s.from < no_path = subst (λ x. potential (lowered p s) x < no_path) e there in
    inr (subst (λ x. Paid g t (lowered p s) x) (sym e) (record {
      link = s.link;
      hop = (s.to, s.cost);
      is = hop_of g t s graph.ordered m better.counted;
      enough = rw (at, off) (whole s.cost (potential p s.to) (rw at at low));
    }))
  where
    whole : (c b : ℕ) → reach_over c b < no_path → c + b ≤ reach_over c b
    whole c b h = omega arith
lowered_paid g t p s graph m kept better within v place there (inr ne) =
    let off : potential (lowered p s) v ≡ potential p v = lowered_off p s v ne in
    let before : potential p v < no_path = rw off at there in
    ⊎_elim (λ e. inl e)
    (λ (old : Paid g t p v).
    let fall : potential (lowered p s) old.hop.0 ≤ potential p old.hop.0 = lowered-le p s old.hop.0 within better.less in
    let enough : old.hop.1 + potential p old.hop.0 ≤ potential p v = old.enough in
    inr (record { link = old.link; hop = old.hop; is = old.is; enough = rw off (omega arith) }))
    (kept.paid v place before)

start_within : (g : GraphSeen) (t : ℕ) (p : List ℕ) (s : Step) → IsGraph g.through g.steps → Among s g.steps → Supported g t p
    → s.from < length p
start_within g t p s graph m kept = rw kept.places (each_among (IsStep (length g.through)) g.steps s graph.each m).from

-- a relaxed step leaves each potential supported
lowered_supported : (g : GraphSeen) (t : ℕ) (p : List ℕ) (s : Step) → IsGraph g.through g.steps → Among s g.steps
    → Supported g t p → improves g.through t p s ≡ true → Supported g t (lowered p s)
lowered_supported g t p s graph m kept e =
    let better = improving g t p s e in
    let within = start_within g t p s graph m kept in
    record {
      places = length-set p s.from (reached p s) ∙ kept.places;
      within = λ v.
          let fall : potential (lowered p s) v ≤ potential p v = lowered-le p s v within better.less in
          let top : potential p v ≤ no_path = kept.within v in
          omega arith;
      zero_at_target =
          let fall : potential (lowered p s) t ≤ potential p t = lowered-le p s t within better.less in
          let bottom : potential p t ≡ 0 = kept.zero_at_target in
          omega arith;
      paid = λ v place there. lowered_paid g t p s graph m kept better within v place there (cases_eq v s.from);
    }

-- and their sum falls
pub lowered_less : (g : GraphSeen) (t : ℕ) (p : List ℕ) (s : Step) → s.from < length p → improves g.through t p s ≡ true
    → sum (lowered p s) < sum p
lowered_less g t p s within e =
    let less : reached p s < potential p s.from = (improving g t p s e).less in
    let moved : sum (lowered p s) + potential p s.from ≡ sum p + reached p s = sum_by-set (λ x. x) p s.from (reached p s) 0 within in
    omega arith

-- ---- the steps into a place

-- what stands after some steps into a place were relaxed
pub record Relaxing (g : GraphSeen) (t v : ℕ) (before p : List ℕ) (xs : List Step) : Type 0 where
  pub supported : Supported g t p
  pub falls : (u : ℕ) → potential p u ≤ potential before u
  pub stays : potential p v ≡ potential before v
  pub settled : (s : Step) → Among s xs → s.to ≡ v → counts g.through t s ≡ true → potential p s.from ≤ reached p s

pub relaxing_none : (g : GraphSeen) (t v : ℕ) (p : List ℕ) → Supported g t p → Relaxing g t v p p []
relaxing_none g t v p kept = record {
  supported = kept;
  falls = λ u. omega arith;
  stays = refl;
  settled = λ s m. absurd m;
}

-- a step that stands into a place
by_standing : (v : ℕ) (steps : List Step) (s : Step) → Among s (standing step_end.To v steps) → Among s steps × (s.to ≡ v)
by_standing v steps s m = by_filter (λ s. s.to == v) steps s m (λ among is. (among, eqb-true s.to v is))

-- one step more, which improves a potential or does not
relaxing_more : (g : GraphSeen) (t v : ℕ) (before now next : List ℕ) (xs : List Step) (s : Step) (improved : Bool) → IsGraph g.through g.steps
    → Among s g.steps → s.to ≡ v → Relaxing g t v before now xs → improved ≡ improves g.through t now s
    → OnTrue improved (next ≡ lowered now s) → OnFalse improved (next ≡ now) → Relaxing g t v before next (xs ++ s ∷ [])
relaxing_more g t v before now next xs s true graph m to k is put same =
    subst (λ p. Relaxing g t v before p (xs ++ s ∷ [])) (sym put) (record {
      supported = lowered_supported g t now s graph m k.supported (sym is);
      falls = λ u. let fall = fell u in let old = k.falls u in omega (arith, fall, old);
      stays = kept_at ∙ k.stays;
      settled = λ x n is_to c. by_append xs (s ∷ []) x n (λ old. earlier x is_to (k.settled x old is_to c)) (λ own. latest x own);
    })
  where
    better : Improves g t now s
    better = improving g t now s (sym is)

    within : s.from < length now
    within = start_within g t now s graph m k.supported

    apart : v ≡ s.from → ⊥
    apart e = (each_among (IsStep (length g.through)) g.steps s graph.each m).apart (sym (to ∙ e))

    fell : (u : ℕ) → potential (lowered now s) u ≤ potential now u
    fell u = lowered-le now s u within better.less

    kept_at : potential (lowered now s) v ≡ potential now v
    kept_at = lowered_off now s v apart

    -- what a step into the place reaches is as before
    same_reach : (x : Step) → x.to ≡ v → reached (lowered now s) x ≡ reached now x
    same_reach x e = ap (reach_over x.cost) (ap (potential (lowered now s)) e ∙ kept_at ∙ ap (potential now) (sym e))

    earlier : (x : Step) → x.to ≡ v → potential now x.from ≤ reached now x → potential (lowered now s) x.from ≤ reached (lowered now s) x
    earlier x e low = rw (same_reach x e) (let fall = fell x.from in omega (arith, fall, low))

    latest : (x : Step) → Among x (s ∷ []) → potential (lowered now s) x.from ≤ reached (lowered now s) x
    latest x (inl e) =
        subst (λ (y : Step). potential (lowered now s) y.from ≤ reached (lowered now s) y) e
        (rw (same_reach s to) (let at : potential (lowered now s) s.from ≡ reached now s = lowered_at now s within in omega (arith, at)))
    latest x (inr n) = absurd n
relaxing_more g t v before now next xs s false graph m to k is put same =
    subst (λ p. Relaxing g t v before p (xs ++ s ∷ [])) (sym same) (record {
      supported = k.supported;
      falls = k.falls;
      stays = k.stays;
      settled = λ x n is_to c. by_append xs (s ∷ []) x n (λ old. k.settled x old is_to c) (λ own. latest x own c);
    })
  where
    latest : (x : Step) → Among x (s ∷ []) → counts g.through t x ≡ true → potential now x.from ≤ reached now x
    latest x (inl e) c =
        subst (λ (y : Step). counts g.through t y ≡ true → potential now y.from ≤ reached now y) e
        (λ d. ltb-false (reached now s) (potential now s.from) (false_from_ne_true (ltb (reached now s) (potential now s.from)) (λ less.
        false≢true (is ∙ and_from (counts g.through t s) (ltb (reached now s) (potential now s.from)) d less)))) c
    latest x (inr n) c = absurd n

-- the ends of a step of the list of a place are places
into_step : (g : GraphSeen) (v : ℕ) (into : List Step) (i : ℕ) (d : Step) → IsGraph g.through g.steps → into ≡ standing step_end.To v g.steps → i < length into
    → IsStep (length g.through) (get_or into i d)
into_step g v into i d graph listed h =
    each_among (IsStep (length g.through)) g.steps (get_or into i d) graph.each
    (by_standing v g.steps (get_or into i d) (subst (λ xs. Among (get_or into i d) xs) listed (Among-get_or into i d h))).0

pub into_from : (g : GraphSeen) (t v : ℕ) (into : List Step) (p : List ℕ) (i : ℕ) (d : Step) → IsGraph g.through g.steps → into ≡ standing step_end.To v g.steps
    → Supported g t p → i < length into → (get_or into i d).from < length p
into_from g t v into p i d graph listed k h = subst (λ n. (get_or into i d).from < n) (sym k.places) (into_step g v into i d graph listed h).from

pub into_to : (g : GraphSeen) (t v : ℕ) (into : List Step) (p : List ℕ) (i : ℕ) (d : Step) → IsGraph g.through g.steps → into ≡ standing step_end.To v g.steps
    → Supported g t p → i < length into → (get_or into i d).to < length p
into_to g t v into p i d graph listed k h = subst (λ n. (get_or into i d).to < n) (sym k.places) (into_step g v into i d graph listed h).to

-- the same of a list of the steps into the place
pub relaxing_next : (g : GraphSeen) (t v : ℕ) (into : List Step) (before now next : List ℕ) (improved : Bool) (i : ℕ) (d : Step)
    → IsGraph g.through g.steps → into ≡ standing step_end.To v g.steps → i < length into → Relaxing g t v before now (take i into)
    → improved ≡ improves g.through t now (get_or into i d) → OnTrue improved (next ≡ lowered now (get_or into i d))
    → OnFalse improved (next ≡ now) → Relaxing g t v before next (take (i + 1) into)
relaxing_next g t v into before now next improved i d graph listed h k is put same =
    subst (Relaxing g t v before next) (sym (take_more into i d h))
    (relaxing_more g t v before now next (take i into) (get_or into i d) improved graph own.0 own.1 k is put same)
  where
    own : Among (get_or into i d) g.steps × ((get_or into i d).to ≡ v)
    own = by_standing v g.steps (get_or into i d) (subst (λ xs. Among (get_or into i d) xs) listed (Among-get_or into i d h))

-- all steps into the place were relaxed
pub relaxed_whole : (g : GraphSeen) (t v : ℕ) (into : List Step) (before p : List ℕ) (i : ℕ) → into ≡ standing step_end.To v g.steps
    → length into ≤ i → Relaxing g t v before p (take i into) → Relaxed g t v before p
relaxed_whole g t v into before p i listed all k = record {
  supported = k.supported;
  falls = k.falls;
  stays = k.stays;
  settled = λ s m to c.
      k.settled s
      (subst (λ xs. Among s xs) (sym (take_all i into all ∙ listed)) (Among-filter (λ s. s.to == v) g.steps s m (eq-eqb s.to v to))) to c;
}

-- ---- one turn

-- the steps into the place of a turn were relaxed, so that its potential may be fixed
pub spread_fixed : (g : GraphSeen) (t v : ℕ) (p fixed q : List ℕ) → Spread g t p fixed → v < length g.through
    → potential p v < potential fixed v → Relaxed g t v p q → Spread g t q (slice_set fixed v (potential p v))
spread_fixed g t v p fixed q k place waits r = record {
  supported = r.supported;
  places = length-set fixed v (potential p v) ∙ k.places;
  above = λ u below. above u below (cases_eq u v);
  settled = λ s m c. settled s m c (cases_eq s.to v);
}
  where
    at : potential (slice_set fixed v (potential p v)) v ≡ potential p v
    at = get_or-set_same fixed v (potential p v) 0 (subst (λ n. v < n) (sym k.places) place)

    off : (u : ℕ) → (u ≡ v → ⊥) → potential (slice_set fixed v (potential p v)) u ≡ potential fixed u
    off u ne = get_or-set_other fixed v u (potential p v) 0 ne

    above : (u : ℕ) → u < length g.through → (u ≡ v) ⊎ (u ≡ v → ⊥) → potential q u ≤ potential (slice_set fixed v (potential p v)) u
    above u below (inl e) = subst (λ x. potential q x ≤ potential (slice_set fixed v (potential p v)) x) (sym e) (rw at (r.falls v))
    above u below (inr ne) = rw (off u ne) (let fall = r.falls u in let old = k.above u below in omega (arith, fall, old))

    settled : (s : Step) → Among s g.steps → counts g.through t s ≡ true → (s.to ≡ v) ⊎ (s.to ≡ v → ⊥)
        → potential q s.from ≤ reached (slice_set fixed v (potential p v)) s
    settled s m c (inl e) =
        subst (λ n. potential q s.from ≤ reach_over s.cost n) (ap (potential q) e ∙ r.stays ∙ sym at ∙ ap (potential (slice_set fixed v (potential p v))) (sym e)) (r.settled s m e c)
    settled s m c (inr ne) =
        subst (λ n. potential q s.from ≤ reach_over s.cost n) (sym (off s.to ne))
        (let fall = r.falls s.from in let old = k.settled s m c in omega (arith, fall, old))

-- where all potentials are fixed, no step improves one
pub fixed_settled : (g : GraphSeen) (t : ℕ) (p fixed : List ℕ) → IsGraph g.through g.steps → Spread g t p fixed → AllFixed p fixed
    → none_improves g t p ≡ true
fixed_settled g t p fixed graph k all = list_all-from_among (λ s. not (improves g.through t p s)) g.steps (λ s m.
    not_from_false (improves g.through t p s) (false_from_ne_true (improves g.through t p s) (λ e.
    let better = improving g t p s e in
    let low : potential p s.from ≤ reached fixed s = k.settled s m better.counted in
    let less : reached p s < potential p s.from = better.less in
    let end : potential fixed s.to ≤ potential p s.to =
    all s.to (subst (λ n. s.to < n) (sym k.supported.places) (each_among (IsStep (length g.through)) g.steps s graph.each m).to) in
    over s.cost (potential p s.to) (potential fixed s.to) (potential p s.from) low less end)))
  where
    over : (c a b d : ℕ) → d ≤ reach_over c b → reach_over c a < d → b ≤ a → ⊥
    over c a b d low less end = omega arith

-- ---- the start

-- at the start the target's potential alone is there, and none is fixed
pub spread_start : (g : GraphSeen) (t : ℕ) (p fixed : List ℕ) → IsGraph g.through g.steps → fixed ≡ replicate (length g.through) no_path
    → Supported g t p → Spread g t p fixed
spread_start g t p fixed graph is_fixed kept = record {
  supported = kept;
  places = ap length is_fixed ∙ length-replicate (length g.through) no_path;
  above = λ v below. rw (top v below) (kept.within v);
  settled = λ s m c.
      subst (λ n. potential p s.from ≤ reach_over s.cost n) (sym (top s.to (each_among (IsStep (length g.through)) g.steps s graph.each m).to))
      (most s.cost (potential p s.from) (kept.within s.from));
}
  where
    most : (c a : ℕ) → a ≤ no_path → a ≤ reach_over c no_path
    most c a h = omega arith

    top : (v : ℕ) → v < length g.through → potential fixed v ≡ no_path
    top v below = ap (λ xs. potential xs v) is_fixed ∙ get_or-replicate (length g.through) v no_path 0 below
