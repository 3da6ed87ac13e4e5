-- Changes that are refused lead to no valid state: the rows of one could be read, have no flaws, and have all counts.
use Rattle.std.proofs.Common.{◌≡◌, ℕ, true, inl, inr, List, [], ◌∷◌, ◌++◌, map, Ordering, None, refl, sym, ◌∙◌, ap, ap₂, subst, append_assoc}
use Rattle.std.proofs.lemmas.Bool.{and_parts}
use Rattle.std.proofs.lemmas.Option.{none-some}
use Rattle.std.proofs.lemmas.List.{map-append}
use Rattle.std.proofs.lemmas.List.Folds.{list_all-append}
use Rattle.std.specs.List.{list_all, AllByRecursion}
use Rattle.ctrl_model.specs.declared.formats.Format.{Format}
use Rattle.ctrl_model.specs.declared.kinds.Kind.{Kind}
use Rattle.ctrl_model.specs.State.{State, start}
use Rattle.ctrl_model.specs.ValidState.{ValidState}
use Rattle.row_codec.specs.declared.rows.Row.{Row}
use Rattle.row_codec.specs.declared.changes.Op.{Op}
use Rattle.row_codec.specs.RowKeys.{key_cmp}
use Rattle.row_codec.specs.RowForm.{is_row, key_of, value_of}
use Rattle.row_codec.specs.RowDifference.{Rises}
use Rattle.row_codec.specs.StateRows.{Rows, HasRows}
use Rattle.row_codec.specs.Batches.{batch_between}
use Rattle.row_laws.proofs.SpelledValues.{first_same}
use Rattle.state_building.specs.declared.flaws.Flaw.{Flaw}
use Rattle.state_building.specs.declared.flaws.Flaw.TheVariants as flaw
use Rattle.state_building.specs.BuiltStates.{flaw_in, built, AreFlawless, next_in, with_row}
use Rattle.row_loading.specs.LoadedRows.{put_of, keyed, AreOfNoState}
use Rattle.row_loading.specs.RefusedRows.{PutsNoRow, AreUnread, AreFlawed, LackCounts, RefusesRows}
use Rattle.row_loading.proofs.SameRows.{same_row, same_rows}
use Rattle.row_loading.proofs.ListedStates.{listed}
use Rattle.row_loading.proofs.LoadedStates.{loads-listed, flawless-rows, counted-rows}

-- ---- rows before one

All-front : {X : Type 0} (P : X → Type 0) (xs ys : List X) → AllByRecursion P (xs ++ ys) → AllByRecursion P xs
All-front P [] ys a = tt
All-front P (x ∷ xs) ys a = (a.0, All-front P xs ys a.1)

Rises-front : {K V : Type 0} (R : K → K → Ordering) (xs ys : List (K × V)) → Rises R (xs ++ ys) → Rises R xs
Rises-front R [] ys h = tt
Rises-front R (x ∷ xs) ys h = (All-front _ xs ys h.0, Rises-front R xs ys h.1)

-- a change is that of one of the rows, with those before it before that row
by_split : {P : Type 0} (f : Format) (rows : List Row) (before after : List Op) (op : Op) → map (put_of f) rows ≡ before ++ op ∷ after
    → ((xs : List Row) (x : Row) (ys : List Row) → rows ≡ xs ++ x ∷ ys → map (put_of f) xs ≡ before → put_of f x ≡ op → P) → P
by_split f [] [] after op e k = absurd (cc)
by_split f [] (b ∷ bs) after op e k = absurd (cc)
by_split f (l ∷ ls) [] after op e k = k [] l ls refl refl (first_same (put_of f l) op (map (put_of f) ls) after e).0
by_split f (l ∷ ls) (b ∷ bs) after op e k =
    let firsts = first_same (put_of f l) b (map (put_of f) ls) (bs ++ op ∷ after) e in
    by_split f ls bs after op firsts.1 (λ xs x ys split puts put. k (l ∷ xs) x ys (ap (λ zs. l ∷ zs) split) (ap₂ (λ z zs. z ∷ zs) firsts.0 puts) put)

-- ---- a change that puts no row

no_row : (f : Format) (flaw : Flaw) (rows : List Row) (op : Op) → PutsNoRow f flaw rows op → (xs : List Row) (x : Row) → list_all (is_row f) rows ≡ true → list_all (is_row f) xs ≡ true
    → is_row f x ≡ true → map (put_of f) xs ≡ map (put_of f) rows → put_of f x ≡ op → Rises key_cmp (keyed f (xs ++ x ∷ [])) → ⊥
no_row f flaw.NoRecord rows op reason xs x hs fs g puts put rises = reason x g (sym put)
no_row f flaw.OutOfOrder rows op reason xs x hs fs g puts put rises =
    reason.3 (subst (λ ys. Rises key_cmp (keyed f ys)) (ap₂ (λ zs z. zs ++ z ∷ []) (same_rows f xs rows fs hs puts) (same_row f x reason.0 g reason.1 (put ∙ reason.2))) rises)
no_row f flaw.NameTaken rows op reason xs x hs fs g puts put rises = reason
no_row f flaw.Hanging rows op reason xs x hs fs g puts put rises = reason
no_row f flaw.Unsettled rows op reason xs x hs fs g puts put rises = reason
no_row f flaw.TooMany rows op reason xs x hs fs g puts put rises = reason
no_row f flaw.WrongCount rows op reason xs x hs fs g puts put rises = reason

unread : (f : Format) (ops : List Op) (place : ℕ) (flaw : Flaw) → AreUnread f ops place flaw → (s : State) → ValidState s → HasRows f s → ops ≡ batch_between f start s → ⊥
unread f ops place flaw u s v has e =
    let loads = loads-listed f ops s v e in
    by_split f (listed f s) u.before u.after u.op (sym loads.spelled ∙ u.split) (λ xs x ys split puts put.
    let forms = and_parts (list_all (is_row f) xs) (list_all (is_row f) (x ∷ ys)) (sym (list_all-append (is_row f) xs (x ∷ ys)) ∙ ap (list_all (is_row f)) (sym split) ∙ loads.form) in
    let whole : keyed f (listed f s) ≡ keyed f (xs ++ x ∷ []) ++ keyed f ys =
    ap (keyed f) (split ∙ sym (append_assoc xs (x ∷ []) ys)) ∙ map-append (λ z. (key_of z, value_of f z)) (xs ++ x ∷ []) ys in
    no_row f flaw u.rows u.op u.reason xs x u.loads.form forms.0 (and_parts (is_row f x) (list_all (is_row f) ys) forms.1).0 (puts ∙ u.loads.spelled) put
    (Rises-front key_cmp (keyed f (xs ++ x ∷ [])) (keyed f ys) (subst (λ (zs : Rows). Rises key_cmp zs) whole loads.rises)))

-- ---- a row that cannot come next

flawless_at : (nexts : Kind → ℕ) (before after : List Row) (one : Row) (s : State) → AreFlawless nexts (before ++ one ∷ after) s → flaw_in nexts one (built before s) ≡ None
flawless_at nexts [] after one s h = h.0
flawless_at nexts (x ∷ xs) after one s h = flawless_at nexts xs after one (with_row x s) h.1

flawed : (v : Format) (ops : List Op) (place : ℕ) (flaw : Flaw) → AreFlawed v ops place flaw → (s : State) → ValidState s → HasRows v s → ops ≡ batch_between v start s → ⊥
flawed v ops place flaw f s valid has e =
    let all = subst (λ rows. AreFlawless (next_in f.rows) rows start) f.split (flawless-rows v ops f.rows s valid has e f.loads) in
    none-some flaw (sym (flawless_at (next_in f.rows) f.before f.after f.one start all) ∙ f.flaw_is)

-- ---- a count that has no row

lacking : (f : Format) (ops : List Op) (place : ℕ) (flaw : Flaw) → LackCounts f ops place flaw → (s : State) → ValidState s → HasRows f s → ops ≡ batch_between f start s → ⊥
lacking f ops place flaw l s v has e = l.lacks (counted-rows f ops l.rows s v has e l.loads l.relation l.left l.right)

pub refused-of_none : (f : Format) (ops : List Op) (place : ℕ) (flaw : Flaw) → RefusesRows f ops place flaw → AreOfNoState f ops
refused-of_none f ops place flaw (inl u) = unread f ops place flaw u
refused-of_none f ops place flaw (inr (inl r)) = flawed f ops place flaw r
refused-of_none f ops place flaw (inr (inr l)) = lacking f ops place flaw l
