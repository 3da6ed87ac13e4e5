-- A record of a valid state that comes next behind a front of the records of its kind has no flaw.
use Rattle.std.proofs.Common.{◌≡◌, ℕ, ◌+◌, ◌<◌, ◌≤◌, ◌==◌, ◌&&◌, ◌||◌, nat_lt, nat_le, Bool, true, false, not, cond, inl, inr, List, [], ◌∷◌, ◌++◌, length, flat_map, is_some, Option, None, Some, refl, sym, ◌∙◌, ap, ap₂, subst, arith, eq-eqb, ne_eqb, leb-true, ltb-true, length-append}
use Rattle.std.proofs.lemmas.Bool.{and_parts, cond-true, cond-false, false_from_ne_true}
use Rattle.std.proofs.lemmas.Option.{none-some}
use Rattle.std.specs.Str.{bytes_eq}
use Rattle.ctrl_model.specs.declared.formats.Format.TheVariants.{One}
use Rattle.ctrl_model.specs.declared.kinds.Kind.{Kind}
use Rattle.ctrl_model.specs.declared.kinds.Kind.TheVariants as kind
use Rattle.ctrl_model.specs.Limits.{limit}
use Rattle.ctrl_model.specs.Membership.{Among}
use Rattle.ctrl_model.specs.Numbered.{at, with_last, first_where, Between}
use Rattle.ctrl_model.specs.State.{State}
use Rattle.ctrl_model.specs.Tables.{Record, table, has_names, record_name, named}
use Rattle.ctrl_model.specs.Rules.{attributes_full}
use Rattle.ctrl_model.specs.ValidState.{ValidState, HaveUniqueNames, is_valid, is_valid_policy, may_relate}
use Rattle.ctrl_model.proofs.DistinctLaws.{Includes, same_name}
use Rattle.ctrl_model.proofs.Members.{list_all-among, by_append, by_flat_map, Among-append_left, Among-append_right, Among-flat_map}
use Rattle.ctrl_model.proofs.NumberedLaws.{at-within, first_where-found}
use Rattle.model_laws.proofs.ValidLaws.{attributes_fewer}
use Rattle.row_codec.specs.RowKeys.RowTable.{Records}
use Rattle.row_laws.proofs.TableRows.{has_number}
use Rattle.row_laws.proofs.WrittenRecords.{links_stay, terminators_stay, circuits_stay}
use Rattle.state_building.specs.declared.flaws.Flaw.{Flaw}
use Rattle.state_building.specs.JoinedRecords.{joined, is_sound, is_supported, are_both_found, flaw_if, flaw_of}
use Rattle.row_loading.proofs.FrontStates.{past, front, table-front, joined-front, inside-front}

-- ---- rows in order, split at one

above : {R : Type 0} (low high : ℕ) (done more : List (ℕ × R)) (n : ℕ) (r : R) → Between low high (done ++ (n, r) ∷ more) → past low done ≤ n
above low high [] more n r b = b.0
above low high (x ∷ xs) more n r b = above (x.0 + 1) high xs more n r b.2

pub least : {R : Type 0} (low high : ℕ) (done more : List (ℕ × R)) (n : ℕ) (r : R) → Between low high (done ++ (n, r) ∷ more) → low ≤ n
least low high [] more n r b = b.0
least low high (x ∷ xs) more n r b = let l = least (x.0 + 1) high xs more n r b.2 in let k = b.0 in omega arith

below : {R : Type 0} (low high : ℕ) (done more : List (ℕ × R)) (n : ℕ) (r : R) → Between low high (done ++ (n, r) ∷ more) → n < high
below low high [] more n r b = b.1
below low high (x ∷ xs) more n r b = below (x.0 + 1) high xs more n r b.2

Between-front : {R : Type 0} (low high : ℕ) (done more : List (ℕ × R)) (n : ℕ) (r : R) → Between low high (done ++ (n, r) ∷ more) → Between low n done
Between-front low high [] more n r b = tt
Between-front low high (x ∷ xs) more n r b = let l = least (x.0 + 1) high xs more n r b.2 in (b.0, omega arith, Between-front (x.0 + 1) high xs more n r b.2)

at-here : {R : Type 0} (low high : ℕ) (done more : List (ℕ × R)) (n : ℕ) (r : R) → Between low high (done ++ (n, r) ∷ more) → at (done ++ (n, r) ∷ more) n ≡ Some r
at-here low high [] more n r b = cond-true (n == n) (Some r) (at more n) (eq-eqb n n refl)
at-here low high (x ∷ xs) more n r b =
    let l = least (x.0 + 1) high xs more n r b.2 in
    cond-false (x.0 == n) (Some x.1) (at (xs ++ (n, r) ∷ more) n) (ne_eqb x.0 n (λ s. absurd (omega arith))) ∙ at-here (x.0 + 1) high xs more n r b.2

at-there : {R : Type 0} (done rest : List (ℕ × R)) (m : ℕ) (t : R) → at done m ≡ Some t → at (done ++ rest) m ≡ Some t
at-there [] rest m t e = absurd (none-some t e)
at-there (x ∷ xs) rest m t e = by (x.0 == m) e (at-there xs rest m t)
  where
    by : (b : Bool) → cond b (Some x.1) (at xs m) ≡ Some t → (at xs m ≡ Some t → at (xs ++ rest) m ≡ Some t) → cond b (Some x.1) (at (xs ++ rest) m) ≡ Some t
    by true k h = k
    by false k h = h k

-- ---- its number

in_order : (n last next : ℕ) → last ≤ n → n < next → (nat_lt n last || nat_le next n) ≡ false
in_order n last next h k = false_from_ne_true (nat_lt n last || nat_le next n) (λ e. by (nat_lt n last) (nat_le next n) refl refl e)
  where
    by : (a b : Bool) → nat_lt n last ≡ a → nat_le next n ≡ b → (a || b) ≡ true → ⊥
    by true b p q e = let l = ltb-true n last p in absurd (omega arith)
    by false true p q e = let l = leb-true next n q in absurd (omega arith)
    by false false p q e = absurd (cc)

-- ---- its name

fresh : {R : Type 0} (name_of : R → List ℕ) (high : ℕ) (done more : List (ℕ × R)) (n : ℕ) (r : R) → Between 1 high (done ++ (n, r) ∷ more)
    → HaveUniqueNames name_of (done ++ (n, r) ∷ more) → is_some (first_where (λ t. bytes_eq (name_of t) (name_of r)) done) ≡ false
fresh name_of high done more n r b unique = by (first_where (λ t. bytes_eq (name_of t) (name_of r)) done) refl
  where
    by : (o : Option ℕ) → first_where (λ t. bytes_eq (name_of t) (name_of r)) done ≡ o → is_some o ≡ false
    by None is = refl
    by (Some m) is =
        let f = first_where-found (λ t. bytes_eq (name_of t) (name_of r)) n done 1 m (Between-front 1 high done more n r b) is in
        let within = at-within n done 1 m f.record_found (Between-front 1 high done more n r b) f.stands in
        let same : m ≡ n = unique m n f.record_found r (at-there done ((n, r) ∷ more) m f.record_found f.stands) (at-here 1 high done more n r b) (same_name (name_of f.record_found) (name_of r) f.passes) in
        absurd (omega arith)

unnamed : (names taken : Bool) → (names ≡ true → taken ≡ false) → (names && taken) ≡ false
unnamed true taken h = h refl
unnamed false taken h = refl

-- ---- what it is alone

sound_policy : (valid related found : Bool) → (valid && (related && found)) ≡ true → (valid && related) ≡ true
sound_policy true true found e = refl
sound_policy true false found e = e
sound_policy false related found e = e

sound : (k : Kind) (s : State) (r : Record k) → is_valid k s r ≡ true → is_sound k r ≡ true
sound kind.ServicePolicy s p e = sound_policy (is_valid_policy p) (may_relate kind.ServicePolicy p.relation) _ e
sound kind.EdgeRouterPolicy s p e = sound_policy (is_valid_policy p) (may_relate kind.EdgeRouterPolicy p.relation) _ e
sound kind.ServiceEdgeRouterPolicy s p e = sound_policy (is_valid_policy p) (may_relate kind.ServiceEdgeRouterPolicy p.relation) _ e
sound k s r e = e

-- ---- what it stands on

found_policy : (valid related found : Bool) → (valid && (related && found)) ≡ true → found ≡ true
found_policy valid related found e = (and_parts related found (and_parts valid (related && found) e).1).1

supported : (k : Kind) (s : State) → ValidState s → (done : List (ℕ × Record k)) (row : ℕ × Record k) → Among row (table k s).rows → is_supported k (front k done s) row ≡ true
supported k s v done row m = by k done row m (list_all-among (λ (x : ℕ × Record k). is_valid k s x.1) (table k s).rows row (v.kinds k).each m)
  where
    by : (k : Kind) (done : List (ℕ × Record k)) (row : ℕ × Record k) → Among row (table k s).rows → is_valid k s row.1 ≡ true → is_supported k (front k done s) row ≡ true
    by kind.Link done row m e = links_stay s v row m
    by kind.ServicePolicy done row m e = found_policy (is_valid_policy row.1) (may_relate kind.ServicePolicy row.1.relation) (are_both_found kind.ServicePolicy s row.1) e
    by kind.EdgeRouterPolicy done row m e = found_policy (is_valid_policy row.1) (may_relate kind.EdgeRouterPolicy row.1.relation) (are_both_found kind.EdgeRouterPolicy s row.1) e
    by kind.ServiceEdgeRouterPolicy done row m e =
        found_policy (is_valid_policy row.1) (may_relate kind.ServiceEdgeRouterPolicy row.1.relation) (are_both_found kind.ServiceEdgeRouterPolicy s row.1) e
    by kind.Terminator done row m e = terminators_stay s v row m
    by kind.Circuit done row m e = circuits_stay s v row m
    by k done row m e = refl

-- ---- how many there are

few : {R : Type 0} (most : ℕ) (done more : List (ℕ × R)) (x : ℕ × R) → length (done ++ x ∷ more) ≤ most → nat_le most (length done) ≡ false
few most done more x h = false_from_ne_true (nat_le most (length done)) (λ e.
    let l = leb-true most (length done) e in let size = length-append done (x ∷ more) in absurd (omega arith))

Includes-flat_map : {X Y : Type 0} (f : X → List Y) (xs ys : List X) → Includes xs ys → Includes (flat_map f xs) (flat_map f ys)
Includes-flat_map f xs ys inside z m = by_flat_map f xs z m (λ x h n. Among-flat_map f ys x z (inside x h) n)

fewer_attributes : (k : Kind) (rows : List (ℕ × Record k)) (s : State) → Includes rows (table k s).rows → attributes_full s ≡ false → attributes_full (front k rows s) ≡ false
fewer_attributes k rows s inside few = attributes_fewer s (front k rows s) (λ j. Includes-flat_map _ _ _ (inside-front k rows s inside j)) few

-- ---- it has no flaw

no_flaw : (a b c d e : Bool) (p q r t u : Flaw) → a ≡ false → b ≡ true → c ≡ false → d ≡ true → e ≡ false
    → flaw_if a p (flaw_if (not b) q (flaw_if c r (flaw_if (not d) t (flaw_if e u None)))) ≡ None
no_flaw false true false true false p q r t u ha hb hc hd he = refl
no_flaw true b c d e p q r t u ha hb hc hd he = absurd (cc)
no_flaw false false c d e p q r t u ha hb hc hd he = absurd (cc)
no_flaw false true true d e p q r t u ha hb hc hd he = absurd (cc)
no_flaw false true false false e p q r t u ha hb hc hd he = absurd (cc)
no_flaw false true false true true p q r t u ha hb hc hd he = absurd (cc)

or_neither : (a b : Bool) → a ≡ false → b ≡ false → (a || b) ≡ false
or_neither a b h k = ap₂ (λ c d. c || d) h k

pub next_flawless : (k : Kind) → has_number One (Records k) ≡ true → (s : State) → ValidState s → (nexts : Kind → ℕ) → nexts k ≡ (table k s).next
    → (done more : List (ℕ × Record k)) (n : ℕ) (r : Record k) → done ++ (n, r) ∷ more ≡ (table k s).rows → flaw_of nexts k n r (front k done s) ≡ None
next_flawless k has s v nexts next done more n r split =
    let valid = v.kinds k in
    let ordered : Between 1 (table k s).next (done ++ (n, r) ∷ more) = subst (λ rows. Between 1 (table k s).next rows) (sym split) valid.numbers.ordered in
    let here : Among {X = ℕ × Record k} (n, r) (table k s).rows = subst (λ rows. Among {X = ℕ × Record k} (n, r) rows) split (Among-append_right done ((n, r) ∷ more) (n, r) (inl refl)) in
    let inside : Includes (with_last done n r) (table k s).rows = λ x m. subst (λ rows. Among x rows) split
    (by_append done ((n, r) ∷ []) x m (λ h. Among-append_left done ((n, r) ∷ more) x h) (λ h. Among-append_right done ((n, r) ∷ more) x (first x h))) in
    no_flaw _ _ _ _ _ _ _ _ _ _
    (ap₂ (λ last most. nat_lt n last || nat_le most n) (ap (λ t. t.next) (table-front k has done s)) next
    ∙ in_order n (past 1 done) (table k s).next (above 1 (table k s).next done more n r ordered) (below 1 (table k s).next done more n r ordered))
    (sound k s r (list_all-among (λ (x : ℕ × Record k). is_valid k s x.1) (table k s).rows (n, r) valid.each here))
    (unnamed (has_names k) (is_some (named k (front k done s) (record_name k r))) (λ names.
    ap (λ t. is_some (first_where (λ q. bytes_eq (record_name k q) (record_name k r)) t.rows)) (table-front k has done s)
    ∙ fresh (record_name k) (table k s).next done more n r ordered (subst (λ rows. HaveUniqueNames (record_name k) rows) (sym split) (valid.names names))))
    (supported k s v done (n, r) here)
    (or_neither (nat_le (limit k) (length (table k (front k done s)).rows)) (attributes_full (joined k n r (front k done s)))
    (ap (λ t. nat_le (limit k) (length t.rows)) (table-front k has done s)
    ∙ few (limit k) done more (n, r) (subst (λ (rows : List (ℕ × Record k)). length rows ≤ limit k) (sym split) valid.numbers.few))
    (ap attributes_full (joined-front k has done n r s) ∙ fewer_attributes k (with_last done n r) s inside v.attributes))
  where
    first : (x : ℕ × Record k) → Among x ((n, r) ∷ []) → Among x ((n, r) ∷ more)
    first x (inl e) = inl e
    first x (inr h) = absurd h
