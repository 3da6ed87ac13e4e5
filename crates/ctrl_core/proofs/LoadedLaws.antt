-- What loading rows leaves: the stores of the state that they build, or the first flaw.
use Rattle.std.proofs.Common.{◌≡◌, ◌⊎◌, inr, ℕ, suc, ◌+◌, ◌<◌, ◌≤◌, ◌==◌, count_by, unwrap_or, true, List, [], ◌∷◌, ◌++◌, length, map, take, drop, get_or, Option, None, Some, Err, IsErrOf, refl, sym, ◌∙◌, ap, subst, arith, take-append-drop}
use Rattle.std.proofs.lemmas.Bool.{and_parts}
use Rattle.std.proofs.lemmas.List.{take_all, take_more, length-take-le}
use Rattle.std.proofs.Math.Seq.{drop-cons}
use Rattle.std.specs.List.{list_all}
use Rattle.ctrl_model.specs.declared.formats.Format.{Format}
use Rattle.ctrl_model.specs.declared.kinds.Kind.{Kind}
use Rattle.ctrl_model.specs.declared.kinds.Kind.TheVariants as kind
use Rattle.ctrl_model.specs.declared.kinds.Relation.{Relation}
use Rattle.ctrl_model.specs.declared.kinds.Relation.TheVariants.{Dial, Bind, IdentityRouter, ServiceRouter}
use Rattle.ctrl_model.specs.Grants.{count}
use Rattle.ctrl_model.specs.Numbered.{at}
use Rattle.ctrl_model.specs.State.{State, start}
use Rattle.ctrl_model.specs.Tables.{table}
use Rattle.ctrl_model.specs.ValidState.{ValidState}
use Rattle.circuits.specs.CircuitTables.{no_circuits}
use Rattle.entity_store.specs.EntityTables.{no_entities}
use Rattle.fabric_graph.specs.FabricTables.{no_links}
use Rattle.grant_denorm.specs.MovedCounts.{AreCountsOf}
use Rattle.grant_denorm.specs.PairCounts.{count_of}
use Rattle.model_laws.proofs.KindLaws.{with_table-holds}
use Rattle.policy_store.specs.PolicyTables.{no_policies}
use Rattle.row_codec.specs.declared.changes.Op.{Op}
use Rattle.row_codec.specs.declared.rows.Row.{Row}
use Rattle.row_codec.specs.Batches.{batch_between}
use Rattle.row_codec.specs.RowForm.{is_row}
use Rattle.row_codec.specs.RowKeys.{kinds}
use Rattle.row_loading.specs.declared.faults.CoreFault.TheVariants.{NotAState}
use Rattle.row_loading.specs.LoadedRows.{Loads, put_of}
use Rattle.row_loading.specs.RefusedRows.{AreFlawed, LackCounts, RefusesRows}
use Rattle.row_loading.proofs.GivenTables.{with_nexts-count}
use Rattle.row_loading.proofs.NextNumbersOfRows.{next_in-between}
use Rattle.row_loading.proofs.SoundRows.{ops_are, valid_in}
use Rattle.row_loading.proofs.ToldCounts.{told}
use Rattle.state_building.specs.declared.flaws.Flaw.{Flaw}
use Rattle.state_building.specs.declared.flaws.Flaw.TheVariants.{WrongCount}
use Rattle.state_building.specs.JoinedRecords.{skipped}
use Rattle.state_building.specs.BuiltStates.{AreFlawless, HaveCounts, built, count_in, flaw_in, next_in, state_in, with_nexts, with_nexts_of, with_row}
use Rattle.state_building.proofs.BuiltRows.{start-valid, start-below, built-below}
use Rattle.state_building.proofs.SkippedStates.{renumbered}
use Rattle.terminators.specs.TermTables.{no_terminators}
use Rattle.core_stores.specs.declared.stores.Stores.{Stores}
use Rattle.core_stores.specs.CarriedStates.{Carries}
use Rattle.ctrl_core.specs.JoinedRows.{KeepState}
use Rattle.core_stores.specs.StoredState.{HoldsPolicies}
use Rattle.ctrl_core.specs.KeptState.{Keeps}
use Rattle.core_stores.specs.StoredState.{counts_of, state_of}
use Rattle.ctrl_core.specs.LoadedRows.{IsFirstFlaw}
use Rattle.ctrl_core.specs.TakenRows.{Takes}

-- ---- rows, one after another

built_more : (done : List Row) (x : Row) (s : State) → built (done ++ x ∷ []) s ≡ with_row x (built done s)
built_more [] x s = refl
built_more (y ∷ ys) x s = built_more ys x (with_row y s)

flawless_more : (nexts : Kind → ℕ) (done : List Row) (x : Row) (s : State) → AreFlawless nexts done s → flaw_in nexts x (built done s) ≡ None → AreFlawless nexts (done ++ x ∷ []) s
flawless_more nexts [] x s f e = (e, tt)
flawless_more nexts (y ∷ ys) x s f e = (f.0, flawless_more nexts ys x (with_row y s) f.1 e)

-- the rows so far have no flaws, and the stores keep the state that they build
pub record AreTaken (nexts : Kind → ℕ) (done : List Row) (old now : Stores) : Type 0 where
  pub kept : Keeps now
  pub state_is : state_of now ≡ built done (state_of old)
  pub flawless : AreFlawless nexts done (state_of old)

pub none_taken : (nexts : Kind → ℕ) (st : Stores) → Keeps st → AreTaken nexts [] st st
none_taken nexts st k = record { kept = k; state_is = refl; flawless = tt }

taken_more : (nexts : Kind → ℕ) (done : List Row) (x : Row) (old st new : Stores) → AreTaken nexts done old st
    → Takes None (flaw_in nexts x (state_of st)) new (with_row x (state_of st)) → AreTaken nexts (done ++ x ∷ []) old new
taken_more nexts done x old st new so takes =
    let kept = takes.taken (sym takes.told_is) in
    record {
      kept = kept.kept;
      state_is = kept.state_is ∙ ap (with_row x) so.state_is ∙ sym (built_more done x (state_of old));
      flawless = flawless_more nexts done x (state_of old) so.flawless (subst (λ s. flaw_in nexts x s ≡ None) so.state_is (sym takes.told_is));
    }

-- the row at a place is taken
pub takes_next : (nexts : Kind → ℕ) (rows : List Row) (i : ℕ) (x : Row) (told : Option Flaw) (old st new : Stores) → AreTaken nexts (take i rows) old st
    → i < length rows → x ≡ get_or rows i x → told ≡ None → Takes told (flaw_in nexts x (state_of st)) new (with_row x (state_of st)) → AreTaken nexts (take (i + 1) rows) old new
takes_next nexts rows i x told old st new so within is none takes =
    subst (λ (xs : List Row). AreTaken nexts xs old new) (ap (λ (y : Row). take i rows ++ y ∷ []) is ∙ sym (take_more rows i x within))
    (taken_more nexts (take i rows) x old st new so
    (subst (λ (o : Option Flaw). Takes o (flaw_in nexts x (state_of st)) new (with_row x (state_of st))) none takes))

-- the row at a place has the first flaw
pub first_flaw : (nexts : Kind → ℕ) (rows : List Row) (i : ℕ) (x : Row) (told : Option Flaw) (flaw : Flaw) (place : ℕ) (old st new : Stores) → AreTaken nexts (take i rows) old st
    → i < length rows → x ≡ get_or rows i x → told ≡ Some flaw → place ≡ i → Takes told (flaw_in nexts x (state_of st)) new (with_row x (state_of st))
    → IsFirstFlaw nexts rows (state_of old) place flaw
first_flaw nexts rows i x told flaw place old st new so within is some at takes = record {
  before = take i rows;
  one = x;
  after = drop (suc i) rows;
  split = sym (take-append-drop i rows) ∙ ap (λ (xs : List Row). take i rows ++ xs) (drop-cons rows i x within ∙ ap (λ (y : Row). y ∷ drop (suc i) rows) (sym is));
  flawless = so.flawless;
  place_is = length-take-le i rows (omega (arith, within)) ∙ sym at;
  flaw_is = ap (flaw_in nexts x) (sym so.state_is) ∙ sym takes.told_is ∙ some;
}

-- one fault has one place and one flaw
pub same_fault : {T : Type 0} (a b : ℕ) (f g : Flaw) → IsErrOf {T = T} (Err (NotAState a f)) (NotAState b g) → (a ≡ b) × (f ≡ g)
same_fault a b f g e = (cc, cc)

-- once all rows are taken the stores keep the state that they build
pub taken_all : (nexts : Kind → ℕ) (rows : List Row) (i : ℕ) (old now : Stores) → AreTaken nexts (take i rows) old now → length rows ≤ i → AreTaken nexts rows old now
taken_all nexts rows i old now so all = subst (λ (xs : List Row). AreTaken nexts xs old now) (take_all i rows all) so

-- the row at a place is one that some state can have
pub row_at : (f : Format) (rows : List Row) (i : ℕ) (x : Row) → list_all (is_row f) rows ≡ true → i < length rows → x ≡ get_or rows i x → is_row f x ≡ true
row_at f rows i x form within is =
    let split = sym (take-append-drop i rows) ∙ ap (λ (xs : List Row). take i rows ++ xs) (drop-cons rows i x within ∙ ap (λ (y : Row). y ∷ drop (suc i) rows) (sym is)) in
    by (take i rows) (drop (suc i) rows) (subst (λ (xs : List Row). list_all (is_row f) xs ≡ true) split form)
  where
    by : (front back : List Row) → list_all (is_row f) (front ++ x ∷ back) ≡ true → is_row f x ≡ true
    by [] back e = (and_parts (is_row f x) (list_all (is_row f) back) e).0
    by (y ∷ front) back e = by front back (and_parts (is_row f y) (list_all (is_row f) (front ++ x ∷ back)) e).1

-- ---- the counts

-- the rows have every count where they have those of each relation
pub have_all : (rows : List Row) (st : Stores) → Keeps st → ((a b : ℕ) → count_in rows Dial a b ≡ count_of st.grants.dial a b) → ((a b : ℕ) → count_in rows Bind a b ≡ count_of st.grants.bind a b)
    → ((a b : ℕ) → count_in rows IdentityRouter a b ≡ count_of st.grants.identity_router a b) → ((a b : ℕ) → count_in rows ServiceRouter a b ≡ count_of st.grants.service_router a b)
    → HaveCounts rows (state_of st)
have_all rows st k dial bind identity_router service_router = by
  where
    by : HaveCounts rows (state_of st)
    by Dial a b = dial a b ∙ k.counts Dial a b
    by Bind a b = bind a b ∙ k.counts Bind a b
    by IdentityRouter a b = identity_router a b ∙ k.counts IdentityRouter a b
    by ServiceRouter a b = service_router a b ∙ k.counts ServiceRouter a b

-- a count that is kept, and that the rows do not have
pub lacks_one : (rows : List Row) (st : Stores) → Keeps st → (r : Relation) (pairs : List ((ℕ × ℕ) × ℕ)) → pairs ≡ counts_of r st.grants
    → (a : ℕ) × (b : ℕ) × (count_in rows r a b ≡ 0) × (0 < count_of pairs a b)
    → (r : Relation) × (a : ℕ) × (b : ℕ) × (count_in rows r a b ≡ count r (state_of st) a b → ⊥)
lacks_one rows st k r pairs is one =
    let a = one.0 in
    let b = one.1 in
    let kept : count_of pairs a b ≡ count r (state_of st) a b = ap (λ ps. count_of ps a b) is ∙ k.counts r a b in
    let none : count_in rows r a b ≡ 0 = one.2 in
    let some : 0 < count_of pairs a b = one.3 in
    (r, a, b, λ e. omega (arith, e, kept, none, some))

-- ---- the next numbers

nexts_more : (ks : List Kind) (k : Kind) (nexts : Kind → ℕ) (s : State) → with_nexts_of (ks ++ k ∷ []) nexts s ≡ skipped k (nexts k) (with_nexts_of ks nexts s)
nexts_more [] k nexts s = refl
nexts_more (j ∷ js) k nexts s = nexts_more js k nexts (skipped j (nexts j) s)

nexts_below : (nexts : Kind → ℕ) (ks : List Kind) (s : State) → ((k : Kind) → (table k s).next ≤ nexts k) → (k : Kind) → (table k (with_nexts_of ks nexts s)).next ≤ nexts k
nexts_below nexts [] s h = h
nexts_below nexts (k ∷ ks) s h =
    nexts_below nexts ks (skipped k (nexts k) s) (with_table-holds (λ j t. t.next ≤ nexts j) s k (renumbered k (nexts k) s) (h kind.Attribute) (omega arith) h)

-- the next numbers of some kinds are raised
abbrev pub AreRaised : (Kind → ℕ) → List Kind → Stores → Stores → Type 0
AreRaised nexts ks old now = Carries old now (with_nexts_of ks nexts (state_of old))

pub none_raised : (nexts : Kind → ℕ) (st : Stores) → HoldsPolicies st → AreRaised nexts [] st st
none_raised nexts st h = record { next = refl; held = h; counts = refl }

pub may_raise : (nexts : Kind → ℕ) (ks : List Kind) (k : Kind) (old now : Stores) → AreRaised nexts ks old now → ((j : Kind) → (table j (state_of old)).next ≤ nexts j)
    → (table k (state_of now)).next ≤ nexts k
may_raise nexts ks k old now so h = subst (λ s. (table k s).next ≤ nexts k) (sym so.next) (nexts_below nexts ks (state_of old) h k)

pub raises_more : (nexts : Kind → ℕ) (ks : List Kind) (k : Kind) (old now new : Stores) → AreRaised nexts ks old now → Carries now new (skipped k (nexts k) (state_of now))
    → AreRaised nexts (ks ++ k ∷ []) old new
raises_more nexts ks k old now new so c = record {
  next = c.next ∙ ap (skipped k (nexts k)) so.next ∙ sym (nexts_more ks k nexts (state_of old));
  held = c.held;
  counts = c.counts ∙ so.counts;
}

pub raises_next : (nexts : Kind → ℕ) (i : ℕ) (d : Kind) (next : ℕ) (old now new : Stores) → AreRaised nexts (take i kinds) old now → i < length kinds
    → next ≡ nexts (get_or kinds i d) → Carries now new (skipped (get_or kinds i d) next (state_of now)) → AreRaised nexts (take (i + 1) kinds) old new
raises_next nexts i d next old now new so within is c =
    subst (λ (ks : List Kind). AreRaised nexts ks old new) (sym (take_more kinds i d within))
    (raises_more nexts (take i kinds) (get_or kinds i d) old now new so (subst (λ n. Carries now new (skipped (get_or kinds i d) n (state_of now))) is c))

pub raised_all : (nexts : Kind → ℕ) (i : ℕ) (old now : Stores) → AreRaised nexts (take i kinds) old now → length kinds ≤ i → Carries old now (with_nexts nexts (state_of old))
raised_all nexts i old now so all = subst (λ (ks : List Kind). AreRaised nexts ks old now) (take_all i kinds all) so

-- ---- the stores at the start

-- stores without records
abbrev pub no_stores : Stores
no_stores = record {
  entities = no_entities;
  policies = no_policies;
  fabric = no_links;
  terminators = no_terminators;
  circuits = no_circuits;
  grants = record { dial = []; bind = []; identity_router = []; service_router = [] };
  intercepts = [];
  serial = 0;
}

-- they keep the state at the start
pub keeps_start : Keeps no_stores
keeps_start = record { valid = start-valid; held = λ name. refl; loads = λ n. refl; counts = by }
  where
    by : (r : Relation) → AreCountsOf (count r start) (counts_of r no_stores.grants)
    by Dial = λ a b. refl
    by Bind = λ a b. refl
    by IdentityRouter = λ a b. refl
    by ServiceRouter = λ a b. refl

-- ---- all rows

-- once all rows are taken, the next numbers are at most those that the rows have
pub nexts_later : (f : Format) (rows : List Row) (st : Stores) → list_all (is_row f) rows ≡ true → state_of st ≡ built rows start → AreFlawless (next_in rows) rows start
    → (k : Kind) → (table k (state_of st)).next ≤ next_in rows k
nexts_later f rows st form is flawless k =
    subst (λ s. (table k s).next ≤ next_in rows k) (sym is) (built-below (next_in rows) rows start (start-below (next_in rows)) flawless k (next_in-between f rows k form).0)

-- the counts that rows have are kept
pub counts_told : (f : Format) (rows : List Row) (st : Stores) → Loads f (map (put_of f) rows) rows → state_of st ≡ built rows start → AreFlawless (next_in rows) rows start
    → (r : Relation) (a b : ℕ) → 0 < count_in rows r a b → count_in rows r a b ≡ count r (state_of st) a b
counts_told f rows st l is flawless r a b h = told f (next_in rows) rows start r a b l.rises flawless h ∙ ap (λ s. count r s a b) (sym is)

-- with the next numbers raised the stores keep the state that the rows give
pub keeps_loaded : (f : Format) (rows : List Row) (st new : Stores) → Loads f (map (put_of f) rows) rows → Keeps st → state_of st ≡ built rows start → AreFlawless (next_in rows) rows start
    → Carries st new (with_nexts (next_in rows) (state_of st)) → new.terminators.loads ≡ st.terminators.loads → KeepState new (state_in rows)
keeps_loaded f rows st new l k is flawless c same_loads =
    let ends : state_of new ≡ state_in rows = c.next ∙ ap (with_nexts (next_in rows)) is in
    record {
      kept = record {
        valid = subst ValidState (sym ends) (valid_in f (map (put_of f) rows) rows l flawless);
        held = c.held;
        loads = λ n.
            ap (λ (ls : List (ℕ × ℕ)). unwrap_or (at ls n) 0) same_loads ∙ k.loads n
            ∙ sym (ap (λ (s : State). count_by (λ row. row.1.terminator == n) s.circuits.rows) c.next);
        counts = λ r a b.
            ap (λ g. count_of (counts_of r g) a b) c.counts ∙ k.counts r a b
            ∙ sym (ap (λ s. count r s a b) c.next ∙ with_nexts-count r (next_in rows) (state_of st) a b);
      };
      state_is = ends;
    }

-- ---- refusals

pub are_flawed : (f : Format) (rows : List Row) (place : ℕ) (flaw : Flaw) → Loads f (map (put_of f) rows) rows → IsFirstFlaw (next_in rows) rows start place flaw
    → AreFlawed f (map (put_of f) rows) place flaw
are_flawed f rows place flaw l first = record {
  rows = rows;
  loads = l;
  before = first.before;
  one = first.one;
  after = first.after;
  split = first.split;
  flawless = first.flawless;
  place_is = first.place_is;
  flaw_is = first.flaw_is;
}

pub lack_counts : (f : Format) (rows : List Row) (st : Stores) (place : ℕ) (flaw : Flaw) → Loads f (map (put_of f) rows) rows → AreFlawless (next_in rows) rows start → state_of st ≡ built rows start
    → (r : Relation) × (a : ℕ) × (b : ℕ) × (count_in rows r a b ≡ count r (state_of st) a b → ⊥) → length rows ≡ place → flaw ≡ WrongCount
    → LackCounts f (map (put_of f) rows) place flaw
lack_counts f rows st place flaw l flawless is one at wrong = record {
  rows = rows;
  loads = l;
  flawless = flawless;
  relation = one.0;
  left = one.1;
  right = one.2;
  lacks = λ e. one.3 (e ∙ ap (λ s. count one.0 s one.1 one.2) (sym is));
  place_is = at;
  flaw_is = wrong;
}

-- the changes that put the rows are refused for the same reason
pub refused_so : (f : Format) (ops : List Op) (rows : List Row) (place : ℕ) (flaw : Flaw) → Loads f ops rows → AreFlawed f (map (put_of f) rows) place flaw ⊎ LackCounts f (map (put_of f) rows) place flaw
    → RefusesRows f ops place flaw
refused_so f ops rows place flaw l h = subst (λ (os : List Op). RefusesRows f os place flaw) (sym l.spelled) (inr h)

-- rows load as the changes that put them do
pub loads_puts : (f : Format) (ops : List Op) (rows : List Row) → Loads f ops rows → Loads f (map (put_of f) rows) rows
loads_puts f ops rows l = subst (λ (os : List Op). Loads f os rows) l.spelled l

-- what holds of the state of stores without records holds at the start
pub at_start : (P : State → Type 0) (st : Stores) → st ≡ no_stores → P (state_of st) → P start
at_start P st is p = subst (λ (q : Stores). P (state_of q)) is p

-- changes that put rows without flaws, with every count among them, are those that lead to the state that the stores keep
pub rows_are : (f : Format) (ops : List Op) (rows : List Row) (st : Stores) → Loads f ops rows → KeepState st (state_in rows) → AreFlawless (next_in rows) rows start → HaveCounts rows (built rows start)
    → ops ≡ batch_between f start (state_of st)
rows_are f ops rows st l k flawless counts = ops_are f ops rows l flawless counts ∙ ap (batch_between f start) (sym k.state_is)
