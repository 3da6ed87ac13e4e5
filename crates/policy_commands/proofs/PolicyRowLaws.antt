-- The rows of policies: those of a valid state fit, a change touches one, and an `@` name that goes touches those that could have it.
use Rattle.std.proofs.Common.{◌≡◌, ◌≢◌, ℕ, ◌+◌, ◌<◌, ◌==◌, Bool, true, false, cond, not, ◌&&◌, List, [], ◌∷◌, ◌++◌, map, length, get_or, Option, None, Some, IfSome, inl, refl, sym, ◌∙◌, ap, ap₂, subst, arith, eq-eqb, bytes_eq, ◌≤◌}
use Rattle.std.proofs.lemmas.Bool.{false≢true}
use Rattle.std.proofs.lemmas.List.{append-nil}
use Rattle.std.specs.Option.{option_map}
use Rattle.ctrl_model.specs.declared.formats.Format.{Format}
use Rattle.ctrl_model.specs.declared.kinds.Kind.{Kind}
use Rattle.ctrl_model.specs.declared.kinds.Kind.TheVariants as kind
use Rattle.ctrl_model.specs.Limits.{last_next}
use Rattle.ctrl_model.specs.Numbered.{Table, at, numbers, with_new, with_edit, with_removed, with_each, without, map_each, Between, is_present}
use Rattle.ctrl_model.specs.PolicyCommands.{replaced_by}
use Rattle.ctrl_model.specs.State.{State, Policy}
use Rattle.ctrl_model.specs.Tables.{Record, table, is_entity_kind}
use Rattle.ctrl_model.proofs.NumberedLaws.{at-past, at-with_last, at-with_last-other, at-edit_at, at-edit_at-other, at-without-other, at-map_each, by_is_some, first_where-found}
use Rattle.row_codec.specs.declared.changes.Change.{Change}
use Rattle.row_codec.specs.CoveredTables.{Covers, change_at}
use Rattle.row_codec.specs.RowKeys.{is_long, key_in, kind_number, number_in_key}
use Rattle.row_codec.specs.RowKeys.RowTable.{Records}
use Rattle.row_codec.specs.RowValues.{record_value}
use Rattle.row_laws.specs.ChangedKeys.{record_changes}
use Rattle.row_laws.proofs.Covers.{Covers-append, Covers-same_records}
use Rattle.row_laws.proofs.KeyOrders.{long_upto}
use Rattle.row_laws.proofs.SpelledChanges.{change_at-record}
use Rattle.row_laws.proofs.TouchedKeys.{Covers-records, Covers-with_each}
use Rattle.row_laws.proofs.WrittenRecords.{record_at_fits}
use Rattle.record_tables.proofs.NumberLoops.{numbered_stands}
use Rattle.policy_store.specs.declared.changes.PolicyChange.{PolicyChange}
use Rattle.policy_store.specs.declared.changes.PolicyChange.TheVariants as change
use Rattle.policy_store.specs.declared.records.Hand.TheVariants.{Left, Right}
use Rattle.policy_store.specs.declared.records.Hand.{Hand}
use Rattle.policy_store.specs.PolicyChanges.{CanChangePolicies, after_policy_change, tables_of}
use Rattle.policy_commands.specs.PolicyRows.{AreValid, touched_kind, touched_number, fits_row, policy_change_of, forgotten_at, forgotten_rows, naming}
use Rattle.policy_store.specs.PolicyRules.{KeepsNumbers}
use Rattle.policy_store.specs.PolicyTables.{PolicyTables, policies, policies_of, next_of, number_of, with_policies, with_policy, forgetting, is_policy_kind}
use Rattle.policy_store.specs.Stores.{forget_on}

-- ---- policies of a valid state fit their rows

pub valid_row : (k : Kind) (p : PolicyTables) (n : ℕ) (r : Policy) → is_policy_kind k ≡ true → AreValid p → at (policies k p) n ≡ Some r → (is_long n ≡ true) × (fits_row k r ≡ true)
valid_row kind.ServicePolicy p n r is v e = record_at_fits kind.ServicePolicy v.state n r v.valid (ap (λ (q : PolicyTables). at q.service_policies.rows n) v.holds ∙ e)
valid_row kind.EdgeRouterPolicy p n r is v e = record_at_fits kind.EdgeRouterPolicy v.state n r v.valid (ap (λ (q : PolicyTables). at q.edge_router_policies.rows n) v.holds ∙ e)
valid_row kind.ServiceEdgeRouterPolicy p n r is v e = record_at_fits kind.ServiceEdgeRouterPolicy v.state n r v.valid (ap (λ (q : PolicyTables). at q.service_edge_router_policies.rows n) v.holds ∙ e)
valid_row _ p n r is v e = absurd (false≢true is)

pub fit_if_some : (k : Kind) (p : PolicyTables) (n : ℕ) (o : Option Policy) → is_policy_kind k ≡ true → AreValid p → o ≡ at (policies k p) n → IfSome o (λ r. fits_row k r ≡ true)
fit_if_some k p n None is v e = tt
fit_if_some k p n (Some r) is v e = (valid_row k p n r is v (sym e)).1

ordered : (k : Kind) (p : PolicyTables) → is_policy_kind k ≡ true → AreValid p → Between 1 (next_of k p) (policies k p)
ordered kind.ServicePolicy p is v = subst (λ (q : PolicyTables). Between 1 q.service_policies.next q.service_policies.rows) v.holds (v.valid.kinds kind.ServicePolicy).numbers.ordered
ordered kind.EdgeRouterPolicy p is v = subst (λ (q : PolicyTables). Between 1 q.edge_router_policies.next q.edge_router_policies.rows) v.holds (v.valid.kinds kind.EdgeRouterPolicy).numbers.ordered
ordered kind.ServiceEdgeRouterPolicy p is v = subst (λ (q : PolicyTables). Between 1 q.service_edge_router_policies.next q.service_edge_router_policies.rows) v.holds (v.valid.kinds kind.ServiceEdgeRouterPolicy).numbers.ordered
ordered _ p is v = absurd (false≢true is)

last_number : (k : Kind) (p : PolicyTables) → is_policy_kind k ≡ true → AreValid p → next_of k p ≤ last_next
last_number kind.ServicePolicy p is v = subst (λ (q : PolicyTables). q.service_policies.next ≤ last_next) v.holds (v.valid.kinds kind.ServicePolicy).numbers.last
last_number kind.EdgeRouterPolicy p is v = subst (λ (q : PolicyTables). q.edge_router_policies.next ≤ last_next) v.holds (v.valid.kinds kind.EdgeRouterPolicy).numbers.last
last_number kind.ServiceEdgeRouterPolicy p is v = subst (λ (q : PolicyTables). q.service_edge_router_policies.next ≤ last_next) v.holds (v.valid.kinds kind.ServiceEdgeRouterPolicy).numbers.last
last_number _ p is v = absurd (false≢true is)

next_long : (k : Kind) (p : PolicyTables) → is_policy_kind k ≡ true → AreValid p → is_long (next_of k p) ≡ true
next_long k p is v = long_upto (next_of k p) (last_number k p is v)

present_long : (k : Kind) (p : PolicyTables) (n : ℕ) → is_policy_kind k ≡ true → AreValid p → is_present (policies k p) n ≡ true → is_long n ≡ true
present_long k p n is v e = by_is_some (at (policies k p) n) e (λ r stands. (valid_row k p n r is v stands).0)

named_long : (k : Kind) (p : PolicyTables) (n : ℕ) (name : List ℕ) → is_policy_kind k ≡ true → AreValid p → number_of k name p ≡ Some n → is_long n ≡ true
named_long k p n name is v e =
    let found = first_where-found (λ (r : Policy). bytes_eq r.name name) (next_of k p) (policies k p) 1 n (ordered k p is v) e in
    (valid_row k p n found.record_found is v found.stands).0

pub number_long : (k : Kind) (p : PolicyTables) (i : ℕ) → is_policy_kind k ≡ true → AreValid p → i < length (numbers (policies k p)) → is_long (get_or (numbers (policies k p)) i 0) ≡ true
number_long k p i is v h = by (at (policies k p) (get_or (numbers (policies k p)) i 0)) refl
  where
    by : (o : Option Policy) → at (policies k p) (get_or (numbers (policies k p)) i 0) ≡ o → is_long (get_or (numbers (policies k p)) i 0) ≡ true
    by None e = absurd (numbered_stands (next_of k p) (policies k p) i (ordered k p is v) h e)
    by (Some r) e = (valid_row k p (get_or (numbers (policies k p)) i 0) r is v e).0

-- ---- the policy that a change touches, as it will be

same_number : (n : ℕ) (x y : Option Policy) → cond (n == n) x y ≡ x
same_number n x y = ap (λ b. cond b x y) (eq-eqb n n refl)

-- the rows of a kind with another table
pub new_rows : (k : Kind) (new : Table Policy) (p : PolicyTables) → is_policy_kind k ≡ true → policies k (with_policies k new p) ≡ new.rows
new_rows kind.ServicePolicy new p is = refl
new_rows kind.EdgeRouterPolicy new p is = refl
new_rows kind.ServiceEdgeRouterPolicy new p is = refl
new_rows _ new p is = absurd (false≢true is)

pub added_at : (k : Kind) (q : Policy) (p : PolicyTables) → is_policy_kind k ≡ true → KeepsNumbers k p → Some q ≡ at (policies k (with_policy k q p)) (next_of k p)
added_at k q p is keeps =
    sym (ap (λ rows. at rows (next_of k p)) (new_rows k (with_new q (policies_of k p)) p is)
    ∙ at-with_last (policies k p) (next_of k p) (next_of k p) q (at-past (next_of k p) (policies k p) 1 (next_of k p) keeps.ordered (omega arith))
    ∙ same_number (next_of k p) (Some q) (at (policies k p) (next_of k p)))

pub replaced_at : (k : Kind) (n : ℕ) (q : Policy) (p : PolicyTables) → is_policy_kind k ≡ true
    → option_map (replaced_by q) (at (policies k p) n) ≡ at (policies k (with_policies k (with_edit n (replaced_by q) (policies_of k p)) p)) n
replaced_at k n q p is =
    sym (ap (λ rows. at rows n) (new_rows k (with_edit n (replaced_by q) (policies_of k p)) p is) ∙ at-edit_at (policies k p) n n (replaced_by q)
    ∙ by (at (policies k p) n))
  where
    by : (o : Option Policy) → option_map (λ r. cond (n == n) (replaced_by q r) r) o ≡ option_map (replaced_by q) o
    by None = refl
    by (Some r) = ap (λ b. Some (cond b (replaced_by q r) r)) (eq-eqb n n refl)

at-removed : (xs : List (ℕ × Policy)) (n : ℕ) → at (without xs n) n ≡ None
at-removed [] n = refl
at-removed (x ∷ xs) n = by (x.0 == n) refl (at-removed xs n)
  where
    by : (c : Bool) → (x.0 == n) ≡ c → at (without xs n) n ≡ None → at (cond (not c) (x ∷ without xs n) (without xs n)) n ≡ None
    by true e h = h
    by false e h = ap (λ c. cond c (Some x.1) (at (without xs n) n)) e ∙ h

pub removed_at : (k : Kind) (n : ℕ) (p : PolicyTables) → is_policy_kind k ≡ true → None ≡ at (policies k (with_policies k (with_removed n (policies_of k p)) p)) n
removed_at k n p is = sym (ap (λ rows. at rows n) (new_rows k (with_removed n (policies_of k p)) p is) ∙ at-removed (policies k p) n)

-- ---- one policy is touched

change_is : (k : Kind) (n : ℕ) (b a c d : Option Policy) → b ≡ c → a ≡ d → policy_change_of k n b a ≡ policy_change_of k n c d
change_is k n b a c d e f = λ i. policy_change_of k n (e i) (f i)

alone : (n : ℕ) → is_long n ≡ true → (is_long n && true) ≡ true
alone n e = ap (λ b. b && true) e

-- ---- one table of a state

abbrev change_in : (k : Kind) → ℕ → Option (Record k) → Option (Record k) → Change
change_in k n b a = record { key = (kind_number k + 2) ∷ number_in_key n; before = option_map (record_value k) b; after = option_map (record_value k) a }

changed_at : (format : Format) (k : Kind) (s t : State) (n : ℕ) (b a : Option (Record k)) → 1 ≤ kind_number k → at (table k s).rows n ≡ b → at (table k t).rows n ≡ a
    → change_at format s t (key_in (Records k) n 0) ≡ change_in k n b a
changed_at format k s t n b a h before after = change_at-record format k s t n h ∙ ap₂ (change_in k n) before after

-- it stays
stays : (format : Format) (k : Kind) (s t : State) (q : Table (Record k)) → 1 ≤ kind_number k → table k s ≡ q → table k t ≡ q → Covers format (kind_number k + 2) (kind_number k + 3) s t []
stays format k s t q h es et = Covers-same_records format k s t h (λ m. ap (λ (u : Table (Record k)). at u.rows m) (es ∙ sym et))

-- one of its records changes
moves : (format : Format) (k : Kind) (s t : State) (q new : Table (Record k)) (n : ℕ) → 1 ≤ kind_number k → is_long n ≡ true → table k s ≡ q → table k t ≡ new → ((m : ℕ) → m ≢ n → at q.rows m ≡ at new.rows m)
    → Covers format (kind_number k + 2) (kind_number k + 3) s t (change_in k n (at q.rows n) (at new.rows n) ∷ [])
moves format k s t q new n h long es et same =
    let at_number = λ (u : Table (Record k)) (m : ℕ). at u.rows m in
    subst (λ c. Covers format (kind_number k + 2) (kind_number k + 3) s t (c ∷ [])) (changed_at format k s t n _ _ h (ap (λ u. at_number u n) es) (ap (λ u. at_number u n) et))
    (Covers-records format k s t (n ∷ []) h (tt, tt) (alone n long) (λ m misses. ap (λ u. at_number u m) es ∙ same m (λ e. misses (inl (sym e))) ∙ sym (ap (λ u. at_number u m) et)))

map_pointwise : {A B : Type 0} (f g : A → B) (xs : List A) → ((x : A) → f x ≡ g x) → map f xs ≡ map g xs
map_pointwise f g [] h = refl
map_pointwise f g (x ∷ xs) h = λ i. h x i ∷ map_pointwise f g xs h i

-- each of its records changes
moves_each : (format : Format) (k : Kind) (s t : State) (f : Record k → Record k) (q : Table (Record k)) → 1 ≤ kind_number k → table k s ≡ q → table k t ≡ with_each f q → Between 1 q.next q.rows → q.next ≤ last_next
    → Covers format (kind_number k + 2) (kind_number k + 3) s t (map (λ n. change_in k n (at q.rows n) (option_map f (at q.rows n))) (numbers q.rows))
moves_each format k s t f q h es et b last =
    subst (λ cs. Covers format (kind_number k + 2) (kind_number k + 3) s t cs)
    (ap (λ (u : Table (Record k)). record_changes format k s t (numbers u.rows)) es
    ∙ map_pointwise _ _ (numbers q.rows) (λ n. changed_at format k s t n _ _ h (ap (λ (u : Table (Record k)). at u.rows n) es) (ap (λ (u : Table (Record k)). at u.rows n) et ∙ at-map_each f q.rows n)))
    (Covers-with_each format k s t f q.next h (subst (λ (u : Table (Record k)). Between 1 q.next u.rows) (sym es) b) last (et ∙ ap (with_each f) (sym es)))

-- ---- the tables of policies

services : {p q : PolicyTables} → p ≡ q → p.service_policies ≡ q.service_policies
services e = ap (λ (t : PolicyTables). t.service_policies) e

edges : {p q : PolicyTables} → p ≡ q → p.edge_router_policies ≡ q.edge_router_policies
edges e = ap (λ (t : PolicyTables). t.edge_router_policies) e

lasts : {p q : PolicyTables} → p ≡ q → p.service_edge_router_policies ≡ q.service_edge_router_policies
lasts e = ap (λ (t : PolicyTables). t.service_edge_router_policies) e

pub covers_with : (format : Format) (k : Kind) (s t : State) (p : PolicyTables) (n : ℕ) (new : Table Policy) → is_policy_kind k ≡ true → is_long n ≡ true → tables_of s ≡ p → tables_of t ≡ with_policies k new p
    → ((m : ℕ) → m ≢ n → at (policies k p) m ≡ at new.rows m)
    → Covers format 7 10 s t (policy_change_of k n (at (policies k p) n) (at (policies k (with_policies k new p)) n) ∷ [])
covers_with format kind.ServicePolicy s t p n new is long es et same =
    Covers-append format 7 8 10 s t (policy_change_of kind.ServicePolicy n (at p.service_policies.rows n) (at new.rows n) ∷ []) [] (omega arith) (omega arith)
    (moves format kind.ServicePolicy s t p.service_policies new n (omega arith) long (services es) (services et) same)
    (Covers-append format 8 9 10 s t [] [] (omega arith) (omega arith) (stays format kind.EdgeRouterPolicy s t p.edge_router_policies (omega arith) (edges es) (edges et))
    (stays format kind.ServiceEdgeRouterPolicy s t p.service_edge_router_policies (omega arith) (lasts es) (lasts et)))
covers_with format kind.EdgeRouterPolicy s t p n new is long es et same =
    let change = policy_change_of kind.EdgeRouterPolicy n (at p.edge_router_policies.rows n) (at new.rows n) in
    Covers-append format 7 8 10 s t [] (change ∷ []) (omega arith) (omega arith) (stays format kind.ServicePolicy s t p.service_policies (omega arith) (services es) (services et))
    (Covers-append format 8 9 10 s t (change ∷ []) [] (omega arith) (omega arith) (moves format kind.EdgeRouterPolicy s t p.edge_router_policies new n (omega arith) long (edges es) (edges et) same)
    (stays format kind.ServiceEdgeRouterPolicy s t p.service_edge_router_policies (omega arith) (lasts es) (lasts et)))
covers_with format kind.ServiceEdgeRouterPolicy s t p n new is long es et same =
    let change = policy_change_of kind.ServiceEdgeRouterPolicy n (at p.service_edge_router_policies.rows n) (at new.rows n) in
    Covers-append format 7 8 10 s t [] (change ∷ []) (omega arith) (omega arith) (stays format kind.ServicePolicy s t p.service_policies (omega arith) (services es) (services et))
    (Covers-append format 8 9 10 s t [] (change ∷ []) (omega arith) (omega arith) (stays format kind.EdgeRouterPolicy s t p.edge_router_policies (omega arith) (edges es) (edges et))
    (moves format kind.ServiceEdgeRouterPolicy s t p.service_edge_router_policies new n (omega arith) long (lasts es) (lasts et) same))
covers_with format _ s t p n new is long es et same = absurd (false≢true is)

pub covers_change : (format : Format) (c : PolicyChange) (p : PolicyTables) (s t : State) → CanChangePolicies c p → AreValid p → tables_of s ≡ p → tables_of t ≡ after_policy_change c p
    → Covers format 7 10 s t (policy_change_of (touched_kind c) (touched_number c p) (at (policies (touched_kind c) p) (touched_number c p)) (at (policies (touched_kind c) (after_policy_change c p)) (touched_number c p)) ∷ [])
covers_change format (change.Add k q) p s t can v es et =
    covers_with format k s t p (next_of k p) (with_new q (policies_of k p)) can (next_long k p can v) es et (λ m other. sym (at-with_last-other (policies k p) (next_of k p) m q other))
covers_change format (change.Replace k n q) p s t can v es et =
    covers_with format k s t p n (with_edit n (replaced_by q) (policies_of k p)) can.0 (named_long k p n q.name can.0 v can.1) es et (λ m other. sym (at-edit_at-other (policies k p) n m (replaced_by q) other))
covers_change format (change.Remove k n) p s t can v es et =
    covers_with format k s t p n (with_removed n (policies_of k p)) can.0 (present_long k p n can.0 v can.1) es et (λ m other. sym (at-without-other (policies k p) n m other))

-- ---- an `@` name goes

pub forgotten_is : (k : Kind) (hand : Hand) (name : List ℕ) (rows : List (ℕ × Policy)) (n : ℕ) (b a : Option Policy) → b ≡ at rows n → a ≡ option_map (forget_on hand name) (at rows n)
    → policy_change_of k n b a ≡ forgotten_at k hand name rows n
forgotten_is k hand name rows n b a e f = change_is k n b a _ _ e f

-- the policies of a kind, each of which loses the name
each_service : (format : Format) (s t : State) (hand : Hand) (name : List ℕ) (p : PolicyTables) → AreValid p → s.service_policies ≡ p.service_policies → t.service_policies ≡ with_each (forget_on hand name) p.service_policies
    → Covers format 7 8 s t (forgotten_rows kind.ServicePolicy hand name p)
each_service format s t hand name p v es et = moves_each format kind.ServicePolicy s t (forget_on hand name) p.service_policies (omega arith) es et (ordered kind.ServicePolicy p refl v) (last_number kind.ServicePolicy p refl v)

each_edge : (format : Format) (s t : State) (hand : Hand) (name : List ℕ) (p : PolicyTables) → AreValid p → s.edge_router_policies ≡ p.edge_router_policies → t.edge_router_policies ≡ with_each (forget_on hand name) p.edge_router_policies
    → Covers format 8 9 s t (forgotten_rows kind.EdgeRouterPolicy hand name p)
each_edge format s t hand name p v es et = moves_each format kind.EdgeRouterPolicy s t (forget_on hand name) p.edge_router_policies (omega arith) es et (ordered kind.EdgeRouterPolicy p refl v) (last_number kind.EdgeRouterPolicy p refl v)

each_last : (format : Format) (s t : State) (hand : Hand) (name : List ℕ) (p : PolicyTables) → AreValid p → s.service_edge_router_policies ≡ p.service_edge_router_policies
    → t.service_edge_router_policies ≡ with_each (forget_on hand name) p.service_edge_router_policies → Covers format 9 10 s t (forgotten_rows kind.ServiceEdgeRouterPolicy hand name p)
each_last format s t hand name p v es et =
    moves_each format kind.ServiceEdgeRouterPolicy s t (forget_on hand name) p.service_edge_router_policies (omega arith) es et (ordered kind.ServiceEdgeRouterPolicy p refl v) (last_number kind.ServiceEdgeRouterPolicy p refl v)

covers_identity : (format : Format) (name : List ℕ) (p : PolicyTables) (s t : State) → AreValid p → tables_of s ≡ p → tables_of t ≡ forgetting kind.Identity name p
    → Covers format 7 10 s t (([] ++ forgotten_rows kind.ServicePolicy Left name p) ++ forgotten_rows kind.EdgeRouterPolicy Left name p)
covers_identity format name p s t v es et =
    let third = stays format kind.ServiceEdgeRouterPolicy s t p.service_edge_router_policies (omega arith) (lasts es) (lasts et) in
    subst (λ cs. Covers format 7 10 s t cs) (append-nil (forgotten_rows kind.ServicePolicy Left name p ++ forgotten_rows kind.EdgeRouterPolicy Left name p))
    (Covers-append format 7 9 10 s t (forgotten_rows kind.ServicePolicy Left name p ++ forgotten_rows kind.EdgeRouterPolicy Left name p) [] (omega arith) (omega arith)
    (Covers-append format 7 8 9 s t (forgotten_rows kind.ServicePolicy Left name p) (forgotten_rows kind.EdgeRouterPolicy Left name p) (omega arith) (omega arith)
    (each_service format s t Left name p v (services es) (services et)) (each_edge format s t Left name p v (edges es) (edges et))) third)

covers_service : (format : Format) (name : List ℕ) (p : PolicyTables) (s t : State) → AreValid p → tables_of s ≡ p → tables_of t ≡ forgetting kind.Service name p
    → Covers format 7 10 s t (([] ++ forgotten_rows kind.ServicePolicy Right name p) ++ forgotten_rows kind.ServiceEdgeRouterPolicy Left name p)
covers_service format name p s t v es et =
    Covers-append format 7 8 10 s t (forgotten_rows kind.ServicePolicy Right name p) (forgotten_rows kind.ServiceEdgeRouterPolicy Left name p) (omega arith) (omega arith)
    (each_service format s t Right name p v (services es) (services et))
    (Covers-append format 8 9 10 s t [] (forgotten_rows kind.ServiceEdgeRouterPolicy Left name p) (omega arith) (omega arith)
    (stays format kind.EdgeRouterPolicy s t p.edge_router_policies (omega arith) (edges es) (edges et)) (each_last format s t Left name p v (lasts es) (lasts et)))

covers_router : (format : Format) (name : List ℕ) (p : PolicyTables) (s t : State) → AreValid p → tables_of s ≡ p → tables_of t ≡ forgetting kind.Router name p
    → Covers format 7 10 s t (([] ++ forgotten_rows kind.EdgeRouterPolicy Right name p) ++ forgotten_rows kind.ServiceEdgeRouterPolicy Right name p)
covers_router format name p s t v es et =
    Covers-append format 7 8 10 s t [] (forgotten_rows kind.EdgeRouterPolicy Right name p ++ forgotten_rows kind.ServiceEdgeRouterPolicy Right name p) (omega arith) (omega arith)
    (stays format kind.ServicePolicy s t p.service_policies (omega arith) (services es) (services et))
    (Covers-append format 8 9 10 s t (forgotten_rows kind.EdgeRouterPolicy Right name p) (forgotten_rows kind.ServiceEdgeRouterPolicy Right name p) (omega arith) (omega arith)
    (each_edge format s t Right name p v (edges es) (edges et)) (each_last format s t Right name p v (lasts es) (lasts et)))

-- a policy that loses a name still fits, where the policies after it are those of a valid state
fits_forgetting : (k : Kind) (hand : Hand) (name : List ℕ) (p after : PolicyTables) → is_policy_kind k ≡ true → AreValid after → policies k after ≡ map_each (forget_on hand name) (policies k p)
    → (n : ℕ) (r : Policy) → at (policies k p) n ≡ Some r → fits_row k (forget_on hand name r) ≡ true
fits_forgetting k hand name p after is v e n r stands =
    (valid_row k after n (forget_on hand name r) is v (ap (λ rows. at rows n) e ∙ at-map_each (forget_on hand name) (policies k p) n ∙ ap (option_map (forget_on hand name)) stands)).1

-- the two kinds that may name an entity: each is one of policies, and its policies still fit
pub naming_policies : (k : Kind) → is_entity_kind k ≡ true → (is_policy_kind (naming k).0.0 ≡ true) × (is_policy_kind (naming k).1.0 ≡ true)
naming_policies kind.Identity is = (refl, refl)
naming_policies kind.Service is = (refl, refl)
naming_policies kind.Router is = (refl, refl)
naming_policies _ is = absurd (false≢true is)

-- the policies of a kind still fit where a name goes on a hand
abbrev pub StillFit : PolicyTables → List ℕ → Kind × Hand → Type 0
StillFit p name on = (n : ℕ) (r : Policy) → at (policies on.0 p) n ≡ Some r → fits_row on.0 (forget_on on.1 name r) ≡ true

pub naming_fit : (k : Kind) (name : List ℕ) (p : PolicyTables) → is_entity_kind k ≡ true → AreValid (forgetting k name p)
    → StillFit p name (naming k).0 × StillFit p name (naming k).1
naming_fit kind.Identity name p is v =
    (fits_forgetting kind.ServicePolicy Left name p (forgetting kind.Identity name p) refl v refl, fits_forgetting kind.EdgeRouterPolicy Left name p (forgetting kind.Identity name p) refl v refl)
naming_fit kind.Service name p is v =
    (fits_forgetting kind.ServicePolicy Right name p (forgetting kind.Service name p) refl v refl, fits_forgetting kind.ServiceEdgeRouterPolicy Left name p (forgetting kind.Service name p) refl v refl)
naming_fit kind.Router name p is v =
    (fits_forgetting kind.EdgeRouterPolicy Right name p (forgetting kind.Router name p) refl v refl, fits_forgetting kind.ServiceEdgeRouterPolicy Right name p (forgetting kind.Router name p) refl v refl)
naming_fit _ name p is v = absurd (false≢true is)

-- the changes where a name goes on a hand, and then on another of another kind
abbrev pub forgotten_pair : PolicyTables → List ℕ → (Kind × Hand) × (Kind × Hand) → List Change
forgotten_pair p name on = ([] ++ forgotten_rows on.0.0 on.0.1 name p) ++ forgotten_rows on.1.0 on.1.1 name p

pub covers_forgotten : (format : Format) (k : Kind) (name : List ℕ) (p : PolicyTables) (s t : State) → is_entity_kind k ≡ true → AreValid p → tables_of s ≡ p
    → tables_of t ≡ forgetting k name p → Covers format 7 10 s t (forgotten_pair p name (naming k))
covers_forgotten format kind.Identity name p s t is = covers_identity format name p s t
covers_forgotten format kind.Service name p s t is = covers_service format name p s t
covers_forgotten format kind.Router name p s t is = covers_router format name p s t
covers_forgotten format _ name p s t is = absurd (false≢true is)

pub if_some : {A : Type 0} (P : A → Type 0) (o : Option A) → ((x : A) → o ≡ Some x → P x) → IfSome o P
if_some P None h = tt
if_some P (Some x) h = h x refl

pub if_some-map : {A : Type 0} (P : A → Type 0) (f : A → A) (o : Option A) → ((x : A) → o ≡ Some x → P (f x)) → IfSome (option_map f o) P
if_some-map P f None h = tt
if_some-map P f (Some x) h = h x refl

-- ---- what a change touches

touched_is : (c : PolicyChange) (p : PolicyTables) → CanChangePolicies c p → is_policy_kind (touched_kind c) ≡ true
touched_is (change.Add k q) p can = can
touched_is (change.Replace k n q) p can = can.0
touched_is (change.Remove k n) p can = can.0

pub touched_policy : (c : PolicyChange) (p : PolicyTables) → CanChangePolicies c p → (k : Kind) → k ≡ touched_kind c → is_policy_kind k ≡ true
touched_policy c p can k e = ap is_policy_kind e ∙ touched_is c p can

pub touched_long : (c : PolicyChange) (p : PolicyTables) → CanChangePolicies c p → AreValid p → (n : ℕ) → n ≡ touched_number c p → is_long n ≡ true
touched_long c p can v n e = ap is_long e ∙ by c can
  where
    by : (d : PolicyChange) → CanChangePolicies d p → is_long (touched_number d p) ≡ true
    by (change.Add k q) h = next_long k p h v
    by (change.Replace k m q) h = named_long k p m q.name h.0 v h.1
    by (change.Remove k m) h = present_long k p m h.0 v h.1
