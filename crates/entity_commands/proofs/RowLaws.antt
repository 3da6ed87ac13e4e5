-- Laws of the row of the entity that a change touches: what stands at its number afterwards, and that nothing else changes.
use Rattle.std.proofs.Common.{◌≡◌, ℕ, ◌+◌, ◌≤◌, ◌==◌, true, false, cond, List, [], ◌∷◌, Option, None, Some, IfSome, inl, refl, sym, ◌∙◌, ap, ap₂, subst, lit≤, eq-eqb}
use Rattle.std.proofs.lemmas.Bool.{and_from, cond-true, false≢true}
use Rattle.std.specs.Option.{option_map}
use Rattle.ctrl_model.specs.declared.formats.Format.{Format}
use Rattle.ctrl_model.specs.declared.formats.Format.TheVariants.{Two}
use Rattle.ctrl_model.specs.declared.kinds.Kind.{Kind}
use Rattle.ctrl_model.specs.declared.kinds.Kind.TheVariants as kind
use Rattle.ctrl_model.specs.Numbered.{at, with_last, edit_at, without, with_new, with_edit, with_removed, Between, Table}
use Rattle.ctrl_model.specs.State.{State, Router, as_entity, start}
use Rattle.ctrl_model.specs.Tables.{Record, table, with_table, is_entity_kind}
use Rattle.ctrl_model.proofs.NumberedLaws.{at-edit_at, at-without, at-with_last-other, at-edit_at-other, at-without-other}
use Rattle.entity_store.specs.declared.changes.EntityChange.{EntityChange}
use Rattle.entity_store.specs.declared.changes.EntityChange.TheVariants as change
use Rattle.entity_store.specs.EntityChanges.{after_entity_change}
use Rattle.entity_store.specs.EntityTables.{Tables, new_router}
use Rattle.entity_store.specs.HeldUses.{with_entities}
use Rattle.entity_store.specs.TableRules.{KeepsNumbers}
use Rattle.entity_store.proofs.TimesLaws.{Between-from_map}
use Rattle.model_laws.proofs.KindLaws.{with_table-holds}
use Rattle.record_tables.proofs.TurnLaws.{at-new}
use Rattle.row_codec.specs.CoveredTables.{Covers, change_at}
use Rattle.row_codec.specs.RowKeys.{kind_number, key_in, is_long}
use Rattle.row_codec.specs.RowKeys.RowTable.{Records}
use Rattle.row_codec.specs.RowValues.{record_value}
use Rattle.row_laws.specs.FittingRecords.{fits}
use Rattle.row_laws.proofs.Covers.{Covers-append, Covers-same_records}
use Rattle.row_laws.proofs.SpelledChanges.{row_at-record}
use Rattle.row_laws.proofs.TouchedKeys.{Covers-records}
use Rattle.row_writing.specs.RecordChanges.{change_of, value_at}
use Rattle.entity_commands.specs.EntityChanges.{CanChangeEntities}
use Rattle.entity_commands.specs.EntityRows.{AreFit, Has, plain_after, router_after, row_change, touched_kind, touched_number}

pub if_some : {X : Type 0} (P : X → Type 0) (o : Option X) → ((x : X) → o ≡ Some x → P x) → IfSome o P
if_some P None h = tt
if_some P (Some x) h = h x refl

-- ---- at the number that a change touches

module _ {R : Type 0} (rows : List (ℕ × R)) (n : ℕ) where
  at_added : (r : R) → Between 1 n rows → at (with_last rows n r) n ≡ Some r
  at_added r b = at-new rows n n r b ∙ cond-true (n == n) (Some r) (at rows n) (eq-eqb n n refl)

  at_edited : (f : R → R) → at (edit_at rows n f) n ≡ option_map f (at rows n)
  at_edited f = at-edit_at rows n n f ∙ ap (λ d. option_map (λ r. cond d (f r) r) (at rows n)) (eq-eqb n n refl)

  at_removed : (high : ℕ) → Between 1 high rows → at (without rows n) n ≡ None
  at_removed high b = at-without high rows 1 n n b ∙ cond-true (n == n) None (at rows n) (eq-eqb n n refl)

twice : {X : Type 0} (f g : X → X) (o : Option X) → option_map f (option_map g o) ≡ option_map (λ x. f (g x)) o
twice f g None = refl
twice f g (Some x) = refl

-- A table is turned into another at one number: this stands there afterwards, and elsewhere nothing changes.
record IsTurned {R : Type 0} (before after : Table R) (n : ℕ) (now : Option R) : Type 0 where
  pub stands : Between 1 before.next before.rows → now ≡ at after.rows n
  pub stays : (m : ℕ) → (n ≡ m → ⊥) → at before.rows m ≡ at after.rows m

module _ {R : Type 0} (t : Table R) where
  turned_new : (r : R) → IsTurned t (with_new r t) t.next (Some r)
  turned_new r = record { stands = λ b. sym (at_added t.rows t.next r b); stays = λ m misses. sym (at-with_last-other t.rows t.next m r (λ same. misses (sym same))) }

  turned_gone : (n : ℕ) → IsTurned t (with_removed n t) n None
  turned_gone n = record { stands = λ b. sym (at_removed t.rows n t.next b); stays = λ m misses. sym (at-without-other t.rows n m (λ same. misses (sym same))) }

  turned_not : (n : ℕ) → IsTurned t t n (at t.rows n)
  turned_not n = record { stands = λ b. refl; stays = λ m misses. refl }

-- a table that is edited behind that
turned_on : {R : Type 0} (before after : Table R) (n : ℕ) (now : Option R) (f : R → R) → IsTurned before after n now
    → IsTurned before (with_edit n f after) n (option_map f now)
turned_on before after n now f is = record {
  stands = λ b. ap (option_map f) (is.stands b) ∙ sym (at_edited after.rows n f);
  stays = λ m misses. is.stays m misses ∙ sym (at-edit_at-other after.rows n m f (λ same. misses (sym same)));
}

turned_edit : {R : Type 0} (t : Table R) (n : ℕ) (f : R → R) → IsTurned t (with_edit n f t) n (option_map f (at t.rows n))
turned_edit t n f = turned_on t t n (at t.rows n) f (turned_not t n)

-- ---- the kind that a change touches

-- The tables of a kind.
abbrev pub kind_table : (k : Kind) → Tables → Table (Record k)
kind_table k t = table k (with_entities t start)

-- The entity of a kind that a change touches as it will be, by what it is.
abbrev pub kind_after : (k : Kind) → EntityChange → Option (Record k) → Option (Record k)
kind_after kind.Identity c o = plain_after c o
kind_after kind.Service c o = plain_after c o
kind_after kind.Router c o = router_after c o
kind_after k c o = o

-- The table of that kind is turned at the number that the change touches.
turned : (c : EntityChange) (t : Tables) → CanChangeEntities c t → IsTurned (kind_table (touched_kind c) t) (kind_table (touched_kind c) (after_entity_change c t))
    (touched_number c t) (kind_after (touched_kind c) c (at (kind_table (touched_kind c) t).rows (touched_number c t)))
turned (change.Add kind.Identity name attributes) t can = turned_new t.identities (record { name = name; attributes = attributes })
turned (change.Add kind.Service name attributes) t can = turned_new t.services (record { name = name; attributes = attributes })
turned (change.Add _ name attributes) t can = absurd (false≢true can.0)
turned (change.AddRouter name attributes cost through) t can =
    turned_on t.routers (with_new (new_router name attributes) t.routers) t.routers.next (Some (new_router name attributes)) (λ r. record r { cost = cost; through = through; connected = false })
    (turned_new t.routers (new_router name attributes))
turned (change.Describe kind.Identity n attributes) t can = turned_edit t.identities n (λ e. record e { attributes = attributes })
turned (change.Describe kind.Service n attributes) t can = turned_edit t.services n (λ e. record e { attributes = attributes })
turned (change.Describe _ n attributes) t can = absurd (false≢true can.0)
turned (change.DescribeRouter n attributes cost through connected) t can =
    let f : Router → Router = λ r. record r { cost = cost; through = through; connected = connected } in
    let g : Router → Router = λ r. record r { attributes = attributes } in
    let described = with_edit n g t.routers in
    subst (λ (o : Option Router). IsTurned t.routers (with_edit n f described) n o) (twice f g (at t.routers.rows n))
    (turned_on t.routers described n (option_map g (at t.routers.rows n)) f (turned_edit t.routers n g))
turned (change.Mark n cost through connected) t can = turned_edit t.routers n (λ r. record r { cost = cost; through = through; connected = connected })
turned (change.Remove kind.Identity n name) t can = turned_gone t.identities n
turned (change.Remove kind.Service n name) t can = turned_gone t.services n
turned (change.Remove kind.Router n name) t can = turned_gone t.routers n
turned (change.Remove _ n name) t can = absurd (false≢true can.0)

-- The other tables stay.
alone : (c : EntityChange) (t : Tables) → CanChangeEntities c t
    → with_entities (after_entity_change c t) start ≡ with_table (touched_kind c) (kind_table (touched_kind c) (after_entity_change c t)) (with_entities t start)
alone (change.Add kind.Identity name attributes) t can = refl
alone (change.Add kind.Service name attributes) t can = refl
alone (change.Add _ name attributes) t can = absurd (false≢true can.0)
alone (change.AddRouter name attributes cost through) t can = refl
alone (change.Describe kind.Identity n attributes) t can = refl
alone (change.Describe kind.Service n attributes) t can = refl
alone (change.Describe _ n attributes) t can = absurd (false≢true can.0)
alone (change.DescribeRouter n attributes cost through connected) t can = refl
alone (change.Mark n cost through connected) t can = refl
alone (change.Remove kind.Identity n name) t can = refl
alone (change.Remove kind.Service n name) t can = refl
alone (change.Remove kind.Router n name) t can = refl
alone (change.Remove _ n name) t can = absurd (false≢true can.0)

-- ---- the change there, and that what stands there fits its row

ordered : (k : Kind) (t : Tables) → is_entity_kind k ≡ true → KeepsNumbers k t → Between 1 (kind_table k t).next (kind_table k t).rows
ordered kind.Identity t entity keeps = keeps.ordered
ordered kind.Service t entity keeps = keeps.ordered
ordered kind.Router t entity keeps = Between-from_map (λ (row : ℕ × Router). as_entity row.1) t.routers.next t.routers.rows 1 keeps.ordered
ordered _ t entity keeps = absurd (false≢true entity)

kind_fits : (k : Kind) (t : Tables) → is_entity_kind k ≡ true → AreFit t → (n : ℕ) (r : Record k) → at (kind_table k t).rows n ≡ Some r → fits k r ≡ true
kind_fits kind.Identity t entity fit = fit.identities
kind_fits kind.Service t entity fit = fit.services
kind_fits kind.Router t entity fit = fit.routers
kind_fits _ t entity fit = absurd (false≢true entity)

numbered : (k : Kind) → is_entity_kind k ≡ true → 1 ≤ kind_number k
numbered kind.Identity entity = lit≤ tt
numbered kind.Service entity = lit≤ tt
numbered kind.Router entity = lit≤ tt
numbered _ entity = absurd (false≢true entity)

module _ (c : EntityChange) (t : Tables) (can : CanChangeEntities c t) (k : Kind) (n : ℕ) (touched : touched_kind c ≡ k) (there : n ≡ touched_number c t)
    (entity : is_entity_kind k ≡ true) (keeps : KeepsNumbers k t) where
  stands : kind_after k c (at (kind_table k t).rows n) ≡ at (kind_table k (after_entity_change c t)).rows n
  stands =
      subst (λ (j : Kind). Between 1 (kind_table j t).next (kind_table j t).rows → kind_after j c (at (kind_table j t).rows n) ≡ at (kind_table j (after_entity_change c t)).rows n) touched
      (λ b. subst (λ m. kind_after (touched_kind c) c (at (kind_table (touched_kind c) t).rows m) ≡ at (kind_table (touched_kind c) (after_entity_change c t)).rows m) (sym there)
      ((turned c t can).stands b)) (ordered k t entity keeps)

  pub change_there : change_of k n (value_at k (kind_table k t).rows n) (option_map (record_value k) (kind_after k c (at (kind_table k t).rows n)))
      ≡ row_change (touched_kind c) (touched_number c t) t (after_entity_change c t)
  change_there =
      let before = row_at-record Two k (with_entities t start) n (numbered k entity) in
      let after = row_at-record Two k (with_entities (after_entity_change c t) start) n (numbered k entity) in
      ap (λ o. change_of k n (value_at k (kind_table k t).rows n) (option_map (record_value k) o)) stands
      ∙ sym (ap₂ (change_of k n) before after)
      ∙ ap₂ (λ (j : Kind) m. row_change j m t (after_entity_change c t)) (sym touched) there

  pub fits_there : AreFit (after_entity_change c t) → IfSome (kind_after k c (at (kind_table k t).rows n)) (λ r. fits k r ≡ true)
  fits_there fit =
      subst (λ o. IfSome o (λ r. fits k r ≡ true)) (sym stands) (if_some (λ r. fits k r ≡ true) _ (kind_fits k (after_entity_change c t) entity fit n))

-- ---- elsewhere nothing changes

stays : (c : EntityChange) (t : Tables) → CanChangeEntities c t → (k : Kind) (m : ℕ) → (touched_kind c ≡ k → touched_number c t ≡ m → ⊥)
    → at (kind_table k t).rows m ≡ at (kind_table k (after_entity_change c t)).rows m
stays c t can k m misses =
    subst (λ (w : State). at (kind_table k t).rows m ≡ at (table k w).rows m) (sym (alone c t can))
    (with_table-holds (λ j v. (touched_kind c ≡ j → touched_number c t ≡ m → ⊥) → at (kind_table j t).rows m ≡ at v.rows m) (with_entities t start)
    (touched_kind c) (kind_table (touched_kind c) (after_entity_change c t)) (λ other. refl) (λ other. (turned c t can).stays m (other refl)) (λ j other. refl) k misses)

-- ---- covers

module _ (f : Format) (k : Kind) (s u t v : State) (has_number : 1 ≤ kind_number k) (before : table k s ≡ table k t) (after : table k u ≡ table k v) where
  from_tables : (m : ℕ) → at (table k t).rows m ≡ at (table k v).rows m → at (table k s).rows m ≡ at (table k u).rows m
  from_tables m e = ap (λ (x : Table (Record k)). at x.rows m) before ∙ e ∙ sym (ap (λ (x : Table (Record k)). at x.rows m) after)

  no_row : ((m : ℕ) → at (table k t).rows m ≡ at (table k v).rows m) → Covers f (kind_number k + 2) (kind_number k + 3) s u []
  no_row same = Covers-same_records f k s u has_number (λ m. from_tables m (same m))

  -- the value of a record is the same in states with the same table
  same_value : (a b : State) → table k a ≡ table k b → (n : ℕ) → option_map (record_value k) (at (table k a).rows n) ≡ option_map (record_value k) (at (table k b).rows n)
  same_value a b e n = ap (λ (x : Table (Record k)). option_map (record_value k) (at x.rows n)) e

  same_change : (n : ℕ) → change_at f s u (key_in (Records k) n 0) ≡ change_at Two t v (key_in (Records k) n 0)
  same_change n =
      let key = key_in (Records k) n 0 in
      let first = row_at-record f k s n has_number ∙ same_value s t before n ∙ sym (row_at-record Two k t n has_number) in
      let second = row_at-record f k u n has_number ∙ same_value u v after n ∙ sym (row_at-record Two k v n has_number) in
      λ i. record (change_at f s u key) { before = first i; after = second i }

  one_row : (n : ℕ) → is_long n ≡ true → ((m : ℕ) → (n ≡ m → ⊥) → at (table k t).rows m ≡ at (table k v).rows m)
      → Covers f (kind_number k + 2) (kind_number k + 3) s u (change_at Two t v (key_in (Records k) n 0) ∷ [])
  one_row n long same =
      subst (λ x. Covers f (kind_number k + 2) (kind_number k + 3) s u (x ∷ [])) (same_change n)
      (Covers-records f k s u (n ∷ []) has_number (tt, tt) (and_from (is_long n) true long refl) (λ m misses. from_tables m (same m (λ e. misses (inl e)))))

module _ (f : Format) (s u : State) (t : Tables) where
  -- equal entities need no change
  pub same_covers : Has t s → Has t u → Covers f 3 6 s u []
  same_covers h j =
      let v : State = with_entities t start in
      Covers-append f 3 4 6 s u [] [] (lit≤ tt) (lit≤ tt) (no_row f kind.Identity s u v v (lit≤ tt) h.identities j.identities (λ m. refl))
      (Covers-append f 4 5 6 s u [] [] (lit≤ tt) (lit≤ tt) (no_row f kind.Service s u v v (lit≤ tt) h.services j.services (λ m. refl))
      (no_row f kind.Router s u v v (lit≤ tt) h.routers j.routers (λ m. refl)))

  module _ (c : EntityChange) (can : CanChangeEntities c t) (h : Has t s) (j : Has (after_entity_change c t) u) (long : is_long (touched_number c t) ≡ true) where
    abbrev n : ℕ
    n = touched_number c t

    abbrev v : State
    v = with_entities t start

    abbrev w : State
    w = with_entities (after_entity_change c t) start

    -- the row that a change touches covers the entities
    by : (k : Kind) → touched_kind c ≡ k → is_entity_kind k ≡ true → Covers f 3 6 s u (row_change k (touched_number c t) t (after_entity_change c t) ∷ [])
    by kind.Identity e is =
        Covers-append f 3 4 6 s u (row_change kind.Identity (touched_number c t) t (after_entity_change c t) ∷ []) [] (lit≤ tt) (lit≤ tt)
        (one_row f kind.Identity s u v w (lit≤ tt) h.identities j.identities n long (λ m misses. stays c t can kind.Identity m (λ x. misses)))
        (Covers-append f 4 5 6 s u [] [] (lit≤ tt) (lit≤ tt)
        (no_row f kind.Service s u v w (lit≤ tt) h.services j.services (λ m. stays c t can kind.Service m (λ x y. let clash : kind.Service ≡ kind.Identity = sym x ∙ e in cc)))
        (no_row f kind.Router s u v w (lit≤ tt) h.routers j.routers (λ m. stays c t can kind.Router m (λ x y. let clash : kind.Router ≡ kind.Identity = sym x ∙ e in cc))))
    by kind.Service e is =
        Covers-append f 3 4 6 s u [] (row_change kind.Service (touched_number c t) t (after_entity_change c t) ∷ []) (lit≤ tt) (lit≤ tt)
        (no_row f kind.Identity s u v w (lit≤ tt) h.identities j.identities (λ m. stays c t can kind.Identity m (λ x y. let clash : kind.Identity ≡ kind.Service = sym x ∙ e in cc)))
        (Covers-append f 4 5 6 s u (row_change kind.Service (touched_number c t) t (after_entity_change c t) ∷ []) [] (lit≤ tt) (lit≤ tt)
        (one_row f kind.Service s u v w (lit≤ tt) h.services j.services n long (λ m misses. stays c t can kind.Service m (λ x. misses)))
        (no_row f kind.Router s u v w (lit≤ tt) h.routers j.routers (λ m. stays c t can kind.Router m (λ x y. let clash : kind.Router ≡ kind.Service = sym x ∙ e in cc))))
    by kind.Router e is =
        Covers-append f 3 4 6 s u [] (row_change kind.Router (touched_number c t) t (after_entity_change c t) ∷ []) (lit≤ tt) (lit≤ tt)
        (no_row f kind.Identity s u v w (lit≤ tt) h.identities j.identities (λ m. stays c t can kind.Identity m (λ x y. let clash : kind.Identity ≡ kind.Router = sym x ∙ e in cc)))
        (Covers-append f 4 5 6 s u [] (row_change kind.Router (touched_number c t) t (after_entity_change c t) ∷ []) (lit≤ tt) (lit≤ tt)
        (no_row f kind.Service s u v w (lit≤ tt) h.services j.services (λ m. stays c t can kind.Service m (λ x y. let clash : kind.Service ≡ kind.Router = sym x ∙ e in cc)))
        (one_row f kind.Router s u v w (lit≤ tt) h.routers j.routers n long (λ m misses. stays c t can kind.Router m (λ x. misses))))
    by _ e is = absurd (false≢true is)

    pub touched_covers : is_entity_kind (touched_kind c) ≡ true → Covers f 3 6 s u (row_change (touched_kind c) (touched_number c t) t (after_entity_change c t) ∷ [])
    touched_covers is = by (touched_kind c) refl is
