-- The changes of counts cover the tables of counts of all states that have these counts, before the steps and after them.
use Rattle.std.proofs.Common.{◌≡◌, ◌≢◌, ℕ, ◌+◌, ◌-◌, List, [], ◌∷◌, ◌++◌, Option, ◌⊎◌, inl, inr, refl, sym, ◌∙◌, ap, subst, arith, append_assoc}
use Rattle.std.proofs.lemmas.Bool.{cases_eq}
use Rattle.ctrl_model.specs.declared.formats.Format.{Format}
use Rattle.ctrl_model.specs.declared.kinds.Relation.{Relation}
use Rattle.ctrl_model.specs.declared.kinds.Relation.TheVariants.{Dial, Bind, IdentityRouter, ServiceRouter}
use Rattle.ctrl_model.specs.Membership.{Among}
use Rattle.ctrl_model.specs.State.{State}
use Rattle.ctrl_model.specs.Grants.{count}
use Rattle.grant_denorm.specs.declared.deltas.Delta.{Delta}
use Rattle.grant_denorm.specs.PairCounts.{count_of}
use Rattle.grant_denorm.specs.Deltas.{ups, downs}
use Rattle.grant_denorm.specs.MovedCounts.{AreCountsOf, Moves}
use Rattle.row_codec.specs.declared.changes.Change.{Change}
use Rattle.row_codec.specs.RowKeys.{key_in, table_number}
use Rattle.row_codec.specs.RowKeys.RowTable.{Counts}
use Rattle.row_codec.specs.StateRows.{count_value}
use Rattle.row_codec.specs.CoveredTables.{Covers, change_at}
use Rattle.row_laws.specs.ChangedKeys.{count_changes}
use Rattle.row_laws.proofs.Covers.{Covers-append}
use Rattle.row_laws.proofs.SpelledChanges.{row_at-count}
use Rattle.row_laws.proofs.TouchedKeys.{Covers-counts}
use Rattle.grant_rows.specs.declared.moves.GrantMoves.{GrantMoves}
use Rattle.grant_rows.specs.CountChanges.{change_from, count_after, changes_at, counts_of, steps_of, AreCountChanges, AddsCountChanges, AreGrantChanges}

made : (key : List ℕ) (a b c d : Option (List ℕ)) → a ≡ c → b ≡ d → ◌≡◌ {A = Change} (record { key = key; before = a; after = b }) (record { key = key; before = c; after = d })
made key a b c d g h = λ i. record { key = key; before = g i; after = h i }

after_is : (c k d u n : ℕ) → c ≡ k → n + d ≡ k + u → c + u - d ≡ n
after_is c k d u n e g = omega arith

stays : (k d u n : ℕ) → n + d ≡ k + u → u ≡ d → k ≡ n
stays k d u n e g = omega arith

module _ (f : Format) (r : Relation) (counts : List ((ℕ × ℕ) × ℕ)) (ds : List Delta) (s t : State) (are : AreCountsOf (count r s) counts) (moves : Moves (count r s) (count r t) ds) where
  change_is : (p : ℕ × ℕ) → change_from f r p (count_of counts p.0 p.1) (count_after counts ds p) ≡ change_at f s t (key_in (Counts r) p.0 p.1)
  change_is p =
      made _ _ _ _ _ (ap (count_value f) (are p.0 p.1) ∙ sym (row_at-count f r s p.0 p.1))
      (ap (count_value f) (after_is (count_of counts p.0 p.1) (count r s p.0 p.1) (downs ds p.0 p.1) (ups ds p.0 p.1) (count r t p.0 p.1) (are p.0 p.1) (moves p.0 p.1))
      ∙ sym (row_at-count f r t p.0 p.1))

  changes_are : (pairs : List (ℕ × ℕ)) → changes_at f r counts ds pairs ≡ count_changes f r s t pairs
  changes_are [] = refl
  changes_are (p ∷ ps) = λ i. change_is p i ∷ changes_are ps i

  pub covered : (changes : List Change) → AreCountChanges f r counts ds changes → Covers f (table_number (Counts r)) (table_number (Counts r) + 1) s t changes
  covered changes a =
      subst (Covers f (table_number (Counts r)) (table_number (Counts r) + 1) s t) (sym (a.named ∙ changes_are a.pairs))
      (Covers-counts f r s t a.pairs a.rises a.fits
      (λ p misses. by p misses (cases_eq (ups ds p.0 p.1) (downs ds p.0 p.1))))
    where
      by : (p : ℕ × ℕ) → (Among p a.pairs → ⊥) → (ups ds p.0 p.1 ≡ downs ds p.0 p.1) ⊎ (ups ds p.0 p.1 ≢ downs ds p.0 p.1) → count r s p.0 p.1 ≡ count r t p.0 p.1
      by p misses (inl e) = stays (count r s p.0 p.1) (downs ds p.0 p.1) (ups ds p.0 p.1) (count r t p.0 p.1) (moves p.0 p.1) e
      by p misses (inr ne) = absurd (misses (a.every p ne))

-- ---- the four relations

pub joined_changes : (f : Format) (m : GrantMoves) (a b c d e : List Change) → a ≡ [] → AddsCountChanges f Dial (counts_of Dial m) (steps_of Dial m) a b → AddsCountChanges f Bind (counts_of Bind m) (steps_of Bind m) b c
    → AddsCountChanges f IdentityRouter (counts_of IdentityRouter m) (steps_of IdentityRouter m) c d → AddsCountChanges f ServiceRouter (counts_of ServiceRouter m) (steps_of ServiceRouter m) d e
    → AreGrantChanges f m e
joined_changes f m a b c d e none w x y z = record {
  dial = w.added;
  bind = x.added;
  identity_router = y.added;
  service_router = z.added;
  joined = z.joined ∙ ap (λ cs. cs ++ z.added) (y.joined ∙ ap (λ cs. cs ++ y.added) (x.joined ∙ ap (λ cs. cs ++ x.added) (w.joined ∙ ap (λ cs. cs ++ w.added) none)))
      ∙ append_assoc (w.added ++ x.added) y.added z.added ∙ append_assoc w.added x.added (y.added ++ z.added);
  of_dial = w.exact;
  of_bind = x.exact;
  of_identity_router = y.exact;
  of_service_router = z.exact;
}

pub all_covered : (f : Format) (m : GrantMoves) (changes : List Change) → AreGrantChanges f m changes → (s t : State) → ((r : Relation) → AreCountsOf (count r s) (counts_of r m))
    → ((r : Relation) → Moves (count r s) (count r t) (steps_of r m)) → Covers f 12 16 s t changes
all_covered f m changes g s t are moves =
    subst (Covers f 12 16 s t) (sym g.joined)
    (Covers-append f 12 13 16 s t g.dial (g.bind ++ (g.identity_router ++ g.service_router)) (omega arith) (omega arith) (one Dial g.dial g.of_dial)
    (Covers-append f 13 14 16 s t g.bind (g.identity_router ++ g.service_router) (omega arith) (omega arith) (one Bind g.bind g.of_bind)
    (Covers-append f 14 15 16 s t g.identity_router g.service_router (omega arith) (omega arith) (one IdentityRouter g.identity_router g.of_identity_router)
    (one ServiceRouter g.service_router g.of_service_router))))
  where
    one : (r : Relation) (cs : List Change) → AreCountChanges f r (counts_of r m) (steps_of r m) cs → Covers f (table_number (Counts r)) (table_number (Counts r) + 1) s t cs
    one r cs a = covered f r (counts_of r m) (steps_of r m) s t (are r) (moves r) cs a

pub first_changes : (f : Format) (r : Relation) (counts : List ((ℕ × ℕ) × ℕ)) (ds : List Delta) (old new : List Change) → old ≡ [] → AddsCountChanges f r counts ds old new → AreCountChanges f r counts ds new
first_changes f r counts ds old new none a = subst (AreCountChanges f r counts ds) (sym (a.joined ∙ ap (λ cs. cs ++ a.added) none)) a.exact
