-- A valid state stays valid with a higher next number of a kind, up to the last.
use Rattle.std.proofs.Common.{◌≡◌, ℕ, ◌≤◌, true, refl, ◌∙◌, ap, arith}
use Rattle.ctrl_model.specs.declared.kinds.Kind.{Kind}
use Rattle.ctrl_model.specs.declared.kinds.Kind.TheVariants as kind
use Rattle.ctrl_model.specs.Limits.{last_next}
use Rattle.ctrl_model.specs.Numbered.{Table}
use Rattle.ctrl_model.specs.State.{State}
use Rattle.ctrl_model.specs.Tables.{Record, table}
use Rattle.ctrl_model.specs.ValueForms.{is_link_cost}
use Rattle.ctrl_model.specs.ValidState.{ValidState, ValidTable, is_valid}
use Rattle.ctrl_model.proofs.NumberedLaws.{Between-more}
use Rattle.ctrl_model.proofs.TableLaws.{valid-none, valid-more, each_passes-more}
use Rattle.model_laws.proofs.KindLaws.{with_table-holds, with_table-setting, with_table-intercepts, with_table-serial}
use Rattle.model_laws.proofs.ValidLaws.{AreClaimed, AreClaimed-from_valid, attributes_fewer, claims_more, keeps_services, with_table-uses}
use Rattle.state_building.specs.JoinedRecords.{skipped}
use Rattle.state_building.proofs.GrownStates.{Grown, Keeps, valid_still}
use Rattle.state_building.proofs.StandingRecords.{AllStay, all_still, IsStanding-repaired, repaired-standing}

-- the table of a kind with another next number
abbrev pub renumbered : (k : Kind) → ℕ → State → Table (Record k)
renumbered k n s = record (table k s) { next = n }

pub Grown-skipped : (k : Kind) (n : ℕ) (s : State) → Grown s (skipped k n s)
Grown-skipped k n s =
    with_table-holds (λ j t. Keeps (table j s).rows t.rows) s k (renumbered k n s) (λ m r e. e) (λ m r e. e) (λ j m r e. e)

pub skipped-valid : (k : Kind) (n : ℕ) (s : State) → ValidState s → (table k s).next ≤ n → n ≤ last_next → ValidState (skipped k n s)
skipped-valid k n s v above last = record {
  kinds = with_table-holds (λ j t. ValidTable j (skipped k n s) t) s k (renumbered k n s) (valid-none kind.Attribute (skipped k n s)) changed
      (λ j. valid-more (v.kinds j) (skipped k n s) (more j));
  setting = ap is_link_cost (with_table-setting k (renumbered k n s) s) ∙ v.setting;
  attributes = attributes_fewer s (skipped k n s) (with_table-uses s k (renumbered k n s) (λ x m. m)) v.attributes;
  repaired = repaired-standing (skipped k n s) (with_table-holds (λ j t. AllStay j (skipped k n s) t.rows) s k (renumbered k n s) refl (still k) still);
  ordered = claims.ordered;
  intercepts = claims.intercepts;
  counted = claims.counted;
}
  where
    claims : AreClaimed (skipped k n s)
    claims = claims_more s (skipped k n s) (with_table-intercepts k (renumbered k n s) s) (with_table-serial k (renumbered k n s) s)
        (keeps_services s k (renumbered k n s) (λ is. record { next = above; present = λ m e. e })) (AreClaimed-from_valid s v)

    more : (j : Kind) (q : Record j) → is_valid j s q ≡ true → is_valid j (skipped k n s) q ≡ true
    more = valid_still s (skipped k n s) (Grown-skipped k n s) v.kinds

    still : (j : Kind) → AllStay j (skipped k n s) (table j s).rows
    still j = all_still s (skipped k n s) (Grown-skipped k n s) j (table j s).rows (IsStanding-repaired s v.repaired j)

    changed : ValidTable k (skipped k n s) (renumbered k n s)
    changed = let t = v.kinds k in record {
      numbers = record {
        first = omega (arith, above, t.numbers.first);
        last = last;
        ordered = Between-more (table k s).next (table k s).rows 1 1 n (omega arith) above t.numbers.ordered;
        few = t.numbers.few;
      };
      names = t.names;
      each = each_passes-more (is_valid k s) (is_valid k (skipped k n s)) (more k) (table k s).rows t.each;
    }
