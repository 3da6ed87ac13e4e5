use Rattle.std.proofs.Common.{◌≡◌, ℕ, ◌<◌, List, [], ◌∷◌, refl, arith}
use Rattle.std.specs.Fmt.{digits}
use Rattle.std.specs.Str.{is_utf8, chars}
use Rattle.serde_json.proofs.OnLiterals.{serde_json_on_literals}
use Rattle.ziti_outside.specs.declared.desk.Part.{Part}
use Rattle.ziti_outside.specs.declared.desk.Part.TheVariants.{Zero, One, Mark}
use Rattle.row_store.specs.WorkedStores.{three_parts}
use Rattle.run_examples.proofs.worked.worked_uncompacted.Goals as goal

pub returns-clause-asks : goal.returns-clause-asks
unfolding serde_json_on_literals is_utf8 chars digits
returns-clause-asks c = refl

pub returns-clause-asks_wrongly : goal.returns-clause-asks_wrongly
unfolding serde_json_on_literals is_utf8 chars digits
returns-clause-asks_wrongly c = refl

pub returns-clause-creates : goal.returns-clause-creates
unfolding serde_json_on_literals is_utf8 chars digits
returns-clause-creates c = refl

pub returns-clause-one_asks : goal.returns-clause-one_asks
unfolding serde_json_on_literals is_utf8 chars digits
returns-clause-one_asks c = refl

pub returns-clause-compacted : goal.returns-clause-compacted
returns-clause-compacted c = λ same. let e : ◌≡◌ {A = ℕ} 2 1 = same in cc

-- the first slot and the mark may differ
second_same : (first other second mark later : List ℕ) (part : Part) → (part ≡ Mark → ⊥) → (part ≡ Zero → ⊥) → three_parts other second later part ≡ three_parts first second mark part
second_same first other second mark later Zero no_mark no_first = absurd (no_first refl)
second_same first other second mark later One no_mark no_first = refl
second_same first other second mark later Mark no_mark no_first = absurd (no_mark refl)

pub returns-clause-grew : goal.returns-clause-grew
returns-clause-grew c = record {
  slot = λ part no_mark no_first. second_same (1 ∷ []) (1 ∷ 5 ∷ []) (2 ∷ []) (0 ∷ []) (0 ∷ []) part no_mark no_first;
  mark = λ some. refl;
}

pub returns-clause-other_grew : goal.returns-clause-other_grew
returns-clause-other_grew c = λ left. let same : ◌≡◌ {A = List ℕ} (2 ∷ 5 ∷ []) (2 ∷ []) = left.slot One (λ e. cc) (λ e. let first : One ≡ Zero = e in cc) in cc

pub returns-clause-second_stands : goal.returns-clause-second_stands
returns-clause-second_stands c = λ left. let same : ◌≡◌ {A = List ℕ} (1 ∷ 5 ∷ []) (1 ∷ []) = left.slot Zero (λ e. cc) (λ e. let second : Zero ≡ One = e in cc) in cc

pub returns-clause-mark_grew : goal.returns-clause-mark_grew
returns-clause-mark_grew c = λ left.
    let some : 0 < 1 = omega arith in
    let same : ◌≡◌ {A = List ℕ} (0 ∷ 0 ∷ []) (0 ∷ []) = left.mark some in cc

pub returns-clause-created : goal.returns-clause-created
returns-clause-created c = record {
  slot = λ part no_mark no_first. second_same [] (1 ∷ []) (2 ∷ []) [] (0 ∷ []) part no_mark no_first;
  mark = λ some. let none : 0 < 0 = some in absurd (omega (arith, none));
}
