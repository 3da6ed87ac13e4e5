-- By what values of tables are told apart.
use Rattle.std.specs.Prelude.{ℕ, List, refl}
use Rattle.std.specs.Coded.{Coded, code_by, coded×, coded_ℕ, coded_list}
use Rattle.ctrl_model.specs.Numbered.{Table}

-- A table is stored as the pair of its fields.
abbrev pub table_code : {R : Type 0} → Coded R → Coded (Table R)
table_code {R} code =
    code_by (List (ℕ × R) × ℕ) (coded× (coded_list (coded× coded_ℕ code)) coded_ℕ) (λ t. (t.rows, t.next)) (λ p. record { rows = p.0; next = p.1 }) (λ _. refl)
