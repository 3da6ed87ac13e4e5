-- What touched numbers cover of circuits that are changed, gone or moved.
use Rattle.std.proofs.Common.{◌≡◌, ℕ, true, ◌⊎◌, inl, inr, List, Option, Some, sym, ◌∙◌, ap, lit≤}
use Rattle.std.specs.List.{list_all}
use Rattle.ctrl_model.specs.declared.formats.Format.{Format}
use Rattle.ctrl_model.specs.declared.kinds.Kind.TheVariants as kind
use Rattle.ctrl_model.specs.Membership.{Among}
use Rattle.ctrl_model.specs.Numbered.{Table, at}
use Rattle.ctrl_model.specs.State.{State, Circuit}
use Rattle.record_tables.specs.AfterChange.{changed_by, touched_numbers}
use Rattle.record_tables.specs.Climbing.{Climbs}
use Rattle.record_tables.specs.Turns.{turned_number}
use Rattle.record_tables.proofs.GoneLaws.{touched_are, touched_climb}
use Rattle.record_tables.proofs.TurnLaws.{elsewhere, untouched-turned}
use Rattle.row_codec.specs.CoveredTables.{Covers}
use Rattle.row_codec.specs.RowKeys.{is_long}
use Rattle.row_laws.specs.ChangedKeys.{record_changes}
use Rattle.row_laws.proofs.TouchedKeys.{Covers-records}
use Rattle.circuits.specs.declared.changes.CircuitChange.{CircuitChange}
use Rattle.circuits.specs.declared.moves.Move.{Move}
use Rattle.circuits.specs.ChangedCircuits.{turn_of}
use Rattle.circuits.specs.CircuitChanges.{after_circuit_change, circuits_after}
use Rattle.circuits.specs.CircuitTables.{CircuitTables}
use Rattle.circuits.specs.MovedCircuits.{moved_numbers, with_moves}
use Rattle.circuits.proofs.ChangeLaws.{circuits_turned}
use Rattle.circuits.proofs.MoveLaws.{at-unmoved}

module _ (o : Option CircuitChange) (gone touched : List ℕ) (ms : List Move) (k : CircuitTables) (changed : Option ℕ)
    (is : changed ≡ turned_number (turn_of o) k.circuits.next)
    (goes : (n : ℕ) → Among n gone → Among n touched) (moves : (n : ℕ) → Among n (moved_numbers ms) → Among n touched) where
  -- elsewhere each circuit stands as it stood
  at-elsewhere : (n : ℕ) → (Among n (touched_numbers changed touched) → ⊥) → at k.circuits.rows n ≡ at (with_moves ms (circuits_after o gone k)).circuits.rows n
  at-elsewhere n misses =
      elsewhere changed gone k.circuits (changed_by after_circuit_change o k).circuits
      (λ m other. untouched-turned (λ c. c) (turn_of o) k.circuits m (λ e. other (is ∙ e)) ∙ ap (λ (t : Table Circuit). at t.rows m) (circuits_turned o k))
      n (λ a. misses ((touched_are n changed touched).1 (among ((touched_are n changed gone).0 a))))
      ∙ sym (at-unmoved ms (circuits_after o gone k).circuits n (λ a. misses ((touched_are n changed touched).1 (inr (moves n a)))))
    where
      among : (changed ≡ Some n) ⊎ Among n gone → (changed ≡ Some n) ⊎ Among n touched
      among (inl e) = inl e
      among (inr a) = inr (goes n a)

  pub Covers-moved : (f : Format) (s t : State) → Climbs (λ n. n) touched → list_all is_long (touched_numbers changed touched) ≡ true
      → s.circuits ≡ k.circuits → t.circuits ≡ (with_moves ms (circuits_after o gone k)).circuits
      → Covers f 11 12 s t (record_changes f kind.Circuit s t (touched_numbers changed touched))
  Covers-moved f s t climbs fits before after =
      Covers-records f kind.Circuit s t (touched_numbers changed touched) (lit≤ tt) (touched_climb changed touched climbs) fits (λ n misses.
      ap (λ (u : Table Circuit). at u.rows n) before ∙ at-elsewhere n misses ∙ sym (ap (λ (u : Table Circuit). at u.rows n) after))
