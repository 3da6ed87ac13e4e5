use Rattle.std.proofs.Common.{◌≡◌, ℕ, refl, subst, sym, arith}
use Rattle.ziti_outside.specs.Images.{Image}
use Rattle.journal_core.specs.Room.{KeepsRoom}
use Rattle.journal_core.specs.WorkedDesks.{two_slots, first_batch}
use Rattle.journal_core.proofs.worked.worked_desks.Goals as goal

-- An image that a stop leaves keeps room, where the one before does.
kept : (most : ℕ) (old new image : Image) → KeepsRoom most old new → image ≡ new → KeepsRoom most old image
kept most old new image room same = subst (λ (i : Image). KeepsRoom most old i) (sym same) room

-- The first batch does not fit into 41 bytes.
passes : KeepsRoom 41 two_slots first_batch → ⊥
passes room = let zero = room.zero in omega (arith, zero)

pub returns-clause-appended : goal.returns-clause-appended
returns-clause-appended c = record {
  reads = λ told. record { zero = omega arith; one = omega arith };
  found = λ image same. record { from = two_slots; was = refl; by = kept 42 two_slots first_batch image (record { zero = omega arith; one = omega arith }) same };
}

pub returns-clause-passes : goal.returns-clause-passes
returns-clause-passes c = λ held. passes (held.reads refl)

pub returns-clause-passes_where_a_stop_keeps_it : goal.returns-clause-passes_where_a_stop_keeps_it
returns-clause-passes_where_a_stop_keeps_it c = λ held. let from = held.found first_batch refl in passes (subst (λ (i : Image). KeepsRoom 41 i first_batch) from.was from.by)

pub returns-clause-passes_in_an_untold_folder : goal.returns-clause-passes_in_an_untold_folder
returns-clause-passes_in_an_untold_folder c = λ held. let from = held.found first_batch refl in passes (subst (λ (i : Image). KeepsRoom 41 i first_batch) from.was from.by)

pub returns-clause-reads_so_untold : goal.returns-clause-reads_so_untold
returns-clause-reads_so_untold c = record {
  reads = λ told. cc;
  found = λ image same. record { from = two_slots; was = refl; by = kept 41 two_slots two_slots image (record { zero = omega arith; one = omega arith }) same };
}

pub returns-clause-had_more_before : goal.returns-clause-had_more_before
returns-clause-had_more_before c = record {
  reads = λ told. record { zero = omega arith; one = omega arith };
  found = λ image same. record { from = first_batch; was = refl; by = kept 9 first_batch first_batch image (record { zero = omega arith; one = omega arith }) same };
}
