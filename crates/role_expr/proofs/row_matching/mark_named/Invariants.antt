use Rattle.std.proofs.Common.{◌≡◌, ◌<◌, ◌≤◌, ◌||◌, ℕ, [], false, slice_index_or}
use Rattle.ctrl_model.specs.Matches.{has_name}
use Rattle.role_expr.proofs.row_matching.mark_named.Given as goal

abbrev pub invariant-names : goal.invariant-names
invariant-names l = record {
  marked : (k : ℕ) → k < l.place → slice_index_or l.out k false ≡ (has_name l.ids (slice_index_or l.names k []) || slice_index_or l.fn.out k false);
  rest : (k : ℕ) → l.place ≤ k → slice_index_or l.out k false ≡ slice_index_or l.fn.out k false;
}
