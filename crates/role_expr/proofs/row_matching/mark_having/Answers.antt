use Rattle.std.proofs.Common.{◌≡◌, ℕ, ◌==◌, Bool, true, false, not, ◌&&◌, List, [], ◌∷◌, length, replicate, is_some, get_or, refl, sym, ◌∙◌, ap, arith, ne_eqb, rules}
use Rattle.std.proofs.lemmas.Bool.{false≢true}
use Rattle.std.proofs.lemmas.List.{get_or-replicate}
use Rattle.std.specs.List.{list_all}
use Rattle.ctrl_model.specs.Matches.{has_name, is_nothing}
use Rattle.attr_pool.specs.Slots.{slot_of}
use Rattle.role_expr.proofs.RowLaws.{any_marked, every_marked, none_marked}
use Rattle.role_expr.proofs.row_matching.mark_having.Goals as goal
use Rattle.role_expr.proofs.row_matching.mark_having.Goals.{else-not-is_empty-via-then-not-is_empty+else-holds_every, else-not-is_empty-via-else-not-is_empty}

emptiness : (wanted : List (List ℕ)) (empty : Bool) → empty ≡ (length wanted == 0) → empty ≡ is_nothing wanted
emptiness [] empty e = e
emptiness (w ∷ ws) empty e = e ∙ ne_eqb (length (w ∷ ws)) 0 (λ z. absurd (omega (arith, z)))

pub returns-in-AnyOf : goal.returns-in-AnyOf
returns-in-AnyOf c = λ lists rows place within.
    rw c.in-AnyOf.is (any_marked c.args.pool.now lists c.args.rows.now rows (length c.args.out.now) place c.requires (omega arith) c.args.wanted.now c.row_of.result c.row_of.ensures (get_or c.match_rows.new.out place false) (c.match_rows.ensures place within))

pub returns-then-holds_every : goal.returns-then-holds_every
returns-then-holds_every c = λ lists rows place within.
    let some = emptiness c.args.wanted.now c.is_empty.result (rw c.as_slice.ensures at c.is_empty.ensures) in
    let held = rw c.as_slice-then-not-is_empty.ensures at (sym c.holds_every.ensures) in
    rw c.in-AllOf.is
    (every_marked c.args.pool.now lists c.args.rows.now rows (length c.args.out.now) place c.requires (omega arith) c.args.wanted.now c.row_of-then-holds_every.result c.row_of-then-holds_every.ensures (get_or c.match_rows-then-holds_every.new.out place false)
    (held ∙ c.if-holds_every.true) (c.match_rows-then-holds_every.ensures place within)
    ∙ ap (λ b. not b && list_all (has_name (get_or lists place [])) c.args.wanted.now) (sym c.if-not-is_empty.true ∙ some))

not_had : (nothing every : Bool) → (nothing ≡ false → every ≡ false) → (not nothing && every) ≡ false
not_had true every f = refl
not_had false every f = f refl

pub returns-else-not-is_empty : goal.returns-else-not-is_empty
returns-else-not-is_empty c = λ lists rows place within.
    let filled : c.fill.new.self ≡ replicate (length c.args.out.now) false = search rules in
    let some = emptiness c.args.wanted.now c.is_empty.result (rw c.as_slice.ensures at c.is_empty.ensures) in
    let cleared : get_or c.fill.new.self place false ≡ false = ap (λ (out : List Bool). get_or out place false) filled ∙ get_or-replicate (length c.args.out.now) place false false (omega arith) in
    let lacks : is_nothing c.args.wanted.now ≡ false → list_all (λ name. is_some (slot_of name c.args.pool.now)) c.args.wanted.now ≡ false = elim c.else-not-is_empty.branch [
      | else-not-is_empty-via-then-not-is_empty+else-holds_every w ↦ λ _. (rw w.as_slice-then-not-is_empty.ensures at (sym w.holds_every.ensures)) ∙ w.if-holds_every.false
      | else-not-is_empty-via-else-not-is_empty w ↦ λ nothing. absurd (false≢true (sym nothing ∙ sym some ∙ w.if-not-is_empty.false))
    ] in
    cleared ∙ sym (rw c.in-AllOf.is (not_had (is_nothing c.args.wanted.now) (list_all (has_name (get_or lists place [])) c.args.wanted.now) (λ there. none_marked c.args.pool.now lists c.args.rows.now rows (length c.args.out.now) place c.requires (omega arith) c.args.wanted.now (lacks there))))
