use Rattle.std.proofs.Common.{rules, ℕ, ◌+◌, [], ◌∷◌, subst, arith, refl}
use Rattle.ziti_outside.specs.Images.{StandAt}
use Rattle.std.specs.Int.{w32, to_le_bytes}
use Rattle.journal_core.proofs.ReadLaws.{head_closed, damaged_record}
use Rattle.journal_core.proofs.reading.len_behind.Goals as goal

pub returns-then-branch-ne-OPEN-clause-found : goal.returns-then-branch-ne-OPEN-clause-found
returns-then-branch-ne-OPEN-clause-found g c =
    head_closed g.D.Desk.tells c.args.at c.args.end c.in_ok-byte_at.field-0 ((g.D.Desk.seen c.args.desk.now).reads c.args.part) c.if-branch-ne-OPEN.true c.in_ok-byte_at.ensures.byte

pub returns-clause-found : goal.returns-clause-found
returns-clause-found g c = search rules

pub returns-then-end-at-2-clause-fault : goal.returns-then-end-at-2-clause-fault
returns-then-end-at-2-clause-fault g c = (
  refl,
  λ told.
      let bytes = (g.D.Desk.seen c.args.desk.now).reads c.args.part in
      let gate : StandAt c.args.at (1 ∷ []) bytes = subst (λ (x : ℕ). StandAt c.args.at (x ∷ []) bytes) c.if-branch-ne-OPEN.false (c.in_ok-byte_at.ensures.byte told) in
      let number : StandAt (c.args.at + 1) (to_le_bytes w32 c.in_ok-len.len) bytes = subst (λ i. StandAt (c.args.at + 1) (to_le_bytes w32 c.in_ok-len.len) (i c.args.part)) c.in_ok-byte_at.ensures.reads.parts (c.in_ok-len.ensures.number.1 told) in
      let end = c.requires.end told in
      damaged_record c.args.at c.in_ok-len.len bytes c.in_ok-len.ensures.number.0 gate number (omega (arith, end)),
)
