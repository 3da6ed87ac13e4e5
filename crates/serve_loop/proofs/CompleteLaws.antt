-- What a run over an input comes to where no call failed.
use Rattle.std.specs.Prelude.{true, false}
use Rattle.std.proofs.Common.{◌≡◌, ℕ, inl, inr, List, length, take, refl, subst}
use Rattle.std.proofs.Math.Dec.{ltb}
use Rattle.std.specs.declared.option.Option.{Option}
use Rattle.std.specs.Io.KnownBytes.{IsAtEnd}
use Rattle.ziti_outside.specs.Told.{Took}
use Rattle.ziti_outside.specs.Views.{Seen}
use Rattle.run_notes.specs.declared.status.Status.{Status}
use Rattle.run_notes.specs.declared.status.Status.TheVariants.{Done, Usage, BadInput, Truncated, ReadFault, WriteFault, DiskFault, Damaged, NoMemory, InputTooLong, FolderFull}
use Rattle.run_notes.specs.Endings.{is_cut, is_kept}
use Rattle.run_notes.specs.Inputs.{is_bad_input, has_rest}
use Rattle.serve_loop.specs.Answerers.{Answerer}
use Rattle.serve_loop.specs.AnsweredFrames.{replies}
use Rattle.serve_loop.specs.SaidReplies.{SaysAll}
use Rattle.serve_loop.specs.ServedInputs.{Serves, Taking, IsComplete}
use Rattle.serve_loop.proofs.EndingLaws.{done_is, at_end, all_replies}
use Rattle.serve_loop.proofs.PieceLaws.{good_undecided}

-- ---- a run that serves its input

-- Where all events were answered all replies were said.
all_said : {M : Type 0} {status : Status} {taking : Taking} {answerer : Answerer M} {m : M} {a b : Option (List ℕ)} {c d : Seen} (s : Serves taking answerer m a b c d status)
    → is_kept status ≡ true → SaysAll taking.form answerer m s.said s.answered → Took c.said d.said (replies taking.form answerer m (take taking.most s.taken))
all_said {taking = taking} {answerer = answerer} {m = m} {c = c} {d = d} s kept says =
    subst (λ (l : List ℕ). Took c.said d.said l) (all_replies taking.form answerer m (take taking.most s.taken) s.said s.answered s.unanswered s.split (s.all kept) says) s.took

-- So it is complete where it was not cut short either.
complete : {M : Type 0} {status : Status} {taking : Taking} {answerer : Answerer M} {m : M} {a b : Option (List ℕ)} {c d : Seen} (s : Serves taking answerer m a b c d status)
    → is_cut status ≡ false → is_kept status ≡ true → SaysAll taking.form answerer m s.said s.answered → IsComplete taking answerer m a b c d status
complete s on kept says = inr (record { taken = s.taken; gave = s.gave; ends = s.ends on; said = all_said s kept says; read_on = s.read_on on })

-- Where no call failed it is complete, unless memory was wanting.
pub serves_completely : {M : Type 0} (status : Status) {taking : Taking} {answerer : Answerer M} {m : M} {a b : Option (List ℕ)} {c d : Seen}
    → Serves taking answerer m a b c d status → (status ≡ ReadFault → ⊥) → (status ≡ WriteFault → ⊥) → (status ≡ DiskFault → ⊥) → IsComplete taking answerer m a b c d status
serves_completely Done s read write disk = complete s refl refl s.says
serves_completely Usage s read write disk = absurd s.says
serves_completely BadInput s read write disk = complete s refl refl s.says
serves_completely Truncated s read write disk = complete s refl refl s.says
serves_completely ReadFault s read write disk = absurd (read refl)
serves_completely WriteFault s read write disk = absurd (write refl)
serves_completely DiskFault s read write disk = absurd (disk refl)
serves_completely Damaged s read write disk = absurd s.says
serves_completely NoMemory s read write disk = inl refl
serves_completely InputTooLong s read write disk = complete s refl refl s.says
serves_completely FolderFull s read write disk = absurd s.says

-- What is so of a status is of no other one of which it is never so.
pub ends_otherwise : (IsSo : Status → Type 0) (status : Status) → IsSo status → (other : Status) → (IsSo other → ⊥) → status ≡ other → ⊥
ends_otherwise IsSo status so other never is = never (subst IsSo is so)

-- It does not end with Usage.
pub serves_no_usage : {M : Type 0} {status : Status} {taking : Taking} {answerer : Answerer M} {m : M} {a b : Option (List ℕ)} {c d : Seen} → Serves taking answerer m a b c d status → status ≡ Usage → ⊥
serves_no_usage {M} {status} {taking} {answerer} {m} {a} {b} {c} {d} s is = ends_otherwise (λ (u : Status). Serves taking answerer m a b c d u) status s Usage (λ t. t.says) is

-- Where it is done it read its input to the end.
done_at_end : {M : Type 0} (taking : Taking) (answerer : Answerer M) (m : M) (a b : Option (List ℕ)) (c d : Seen) → Serves taking answerer m a b c d Done → IsAtEnd b
done_at_end taking answerer m a b c d s =
    let first : List ℕ = take taking.most s.taken in
    let is = done_is (is_bad_input taking.form first) (has_rest taking.form first) (ltb taking.most (length s.taken)) (s.ends refl) in
    at_end taking.most b s.taken is.whole (s.read_on refl (good_undecided taking.form first is.good))

pub serves_to_end : {M : Type 0} {status : Status} {taking : Taking} {answerer : Answerer M} {m : M} {a b : Option (List ℕ)} {c d : Seen} → Serves taking answerer m a b c d status → status ≡ Done → IsAtEnd b
serves_to_end {M} {status} {taking} {answerer} {m} {a} {b} {c} {d} s is = done_at_end taking answerer m a b c d (subst (λ (u : Status). Serves taking answerer m a b c d u) is s)
