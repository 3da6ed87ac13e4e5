use Rattle.desk_base.proofs.PieceLaws.{takes_bytes}
use Rattle.desk_base.proofs.mem_source.MemSourceSource.take.Goals as goal

pub returns-clause-bytes : goal.returns-clause-bytes
returns-clause-bytes c = rw (c.counted.ensures.answer, ← c.self.view_is, ← c.deref-2.ensures.value) (takes_bytes _ _ _ _ _ (rw c.take_piece-answer.ensures.within c.requires) c.take_piece-answer.ensures.piece)
