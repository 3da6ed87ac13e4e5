use Rattle.ctrl_model.specs.State.{start}
use Rattle.state_building.proofs.BuiltRows.{start-valid, start-below, built-valid, built-below, with_nexts-valid}
use Rattle.row_codec.specs.RowKeys.{kinds}
use Rattle.state_building.proofs.laws.flawless_rows_build_valid_states.Goals as goal

pub returns-clause-built : goal.returns-clause-built
returns-clause-built c nexts rows last f = built-valid nexts last rows start start-valid f

pub returns-clause-below : goal.returns-clause-below
returns-clause-below c nexts rows k one f = built-below nexts rows start (start-below nexts) f k one

pub returns-clause-nexts : goal.returns-clause-nexts
returns-clause-nexts c nexts s v above last = with_nexts-valid nexts last kinds s v above
