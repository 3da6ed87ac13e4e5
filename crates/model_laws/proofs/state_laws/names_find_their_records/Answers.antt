use Rattle.ctrl_model.specs.Tables.{table, record_name}
use Rattle.ctrl_model.proofs.TableLaws.{found-named}
use Rattle.model_laws.proofs.state_laws.names_find_their_records.Goals as goal

pub returns : goal.returns
returns c s k n name v is = found-named (record_name k) (table k s).rows n name (table k s).next 1 (v.kinds k).numbers.ordered is
