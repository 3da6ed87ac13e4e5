use Rattle.ctrl_model.specs.Tables.{table, record_name}
use Rattle.ctrl_model.proofs.TableLaws.{named-finds}
use Rattle.model_laws.proofs.state_laws.one_record_a_name.Goals as goal

pub returns : goal.returns
returns c s k n r v has stands =
    named-finds (record_name k) (table k s).rows n r ((v.kinds k).names has) stands (table k s).next 1 (v.kinds k).numbers.ordered
