use Rattle.std.proofs.Common.{ap, sym}
use Rattle.row_codec.specs.RowKeys.{kind_number}
use Rattle.row_loading.proofs.nexts.kind_number.Goals as goal

pub returns-in-Service : goal.returns-in-Service
returns-in-Service c = ap kind_number (sym c.in-Service.is)
