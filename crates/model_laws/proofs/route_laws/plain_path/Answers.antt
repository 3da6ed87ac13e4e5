use Rattle.model_laws.proofs.PlainPathLaws.{is_path-plain}
use Rattle.model_laws.proofs.route_laws.plain_path.Goals as goal

pub returns : goal.returns
returns c = is_path-plain
