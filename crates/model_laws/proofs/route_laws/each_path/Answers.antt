use Rattle.model_laws.proofs.PathLaws.{paths-is_path}
use Rattle.model_laws.proofs.route_laws.each_path.Goals as goal

pub returns : goal.returns
returns c = paths-is_path
