use Rattle.row_laws.proofs.TouchedKeys.{Covers-setting}
use Rattle.row_laws.proofs.touched_keys.the_setting_is_covered.Goals as goal

pub returns : goal.returns
returns c = Covers-setting
