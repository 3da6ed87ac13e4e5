-- The row of an intercept that a change touches. Private contracts alone cite it.
use Rattle.std.specs.Prelude.{ℕ, None, Some}
use Rattle.std.specs.declared.option.Option.{Option}
use Rattle.std.specs.Option.{option_map}
use Rattle.ctrl_model.specs.declared.intercepts.Intercept.{Intercept}
use Rattle.row_codec.specs.declared.changes.Change.{Change}
use Rattle.row_codec.specs.RowKeys.{key_bytes, key_in}
use Rattle.row_codec.specs.RowKeys.RowTable.{Intercepts}
use Rattle.row_codec.specs.RowValues.{intercept_value}
use Rattle.intercepts.specs.declared.changes.InterceptChange.{InterceptChange}
use Rattle.intercepts.specs.declared.changes.InterceptChange.TheVariants as change

-- The service whose intercept is changed.
abbrev pub service_of : InterceptChange → ℕ
service_of (change.Set service intercept) = service.0
service_of (change.Remove service) = service.0

-- The intercept that this service has then, if it has one.
abbrev pub claim_of : InterceptChange → Option Intercept
claim_of (change.Set service intercept) = Some intercept
claim_of (change.Remove service) = None

-- The change of the row of a service's intercept, from one to another, if there is one.
abbrev pub claim_change : ℕ → Option Intercept → Option Intercept → Change
claim_change n before after = record {
  key = key_bytes (key_in Intercepts n 0);
  before = option_map intercept_value before;
  after = option_map intercept_value after;
}
