-- Which value a body is.
use Rattle.std.proofs.Common.{◌≡◌, ℕ, Bool, true, false, cond, List, None, Some, refl}
use Rattle.std.specs.Str.{IsUtf8, is_utf8}
use Rattle.std.proofs.lemmas.Str.{IsUtf8-from_is_utf8, is_utf8-from_IsUtf8}
use Rattle.serde_json.specs.Data.{Data}
use Rattle.serde_json.specs.Read.{read}
use Rattle.body_fields.specs.BodyValues.{value_of_body}

pub value_of_body-some : (body : List ℕ) (d : Data) → IsUtf8 body → read body ≡ Some d → value_of_body body ≡ Some d
value_of_body-some body d text e = rw (is_utf8-from_IsUtf8 body text) e

-- Bytes that are no JSON text have no value.
pub value_of_body-none : (body : List ℕ) → (IsUtf8 body → read body ≡ None) → value_of_body body ≡ None
value_of_body-none body h = by (is_utf8 body) refl
  where
    by : (b : Bool) → is_utf8 body ≡ b → cond b (read body) None ≡ None
    by true e = h (IsUtf8-from_is_utf8 body e)
    by false e = refl
