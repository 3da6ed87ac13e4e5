-- What a field that is required says, by what its value says of the kind.
use Rattle.std.proofs.Common.{◌≡◌, Option, Some, None, Ok, Err, ap}
use Rattle.serde_json.specs.Data.{Data}
use Rattle.ctrl_model.specs.declared.refusals.Field.{Field}
use Rattle.json_body.specs.declared.fields.FieldFault.{FieldFault}
use Rattle.json_body.specs.FieldKinds.{member_of, of_kind, required_from, required}

from_found : {A : Type 0} (kind : Data → Option A) (field : Field) (v : Option Data) (d : Data) → Ok d ≡ required_from field Some v → required_from field kind v ≡ of_kind field kind d
from_found kind field None d h = absurd (cc)
from_found kind field (Some e) d h = let same : e ≡ d = cc in ap (of_kind field kind) same

-- A value that is there says what it says of the kind.
pub required-found : {A : Type 0} (kind : Data → Option A) (field : Field) (o d : Data) → Ok d ≡ required Some field o → required kind field o ≡ of_kind field kind d
required-found kind field o d h = from_found kind field (member_of field o) d h

from_absent : {A : Type 0} (kind : Data → Option A) (field : Field) (v : Option Data) (e : FieldFault) → Err e ≡ required_from field Some v → required_from field kind v ≡ Err e
from_absent kind field None e h = cc
from_absent kind field (Some d) e h = absurd (cc)

-- A fault that comes for every kind is the fault of this one.
pub required-absent : {A : Type 0} (kind : Data → Option A) (field : Field) (o : Data) (e : FieldFault) → Err e ≡ required Some field o → required kind field o ≡ Err e
required-absent kind field o e h = from_absent kind field (member_of field o) e h
