-- Which keys an object has, by the list of them.
use Rattle.std.proofs.Common.{◌≡◌, true, ◌&&◌, List, [], ◌∷◌, map, Some, None, refl, ap}
use Rattle.std.specs.Prelude.{String, string_bytes}
use Rattle.std.specs.List.{list_all}
use Rattle.std.specs.declared.alloc.Global.{Global}
use Rattle.serde_json.specs.Data.{Data, null, boolean, number, string, array, object, Members}
use Rattle.serde_json.specs.Find.{as_object}
use Rattle.serde_json.specs.View.{members_view}
use Rattle.serde_json.specs.declared.value.Value.{Value}
use Rattle.ctrl_model.specs.declared.refusals.Field.{Field}
use Rattle.json_body.specs.FieldKinds.{is_word_of, are_words_of, has_only}

-- The keys are words of the fields where each of their list is one.
pub are_words_of-members_view : (fields : List Field) (ms : List (String Global × Value))
    → list_all (λ k. is_word_of fields (string_bytes k)) (map (λ m. m.0) ms) ≡ are_words_of fields (members_view ms)
are_words_of-members_view fields [] = refl
are_words_of-members_view fields (m ∷ ms) = ap (λ b. is_word_of fields (string_bytes m.0) && b) (are_words_of-members_view fields ms)

-- The same of the value that the object is.
pub has_only-object : (fields : List Field) (d : Data) (ms : Members) → Some ms ≡ as_object d → are_words_of fields ms ≡ has_only fields d
has_only-object fields null ms h = absurd (cc)
has_only-object fields (boolean b) ms h = absurd (cc)
has_only-object fields (number n) ms h = absurd (cc)
has_only-object fields (string s) ms h = absurd (cc)
has_only-object fields (array ds) ms h = absurd (cc)
has_only-object fields (object ns) ms h = let same : ms ≡ ns = cc in ap (are_words_of fields) same

-- A value that is no object has no other keys.
pub has_only-other : (fields : List Field) (d : Data) → None ≡ as_object d → true ≡ has_only fields d
has_only-other fields null h = refl
has_only-other fields (boolean b) h = refl
has_only-other fields (number n) h = refl
has_only-other fields (string s) h = refl
has_only-other fields (array ds) h = refl
has_only-other fields (object ms) h = absurd (cc)
