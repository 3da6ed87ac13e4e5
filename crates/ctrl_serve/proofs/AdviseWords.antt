-- The words of which the first is `advise`.
use Rattle.std.proofs.Common.{◌≡◌, ℕ, ◌^◌, ◌&&◌, Bool, true, false, List, [], ◌∷◌, codes, Some, None, refl, ap, if◌then◌else◌}
use Rattle.std.proofs.lemmas.Bool.{and_parts}
use Rattle.std.proofs.lemmas.Slice.Eq.{bytes_eq-Decides}
use Rattle.std.specs.declared.option.Option.{Option}
use Rattle.std.specs.Option.{option_map}
use Rattle.std.specs.Str.{bytes_eq}
use Rattle.session_mux.specs.declared.sessions.Form.TheVariants.{Plain, Trace}
use Rattle.ctrl_model.specs.NameForm.{is_name}
use Rattle.ctrl_serve.specs.declared.command_line.Form as command
use Rattle.ctrl_serve.specs.declared.command_line.Form.TheVariants.{Dry, Replay, Audit, Compact, Load, Advise, Ship, Follow}
use Rattle.ctrl_serve.specs.CommandLine.{form_of, number_below}

-- words that ask for advice: behind the first are two names
pub record AreAdviseWords (words : List (List ℕ)) : Type 0 where
  pub identity : List ℕ
  pub service : List ℕ
  pub are : words ≡ codes "advise" ∷ identity ∷ service ∷ []
  pub is_identity : is_name identity ≡ true
  pub is_service : is_name service ≡ true

one_word : (a b c d f : Bool) → ◌≡◌ {A = Option command.Form} (if a then Some Dry else if b then Some (Replay Plain) else if c then Some Audit else if d then Some Compact else if f then Some Follow else None) (Some Advise) → ⊥
one_word true b c d f e = cc
one_word false true c d f e = cc
one_word false false true d f e = cc
one_word false false false true f e = cc
one_word false false false false true e = cc
one_word false false false false false e = cc

two_words : (a b d : Bool) (o p : Option ℕ)
    → ◌≡◌ {A = Option command.Form} (if a then option_map Load o else if b then option_map Ship p else if d then Some (Replay Trace) else None) (Some Advise) → ⊥
two_words true b d None p e = cc
two_words true b d (Some n) p e = cc
two_words false true d o None e = cc
two_words false true d o (Some n) e = cc
two_words false false true o p e = cc
two_words false false false o p e = cc

three_words : (a : Bool) → ◌≡◌ {A = Option command.Form} (if a then Some Advise else None) (Some Advise) → a ≡ true
three_words true e = refl
three_words false e = absurd (cc)

pub advise_words : (words : List (List ℕ)) → form_of words ≡ Some Advise → AreAdviseWords words
advise_words [] e = absurd (cc)
advise_words (a ∷ []) e = absurd (one_word (bytes_eq a (codes "dry")) (bytes_eq a (codes "replay")) (bytes_eq a (codes "audit")) (bytes_eq a (codes "compact")) (bytes_eq a (codes "follow")) e)
advise_words (a ∷ b ∷ []) e =
    absurd (two_words (bytes_eq a (codes "load")) (bytes_eq a (codes "ship")) (bytes_eq a (codes "replay") && bytes_eq b (codes "--sessions")) (number_below (2 ^ 32) b) (number_below (2 ^ 64) b) e)
advise_words (a ∷ b ∷ c ∷ []) e =
    let passed = and_parts (bytes_eq a (codes "advise")) (is_name b && is_name c) (three_words (bytes_eq a (codes "advise") && (is_name b && is_name c)) e) in
    let names = and_parts (is_name b) (is_name c) passed.1 in
    record { identity = b; service = c; are = ap (λ (w : List ℕ). w ∷ b ∷ c ∷ []) ((bytes_eq-Decides a (codes "advise")).0 passed.0); is_identity = names.0; is_service = names.1 }
advise_words (a ∷ b ∷ c ∷ d ∷ words) e = absurd (cc)
