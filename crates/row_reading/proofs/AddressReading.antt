-- Texts that spell addresses, as they are read: where one stands its address does, and where none stands no address does.
use Rattle.std.proofs.Common.{◌≡◌, ℕ, zero, suc, ◌+◌, ◌-◌, ◌||◌, Bool, true, false, cond, List, [], ◌∷◌, Option, Some, None, refl, sym, ◌∙◌, ap, ap₂, subst, arith}
use Rattle.std.proofs.lemmas.Bool.{true≢false}
use Rattle.std.proofs.lemmas.Option.{same_Some}
use Rattle.std.specs.List.{list_any}
use Rattle.std.specs.Str.{bytes_eq}
use Rattle.std.specs.Option.{option_map, option_map_or}
use Rattle.ctrl_model.specs.declared.addresses.Address.{Address}
use Rattle.ctrl_model.specs.AddressForm.{address_of, address_text, is_spelling, same_address}
use Rattle.ctrl_model.proofs.AddressLaws.{spelled_as, same_is, same_itself}
use Rattle.std.proofs.lemmas.Slice.Eq.{bytes_eq-Decides}
use Rattle.row_codec.specs.FieldReading.{front_text}
use Rattle.row_codec.proofs.FieldLaws.{bind_some}
use Rattle.row_reading.specs.RowReading.{front_spelling, front_address, things_in}
use Rattle.row_reading.proofs.FormLaws.{test_passed}

-- the address of the text that stands at the front, and what is read there
pub record IsSpelled (bytes : List ℕ) (x : List ℕ × List ℕ) : Type 0 where
  pub address : Address
  pub named : address_of x.0 ≡ Some address
  pub spelled : address_text address ≡ x.0
  pub read : front_address bytes ≡ Some (address, x.1)

pub spelled_front : (bytes : List ℕ) (x : List ℕ × List ℕ) → front_spelling bytes ≡ Some x → IsSpelled bytes x
spelled_front bytes x e =
    let y = bind_some (front_text bytes) (λ z. cond (is_spelling z.0) (Some z) None) x e in
    let passed = test_passed (is_spelling y.0.0) y.0 x y.2 in
    let own = spelled_as x.0 (subst (λ (z : List ℕ × List ℕ). is_spelling z.0 ≡ true) passed.1 passed.0) in
    record { address = own.0; named = own.1; spelled = own.2; read = rw (e, own.1) refl }

pub no_spelling : (bytes : List ℕ) → front_spelling bytes ≡ None → front_address bytes ≡ None
no_spelling bytes e = rw e refl

-- an address that is read is that of its spelling
own_read : (bytes : List ℕ) (x : Address × List ℕ) → front_address bytes ≡ Some x → address_of (address_text x.0) ≡ Some x.0
own_read bytes x e =
    let t = bind_some (front_spelling bytes) (λ y. option_map (λ a. (a, y.1)) (address_of y.0)) x e in
    let own = spelled_front bytes t.0 t.1 in
    let same : own.address ≡ x.0 = ap (λ (y : Address × List ℕ). y.0) (same_Some (own.address, t.0.1) x (sym own.read ∙ e)) in
    subst (λ (a : Address). address_of (address_text a) ≡ Some a) same (ap address_of own.spelled ∙ own.named)

-- two such addresses are the same where their spellings are
same_by_text : (a b : Address) → address_of (address_text a) ≡ Some a → address_of (address_text b) ≡ Some b → bytes_eq (address_text a) (address_text b) ≡ same_address a b
same_by_text a b p q = by (bytes_eq (address_text a) (address_text b)) (same_address a b) refl refl
  where
    by : (c d : Bool) → bytes_eq (address_text a) (address_text b) ≡ c → same_address a b ≡ d → c ≡ d
    by true true e f = refl
    by false false e f = refl
    by true false e f =
        let same : a ≡ b = same_Some a b (sym p ∙ ap address_of ((bytes_eq-Decides (address_text a) (address_text b)).0 e) ∙ q) in
        absurd (true≢false (sym (same_itself a) ∙ ap (same_address a) same ∙ f))
    by false true e f =
        absurd (true≢false (sym ((bytes_eq-Decides (address_text a) (address_text b)).1 (ap address_text (same_is a b f))) ∙ e))

-- so one of some addresses that are read is a given one where its spelling is one of theirs
pub any_by_text : (a : Address) → address_of (address_text a) ≡ Some a → (n : ℕ) (bytes : List ℕ)
    → list_any (λ b. bytes_eq (address_text a) (address_text b)) (things_in front_address n bytes) ≡ list_any (same_address a) (things_in front_address n bytes)
any_by_text a own zero bytes = refl
any_by_text a own (suc n) bytes = by (front_address bytes) refl (λ after. any_by_text a own n after)
  where
    by : (o : Option (Address × List ℕ)) → front_address bytes ≡ o
        → ((after : List ℕ) → list_any (λ b. bytes_eq (address_text a) (address_text b)) (things_in front_address n after) ≡ list_any (same_address a) (things_in front_address n after))
        → list_any (λ b. bytes_eq (address_text a) (address_text b)) (option_map_or (λ (x : Address × List ℕ). x.0 ∷ things_in front_address n x.1) o [])
        ≡ list_any (same_address a) (option_map_or (λ (x : Address × List ℕ). x.0 ∷ things_in front_address n x.1) o [])
    by None e later = refl
    by (Some x) e later = ap₂ (λ c d. c || d) (same_by_text a x.0 own (own_read bytes x e)) (later x.1)

-- the same of the spelling that stands at the front
pub any_by_front : (bytes : List ℕ) (x : List ℕ × List ℕ) (e : front_spelling bytes ≡ Some x) (n : ℕ) (rest : List ℕ) (b : Bool)
    → b ≡ list_any (λ a. bytes_eq x.0 (address_text a)) (things_in front_address n rest) → b ≡ list_any (same_address (spelled_front bytes x e).address) (things_in front_address n rest)
any_by_front bytes x e n rest b is =
    let own = spelled_front bytes x e in
    is ∙ ap (λ (t : List ℕ). list_any (λ a. bytes_eq t (address_text a)) (things_in front_address n rest)) (sym own.spelled)
    ∙ any_by_text own.address (ap address_of own.spelled ∙ own.named) n rest

pub any_behind : (bytes : List ℕ) (x : List ℕ × List ℕ) (e : front_spelling bytes ≡ Some x) (count i : ℕ) (b : Bool)
    → b ≡ list_any (λ a. bytes_eq x.0 (address_text a)) (things_in front_address (count - i - 1) x.1) → (t : Bool) → b ≡ t
    → list_any (same_address (spelled_front bytes x e).address) (things_in front_address (count - (i + 1)) x.1) ≡ t
any_behind bytes x e count i b is t test =
    let n : count - (i + 1) ≡ count - i - 1 = omega arith in
    ap (λ (m : ℕ). list_any (same_address (spelled_front bytes x e).address) (things_in front_address m x.1)) n ∙ sym (any_by_front bytes x e (count - i - 1) x.1 b is) ∙ test
