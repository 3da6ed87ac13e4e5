-- The answers to the commands on intercepts fit a reply.
use Rattle.std.proofs.Common.{◌≡◌, ℕ, ◌≤◌, ◌==◌, ◌&&◌, ◌||◌, Bool, true, false, nat_le, cond, List, [], length, map, filter, bytes_eq, Option, None, Some, refl, sym, subst, arith}
use Rattle.std.proofs.lemmas.Bool.{le-leb, and_parts}
use Rattle.std.proofs.lemmas.List.{length-map}
use Rattle.std.proofs.lemmas.Slice.Eq.{bytes_eq-Decides}
use Rattle.std.specs.Option.{option_map_or}
use Rattle.std.specs.List.{list_all, list_any}
use Rattle.ctrl_model.specs.declared.addresses.Address.{Address}
use Rattle.ctrl_model.specs.declared.intercepts.Intercept.{Intercept}
use Rattle.ctrl_model.specs.declared.kinds.Kind.TheVariants as kind
use Rattle.ctrl_model.specs.declared.kinds.Relation.TheVariants.{Dial}
use Rattle.ctrl_model.specs.declared.refusals.Refusal.TheVariants.{NoIntercept}
use Rattle.ctrl_model.specs.declared.replies.Reply.TheVariants.{Refused}
use Rattle.ctrl_model.specs.AddressForm.{address_text, is_address, is_spelling}
use Rattle.ctrl_model.specs.InterceptForm.{is_claim, is_intercept, is_port_range, is_without_repeats, same_ports}
use Rattle.ctrl_model.specs.AddressForm.{same_address}
use Rattle.ctrl_model.specs.Limits.{most_claimed}
use Rattle.ctrl_model.specs.Numbered.{at, is_present, numbers}
use Rattle.ctrl_model.specs.State.{State, Entity}
use Rattle.ctrl_model.specs.CircuitCommands.{name_of}
use Rattle.ctrl_model.specs.Grants.{is_granted}
use Rattle.ctrl_model.specs.Hits.{Hit, IsHit, clashes, clashes_with}
use Rattle.ctrl_model.specs.InterceptCommands.{dialled_by, picked_for, picked_reply, clashes_reply}
use Rattle.ctrl_model.specs.ValidState.{ValidState, is_valid_intercept}
use Rattle.ctrl_model.proofs.AddressLaws.{own_spelling}
use Rattle.ctrl_model.proofs.Members.{list_all-among, at-row}
use Rattle.ctrl_model.proofs.NumberedLaws.{length-filter-le}
use Rattle.model_laws.proofs.HitLaws.{picked_is}
use Rattle.reply_codec.specs.ReplyLimits.{keeps_limits}

-- The text of an address is its one spelling.
spells_itself : (a : Address) → is_address a ≡ true → is_spelling (address_text a) ≡ true
spells_itself a is =
    subst (λ (o : Option Address). option_map_or (λ (b : Address). bytes_eq (address_text b) (address_text a)) o false ≡ true) (sym (own_spelling a is))
    ((bytes_eq-Decides (address_text a) (address_text a)).1 refl)

-- The addresses of an intercept are addresses.
claimed_addresses : (i : Intercept) → is_intercept i ≡ true → list_all is_address i.addresses ≡ true
claimed_addresses i is =
    let rest = nat_le (length i.addresses) most_claimed && (list_all is_address i.addresses && is_without_repeats same_address i.addresses) in
    let lists = and_parts (i.tcp || i.udp) (is_claim is_address same_address i.addresses && is_claim is_port_range same_ports i.ports) is in
    let claim = and_parts (is_claim is_address same_address i.addresses) (is_claim is_port_range same_ports i.ports) lists.1 in
    let some = and_parts (nat_le 1 (length i.addresses)) rest claim.0 in
    let few = and_parts (nat_le (length i.addresses) most_claimed) (list_all is_address i.addresses && is_without_repeats same_address i.addresses) some.1 in
    let each = and_parts (list_all is_address i.addresses) (is_without_repeats same_address i.addresses) few.1 in
    each.0

-- The address of a hit in a valid state is one.
hit_address : (s : State) (dialled : List ℕ) (udp : Bool) (to : Address) (port : ℕ) (h : Hit) → ValidState s → IsHit s.intercepts dialled udp to port h → is_address h.address ≡ true
hit_address s dialled udp to port h v is =
    let row = list_all-among (is_valid_intercept s) s.intercepts (h.service, is.intercept) v.intercepts (at-row s.intercepts h.service is.intercept is.claims) in
    let form = and_parts (is_present s.services.rows h.service) (is_intercept is.intercept) row in
    list_all-among is_address is.intercept.addresses h.address (claimed_addresses is.intercept form.1) is.address

-- So the hit that is picked fits, and so does the refusal where there is none.
pub pick_fits : (i : ℕ) (udp : Bool) (to : Address) (port : ℕ) (s : State) → ValidState s → keeps_limits (option_map_or (picked_reply s) (picked_for i udp to port s) (Refused NoIntercept)) ≡ true
pick_fits i udp to port s v = by (picked_for i udp to port s) refl
  where
    by : (o : Option Hit) → picked_for i udp to port s ≡ o → keeps_limits (option_map_or (picked_reply s) o (Refused NoIntercept)) ≡ true
    by None e = refl
    by (Some h) e = spells_itself h.address (hit_address s (dialled_by i s) udp to port h v (picked_is s.intercepts (dialled_by i s) udp to port h e).is_hit)

-- The clashes of a service are no more than the services that an identity may dial.
none_few : (most : ℕ) → 0 ≤ most
none_few most = omega arith

claimed_few : (intercepts : List (ℕ × Intercept)) (dialled : List ℕ) (n most : ℕ) → length dialled ≤ most → (o : Option Intercept)
    → length (option_map_or (λ (i : Intercept). filter (clashes_with intercepts n i) dialled) o []) ≤ most
claimed_few intercepts dialled n most few None = none_few most
claimed_few intercepts dialled n most few (Some i) = omega (arith, few, length-filter-le (clashes_with intercepts n i) dialled)

asked_few : (intercepts : List (ℕ × Intercept)) (dialled : List ℕ) (n most : ℕ) → length dialled ≤ most → (b : Bool)
    → length (cond b (option_map_or (λ (i : Intercept). filter (clashes_with intercepts n i) dialled) (at intercepts n) []) []) ≤ most
asked_few intercepts dialled n most few true = claimed_few intercepts dialled n most few (at intercepts n)
asked_few intercepts dialled n most few false = none_few most

pub clashes_fit : (i n : ℕ) (s : State) → ValidState s → keeps_limits (clashes_reply i n s) ≡ true
clashes_fit i n s v =
    let services : length s.services.rows ≤ 512 = (v.kinds kind.Service).numbers.few in
    let numbered : length (numbers s.services.rows) ≡ length s.services.rows = length-map {B = ℕ} s.services.rows (λ (row : ℕ × Entity). row.0) in
    let dialled : length (dialled_by i s) ≤ 512 = omega (arith, services, numbered, length-filter-le (is_granted Dial s i) (numbers s.services.rows)) in
    let few : length (clashes s.intercepts (dialled_by i s) n) ≤ 512 = asked_few s.intercepts (dialled_by i s) n 512 dialled (list_any (λ m. m == n) (dialled_by i s)) in
    let short : length (map (name_of s.services.rows) (clashes s.intercepts (dialled_by i s) n)) ≤ 512 =
    omega (arith, few, length-map (clashes s.intercepts (dialled_by i s) n) (name_of s.services.rows)) in
    le-leb (length (map (name_of s.services.rows) (clashes s.intercepts (dialled_by i s) n))) 512 short
