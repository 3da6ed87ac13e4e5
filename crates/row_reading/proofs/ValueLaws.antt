-- The forms of fields and of values.
use Rattle.std.proofs.Common.{◌≡◌, ℕ, zero, suc, ◌^◌, ◌<◌, ◌≤◌, Bool, true, false, cond, ltb, leb, not, bytes_eq, ◌&&◌, ◌||◌, ne_eqb, ◌==◌, eqb, List, [], ◌∷◌, ◌++◌, length, Option, Some, None, refl, sym, ap, subst, ◌∙◌, arith}
use Rattle.std.specs.Int.{w16, w32, w64, from_le_bytes, from_be_bytes}
use Rattle.std.specs.List.{flat_map, list_all}
use Rattle.std.specs.Option.{option_map, option_map_or}
use Rattle.std.proofs.lemmas.Slice.Eq.{bytes_eq-Decides}
use Rattle.std.proofs.lemmas.Bool.{eqb-true, leb-true, ltb-true, lt-ltb, le-leb}
use Rattle.std.proofs.lemmas.Nat.{le_bytes_2, le_bytes_8, be_bytes_4, from_le_bytes-to_le_bytes_2, from_le_bytes-to_le_bytes_8, from_be_bytes-to_be_bytes_4}
use Rattle.ctrl_model.specs.NameForm.{is_name, is_instance, is_name_byte}
use Rattle.ctrl_model.specs.Limits.{most_entries, most_claimed}
use Rattle.ctrl_model.specs.AddressForm.{address_of, address_text, same_address, is_address, is_spelling}
use Rattle.ctrl_model.specs.InterceptForm.{is_port_range, same_ports, is_without_repeats, is_claim, is_intercept}
use Rattle.ctrl_model.specs.declared.addresses.Address.{Address}
use Rattle.ctrl_model.specs.declared.formats.Format.{Format}
use Rattle.ctrl_model.specs.declared.formats.Format.TheVariants.{One, Two}
use Rattle.ctrl_model.specs.declared.intercepts.Intercept.{Intercept}
use Rattle.ctrl_model.specs.declared.intercepts.PortRange.{PortRange}
use Rattle.ctrl_model.proofs.AddressLaws.{address_given, own_spelling, spelled_as, text_short}
use Rattle.ctrl_model.specs.ValueForms.{is_service_relation}
use Rattle.ctrl_model.specs.declared.kinds.Side.{Side}
use Rattle.ctrl_model.specs.declared.kinds.Semantic.{Semantic}
use Rattle.ctrl_model.specs.declared.kinds.Semantic.TheVariants.{AnyOf, AllOf}
use Rattle.ctrl_model.specs.declared.kinds.Relation.{Relation}
use Rattle.ctrl_model.specs.declared.kinds.Relation.TheVariants as relation
use Rattle.ctrl_model.specs.declared.kinds.Precedence.{Precedence}
use Rattle.ctrl_model.specs.declared.kinds.Precedence.TheVariants.{Required, Normal, Failed}
use Rattle.row_codec.specs.RowForm.{is_short, is_wide, are_listed, is_listed_side, is_positive, is_count, is_host}
use Rattle.row_codec.specs.RowKeys.{is_long, number_in_key}
use Rattle.row_codec.specs.RowValues.{long, short, wide, count_bytes, protocols_byte, address_value, port_range_value, intercept_value, text, texts, flag, side_bytes, relation_byte, semantic_byte, precedence_byte, router_marks, host_number}
use Rattle.row_codec.specs.FieldReading.{front_byte, front_part, front_long, front_short, front_number, front_text, front_name, front_names, front_instance, front_flag, front_count, front_wide, flag_meant, front_side, side_of, alone, kept, both, mapped, front_code, front_list, relation_meant, semantic_meant, precedence_meant, marks_meant}
use Rattle.row_reading.specs.RowReading.{host_named, is_kind, is_next, is_setting, is_serial, protocols_meant, port_range_of, intercept_of, front_address, front_port_range, front_parts, front_intercept, front_entity, front_router, front_costs, front_link, front_sides, front_service_policy, front_router_policy, front_place, front_terminator, front_circuit, front_nothing}
use Rattle.row_codec.proofs.FieldLaws.{AreBytes, Takes, IsPart, some_is, bind_some, map_some, and_left, and_right, byte_takes, part_takes, part_again, long_takes, long_again, text_takes, text_again}
use Rattle.row_reading.proofs.FormLaws.{IsForm, both_form, both_free, kept_form, mapped_form, code_form, list_form, alone_takes, and_both}

-- ---- numbers and texts

pub byte_form : IsForm front_byte (λ b. b ∷ []) (λ b. ltb b 256)
byte_form = record {
  again = λ b rest e. refl;
  takes = λ bytes x fits e. let t = byte_takes bytes x fits e in (t.0, lt-ltb _ _ t.1);
}

pub long_form : IsForm front_long long is_long
long_form = record {
  again = λ n rest e. long_again n rest (ltb-true n (2 ^ 32) e);
  takes = λ bytes x fits e. let t = long_takes bytes x fits e in (t.0, lt-ltb _ _ t.1);
}

short_part : (bytes part rest : List ℕ) → IsPart 2 bytes part rest → Takes bytes (short (from_le_bytes w16 part)) rest × (from_le_bytes w16 part < 2 ^ 16)
short_part bytes part rest p =
    let is : short (from_le_bytes w16 part) ≡ part = le_bytes_2 part (from_le_bytes w16 part) p.len p.fits refl in
    (subst (λ (t : List ℕ). Takes bytes t rest) (sym is) p.takes, omega (arith, p.fits 0, p.fits 1))

short_takes : (bytes : List ℕ) (x : ℕ × List ℕ) → AreBytes bytes → front_short bytes ≡ Some x → Takes bytes (short x.0) x.1 × (is_short x.0 ≡ true)
short_takes bytes x fits e =
    let a = map_some (front_part 2 bytes) (λ p. (from_le_bytes w16 p.0, p.1)) x e in
    let t = short_part bytes a.0.0 a.0.1 (part_takes 2 bytes a.0 fits a.1) in
    subst (λ (y : ℕ × List ℕ). Takes bytes (short y.0) y.1 × (is_short y.0 ≡ true)) a.2 (t.0, lt-ltb _ _ t.1)

abbrev some_number : ℕ × List ℕ → Option (ℕ × List ℕ)
some_number x = Some x

pub short_form : IsForm front_short short is_short
short_form = record {
  again = λ n rest e.
      ap (option_map {U = ℕ × List ℕ} (λ p. (from_le_bytes w16 p.0, p.1))) (part_again (short n) rest 2 refl)
      ∙ ap (λ (m : ℕ). some_number (m, rest)) (from_le_bytes-to_le_bytes_2 n (ltb-true n (2 ^ 16) e));
  takes = λ bytes x fits e. short_takes bytes x fits e;
}

number_part : (bytes part rest : List ℕ) → IsPart 4 bytes part rest → Takes bytes (number_in_key (from_be_bytes w32 part)) rest × (from_be_bytes w32 part < 2 ^ 32)
number_part bytes part rest p =
    let is : number_in_key (from_be_bytes w32 part) ≡ part = be_bytes_4 part (from_be_bytes w32 part) p.len p.fits refl in
    (subst (λ (t : List ℕ). Takes bytes t rest) (sym is) p.takes, omega (arith, p.fits 0, p.fits 1, p.fits 2, p.fits 3))

number_takes : (bytes : List ℕ) (x : ℕ × List ℕ) → AreBytes bytes → front_number bytes ≡ Some x → Takes bytes (number_in_key x.0) x.1 × (is_long x.0 ≡ true)
number_takes bytes x fits e =
    let a = map_some (front_part 4 bytes) (λ p. (from_be_bytes w32 p.0, p.1)) x e in
    let t = number_part bytes a.0.0 a.0.1 (part_takes 4 bytes a.0 fits a.1) in
    subst (λ (y : ℕ × List ℕ). Takes bytes (number_in_key y.0) y.1 × (is_long y.0 ≡ true)) a.2 (t.0, lt-ltb _ _ t.1)

pub number_form : IsForm front_number number_in_key is_long
number_form = record {
  again = λ n rest e.
      ap (option_map {U = ℕ × List ℕ} (λ p. (from_be_bytes w32 p.0, p.1))) (part_again (number_in_key n) rest 4 refl)
      ∙ ap (λ (m : ℕ). some_number (m, rest)) (from_be_bytes-to_be_bytes_4 n (ltb-true n (2 ^ 32) e));
  takes = λ bytes x fits e. number_takes bytes x fits e;
}

abbrev fits_text : List ℕ → Bool
fits_text name = leb (length name) 255

text_form : IsForm front_text text fits_text
text_form = record {
  again = λ name rest e. text_again name rest;
  takes = λ bytes x fits e. let t = text_takes bytes x fits e in (t.0, le-leb _ _ t.1);
}

-- ---- names

name_fits : (name : List ℕ) → is_name name ≡ true → fits_text name ≡ true
name_fits name e =
    let both : (leb 1 (length name) && leb (length name) 64) ≡ true = and_left (leb 1 (length name) && leb (length name) 64) (list_all is_name_byte name) e in
    let short : leb (length name) 64 ≡ true = and_right (leb 1 (length name)) (leb (length name) 64) both in
    le-leb _ _ (omega (arith, leb-true (length name) 64 short))

instance_by : (empty : Bool) (name : List ℕ) → (empty ≡ true → length name ≡ 0) → (empty || is_name name) ≡ true → fits_text name ≡ true
instance_by true name is e = le-leb _ _ (omega (arith, is refl))
instance_by false name is e = name_fits name e

pub name_form : IsForm front_name text is_name
name_form = kept_form is_name front_text text fits_text text_form name_fits

pub instance_form : IsForm front_instance text is_instance
instance_form = kept_form is_instance front_text text fits_text text_form (λ name e. instance_by (length name == 0) name (eqb-true (length name) 0) e)

pub names_form : IsForm front_names texts are_listed
names_form = list_form most_entries front_name text is_name name_form

-- ---- codes

flag_means : (n : ℕ) (b : Bool) → flag_meant n ≡ Some b → (n ≡ flag b) × (true ≡ true)
flag_means n b e = by (n == 0) (n == 1) (eqb-true n 0) (eqb-true n 1) e
  where
    by : (x y : Bool) → (x ≡ true → n ≡ 0) → (y ≡ true → n ≡ 1) → cond x (Some false) (cond y (Some true) None) ≡ Some b → (n ≡ flag b) × (true ≡ true)
    by true y p q e = (p refl ∙ ap flag (some_is false b e), refl)
    by false true p q e = (q refl ∙ ap flag (some_is true b e), refl)
    by false false p q e = absurd cc

flag_again : (b : Bool) → flag_meant (flag b) ≡ Some b
flag_again true = refl
flag_again false = refl

pub flag_form : IsForm front_flag (λ b. flag b ∷ []) (λ _. true)
flag_form = code_form flag_meant flag (λ _. true) flag_means (λ b e. flag_again b)

relation_means : (n : ℕ) (r : Relation) → relation_meant n ≡ Some r → (n ≡ relation_byte r) × (is_service_relation r ≡ true)
relation_means n r e = by (n == 1) (n == 2) (eqb-true n 1) (eqb-true n 2) e
  where
    by : (x y : Bool) → (x ≡ true → n ≡ 1) → (y ≡ true → n ≡ 2) → cond x (Some relation.Dial) (cond y (Some relation.Bind) None) ≡ Some r → (n ≡ relation_byte r) × (is_service_relation r ≡ true)
    by true y p q e = (p refl ∙ ap relation_byte (some_is relation.Dial r e), sym (ap is_service_relation (some_is relation.Dial r e)))
    by false true p q e = (q refl ∙ ap relation_byte (some_is relation.Bind r e), sym (ap is_service_relation (some_is relation.Bind r e)))
    by false false p q e = absurd cc

relation_again : (r : Relation) → is_service_relation r ≡ true → relation_meant (relation_byte r) ≡ Some r
relation_again relation.Dial e = refl
relation_again relation.Bind e = refl
relation_again relation.IdentityRouter e = absurd cc
relation_again relation.ServiceRouter e = absurd cc

relation_form : IsForm (front_code relation_meant) (λ r. relation_byte r ∷ []) is_service_relation
relation_form = code_form relation_meant relation_byte is_service_relation relation_means relation_again

semantic_means : (n : ℕ) (m : Semantic) → semantic_meant n ≡ Some m → (n ≡ semantic_byte m) × (true ≡ true)
semantic_means n m e = by (n == 1) (n == 2) (eqb-true n 1) (eqb-true n 2) e
  where
    by : (x y : Bool) → (x ≡ true → n ≡ 1) → (y ≡ true → n ≡ 2) → cond x (Some AnyOf) (cond y (Some AllOf) None) ≡ Some m → (n ≡ semantic_byte m) × (true ≡ true)
    by true y p q e = (p refl ∙ ap semantic_byte (some_is AnyOf m e), refl)
    by false true p q e = (q refl ∙ ap semantic_byte (some_is AllOf m e), refl)
    by false false p q e = absurd cc

semantic_again : (m : Semantic) → semantic_meant (semantic_byte m) ≡ Some m
semantic_again AnyOf = refl
semantic_again AllOf = refl

semantic_form : IsForm (front_code semantic_meant) (λ m. semantic_byte m ∷ []) (λ _. true)
semantic_form = code_form semantic_meant semantic_byte (λ _. true) semantic_means (λ m e. semantic_again m)

precedence_means : (n : ℕ) (p : Precedence) → precedence_meant n ≡ Some p → (n ≡ precedence_byte p) × (true ≡ true)
precedence_means n p e = by (n == 1) (n == 2) (n == 3) (eqb-true n 1) (eqb-true n 2) (eqb-true n 3) e
  where
    by : (x y z : Bool) → (x ≡ true → n ≡ 1) → (y ≡ true → n ≡ 2) → (z ≡ true → n ≡ 3) → cond x (Some Required) (cond y (Some Normal) (cond z (Some Failed) None)) ≡ Some p
        → (n ≡ precedence_byte p) × (true ≡ true)
    by true y z a b c e = (a refl ∙ ap precedence_byte (some_is Required p e), refl)
    by false true z a b c e = (b refl ∙ ap precedence_byte (some_is Normal p e), refl)
    by false false true a b c e = (c refl ∙ ap precedence_byte (some_is Failed p e), refl)
    by false false false a b c e = absurd cc

precedence_again : (p : Precedence) → precedence_meant (precedence_byte p) ≡ Some p
precedence_again Required = refl
precedence_again Normal = refl
precedence_again Failed = refl

precedence_form : IsForm (front_code precedence_meant) (λ p. precedence_byte p ∷ []) (λ _. true)
precedence_form = code_form precedence_meant precedence_byte (λ _. true) precedence_means (λ p e. precedence_again p)

abbrev marks_byte : Bool × Bool → ℕ
marks_byte m = router_marks m.0 m.1

marks_means : (n : ℕ) (m : Bool × Bool) → marks_meant n ≡ Some m → (n ≡ marks_byte m) × (true ≡ true)
marks_means n m e = by (n == 0) (n == 1) (n == 2) (n == 3) (eqb-true n 0) (eqb-true n 1) (eqb-true n 2) (eqb-true n 3) e
  where
    by : (x y z w : Bool) → (x ≡ true → n ≡ 0) → (y ≡ true → n ≡ 1) → (z ≡ true → n ≡ 2) → (w ≡ true → n ≡ 3)
        → cond x (Some (true, false)) (cond y (Some (false, false)) (cond z (Some (true, true)) (cond w (Some (false, true)) None))) ≡ Some m → (n ≡ marks_byte m) × (true ≡ true)
    by true y z w a b c d e = (a refl ∙ ap marks_byte (some_is (true, false) m e), refl)
    by false true z w a b c d e = (b refl ∙ ap marks_byte (some_is (false, false) m e), refl)
    by false false true w a b c d e = (c refl ∙ ap marks_byte (some_is (true, true) m e), refl)
    by false false false true a b c d e = (d refl ∙ ap marks_byte (some_is (false, true) m e), refl)
    by false false false false a b c d e = absurd cc

marks_again : (through connected : Bool) → marks_meant (router_marks through connected) ≡ Some (through, connected)
marks_again true true = refl
marks_again true false = refl
marks_again false true = refl
marks_again false false = refl

marks_form : IsForm (front_code marks_meant) (λ m. marks_byte m ∷ []) (λ _. true)
marks_form = code_form marks_meant marks_byte (λ _. true) marks_means (λ m e. marks_again m.0 m.1)

-- ---- sides and hosts

abbrev parts_of_side : Side → Bool × (List (List ℕ) × List (List ℕ))
parts_of_side side = (side.all, (side.ids, side.attributes))

pub side_form : IsForm front_side side_bytes is_listed_side
side_form =
    mapped_form side_of parts_of_side is_listed_side (both front_flag (both front_names front_names)) (λ x. (flag x.0 ∷ []) ++ (texts x.1.0 ++ texts x.1.1)) (λ x. are_listed x.1.0 && are_listed x.1.1)
    (both_form front_flag (λ b. flag b ∷ []) (λ _. true) (both front_names front_names) (λ x. texts x.0 ++ texts x.1) (λ x. are_listed x.0 && are_listed x.1) flag_form
    (both_form front_names texts are_listed front_names texts are_listed names_form names_form))
    (λ x e. (refl, e)) (λ side e. (e, refl))

not_zero : (n : ℕ) → eqb (suc n) 0 ≡ false
not_zero n = ne_eqb (suc n) 0 (λ e. omega (arith, e))

host_there : (n : ℕ) → is_long n ≡ true → (host_number (host_named n) ≡ n) × (is_host (host_named n) ≡ true)
host_there zero e = (refl, refl)
host_there (suc n) e =
    let is : host_named (suc n) ≡ Some (suc n) = rw (not_zero n) refl in
    rw is (refl, and_both (ltb 0 (suc n)) (is_long (suc n)) (lt-ltb 0 (suc n) (omega arith)) e)

host_again : (o : Option ℕ) → is_host o ≡ true → (is_long (host_number o) ≡ true) × (host_named (host_number o) ≡ o)
host_again None e = (refl, refl)
host_again (Some zero) e = absurd cc
host_again (Some (suc n)) e = (and_right (ltb 0 (suc n)) (is_long (suc n)) e, rw (not_zero n) refl)

host_form : IsForm (mapped host_named front_long) (λ o. long (host_number o)) is_host
host_form = mapped_form host_named host_number is_host front_long long is_long long_form host_there host_again

-- ---- values

pub entity_form : IsForm front_entity (λ x. text x.0 ++ texts x.1) (λ x. is_name x.0 && are_listed x.1)
entity_form = both_form front_name text is_name front_names texts are_listed name_form names_form

pub router_form : IsForm front_router (λ x. text x.0 ++ (texts x.1.0 ++ (short x.1.1.0 ++ marks_byte x.1.1.1 ∷ []))) (λ x. is_name x.0 && (are_listed x.1.0 && is_short x.1.1.0))
router_form = both_form front_name text is_name _ _ _ name_form (both_form front_names texts are_listed _ _ _ names_form (both_free front_short short is_short _ _ short_form marks_form))

costs_form : IsForm front_costs (λ x. short x.0 ++ (short x.1.0 ++ (short x.1.1.0 ++ flag x.1.1.1 ∷ []))) (λ x. is_short x.0 && (is_short x.1.0 && is_short x.1.1.0))
costs_form = both_form front_short short is_short _ _ _ short_form (both_form front_short short is_short _ _ _ short_form (both_free front_short short is_short _ _ short_form flag_form))

pub link_form : IsForm front_link (λ x. text x.0 ++ (long x.1.0 ++ (long x.1.1.0 ++ (short x.1.1.1.0 ++ (short x.1.1.1.1.0 ++ (short x.1.1.1.1.1.0 ++ flag x.1.1.1.1.1.1 ∷ []))))))
    (λ x. is_name x.0 && (is_long x.1.0 && (is_long x.1.1.0 && (is_short x.1.1.1.0 && (is_short x.1.1.1.1.0 && is_short x.1.1.1.1.1.0)))))
link_form = both_form front_name text is_name _ _ _ name_form (both_form front_long long is_long _ _ _ long_form (both_form front_long long is_long _ _ _ long_form costs_form))

sides_form : IsForm front_sides (λ x. semantic_byte x.0 ∷ (side_bytes x.1.0 ++ side_bytes x.1.1)) (λ x. is_listed_side x.1.0 && is_listed_side x.1.1)
sides_form = both_form (front_code semantic_meant) _ _ _ _ _ semantic_form (both_form front_side side_bytes is_listed_side front_side side_bytes is_listed_side side_form side_form)

pub service_policy_form : IsForm front_service_policy (λ x. text x.0 ++ relation_byte x.1.0 ∷ semantic_byte x.1.1.0 ∷ (side_bytes x.1.1.1.0 ++ side_bytes x.1.1.1.1))
    (λ x. is_name x.0 && (is_service_relation x.1.0 && (is_listed_side x.1.1.1.0 && is_listed_side x.1.1.1.1)))
service_policy_form = both_form front_name text is_name _ _ _ name_form (both_form (front_code relation_meant) _ _ _ _ _ relation_form sides_form)

pub router_policy_form : IsForm front_router_policy (λ x. text x.0 ++ semantic_byte x.1.0 ∷ (side_bytes x.1.1.0 ++ side_bytes x.1.1.1))
    (λ x. is_name x.0 && (is_listed_side x.1.1.0 && is_listed_side x.1.1.1))
router_policy_form = both_form front_name text is_name _ _ _ name_form sides_form

place_form : IsForm front_place (λ x. text x.0 ++ (short x.1.0 ++ precedence_byte x.1.1 ∷ [])) (λ x. is_instance x.0 && is_short x.1.0)
place_form = both_form front_instance text is_instance _ _ _ instance_form (both_free front_short short is_short _ _ short_form precedence_form)

pub terminator_form : IsForm front_terminator (λ x. long x.0 ++ (long x.1.0 ++ (long (host_number x.1.1.0) ++ (text x.1.1.1.0 ++ (short x.1.1.1.1.0 ++ precedence_byte x.1.1.1.1.1 ∷ [])))))
    (λ x. is_long x.0 && (is_long x.1.0 && (is_host x.1.1.0 && (is_instance x.1.1.1.0 && is_short x.1.1.1.1.0))))
terminator_form = both_form front_long long is_long _ _ _ long_form (both_form front_long long is_long _ _ _ long_form (both_form (mapped host_named front_long) _ is_host _ _ _ host_form place_form))

pub circuit_form : IsForm front_circuit (λ x. long x.0 ++ (long x.1.0 ++ (long x.1.1.0 ++ (long x.1.1.1.0 ++ length x.1.1.1.1 ∷ flat_map long x.1.1.1.1))))
    (λ x. is_long x.0 && (is_long x.1.0 && (is_long x.1.1.0 && (is_long x.1.1.1.0 && (leb (length x.1.1.1.1) 255 && list_all is_long x.1.1.1.1)))))
circuit_form = both_form front_long long is_long _ _ _ long_form (both_form front_long long is_long _ _ _ long_form (both_form front_long long is_long _ _ _ long_form
    (both_form front_long long is_long _ _ _ long_form (list_form 255 front_long long is_long long_form))))

pub count_form : (f : Format) → IsForm (kept (is_count f) (front_count f)) (count_bytes f) (is_count f)
count_form One = kept_form is_positive front_long long is_long long_form (λ n e. and_right (ltb 0 n) (is_long n) e)
count_form Two = kept_form (is_count Two) front_short short is_short short_form (λ n e. and_right (ltb 0 n) (is_short n) e)

pub next_form : IsForm (kept is_next front_long) long is_next
next_form = kept_form is_next front_long long is_long long_form (λ n e. and_right (ltb 1 n) (is_long n) e)

pub setting_form : IsForm (kept is_setting front_long) long is_setting
setting_form = kept_form is_setting front_long long is_long long_form (λ n e. and_right (not (n == 10)) (is_long n) e)

-- ---- keys

kind_fits : (k : ℕ) → is_kind k ≡ true → ltb k 256 ≡ true
kind_fits k e = lt-ltb _ _ (omega (arith, leb-true k 9 (and_right (leb 1 k) (leb k 9) e)))

pub kind_form : IsForm (kept is_kind front_byte) (λ k. k ∷ []) is_kind
kind_form = kept_form is_kind front_byte (λ k. k ∷ []) (λ b. ltb b 256) byte_form kind_fits

nothing_takes : (bytes : List ℕ) (x : Unit {0} × List ℕ) → AreBytes bytes → front_nothing bytes ≡ Some x → Takes bytes [] x.1 × (true ≡ true)
nothing_takes bytes x fits e =
    let is : bytes ≡ x.1 = ap (λ (y : Unit {0} × List ℕ). y.1) (some_is (tt, bytes) x e) in
    (record { parts = is; rest_fits = subst AreBytes is fits }, refl)

pub nothing_form : IsForm front_nothing (λ _. []) (λ _. true)
nothing_form = record { again = λ u rest e. refl; takes = λ bytes x fits e. nothing_takes bytes x fits e }

pub pair_form : IsForm (both front_number front_number) (λ x. number_in_key x.0 ++ number_in_key x.1) (λ x. is_long x.0 && is_long x.1)
pair_form = both_form front_number number_in_key is_long front_number number_in_key is_long number_form number_form

-- ---- the serial

wide_part : (bytes part rest : List ℕ) → IsPart 8 bytes part rest → Takes bytes (wide (from_le_bytes w64 part)) rest × (from_le_bytes w64 part < 2 ^ 64)
wide_part bytes part rest p =
    let is : wide (from_le_bytes w64 part) ≡ part = le_bytes_8 part (from_le_bytes w64 part) p.len p.fits refl in
    (subst (λ (t : List ℕ). Takes bytes t rest) (sym is) p.takes, omega (arith, p.fits 0, p.fits 1, p.fits 2, p.fits 3, p.fits 4, p.fits 5, p.fits 6, p.fits 7))

wide_takes : (bytes : List ℕ) (x : ℕ × List ℕ) → AreBytes bytes → front_wide bytes ≡ Some x → Takes bytes (wide x.0) x.1 × (is_wide x.0 ≡ true)
wide_takes bytes x fits e =
    let a = map_some (front_part 8 bytes) (λ p. (from_le_bytes w64 p.0, p.1)) x e in
    let t = wide_part bytes a.0.0 a.0.1 (part_takes 8 bytes a.0 fits a.1) in
    subst (λ (y : ℕ × List ℕ). Takes bytes (wide y.0) y.1 × (is_wide y.0 ≡ true)) a.2 (t.0, lt-ltb _ _ t.1)

wide_form : IsForm front_wide wide is_wide
wide_form = record {
  again = λ n rest e.
      ap (option_map {U = ℕ × List ℕ} (λ p. (from_le_bytes w64 p.0, p.1))) (part_again (wide n) rest 8 refl)
      ∙ ap (λ (m : ℕ). some_number (m, rest)) (from_le_bytes-to_le_bytes_8 n (ltb-true n (2 ^ 64) e));
  takes = λ bytes x fits e. wide_takes bytes x fits e;
}

pub serial_form : IsForm (kept is_serial front_wide) wide is_serial
serial_form = kept_form is_serial front_wide wide is_wide wide_form (λ n e. and_right (ltb 0 n) (is_wide n) e)

-- ---- intercepts

abbrev both_protocols : Bool × Bool → ℕ
both_protocols p = protocols_byte p.0 p.1

abbrev pub some_protocol : Bool × Bool → Bool
some_protocol p = p.0 || p.1

protocols_means : (n : ℕ) (p : Bool × Bool) → protocols_meant n ≡ Some p → (n ≡ both_protocols p) × (some_protocol p ≡ true)
protocols_means n p e = by (n == 1) (n == 2) (n == 3) (eqb-true n 1) (eqb-true n 2) (eqb-true n 3) e
  where
    by : (x y z : Bool) → (x ≡ true → n ≡ 1) → (y ≡ true → n ≡ 2) → (z ≡ true → n ≡ 3)
        → cond x (Some (true, false)) (cond y (Some (false, true)) (cond z (Some (true, true)) None)) ≡ Some p → (n ≡ both_protocols p) × (some_protocol p ≡ true)
    by true y z a b c e = (a refl ∙ ap both_protocols (some_is (true, false) p e), sym (ap some_protocol (some_is (true, false) p e)))
    by false true z a b c e = (b refl ∙ ap both_protocols (some_is (false, true) p e), sym (ap some_protocol (some_is (false, true) p e)))
    by false false true a b c e = (c refl ∙ ap both_protocols (some_is (true, true) p e), sym (ap some_protocol (some_is (true, true) p e)))
    by false false false a b c e = absurd cc

protocols_again : (tcp udp : Bool) → (tcp || udp) ≡ true → protocols_meant (protocols_byte tcp udp) ≡ Some (tcp, udp)
protocols_again true true e = refl
protocols_again true false e = refl
protocols_again false true e = refl
protocols_again false false e = absurd cc

protocols_form : IsForm (front_code protocols_meant) (λ p. both_protocols p ∷ []) some_protocol
protocols_form = code_form protocols_meant both_protocols some_protocol protocols_means (λ p e. protocols_again p.0 p.1 e)

spelling_fits : (t : List ℕ) → is_spelling t ≡ true → fits_text t ≡ true
spelling_fits t e =
    let own = spelled_as t e in
    le-leb _ _ (subst (λ (w : List ℕ). length w ≤ 255) own.2 (text_short own.0 (address_given t own.0 own.1)))

spelling_form : IsForm (kept is_spelling front_text) text is_spelling
spelling_form = kept_form is_spelling front_text text fits_text text_form spelling_fits

address_takes : (bytes : List ℕ) (x : Address × List ℕ) → AreBytes bytes → front_address bytes ≡ Some x → Takes bytes (address_value x.0) x.1 × (is_address x.0 ≡ true)
address_takes bytes x fits e =
    let t = bind_some (kept is_spelling front_text bytes) (λ y. option_map (λ a. (a, y.1)) (address_of y.0)) x e in
    let a = map_some (address_of t.0.0) (λ a. (a, t.0.1)) x t.2 in
    let took = spelling_form.takes bytes t.0 fits t.1 in
    let own = spelled_as t.0.0 took.1 in
    let same : own.0 ≡ a.0 = some_is own.0 a.0 (sym own.1 ∙ a.1) in
    subst (λ (y : Address × List ℕ). Takes bytes (address_value y.0) y.1 × (is_address y.0 ≡ true)) a.2
    (subst (λ (w : List ℕ). Takes bytes (text w) t.0.1) (sym own.2 ∙ ap address_text same) took.0, address_given t.0.0 a.0 a.1)

address_form : IsForm front_address address_value is_address
address_form = record {
  again = λ a rest e.
      let own = own_spelling a e in
      rw (spelling_form.again (address_text a) rest (ap (λ o. option_map_or (λ b. bytes_eq (address_text b) (address_text a)) o false) own ∙ (bytes_eq-Decides (address_text a) (address_text a)).1 refl), own) refl;
  takes = address_takes;
}

port_fits : (r : PortRange) → is_port_range r ≡ true → (is_short r.low && is_short r.high) ≡ true
port_fits r e =
    let above = and_right (leb 1 r.low) (leb r.low r.high && leb r.high 65535) e in
    let low = leb-true r.low r.high (and_left (leb r.low r.high) (leb r.high 65535) above) in
    let high = leb-true r.high 65535 (and_right (leb r.low r.high) (leb r.high 65535) above) in
    and_both (is_short r.low) (is_short r.high) (lt-ltb r.low (2 ^ 16) (omega (arith, low, high))) (lt-ltb r.high (2 ^ 16) (omega (arith, high)))

port_range_form : IsForm front_port_range port_range_value is_port_range
port_range_form =
    kept_form is_port_range (mapped port_range_of (both front_short front_short)) port_range_value (λ (r : PortRange). is_short r.low && is_short r.high)
    (mapped_form port_range_of (λ (r : PortRange). (r.low, r.high)) (λ r. is_short r.low && is_short r.high) (both front_short front_short) (λ x. short x.0 ++ short x.1) (λ x. is_short x.0 && is_short x.1)
    (both_form front_short short is_short front_short short is_short short_form short_form)
    (λ x e. (refl, e)) (λ r e. (e, refl)))
    port_fits

-- the parts of an intercept, and the test that its lists are short
abbrev parts_of_intercept : Intercept → (Bool × Bool) × (List Address × List PortRange)
parts_of_intercept i = ((i.tcp, i.udp), (i.addresses, i.ports))

abbrev pub fits_addresses : List Address → Bool
fits_addresses xs = leb (length xs) 32 && list_all is_address xs

abbrev pub fits_ports : List PortRange → Bool
fits_ports rs = leb (length rs) 32 && list_all is_port_range rs

abbrev pub fits_intercept : Intercept → Bool
fits_intercept i = some_protocol (i.tcp, i.udp) && (fits_addresses i.addresses && fits_ports i.ports)

parts_form : IsForm front_parts (λ x. (both_protocols x.0 ∷ []) ++ ((length x.1.0 ∷ flat_map address_value x.1.0) ++ (length x.1.1 ∷ flat_map port_range_value x.1.1)))
    (λ x. some_protocol x.0 && (fits_addresses x.1.0 && fits_ports x.1.1))
parts_form =
    both_form (front_code protocols_meant) (λ p. both_protocols p ∷ []) some_protocol _ _ (λ x. fits_addresses x.0 && fits_ports x.1) protocols_form
    (both_form (front_list most_claimed front_address) _ fits_addresses (front_list most_claimed front_port_range) _ fits_ports
    (list_form most_claimed front_address address_value is_address address_form)
    (list_form most_claimed front_port_range port_range_value is_port_range port_range_form))

-- what is read fits the parts of an intercept
pub parts_fit : (value : List ℕ) (x : (Bool × Bool) × (List Address × List PortRange)) → AreBytes value → alone front_parts value ≡ Some x → fits_intercept (intercept_of x) ≡ true
parts_fit value x fits e = (alone_takes front_parts _ _ parts_form value x fits e).1

made_form : IsForm (mapped intercept_of front_parts) intercept_value fits_intercept
made_form =
    mapped_form intercept_of parts_of_intercept fits_intercept front_parts
    (λ x. (both_protocols x.0 ∷ []) ++ ((length x.1.0 ∷ flat_map address_value x.1.0) ++ (length x.1.1 ∷ flat_map port_range_value x.1.1)))
    (λ x. some_protocol x.0 && (fits_addresses x.1.0 && fits_ports x.1.1)) parts_form (λ x e. (refl, e)) (λ i e. (e, refl))

-- the lists of an intercept are short, and of what an intercept may have
claim_fits : {A : Type 0} (form : A → Bool) (same : A → A → Bool) (xs : List A) → is_claim form same xs ≡ true → (leb (length xs) 32 && list_all form xs) ≡ true
claim_fits form same xs e =
    let some = and_right (leb 1 (length xs)) (leb (length xs) 32 && (list_all form xs && is_without_repeats same xs)) e in
    and_both (leb (length xs) 32) (list_all form xs) (and_left (leb (length xs) 32) (list_all form xs && is_without_repeats same xs) some)
    (and_left (list_all form xs) (is_without_repeats same xs) (and_right (leb (length xs) 32) (list_all form xs && is_without_repeats same xs) some))

intercept_fits : (i : Intercept) → is_intercept i ≡ true → fits_intercept i ≡ true
intercept_fits i e =
    let claims = and_right (i.tcp || i.udp) (is_claim is_address same_address i.addresses && is_claim is_port_range same_ports i.ports) e in
    and_both (i.tcp || i.udp) (fits_addresses i.addresses && fits_ports i.ports) (and_left (i.tcp || i.udp) (is_claim is_address same_address i.addresses && is_claim is_port_range same_ports i.ports) e)
    (and_both (fits_addresses i.addresses) (fits_ports i.ports)
    (claim_fits is_address same_address i.addresses (and_left (is_claim is_address same_address i.addresses) (is_claim is_port_range same_ports i.ports) claims))
    (claim_fits is_port_range same_ports i.ports (and_right (is_claim is_address same_address i.addresses) (is_claim is_port_range same_ports i.ports) claims)))

pub intercept_form : IsForm front_intercept intercept_value is_intercept
intercept_form = kept_form is_intercept _ intercept_value fits_intercept made_form intercept_fits
