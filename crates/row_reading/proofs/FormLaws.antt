-- Forms: a rule by which things are read, with the spelling that it reads and the test that they pass.
use Rattle.std.proofs.Common.{◌≡◌, ℕ, zero, suc, ◌≤◌, Bool, true, false, cond, leb, ◌&&◌, List, [], ◌∷◌, ◌++◌, length, Option, Some, None, refl, sym, ap, subst, ◌∙◌, append_assoc, arith}
use Rattle.std.specs.List.{flat_map, list_all}
use Rattle.std.specs.Option.{option_map}
use Rattle.std.proofs.lemmas.List.{append-nil}
use Rattle.row_codec.specs.FieldReading.{Front, front_byte, kept, both, mapped, front_code, front_each, front_list, at_end, alone}
use Rattle.row_codec.proofs.FieldLaws.{AreBytes, Takes, Takes-then, some_is, bind_some, map_some, and_left, and_right, byte_takes}

-- what is spelled is read, and what is read is spelled so and passes the test
pub record IsForm {A : Type 0} (front : List ℕ → Front A) (spell : A → List ℕ) (test : A → Bool) : Type 0 where
  pub again : (a : A) (rest : List ℕ) → test a ≡ true → front (spell a ++ rest) ≡ Some (a, rest)
  pub takes : (bytes : List ℕ) (x : A × List ℕ) → AreBytes bytes → front bytes ≡ Some x → Takes bytes (spell x.0) x.1 × (test x.0 ≡ true)

-- ---- joined forms

both_again : {A B : Type 0} (f : List ℕ → Front A) (s : A → List ℕ) (p : A → Bool) (g : List ℕ → Front B) (t : B → List ℕ) (q : B → Bool) → IsForm f s p → IsForm g t q
    → (a : A) (b : B) (rest : List ℕ) → p a ≡ true → q b ≡ true → both f g ((s a ++ t b) ++ rest) ≡ Some ((a, b), rest)
both_again f s p g t q F G a b rest pa qb = rw (append_assoc (s a) (t b) rest, F.again a (t b ++ rest) pa, G.again b rest qb) refl

both_takes : {A B : Type 0} (f : List ℕ → Front A) (s : A → List ℕ) (p : A → Bool) (g : List ℕ → Front B) (t : B → List ℕ) (q : B → Bool) → IsForm f s p → IsForm g t q
    → (bytes : List ℕ) (x : (A × B) × List ℕ) → AreBytes bytes → both f g bytes ≡ Some x → Takes bytes (s x.0.0 ++ t x.0.1) x.1 × (p x.0.0 ≡ true) × (q x.0.1 ≡ true)
both_takes {A = A} {B = B} f s p g t q F G bytes x fits e =
    let a = bind_some (f bytes) (λ y. option_map (λ z. ((y.0, z.0), z.1)) (g y.1)) x e in
    let b = map_some (g a.0.1) (λ z. ((a.0.0, z.0), z.1)) x a.2 in
    let first = F.takes bytes a.0 fits a.1 in
    let second = G.takes a.0.1 b.0 first.0.rest_fits b.1 in
    subst (λ (y : (A × B) × List ℕ). Takes bytes (s y.0.0 ++ t y.0.1) y.1 × (p y.0.0 ≡ true) × (q y.0.1 ≡ true)) b.2
    (Takes-then bytes (s a.0.0) a.0.1 (t b.0.0) b.0.1 first.0 second.0, first.1, second.1)

pub and_regrouped : (a b c : Bool) → (a && (b && c)) ≡ ((a && b) && c)
and_regrouped true b c = refl
and_regrouped false b c = refl

pub and_both : (b c : Bool) → b ≡ true → c ≡ true → (b && c) ≡ true
and_both b c p q = rw (p, q) refl

pub both_form : {A B : Type 0} (f : List ℕ → Front A) (s : A → List ℕ) (p : A → Bool) (g : List ℕ → Front B) (t : B → List ℕ) (q : B → Bool) → IsForm f s p → IsForm g t q
    → IsForm (both f g) (λ x. s x.0 ++ t x.1) (λ x. p x.0 && q x.1)
both_form f s p g t q F G = record {
  again = λ x rest e. both_again f s p g t q F G x.0 x.1 rest (and_left (p x.0) (q x.1) e) (and_right (p x.0) (q x.1) e);
  takes = λ bytes x fits e. let t = both_takes f s p g t q F G bytes x fits e in (t.0, and_both (p x.0.0) (q x.0.1) t.1 t.2);
}

-- the same where the second one passes always
pub both_free : {A B : Type 0} (f : List ℕ → Front A) (s : A → List ℕ) (p : A → Bool) (g : List ℕ → Front B) (t : B → List ℕ) → IsForm f s p → IsForm g t (λ _. true)
    → IsForm (both f g) (λ x. s x.0 ++ t x.1) (λ x. p x.0)
both_free f s p g t F G = record {
  again = λ x rest e. both_again f s p g t (λ _. true) F G x.0 x.1 rest e refl;
  takes = λ bytes x fits e. let t = both_takes f s p g t (λ _. true) F G bytes x fits e in (t.0, t.1);
}

-- ---- tests

pub test_passed : {A : Type 0} (b : Bool) (x y : A) → cond b (Some x) None ≡ Some y → (b ≡ true) × (x ≡ y)
test_passed true x y e = (refl, some_is x y e)
test_passed false x y e = absurd cc

kept_takes : {A : Type 0} (q : A → Bool) (f : List ℕ → Front A) (s : A → List ℕ) (p : A → Bool) → IsForm f s p
    → (bytes : List ℕ) (x : A × List ℕ) → AreBytes bytes → kept q f bytes ≡ Some x → Takes bytes (s x.0) x.1 × (q x.0 ≡ true)
kept_takes {A = A} q f s p F bytes x fits e =
    let a = bind_some (f bytes) (λ y. cond (q y.0) (Some y) None) x e in
    let t = test_passed (q a.0.0) a.0 x a.2 in
    subst (λ (y : A × List ℕ). Takes bytes (s y.0) y.1 × (q y.0 ≡ true)) t.1 ((F.takes bytes a.0 fits a.1).0, t.0)

pub kept_form : {A : Type 0} (q : A → Bool) (f : List ℕ → Front A) (s : A → List ℕ) (p : A → Bool) → IsForm f s p → ((a : A) → q a ≡ true → p a ≡ true) → IsForm (kept q f) s q
kept_form q f s p F weaker = record {
  again = λ a rest e. rw (F.again a rest (weaker a e), e) refl;
  takes = λ bytes x fits e. kept_takes q f s p F bytes x fits e;
}

-- ---- other things

mapped_takes : {A B : Type 0} (make : A → B) (back : B → A) (q : B → Bool) (f : List ℕ → Front A) (s : A → List ℕ) (p : A → Bool) → IsForm f s p
    → ((a : A) → p a ≡ true → (back (make a) ≡ a) × (q (make a) ≡ true))
    → (bytes : List ℕ) (x : B × List ℕ) → AreBytes bytes → mapped make f bytes ≡ Some x → Takes bytes (s (back x.0)) x.1 × (q x.0 ≡ true)
mapped_takes {B = B} make back q f s p F there bytes x fits e =
    let a = map_some (f bytes) (λ y. (make y.0, y.1)) x e in
    let t = F.takes bytes a.0 fits a.1 in
    let is = there a.0.0 t.1 in
    subst (λ (y : B × List ℕ). Takes bytes (s (back y.0)) y.1 × (q y.0 ≡ true)) a.2 (subst (λ (z : _). Takes bytes (s z) a.0.1) (sym is.0) t.0, is.1)

pub mapped_form : {A B : Type 0} (make : A → B) (back : B → A) (q : B → Bool) (f : List ℕ → Front A) (s : A → List ℕ) (p : A → Bool) → IsForm f s p
    → ((a : A) → p a ≡ true → (back (make a) ≡ a) × (q (make a) ≡ true)) → ((b : B) → q b ≡ true → (p (back b) ≡ true) × (make (back b) ≡ b))
    → IsForm (mapped make f) (λ b. s (back b)) q
mapped_form make back q f s p F there again = record {
  again = λ b rest e. let h = again b e in rw (F.again (back b) rest h.0, h.1) refl;
  takes = λ bytes x fits e. mapped_takes make back q f s p F there bytes x fits e;
}

-- ---- codes

code_takes : {A : Type 0} (meaning : ℕ → Option A) (byte : A → ℕ) (p : A → Bool) → ((n : ℕ) (a : A) → meaning n ≡ Some a → (n ≡ byte a) × (p a ≡ true))
    → (bytes : List ℕ) (x : A × List ℕ) → AreBytes bytes → front_code meaning bytes ≡ Some x → Takes bytes (byte x.0 ∷ []) x.1 × (p x.0 ≡ true)
code_takes {A = A} meaning byte p means bytes x fits e =
    let b = bind_some (front_byte bytes) (λ y. option_map (λ a. (a, y.1)) (meaning y.0)) x e in
    let a = map_some (meaning b.0.0) (λ z. (z, b.0.1)) x b.2 in
    let t = byte_takes bytes b.0 fits b.1 in
    let m = means b.0.0 a.0 a.1 in
    subst (λ (y : A × List ℕ). Takes bytes (byte y.0 ∷ []) y.1 × (p y.0 ≡ true)) a.2 (subst (λ (n : ℕ). Takes bytes (n ∷ []) b.0.1) m.0 t.0, m.1)

pub code_form : {A : Type 0} (meaning : ℕ → Option A) (byte : A → ℕ) (p : A → Bool) → ((n : ℕ) (a : A) → meaning n ≡ Some a → (n ≡ byte a) × (p a ≡ true))
    → ((a : A) → p a ≡ true → meaning (byte a) ≡ Some a) → IsForm (front_code meaning) (λ a. byte a ∷ []) p
code_form meaning byte p means again = record {
  again = λ a rest e. rw (again a e) refl;
  takes = λ bytes x fits e. code_takes meaning byte p means bytes x fits e;
}

-- ---- lists

each_again : {A : Type 0} (f : List ℕ → Front A) (s : A → List ℕ) (p : A → Bool) → IsForm f s p
    → (xs : List A) (rest : List ℕ) → list_all p xs ≡ true → front_each f (length xs) (flat_map s xs ++ rest) ≡ Some (xs, rest)
each_again f s p F [] rest e = refl
each_again f s p F (x ∷ xs) rest e =
    rw (
      append_assoc (s x) (flat_map s xs) rest,
      F.again x (flat_map s xs ++ rest) (and_left (p x) (list_all p xs) e),
      each_again f s p F xs rest (and_right (p x) (list_all p xs) e),
    ) refl

-- things that bytes spell one behind the other
pub record AreTaken {A : Type 0} (s : A → List ℕ) (p : A → Bool) (n : ℕ) (bytes : List ℕ) (xs : List A) (rest : List ℕ) : Type 0 where
  pub takes : Takes bytes (flat_map s xs) rest
  pub len : length xs ≡ n
  pub pass : list_all p xs ≡ true

each_takes : {A : Type 0} (f : List ℕ → Front A) (s : A → List ℕ) (p : A → Bool) → IsForm f s p
    → (n : ℕ) (bytes : List ℕ) (x : List A × List ℕ) → AreBytes bytes → front_each f n bytes ≡ Some x → AreTaken s p n bytes x.0 x.1
each_takes {A = A} f s p F zero bytes x fits e =
    subst (λ (y : List A × List ℕ). AreTaken s p 0 bytes y.0 y.1) (some_is ([], bytes) x e)
    (record { takes = record { parts = refl; rest_fits = fits }; len = refl; pass = refl })
each_takes {A = A} f s p F (suc n) bytes x fits e =
    let a = bind_some (f bytes) (λ y. option_map (λ z. (y.0 ∷ z.0, z.1)) (front_each f n y.1)) x e in
    let b = map_some (front_each f n a.0.1) (λ z. (a.0.0 ∷ z.0, z.1)) x a.2 in
    let first = F.takes bytes a.0 fits a.1 in
    let later = each_takes f s p F n a.0.1 b.0 first.0.rest_fits b.1 in
    subst (λ (y : List A × List ℕ). AreTaken s p (suc n) bytes y.0 y.1) b.2
    (record {
      takes = Takes-then bytes (s a.0.0) a.0.1 (flat_map s b.0.0) b.0.1 first.0 later.takes;
      len = ap suc later.len;
      pass = and_both (p a.0.0) (list_all p b.0.0) first.1 later.pass;
    })

list_takes : {A : Type 0} (most : ℕ) (f : List ℕ → Front A) (s : A → List ℕ) (p : A → Bool) → IsForm f s p
    → (bytes : List ℕ) (x : List A × List ℕ) → AreBytes bytes → front_list most f bytes ≡ Some x
    → Takes bytes (length x.0 ∷ flat_map s x.0) x.1 × ((leb (length x.0) most && list_all p x.0) ≡ true)
list_takes most f s p F bytes x fits e =
    let n = bind_some (front_byte bytes) (λ y. cond (leb y.0 most) (front_each f y.0 y.1) None) x e in
    let b = byte_takes bytes n.0 fits n.1 in
    let few = few_are (leb n.0.0 most) (front_each f n.0.0 n.0.1) x n.2 in
    let each = each_takes f s p F n.0.0 n.0.1 x b.0.rest_fits few.1 in
    let both = Takes-then bytes (n.0.0 ∷ []) n.0.1 (flat_map s x.0) x.1 b.0 each.takes in (
      subst (λ (m : ℕ). Takes bytes (m ∷ flat_map s x.0) x.1) (sym each.len) both,
      and_both (leb (length x.0) most) (list_all p x.0) (ap (λ (m : ℕ). leb m most) each.len ∙ few.0) each.pass,
    )
  where
    few_are : {B : Type 0} (b : Bool) (o : Option B) (y : B) → cond b o None ≡ Some y → (b ≡ true) × (o ≡ Some y)
    few_are true o y e = (refl, e)
    few_are false o y e = absurd cc

pub list_form : {A : Type 0} (most : ℕ) (f : List ℕ → Front A) (s : A → List ℕ) (p : A → Bool) → IsForm f s p
    → IsForm (front_list most f) (λ xs. length xs ∷ flat_map s xs) (λ xs. leb (length xs) most && list_all p xs)
list_form most f s p F = record {
  again = λ xs rest e. rw (and_left (leb (length xs) most) (list_all p xs) e) (each_again f s p F xs rest (and_right (leb (length xs) most) (list_all p xs) e));
  takes = λ bytes x fits e. list_takes most f s p F bytes x fits e;
}

-- ---- what stands alone

pub alone_again : {A : Type 0} (f : List ℕ → Front A) (s : A → List ℕ) (p : A → Bool) → IsForm f s p → (a : A) → p a ≡ true → alone f (s a) ≡ Some a
alone_again f s p F a e =
    let is : f (s a) ≡ Some (a, []) = ap f (sym (append-nil (s a))) ∙ F.again a [] e in
    rw is refl

ended : {A : Type 0} (a : A) (rest : List ℕ) (b : A) → at_end a rest ≡ Some b → (rest ≡ []) × (a ≡ b)
ended a [] b e = (refl, some_is a b e)
ended a (r ∷ rest) b e = absurd cc

pub alone_takes : {A : Type 0} (f : List ℕ → Front A) (s : A → List ℕ) (p : A → Bool) → IsForm f s p
    → (bytes : List ℕ) (a : A) → AreBytes bytes → alone f bytes ≡ Some a → (bytes ≡ s a) × (p a ≡ true)
alone_takes {A = A} f s p F bytes a fits e =
    let x = bind_some (f bytes) (λ y. at_end y.0 y.1) a e in
    let t = F.takes bytes x.0 fits x.1 in
    let d = ended x.0.0 x.0.1 a x.2 in
    subst (λ (b : A). (bytes ≡ s b) × (p b ≡ true)) d.1 (t.0.parts ∙ ap (λ (r : List ℕ). s x.0.0 ++ r) d.0 ∙ append-nil (s x.0.0), t.1)

-- ---- what is read in parts

pub both_read : {A B : Type 0} (f : List ℕ → Front A) (g : List ℕ → Front B) (bytes : List ℕ) (a : A) (rest : List ℕ) (b : B) (more : List ℕ)
    → Some (a, rest) ≡ f bytes → Some (b, more) ≡ g rest → Some ((a, b), more) ≡ both f g bytes
both_read f g bytes a rest b more e h = rw (sym e, sym h) refl

-- two things with something behind them do not stand alone
pub not_alone : {A B : Type 0} (f : List ℕ → Front A) (g : List ℕ → Front B) (bytes : List ℕ) (a : A) (rest : List ℕ) (b : B) (more : List ℕ)
    → Some (a, rest) ≡ f bytes → Some (b, more) ≡ g rest → 1 ≤ length more → None ≡ alone (both f g) bytes
not_alone f g bytes a rest b [] e h l = absurd (omega (arith, l))
not_alone f g bytes a rest b (x ∷ more) e h l = rw (sym e, sym h) refl
