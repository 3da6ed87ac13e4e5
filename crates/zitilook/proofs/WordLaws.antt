-- Which words are names where something is asked of their records.
use Rattle.std.proofs.Common.{◌≡◌, ◌⊎◌, inl, inr, ℕ, Bool, true, false, List, [], ◌∷◌, Option, None, Some, refl, if◌then◌else◌, not, codes}
use Rattle.std.specs.Str.{bytes_eq}
use Rattle.ctrl_model.specs.NameForm.{is_name}
use Rattle.record_lines.specs.declared.listing.Listed.{Listed}
use Rattle.zitilook.specs.declared.words.Asked.{Asked}
use Rattle.zitilook.specs.declared.words.Asked.TheVariants as asked
use Rattle.zitilook.specs.declared.words.Page.TheVariants.{Help, Version}
use Rattle.zitilook.specs.declared.words.Place.TheVariants.{Second, Third}
use Rattle.zitilook.specs.Words.{asked_of, asked_pair, asked_triple, asked_who, asked_why, kind_of, listing, showing, word_at}

pub same_some : {A : Type 0} (x y : A) → Some x ≡ Some y → x ≡ y
same_some x y is = cc

pub none_some : {A : Type 0} (o : Option A) (x : A) → o ≡ None → o ≡ Some x → ⊥
none_some o x none some = let both : (o ≡ None) × (o ≡ Some x) = (none, some) in absurd cc

-- which branch was taken
branch : {A : Type 0} (b : Bool) (x y z : A) → (if b then x else y) ≡ z → ((b ≡ true) × (x ≡ z)) ⊎ ((b ≡ false) × (y ≡ z))
branch true x y z is = inl (refl, is)
branch false x y z is = inr (refl, is)

is_no : (b : Bool) → not b ≡ false → b ≡ true
is_no true is = refl
is_no false is = absurd cc

-- what follows where one word of some asks for something: it is the first of them, or one behind it
chosen : (P : Type 0) (b : Bool) (first asks : Asked) (rest : Option Asked) → (first ≡ asks → P) → (rest ≡ Some asks → P) → (if b then Some first else rest) ≡ Some asks → P
chosen P true first asks rest this other is = this (same_some first asks is)
chosen P false first asks rest this other is = other is

-- behind the last one there is none
none_left : (P : Type 0) (asks : Asked) → None ≡ Some asks → P
none_left P asks is = absurd (none_some None asks refl is)

-- ---- records of a kind, and pages, ask for no name

listing_no_why : (o : Option Listed) → listing o ≡ asked.Why → ⊥
listing_no_why None is = absurd cc
listing_no_why (Some l) is = absurd cc

listing_no_who : (o : Option Listed) → listing o ≡ asked.Who → ⊥
listing_no_who None is = absurd cc
listing_no_who (Some l) is = absurd cc

showing_no_why : (o : Option Listed) → showing o ≡ asked.Why → ⊥
showing_no_why None is = absurd cc
showing_no_why (Some l) is = absurd cc

showing_no_who : (o : Option Listed) → showing o ≡ asked.Who → ⊥
showing_no_who None is = absurd cc
showing_no_who (Some l) is = absurd cc

who_no_why : (service : List ℕ) → asked_who service ≡ asked.Why → ⊥
who_no_why service is = by (branch (is_name service) asked.Who (asked.Misnamed Second) asked.Why is)
  where
    by : ((is_name service ≡ true) × (asked.Who ≡ asked.Why)) ⊎ ((is_name service ≡ false) × (asked.Misnamed Second ≡ asked.Why)) → ⊥
    by (inl w) = let e : asked.Who ≡ asked.Why = w.1 in absurd cc
    by (inr w) = let e : asked.Misnamed Second ≡ asked.Why = w.1 in absurd cc

-- no one word asks for anything but a dump, a picture, what is wrong and the two pages
alone_no : (asks : Asked) (word : List ℕ) → (asked.Dump ≡ asks → ⊥) → (asked.Picture ≡ asks → ⊥) → (asked.Doctor ≡ asks → ⊥) → (asked.Tell Help ≡ asks → ⊥)
    → (asked.Tell Version ≡ asks → ⊥) → asked_of (word ∷ []) ≡ Some asks → ⊥
alone_no asks word no_dump no_picture no_doctor no_help no_version =
    let version : Option Asked = if bytes_eq word (codes "version") then Some (asked.Tell Version) else None in
    let help : Option Asked = if bytes_eq word (codes "help") then Some (asked.Tell Help) else version in
    let doctor : Option Asked = if bytes_eq word (codes "doctor") then Some asked.Doctor else help in
    let picture : Option Asked = if bytes_eq word (codes "picture") then Some asked.Picture else doctor in
    chosen ⊥ (bytes_eq word (codes "dump")) asked.Dump asks picture no_dump
    (chosen ⊥ (bytes_eq word (codes "picture")) asked.Picture asks doctor no_picture
    (chosen ⊥ (bytes_eq word (codes "doctor")) asked.Doctor asks help no_doctor
    (chosen ⊥ (bytes_eq word (codes "help")) (asked.Tell Help) asks version no_help
    (chosen ⊥ (bytes_eq word (codes "version")) (asked.Tell Version) asks None no_version (none_left ⊥ asks)))))

-- ---- why

why_words : (identity service : List ℕ) → asked_why identity service ≡ asked.Why → (is_name identity ≡ true) × (is_name service ≡ true)
why_words identity service is =
    first (branch (not (is_name identity)) (asked.Misnamed Second) (if not (is_name service) then asked.Misnamed Third else asked.Why) asked.Why is)
  where
    second : (is_name identity ≡ true) → ((not (is_name service) ≡ true) × (asked.Misnamed Third ≡ asked.Why)) ⊎ ((not (is_name service) ≡ false) × (asked.Why ≡ asked.Why))
        → (is_name identity ≡ true) × (is_name service ≡ true)
    second named (inl w) = let e : asked.Misnamed Third ≡ asked.Why = w.1 in absurd cc
    second named (inr w) = (named, is_no (is_name service) w.0)

    first : ((not (is_name identity) ≡ true) × (asked.Misnamed Second ≡ asked.Why))
        ⊎ ((not (is_name identity) ≡ false) × ((if not (is_name service) then asked.Misnamed Third else asked.Why) ≡ asked.Why))
        → (is_name identity ≡ true) × (is_name service ≡ true)
    first (inl w) = let e : asked.Misnamed Second ≡ asked.Why = w.1 in absurd cc
    first (inr w) = second (is_no (is_name identity) w.0) (branch (not (is_name service)) (asked.Misnamed Third) asked.Why asked.Why w.1)

-- no two words ask why
pair_no_why : (word next : List ℕ) → asked_pair word next ≡ Some asked.Why → ⊥
pair_no_why word next =
    let picture : Option Asked = if bytes_eq word (codes "picture") then Some asked.PictureOf else None in
    let who : Option Asked = if bytes_eq word (codes "who") then Some (asked_who next) else picture in
    chosen ⊥ (bytes_eq word (codes "list")) (listing (kind_of next)) asked.Why who (listing_no_why (kind_of next))
    (chosen ⊥ (bytes_eq word (codes "who")) (asked_who next) asked.Why picture (who_no_why next)
    (chosen ⊥ (bytes_eq word (codes "picture")) asked.PictureOf asked.Why None (λ (e : asked.PictureOf ≡ asked.Why). absurd cc) (none_left ⊥ asked.Why)))

triple_why : (word next third : List ℕ) → asked_triple word next third ≡ Some asked.Why → (is_name next ≡ true) × (is_name third ≡ true)
triple_why word next third =
    let why : Option Asked = if bytes_eq word (codes "why") then Some (asked_why next third) else None in
    chosen _ (bytes_eq word (codes "show")) (showing (kind_of next)) asked.Why why (λ e. absurd (showing_no_why (kind_of next) e))
    (chosen _ (bytes_eq word (codes "why")) (asked_why next third) asked.Why None (why_words next third) (none_left _ asked.Why))

pub why_names : (words : List (List ℕ)) → asked_of words ≡ Some asked.Why → (is_name (word_at Second words) ≡ true) × (is_name (word_at Third words) ≡ true)
why_names [] is = absurd (none_some None asked.Why refl is)
why_names (word ∷ []) is =
    absurd (alone_no asked.Why word (λ (e : asked.Dump ≡ asked.Why). absurd cc) (λ (e : asked.Picture ≡ asked.Why). absurd cc) (λ (e : asked.Doctor ≡ asked.Why). absurd cc)
    (λ (e : asked.Tell Help ≡ asked.Why). absurd cc) (λ (e : asked.Tell Version ≡ asked.Why). absurd cc) is)
why_names (word ∷ next ∷ []) is = absurd (pair_no_why word next is)
why_names (word ∷ next ∷ third ∷ []) is = triple_why word next third is
why_names (word ∷ next ∷ third ∷ fourth ∷ words) is = absurd (none_some None asked.Why refl is)

-- ---- who

who_word : (service : List ℕ) → asked_who service ≡ asked.Who → is_name service ≡ true
who_word service is = by (branch (is_name service) asked.Who (asked.Misnamed Second) asked.Who is)
  where
    by : ((is_name service ≡ true) × (asked.Who ≡ asked.Who)) ⊎ ((is_name service ≡ false) × (asked.Misnamed Second ≡ asked.Who)) → is_name service ≡ true
    by (inl w) = w.0
    by (inr w) = let e : asked.Misnamed Second ≡ asked.Who = w.1 in absurd cc

why_no_who : (identity service : List ℕ) → asked_why identity service ≡ asked.Who → ⊥
why_no_who identity service is =
    first (branch (not (is_name identity)) (asked.Misnamed Second) (if not (is_name service) then asked.Misnamed Third else asked.Why) asked.Who is)
  where
    second : ((not (is_name service) ≡ true) × (asked.Misnamed Third ≡ asked.Who)) ⊎ ((not (is_name service) ≡ false) × (asked.Why ≡ asked.Who)) → ⊥
    second (inl w) = let e : asked.Misnamed Third ≡ asked.Who = w.1 in absurd cc
    second (inr w) = let e : asked.Why ≡ asked.Who = w.1 in absurd cc

    first : ((not (is_name identity) ≡ true) × (asked.Misnamed Second ≡ asked.Who))
        ⊎ ((not (is_name identity) ≡ false) × ((if not (is_name service) then asked.Misnamed Third else asked.Why) ≡ asked.Who)) → ⊥
    first (inl w) = let e : asked.Misnamed Second ≡ asked.Who = w.1 in absurd cc
    first (inr w) = second (branch (not (is_name service)) (asked.Misnamed Third) asked.Why asked.Who w.1)

pair_who : (word next : List ℕ) → asked_pair word next ≡ Some asked.Who → is_name next ≡ true
pair_who word next =
    let picture : Option Asked = if bytes_eq word (codes "picture") then Some asked.PictureOf else None in
    let who : Option Asked = if bytes_eq word (codes "who") then Some (asked_who next) else picture in
    chosen _ (bytes_eq word (codes "list")) (listing (kind_of next)) asked.Who who (λ e. absurd (listing_no_who (kind_of next) e))
    (chosen _ (bytes_eq word (codes "who")) (asked_who next) asked.Who picture (who_word next)
    (chosen _ (bytes_eq word (codes "picture")) asked.PictureOf asked.Who None (λ (e : asked.PictureOf ≡ asked.Who). absurd cc) (none_left _ asked.Who)))

-- no three words ask who
triple_no_who : (word next third : List ℕ) → asked_triple word next third ≡ Some asked.Who → ⊥
triple_no_who word next third =
    let why : Option Asked = if bytes_eq word (codes "why") then Some (asked_why next third) else None in
    chosen ⊥ (bytes_eq word (codes "show")) (showing (kind_of next)) asked.Who why (showing_no_who (kind_of next))
    (chosen ⊥ (bytes_eq word (codes "why")) (asked_why next third) asked.Who None (why_no_who next third) (none_left ⊥ asked.Who))

pub who_name : (words : List (List ℕ)) → asked_of words ≡ Some asked.Who → is_name (word_at Second words) ≡ true
who_name [] is = absurd (none_some None asked.Who refl is)
who_name (word ∷ []) is =
    absurd (alone_no asked.Who word (λ (e : asked.Dump ≡ asked.Who). absurd cc) (λ (e : asked.Picture ≡ asked.Who). absurd cc) (λ (e : asked.Doctor ≡ asked.Who). absurd cc)
    (λ (e : asked.Tell Help ≡ asked.Who). absurd cc) (λ (e : asked.Tell Version ≡ asked.Who). absurd cc) is)
who_name (word ∷ next ∷ []) is = pair_who word next is
who_name (word ∷ next ∷ third ∷ []) is = absurd (triple_no_who word next third is)
who_name (word ∷ next ∷ third ∷ fourth ∷ words) is = absurd (none_some None asked.Who refl is)
