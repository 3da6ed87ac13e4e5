-- What is written of lists and objects, one part at a time.
use Rattle.std.proofs.Common.{◌≡◌, ℕ, ◌+◌, ◌<◌, ◌≤◌, Bool, true, false, List, [], ◌∷◌, ◌++◌, length, get_or, map, take, None, Some, refl, sym, ap, ◌∙◌, subst, arith, append_assoc, append-nil, length-append}
use Rattle.std.proofs.lemmas.List.{take_more}
use Rattle.std.proofs.lemmas.Grind.{flat_map-append}
use Rattle.std.specs.declared.option.Option.{Option}
use Rattle.std.specs.List.{flat_map, AllByRecursion}
use Rattle.std.specs.Option.{option_map_or}
use Rattle.json.specs.Token.{Token, begin_array, end_array, begin_object, end_object}
use Rattle.json.specs.Tree.{items_tokens, members_tokens}
use Rattle.json.specs.Print.{print, print_from}
use Rattle.serde_json.proofs.Texts.{print-outline}
use Rattle.serde_json.specs.Data.{Data, array, object, string}
use Rattle.serde_json.specs.View.{items_of}
use Rattle.serde_json.specs.Written.{compact_text, comma_if, members_text, items_outline, members_outline}
use Rattle.ctrl_model.specs.declared.replies.Reply.{Reply}
use Rattle.reply_codec.specs.declared.members.Member.{Member}
use Rattle.reply_codec.specs.ReplyBody.{reply_object, reply_body}
use Rattle.reply_codec.specs.ReplyTokens.{tokens_of, reply_tokens, said, most, member_tokens, members_of, most_of}
use Rattle.reply_codec.proofs.TextLengths.{length-string, length-comma}

-- ---- the tokens

items_by : {X : Type 0} (f : X → Data) (xs : List X) → items_tokens (items_outline (items_of (map f xs))) ≡ flat_map (λ x. tokens_of (f x)) xs ++ end_array ∷ []
items_by f [] = refl
items_by f (x ∷ xs) =
    ap (λ ts. tokens_of (f x) ++ ts) (items_by f xs) ∙ sym (append_assoc (tokens_of (f x)) (flat_map (λ y. tokens_of (f y)) xs) (end_array ∷ []))

-- those of a list are those of its items, between brackets
pub tokens_of_list : {X : Type 0} (f : X → Data) (xs : List X) → tokens_of (array (items_of (map f xs))) ≡ begin_array ∷ (flat_map (λ x. tokens_of (f x)) xs ++ end_array ∷ [])
tokens_of_list f xs = ap (λ ts. begin_array ∷ ts) (items_by f xs)

members_by : (ms : List Member) → members_tokens (members_outline (members_of ms)) ≡ flat_map member_tokens ms ++ end_object ∷ []
members_by [] = refl
members_by (m ∷ ms) =
    ap (λ ts. member_tokens m ++ ts) (members_by ms) ∙ sym (append_assoc (member_tokens m) (flat_map member_tokens ms) (end_object ∷ []))

-- those of an object are those of its members, between brackets
pub tokens_of_object : (ms : List Member) → tokens_of (object (members_of ms)) ≡ begin_object ∷ (flat_map member_tokens ms ++ end_object ∷ [])
tokens_of_object ms = ap (λ ts. begin_object ∷ ts) (members_by ms)

-- one part more is written
pub written_more : {X : Type 0} (f : X → List Token) (xs : List X) (i : ℕ) (x : X) (start old new : List Token) → i < length xs
    → new ≡ old ++ f (get_or xs i x) → old ≡ start ++ flat_map f (take i xs) → new ≡ start ++ flat_map f (take (i + 1) xs)
written_more f xs i x start old new h one before =
    one ∙ ap (λ ts. ts ++ f (get_or xs i x)) before ∙ append_assoc start (flat_map f (take i xs)) (f (get_or xs i x))
    ∙ ap (λ ts. start ++ ts) (sym (ap (flat_map f) (take_more xs i x h) ∙ flat_map-append f (take i xs) (get_or xs i x ∷ []) ∙ ap (λ ts. flat_map f (take i xs) ++ ts) (append-nil (f (get_or xs i x)))))

-- all parts between an opening and a closing token
pub written_whole : (first last : Token) (parts old opened filled closed : List Token) → opened ≡ old ++ first ∷ [] → filled ≡ opened ++ parts → closed ≡ filled ++ last ∷ []
    → closed ≡ old ++ (first ∷ (parts ++ last ∷ []))
written_whole first last parts old opened filled closed a b c =
    c ∙ ap (λ ts. ts ++ last ∷ []) (b ∙ ap (λ ts. ts ++ parts) a) ∙ append_assoc (old ++ first ∷ []) parts (last ∷ []) ∙ append_assoc old (first ∷ []) (parts ++ last ∷ [])

-- two members of an object
pub written_entry : (first last k l : Token) (t u old w₀ w₁ w₂ w₃ w₄ w₅ : List Token) → w₀ ≡ old ++ first ∷ [] → w₁ ≡ w₀ ++ k ∷ [] → w₂ ≡ w₁ ++ t → w₃ ≡ w₂ ++ l ∷ [] → w₄ ≡ w₃ ++ u → w₅ ≡ w₄ ++ last ∷ []
    → w₅ ≡ old ++ (first ∷ k ∷ (t ++ (l ∷ (u ++ last ∷ []))))
written_entry first last k l t u old w₀ w₁ w₂ w₃ w₄ w₅ e₀ e₁ e₂ e₃ e₄ e₅ =
    e₅ ∙ ap (λ w. w ++ last ∷ []) (e₄ ∙ ap (λ w. w ++ u) (e₃ ∙ ap (λ w. w ++ l ∷ []) (e₂ ∙ ap (λ w. w ++ t) (e₁ ∙ ap (λ w. w ++ k ∷ []) e₀)))) ∙ shape
  where
    shape : (((((old ++ first ∷ []) ++ k ∷ []) ++ t) ++ l ∷ []) ++ u) ++ last ∷ [] ≡ old ++ (first ∷ k ∷ (t ++ (l ∷ (u ++ last ∷ []))))
    shape = simp append_assoc

-- the text of the tokens of a reply is its body
pub print-reply : (r : Reply) → print (reply_tokens r) ≡ reply_body r
unfolding print_from
print-reply r = by (reply_object r)
  where
    by : (o : Option Data) → print (option_map_or tokens_of o []) ≡ option_map_or compact_text o []
    by None = refl
    by (Some d) = print-outline d

-- ---- how long the text of an object is

-- the text of a member's value keeps its bound
abbrev pub IsShort : Member → Type 0
IsShort m = length (compact_text (said m.1)) ≤ most m.1

all_more : {X : Type 0} (P : X → Type 0) (xs : List X) (x : X) → AllByRecursion P xs → P x → AllByRecursion P (xs ++ x ∷ [])
all_more P [] x all one = (one, tt)
all_more P (y ∷ ys) x all one = (all.0, all_more P ys x all.1 one)

-- all members up to the next one are short
pub short_more : (ms : List Member) (i : ℕ) (m : Member) → i < length ms → IsShort (get_or ms i m) → AllByRecursion IsShort (take i ms) → AllByRecursion IsShort (take (i + 1) ms)
short_more ms i m h one all = subst (AllByRecursion IsShort) (sym (take_more ms i m h)) (all_more IsShort (take i ms) (get_or ms i m) all one)

members_short : (later : Bool) (ms : List Member) → AllByRecursion IsShort ms → length (members_text later (members_of ms)) + 1 ≤ most_of ms
members_short later [] all = omega arith
members_short later (m ∷ ms) all =
    omega (
      arith,
      members_short true ms all.1,
      all.0,
      length-comma later,
      length-string m.0.now,
      length-append (comma_if later) (compact_text (string m.0.now) ++ 58 ∷ (compact_text (said m.1) ++ members_text true (members_of ms))),
      length-append (compact_text (string m.0.now)) (58 ∷ (compact_text (said m.1) ++ members_text true (members_of ms))),
      length-append (compact_text (said m.1)) (members_text true (members_of ms)),
    )

-- so is their object
pub length-object : (ms : List Member) → AllByRecursion IsShort ms → length (compact_text (object (members_of ms))) ≤ most_of ms
length-object ms all = omega (arith, members_short false ms all)
