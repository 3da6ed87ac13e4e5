-- What the values of a list say, one more at a time, and the texts of a side.
use Rattle.std.proofs.Common.{◌≡◌, ℕ, ◌+◌, ◌<◌, Bool, true, false, cond, List, [], ◌∷◌, ◌++◌, codes, length, get_or, map, take, refl, sym, ap, ap₂, ◌∙◌, append_assoc}
use Rattle.std.specs.List.{list_all}
use Rattle.std.proofs.lemmas.Bool.{false≢true}
use Rattle.std.proofs.lemmas.List.{map_more, map-append}
use Rattle.std.proofs.lemmas.List.Folds.{list_all_at}
use Rattle.serde_json.specs.Data.{array, string}
use Rattle.serde_json.specs.View.{items_of}
use Rattle.ctrl_model.specs.declared.kinds.Role.TheVariants as role
use Rattle.ctrl_model.specs.declared.kinds.Side.{Side}
use Rattle.role_expr.specs.RoleSpelling.{role_spelling}
use Rattle.command_bodies.specs.WrittenFields.{list_of}
use Rattle.command_bodies.specs.RoleEntries.{role_texts}

-- a value pushed for the element at the index, behind those that were there
pub pushed_behind : {V X D : Type 0} (g : V → D) (f : X → D) (start : List D) (vs ws : List V) (v : V) (xs ys : List X) (i : ℕ) (x : X) → ys ≡ xs → i < length ys
    → ws ≡ vs ++ v ∷ [] → g v ≡ f (get_or ys i x) → map g vs ≡ start ++ map f (take i xs) → map g ws ≡ start ++ map f (take (i + 1) xs)
pushed_behind g f start vs ws v xs ys i x same within e here before =
    ap (map g) e ∙ map-append g vs (v ∷ []) ∙ ap₂ (λ ds d. ds ++ d ∷ []) (before ∙ ap (λ zs. start ++ map f (take i zs)) (sym same)) here
    ∙ append_assoc start (map f (take i ys)) (f (get_or ys i x) ∷ [])
    ∙ ap (λ l. start ++ l) (sym (map_more f ys i x within)) ∙ ap (λ zs. start ++ map f (take (i + 1) zs)) same

-- a value pushed for the element at the index
pub pushed : {V X D : Type 0} (g : V → D) (f : X → D) (vs ws : List V) (v : V) (xs ys : List X) (i : ℕ) (x : X) → ys ≡ xs → i < length ys
    → ws ≡ vs ++ v ∷ [] → g v ≡ f (get_or ys i x) → map g vs ≡ map f (take i xs) → map g ws ≡ map f (take (i + 1) xs)
pushed g f vs ws v xs ys i x same within e here before = pushed_behind g f [] vs ws v xs ys i x same within e here before

-- an element of a list whose elements all pass a test
pub each_passes : {X : Type 0} (p : X → Bool) (xs : List X) (i : ℕ) (x : X) → i < length xs → list_all p xs ≡ true → p (get_or xs i x) ≡ true
each_passes p xs i x within all = by (p (get_or xs i x)) refl
  where
    by : (b : Bool) → p (get_or xs i x) ≡ b → p (get_or xs i x) ≡ true
    by true e = e
    by false e = absurd (false≢true (sym (list_all_at p xs i x within e) ∙ all))

-- a list of which nothing is asked
pub none_asked : {X : Type 0} (xs : List X) → list_all (λ _. true) xs ≡ true
none_asked [] = refl
none_asked (x ∷ xs) = none_asked xs

marked_ids : (ids : List (List ℕ)) → map (λ n. string n) (map role_spelling (map (λ n. role.Id n) ids)) ≡ map (λ n. string (codes "@" ++ n)) ids
marked_ids [] = refl
marked_ids (n ∷ ids) = ap (λ l. string (codes "@" ++ n) ∷ l) (marked_ids ids)

marked_attributes : (ns : List (List ℕ)) → map (λ n. string n) (map role_spelling (map (λ n. role.Attribute n) ns)) ≡ map (λ n. string (codes "#" ++ n)) ns
marked_attributes [] = refl
marked_attributes (n ∷ ns) = ap (λ l. string (codes "#" ++ n) ∷ l) (marked_attributes ns)

marked_side : (ids ns : List (List ℕ)) → map (λ n. string n) (map role_spelling (map (λ n. role.Id n) ids ++ map (λ n. role.Attribute n) ns))
    ≡ map (λ n. string (codes "@" ++ n)) ids ++ map (λ n. string (codes "#" ++ n)) ns
marked_side ids ns =
    ap (map (λ n. string n)) (map-append role_spelling (map (λ n. role.Id n) ids) (map (λ n. role.Attribute n) ns))
    ∙ map-append (λ n. string n) (map role_spelling (map (λ n. role.Id n) ids)) (map role_spelling (map (λ n. role.Attribute n) ns))
    ∙ ap₂ (λ l m. l ++ m) (marked_ids ids) (marked_attributes ns)

-- the role list of the side that is all
pub listed_all : (side : Side) → side.all ≡ true → list_of (λ t. string t) (role_texts side) ≡ list_of (λ t. string t) (codes "#all" ∷ [])
listed_all side is =
    ap (λ b. list_of (λ t. string t) (map role_spelling (cond b (role.All ∷ []) (map (λ n. role.Id n) side.ids ++ map (λ n. role.Attribute n) side.attributes)))) is

-- that of another: its names and then its attributes, each behind its mark
pub listed_some : (side : Side) → side.all ≡ false
    → list_of (λ t. string t) (role_texts side) ≡ array (items_of (map (λ n. string (codes "@" ++ n)) side.ids ++ map (λ n. string (codes "#" ++ n)) side.attributes))
listed_some side is =
    ap (λ b. list_of (λ t. string t) (map role_spelling (cond b (role.All ∷ []) (map (λ n. role.Id n) side.ids ++ map (λ n. role.Attribute n) side.attributes)))) is
    ∙ ap (λ l. array (items_of l)) (marked_side side.ids side.attributes)
