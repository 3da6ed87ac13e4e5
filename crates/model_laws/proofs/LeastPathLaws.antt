-- Laws on the least path of a network: which one it is, when there is none, and what becomes of a circuit that is rerouted.
use Rattle.std.proofs.Common.{◌≡◌, ℕ, Bool, true, false, cond, ◌↔◌, List, [], ◌∷◌, Option, None, Some, refl, sym, ◌∙◌, ap}
use Rattle.std.proofs.lemmas.Bool.{false≢true, false_from_ne_true, cond-true}
use Rattle.std.specs.Option.{option_map_or}
use Rattle.ctrl_model.specs.Networks.{Network, is_path, paths, path_rank, least_path, IsLeastPath}
use Rattle.ctrl_model.specs.Numbered.{at}
use Rattle.ctrl_model.specs.State.{Circuit, Terminator}
use Rattle.ctrl_model.specs.Settling.{rerouted_to, rerouted}
use Rattle.model_laws.proofs.BestLaws.{IsFirst, RanksApart, same_rank, least_by-is, least_by-none}
use Rattle.model_laws.proofs.PathLaws.{paths-is_path}

-- the links of a rank
abbrev rest : List ℕ → List ℕ
rest [] = []
rest (x ∷ xs) = xs

-- paths of one rank are one
same_path : (w : Network) (r t : ℕ) → RanksApart (path_rank w r t)
same_path w r t a b f g = ap rest (same_rank (path_rank w r t) a b f g)

pub least_path-is : (w : Network) (r t : ℕ) (links : List ℕ) → (least_path w r t ≡ Some links) ↔ IsLeastPath w r t links
least_path-is w r t links =
    (λ e. is ((least_by-is (path_rank w r t) (same_path w r t) (paths w r t) links).0 e), λ k. (least_by-is (path_rank w r t) (same_path w r t) (paths w r t) links).1 (first k))
  where
    is : IsFirst (path_rank w r t) (paths w r t) links → IsLeastPath w r t links
    is f = record { is_a_path = (paths-is_path w r t links).0 f.0; first = λ other p. f.1 other ((paths-is_path w r t other).1 p) }

    first : IsLeastPath w r t links → IsFirst (path_rank w r t) (paths w r t) links
    first k = ((paths-is_path w r t links).1 k.is_a_path, λ other m. k.first other ((paths-is_path w r t other).0 m))

pub least_path-none : (w : Network) (r t : ℕ) → (least_path w r t ≡ None) ↔ ((links : List ℕ) → is_path w r links t ≡ false)
least_path-none w r t = (
  λ e links. false_from_ne_true (is_path w r links t) (λ p. (least_by-none (path_rank w r t) (paths w r t)).0 e links ((paths-is_path w r t links).1 p)),
  λ none. (least_by-none (path_rank w r t) (paths w r t)).1 (λ links m. false≢true (sym (none links) ∙ (paths-is_path w r t links).0 m)),
)

-- ---- a circuit that is rerouted

pub rerouted-found : (w : Network) (c : Circuit) (e : Terminator) → at w.terminators c.terminator ≡ Some e → rerouted w c ≡ rerouted_to w c e
rerouted-found w c e there = ap (λ o. option_map_or (rerouted_to w c) o c) there

pub rerouted-links : (w : Network) (c : Circuit) → record (rerouted w c) { links = c.links } ≡ c
rerouted-links w c = by (at w.terminators c.terminator)
  where
    over : (o : Option (List ℕ)) → record (option_map_or (λ links. record c { links = links }) o c) { links = c.links } ≡ c
    over None = refl
    over (Some links) = refl

    by : (o : Option Terminator) → record (option_map_or (rerouted_to w c) o c) { links = c.links } ≡ c
    by None = refl
    by (Some e) = reaches (is_path w c.ingress c.links e.router)
      where
        reaches : (b : Bool) → record (cond b c (option_map_or (λ links. record c { links = links }) (least_path w c.ingress e.router) c)) { links = c.links } ≡ c
        reaches true = refl
        reaches false = over (least_path w c.ingress e.router)

pub rerouted-still : (w : Network) (c : Circuit) (e : Terminator) → at w.terminators c.terminator ≡ Some e → is_path w c.ingress c.links e.router ≡ true → rerouted w c ≡ c
rerouted-still w c e there path = rerouted-found w c e there ∙ cond-true (is_path w c.ingress c.links e.router) c _ path

rerouted-fails : (w : Network) (c : Circuit) (e : Terminator) (o : Option (List ℕ)) → at w.terminators c.terminator ≡ Some e → is_path w c.ingress c.links e.router ≡ false
    → least_path w c.ingress e.router ≡ o → rerouted w c ≡ option_map_or (λ links. record c { links = links }) o c
rerouted-fails w c e o there fails least =
    rerouted-found w c e there
    ∙ (ap (λ b. cond b c (option_map_or (λ links. record c { links = links }) (least_path w c.ingress e.router) c)) fails
    ∙ ap (λ p. option_map_or (λ links. record c { links = links }) p c) least)

pub rerouted-least : (w : Network) (c : Circuit) (e : Terminator) (links : List ℕ) → at w.terminators c.terminator ≡ Some e → is_path w c.ingress c.links e.router ≡ false
    → IsLeastPath w c.ingress e.router links → rerouted w c ≡ record c { links = links }
rerouted-least w c e links there fails least = rerouted-fails w c e (Some links) there fails ((least_path-is w c.ingress e.router links).1 least)

pub rerouted-none : (w : Network) (c : Circuit) (e : Terminator) → at w.terminators c.terminator ≡ Some e → ((links : List ℕ) → is_path w c.ingress links e.router ≡ false) → rerouted w c ≡ c
rerouted-none w c e there none = rerouted-fails w c e None there (none c.links) ((least_path-none w c.ingress e.router).1 none)
