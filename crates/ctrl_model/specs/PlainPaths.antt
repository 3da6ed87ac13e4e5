-- What a path of the network is, in plain words: by the routers that it visits, in order (docs/RULES.md, "Links and paths").
use Rattle.std.specs.Prelude.{◌≡◌, ℕ, ⊤, Bool, true, false, ◌⊎◌, List, [], ◌∷◌, Some}
use Rattle.std.specs.Option.{option_map_or}
use Rattle.ctrl_model.specs.declared.kinds.RouterSeen.{RouterSeen}
use Rattle.ctrl_model.specs.Membership.{Among}
use Rattle.ctrl_model.specs.Numbered.{at}
use Rattle.ctrl_model.specs.State.{Link}
use Rattle.ctrl_model.specs.Networks.{Network, router_at, is_on, is_usable}

-- A link joins two routers, whichever end is which.
abbrev pub Joins : Link → ℕ → ℕ → Type 0
Joins link v x = ((link.a ≡ v) × (link.b ≡ x)) ⊎ ((link.b ≡ v) × (link.a ≡ x))

-- A numbered link leads from one router to another: it is present and usable, and joins the two.
pub record LeadsTo (w : Network) (l v x : ℕ) : Type 0 where
  pub link : Link
  pub present : at w.links l ≡ Some link
  pub usable : is_usable w link ≡ true
  pub joined : Joins link v x

-- The links lead from a router to each of some routers in turn: the first link to the first of them, the next link from
-- there to the next one, and so on, with as many links as routers.
abbrev pub LeadThrough : Network → List ℕ → ℕ → List ℕ → Type 0
LeadThrough w [] v [] = ⊤
LeadThrough w [] v (x ∷ xs) = ⊥
LeadThrough w (l ∷ ls) v [] = ⊥
LeadThrough w (l ∷ ls) v (x ∷ xs) = LeadsTo w l v x × LeadThrough w ls x xs

-- No number stands twice in the list.
abbrev pub NoneTwice : List ℕ → Type 0
NoneTwice [] = ⊤
NoneTwice (x ∷ xs) = (Among x xs → ⊥) × NoneTwice xs

-- The last of a router and those after it.
abbrev pub last_after : ℕ → List ℕ → ℕ
last_after v [] = v
last_after v (x ∷ xs) = last_after x xs

-- Whether a router is present and may be passed through.
abbrev pub may_be_passed : Network → ℕ → Bool
may_be_passed w x = option_map_or (λ (q : RouterSeen). q.through) (router_at w x) false

-- The links are a path from one router to another: both are present and connected, the links lead from the first router
-- through those after it, no router is visited twice, the last one is the other router, and each one strictly between the
-- two may be passed through.
pub record IsPlainPath (w : Network) (r : ℕ) (links : List ℕ) (t : ℕ) : Type 0 where
  pub after : List ℕ
  pub begins_on : is_on w r ≡ true
  pub ends_on : is_on w t ≡ true
  pub leads : LeadThrough w links r after
  pub once : NoneTwice (r ∷ after)
  pub ends : last_after r after ≡ t
  pub inside : (x : ℕ) → Among x after → (x ≡ t → ⊥) → may_be_passed w x ≡ true
