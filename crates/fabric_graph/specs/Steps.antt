-- The steps of a graph, made of links: each usable link is a step both ways, and the steps stand by the place that they leave.
use Rattle.std.specs.Prelude.{ℕ, zero, suc, ◌+◌, ◌==◌, max, cond, List, [], ◌∷◌, ◌++◌, None, Some, option_and_then}
use Rattle.std.specs.declared.option.Option.{Option}
use Rattle.std.specs.List.{flat_map}
use Rattle.std.specs.Option.{option_map, option_map_or}
use Rattle.ctrl_model.specs.declared.kinds.RouterSeen.{RouterSeen}
use Rattle.ctrl_model.specs.Networks.{link_cost}
use Rattle.ctrl_model.specs.Numbered.{at}
use Rattle.ctrl_model.specs.State.{Link}
use Rattle.path_certificate.specs.declared.graph.Step.{Step}
use Rattle.path_certificate.specs.declared.listing.StepEnd.TheVariants as step_end
use Rattle.path_certificate.specs.StepLists.{standing}
use Rattle.fabric_graph.specs.declared.steps.End.{End}

-- The end of a link one place further on.
abbrev pub further : End → End
further e = record e { place = suc e.place }

-- The end of a link at a router of a place: the place, and what a path pays to enter the router. None where it is not connected.
abbrev pub own_end : ℕ → ℕ → RouterSeen → Option End
own_end least place r = cond r.connected (Some (record { place = place; entry = max r.cost least })) None

-- The end of a link at the router of a number. None where the router is absent or not connected.
abbrev pub end_at : ℕ → ℕ → List RouterSeen → Option End
end_at least n [] = None
end_at least n (r ∷ routers) = cond (r.no.0 == n) (own_end least 0 r) (option_map further (end_at least n routers))

-- The step over a link of a number and a cost from one end to the other.
abbrev pub step_between : ℕ → ℕ → End → End → Step
step_between n cost a b = record { from = a.place; to = b.place; link = n; cost = cost + b.entry }

-- The two steps over a link between its ends.
abbrev pub two_steps : ℕ → ℕ → End → End → List Step
two_steps n cost a b = step_between n cost a b ∷ step_between n cost b a ∷ []

-- The two ends of a usable link. None where the link is not usable.
abbrev pub link_ends : List RouterSeen → ℕ → Link → Option (End × End)
link_ends routers least l =
    cond l.up (option_and_then (λ a. option_map (λ b. (a, b)) (end_at least l.b routers)) (end_at least l.a routers)) None

-- The steps over a link: two if it is usable, else none.
abbrev pub link_steps : List RouterSeen → ℕ → ℕ × Link → List Step
link_steps routers least x = option_map_or (λ (p : End × End). two_steps x.0 (link_cost x.1) p.0 p.1) (link_ends routers least x.1) []

-- The steps over links, in the order of the links.
abbrev pub all_steps : List RouterSeen → ℕ → List (ℕ × Link) → List Step
all_steps routers least links = flat_map (link_steps routers least) links

-- The steps over the link of a number, if it is there.
abbrev pub steps_at : List RouterSeen → ℕ → List (ℕ × Link) → ℕ → List Step
steps_at routers least links n = option_map_or (λ (l : Link). link_steps routers least (n, l)) (at links n) []

-- Those of the steps that leave a place.
abbrev pub leaving : ℕ → List Step → List Step
leaving v steps = standing step_end.From v steps

-- Those of the steps that leave the places below a number, in the order of the places.
abbrev pub by_place : List Step → ℕ → List Step
by_place steps zero = []
by_place steps (suc n) = by_place steps n ++ leaving n steps
