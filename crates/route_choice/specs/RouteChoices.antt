-- Choices between places where a path may begin and end, and the first of them (docs/PROMISES.md, "Paths of a graph").
use Rattle.std.specs.Prelude.{◌≡◌, ℕ, ◌+◌, ◌<◌, ◌≤◌, ◌==◌, Bool, cond, List, [], ◌∷◌, length, filter, slice_index, None, Some}
use Rattle.std.specs.declared.option.Option.{Option}
use Rattle.std.specs.Cmp.Lexicographic.{slice_cmp}
use Rattle.std.specs.Ordering.{nat_cmp, is_lt}
use Rattle.std.specs.List.{slice_index_or}
use Rattle.ctrl_model.specs.Claims.{no_path}
use Rattle.ctrl_model.specs.Choices.{place_of}
use Rattle.route_choice.specs.declared.choosing.Choice.{Choice}
use Rattle.route_choice.specs.declared.choosing.Entry.{Entry}
use Rattle.route_choice.specs.declared.choosing.Exit.{Exit}

-- The least costs to a place, of lists by place.
abbrev pub costs_to : List (List ℕ) → ℕ → List ℕ
costs_to costs place = slice_index_or costs place []

-- Least costs, of which each is small.
pub record AreSmall (places : ℕ) (p : List ℕ) : Type 0 where
  pub places_are : length p ≡ places
  pub small : (v : ℕ) → v < places → slice_index p v < no_path → slice_index p v ≤ 64022850

-- Those of the exits whose precedence stands at a place.
abbrev pub exits_at : ℕ → List Exit → List Exit
exits_at place exits = filter (λ o. place_of o.precedence == place) exits

-- What choices are compared by, from left to right.
abbrev pub key : Choice → List ℕ
key c = place_of c.precedence ∷ c.total ∷ c.terminator ∷ c.ingress ∷ c.from ∷ c.to ∷ []

-- Whether one choice comes before another.
abbrev pub is_before : Choice → Choice → Bool
is_before c d = is_lt (slice_cmp nat_cmp (key c) (key d))

-- The choice of an exit and an entry, if there is a path between them.
abbrev pub choice_at : List ℕ → Exit → Entry → Option Choice
choice_at p o x = cond (slice_index p x.place == no_path) None (Some (record {
  precedence = o.precedence;
  total = o.cost + slice_index p x.place;
  terminator = o.terminator.0;
  ingress = x.router.0;
  from = x.place;
  to = o.place;
}))

-- The first of two choices that may be there.
abbrev pub keep : Option Choice → Option Choice → Option Choice
keep best None = best
keep None (Some c) = Some c
keep (Some b) (Some c) = Some (cond (is_before c b) c b)

-- The first of a choice and those of one exit.
abbrev pub first_of : List ℕ → Exit → Option Choice → List Entry → Option Choice
first_of p o best [] = best
first_of p o best (x ∷ xs) = first_of p o (keep best (choice_at p o x)) xs

-- The first of a choice and those of some exits.
abbrev pub first_of_all : List (List ℕ) → List Entry → Option Choice → List Exit → Option Choice
first_of_all costs entries best [] = best
first_of_all costs entries best (o ∷ exits) = first_of_all costs entries (first_of (costs_to costs o.place) o best entries) exits
