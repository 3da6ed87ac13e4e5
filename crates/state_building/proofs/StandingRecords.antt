-- Records that stay: a state is settled exactly where each link, terminator and circuit of it stays.
use Rattle.std.proofs.Common.{◌≡◌, ℕ, Bool, true, List, [], ◌∷◌, refl, sym, ◌∙◌, ap, subst}
use Rattle.std.proofs.lemmas.Bool.{and_parts, cond-true}
use Rattle.std.specs.List.{filter, list_all}
use Rattle.ctrl_model.specs.declared.kinds.Kind.{Kind}
use Rattle.ctrl_model.specs.declared.kinds.Kind.TheVariants as kind
use Rattle.ctrl_model.specs.Membership.{Among}
use Rattle.ctrl_model.specs.Networks.{network_of}
use Rattle.ctrl_model.specs.Numbered.{Table, map_each, numbers, with_each, with_kept}
use Rattle.ctrl_model.specs.State.{State, Link, Terminator}
use Rattle.ctrl_model.specs.Tables.{Record, table}
use Rattle.ctrl_model.specs.Settling.{repair, settle_links, settle_terminators, link_stays, terminator_stays, stays_in, rerouted}
use Rattle.ctrl_model.proofs.Members.{list_all-from_among, list_all-among, by_filter}
use Rattle.model_laws.proofs.SettleLaws.{rerouted-stays}
use Rattle.state_building.proofs.GrownStates.{Grown, link_still, terminator_still, circuit_still}

-- whether a record of a kind stays in a state
abbrev pub stays : (k : Kind) → State → ℕ × Record k → Bool
stays kind.Link s row = link_stays s row
stays kind.Terminator s row = terminator_stays s row
stays kind.Circuit s row = stays_in s row
stays k s row = true

-- some records stay in a state
abbrev pub AllStay : (k : Kind) → State → List (ℕ × Record k) → Type 0
AllStay k s rows = list_all (stays k s) rows ≡ true

-- each record of a state stays in it
abbrev pub IsStanding : State → Type 0
IsStanding s = (k : Kind) → AllStay k s (table k s).rows

pub stays_still : (s u : State) → Grown s u → (k : Kind) (row : ℕ × Record k) → stays k s row ≡ true → stays k u row ≡ true
stays_still s u grown kind.Link row e = link_still s u grown row e
stays_still s u grown kind.Terminator row e = terminator_still s u grown row e
stays_still s u grown kind.Circuit row e = circuit_still s u grown row e
stays_still s u grown k row e = e

pub all_still : (s u : State) → Grown s u → (k : Kind) (rows : List (ℕ × Record k)) → AllStay k s rows → AllStay k u rows
all_still s u grown k rows e = list_all-from_among (stays k u) rows (λ row m. stays_still s u grown k row (list_all-among (stays k s) rows row e m))

-- ---- what a filter keeps whole

all_pass : {X : Type 0} (p : X → Bool) (xs ys : List X) → filter p xs ≡ ys → list_all p ys ≡ true
all_pass p xs ys e = list_all-from_among p ys (λ x m. by_filter p xs x (subst (λ zs. Among x zs) (sym e) m) (λ _ q. q))

all_kept : {X : Type 0} (p : X → Bool) (xs : List X) → list_all p xs ≡ true → filter p xs ≡ xs
all_kept p [] e = refl
all_kept p (x ∷ xs) e =
    let both = and_parts (p x) (list_all p xs) e in
    cond-true (p x) (x ∷ filter p xs) (filter p xs) both.0 ∙ ap (λ ys. x ∷ ys) (all_kept p xs both.1)

with_kept-all : {R : Type 0} (p : ℕ × R → Bool) (t : Table R) → list_all p t.rows ≡ true → with_kept p t ≡ t
with_kept-all p t e = ap (λ rows. record t { rows = rows }) (all_kept p t.rows e)

-- a change that leaves what passes a test leaves a table that passes it
with_each-still : {R : Type 0} (p : ℕ × R → Bool) (f : R → R) → ((x : ℕ × R) → p x ≡ true → f x.1 ≡ x.1) → (t : Table R) → list_all p t.rows ≡ true → with_each f t ≡ t
with_each-still {R} p f same t e = ap (λ rows. record t { rows = rows }) (each t.rows e)
  where
    each : (xs : List (ℕ × R)) → list_all p xs ≡ true → map_each f xs ≡ xs
    each [] e = refl
    each (x ∷ xs) e =
        let both = and_parts (p x) (list_all p xs) e in
        ap (λ r. (x.0, r) ∷ map_each f xs) (same x both.0) ∙ ap (λ ys. x ∷ ys) (each xs both.1)

-- ---- settled states

pub IsStanding-repaired : (s : State) → repair s ≡ s → IsStanding s
IsStanding-repaired s e kind.Link = all_pass (link_stays s) s.links.rows s.links.rows (ap (λ (t : State). t.links.rows) e)
IsStanding-repaired s e kind.Terminator = all_pass (terminator_stays s) s.terminators.rows s.terminators.rows (ap (λ (t : State). t.terminators.rows) e)
IsStanding-repaired s e kind.Circuit =
    let before : s ≡ settle_terminators (settle_links s) = ap (λ (t : State). record t { circuits = s.circuits }) (sym e) in
    let judged = map_each (rerouted (network_of (settle_terminators (settle_links s)))) s.circuits.rows in
    all_pass (stays_in s) judged s.circuits.rows (ap (λ t. filter (stays_in t) judged) before ∙ ap (λ (t : State). t.circuits.rows) e)
IsStanding-repaired s e k = list_all-from_among _ (table k s).rows (λ row m. refl)

-- the state with these links and terminators, and those of its circuits that they keep, rerouted where that is needed
abbrev with_ends : State → Table Link → Table Terminator → State
with_ends s links terminators = record s {
  links = links;
  terminators = terminators;
  circuits = with_kept (stays_in (record s { links = links; terminators = terminators })) (with_each (rerouted (network_of (record s { links = links; terminators = terminators }))) s.circuits);
}

pub repaired-standing : (s : State) → IsStanding s → repair s ≡ s
repaired-standing s stand =
    ap (λ links. with_ends s links (with_kept (terminator_stays s) s.terminators)) (with_kept-all (link_stays s) s.links (stand kind.Link))
    ∙ ap (λ terminators. with_ends s s.links terminators) (with_kept-all (terminator_stays s) s.terminators (stand kind.Terminator))
    ∙ ap (λ circuits. record s { circuits = with_kept (stays_in s) circuits }) (with_each-still (stays_in s) (rerouted (network_of s))
    (rerouted-stays (network_of s) (numbers s.identities.rows) (numbers s.services.rows)) s.circuits (stand kind.Circuit))
    ∙ ap (λ circuits. record s { circuits = circuits }) (with_kept-all (stays_in s) s.circuits (stand kind.Circuit))
