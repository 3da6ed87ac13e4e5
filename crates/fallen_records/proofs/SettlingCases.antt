-- What settles after each kind of change of a valid state.
use Rattle.std.proofs.Common.{◌≡◌, ℕ, ◌+◌, ◌||◌, Bool, true, false, cond, List, [], ◌∷◌, Option, None, Some, ◌⊎◌, refl, sym, ◌∙◌, ap}
use Rattle.std.proofs.lemmas.Bool.{false≢true}
use Rattle.std.proofs.lemmas.Option.{none-some}
use Rattle.std.specs.List.{filter}
use Rattle.std.specs.Option.{option_map_or}
use Rattle.ctrl_model.specs.declared.kinds.Kind.{Kind}
use Rattle.ctrl_model.specs.declared.kinds.Kind.TheVariants as kind
use Rattle.ctrl_model.specs.Membership.{Among}
use Rattle.ctrl_model.specs.Numbered.{at, numbers, with_last, Between}
use Rattle.ctrl_model.specs.Settling.{link_stays, terminator_stays, stays_in, settle_links, settle_terminators}
use Rattle.ctrl_model.specs.State.{State, Entity, Router, Link, Terminator, Circuit}
use Rattle.ctrl_model.specs.ValidState.{ValidState}
use Rattle.ctrl_model.specs.Walks.{is_among}
use Rattle.circuits.specs.LostCircuits.{names_entity, goes_over, needs}
use Rattle.ctrl_model.proofs.NumberedLaws.{Between-with_last}
use Rattle.fallen_records.proofs.EntitiesLeft.{Left, EndsHold, left_held, link_still, no_link_falls, term_still, no_term_falls}
use Rattle.fallen_records.proofs.FailingRows.{last_fails}
use Rattle.fallen_records.specs.FallenRecords.{Falls}
use Rattle.fallen_records.proofs.FallenCircuits.{circuits_fall, no_circuit_falls}
use Rattle.fallen_records.proofs.HeldRows.{Held, AllStood, no_number, held_same, held_last, stood_same}
use Rattle.fallen_records.proofs.SettledRows.{each_link, each_terminator, each_circuit, same_so_far}
use Rattle.fallen_records.proofs.TurnedStates.{Any, RouterHolds, LinkHolds, TermHolds, Turns}

pub any : {R : Type 0} (r : R) → Any r r
any r = tt

pub router_itself : (r : Router) → RouterHolds r r
router_itself r = (λ e. e, λ e. e)

pub link_itself : (k : Link) → LinkHolds k k
link_itself k = (refl, refl, λ e. e)

pub term_itself : (e : Terminator) → TermHolds e e
term_itself e = (refl, refl, refl)

pub ends_itself : (k : Link) → EndsHold k k
ends_itself k = (refl, refl)

-- the links and the terminators of a valid state are in order
pub links_between : (s : State) → ValidState s → Between 1 s.links.next s.links.rows
links_between s v = (v.kinds kind.Link).numbers.ordered

pub terms_between : (s : State) → ValidState s → Between 1 s.terminators.next s.terminators.rows
terms_between s v = (v.kinds kind.Terminator).numbers.ordered

-- ---- changes after which each identity, service and router is there

-- each identity, each service and each router is there; a router is connected if it was and passed through if it was, but for those
-- that are off
pub record KeepsRows (off : ℕ → Bool) (is js vs ws : List (ℕ × Entity)) (rs qs : List (ℕ × Router)) : Type 0 where
  pub identities : Held {R = Entity} Any no_number is js
  pub services : Held {R = Entity} Any no_number vs ws
  pub routers : Held {R = Router} Any no_number rs qs
  pub on : Held RouterHolds off rs qs
  pub off_now : (n : ℕ) (r : Router) → off n ≡ true → at qs n ≡ Some r → r.connected ≡ false

abbrev pub Keeps : (ℕ → Bool) → State → State → Type 0
Keeps off s t = KeepsRows off s.identities.rows t.identities.rows s.services.rows t.services.rows s.routers.rows t.routers.rows

-- the links of some numbers are gone or cannot be used, and the others hold
pub record LosesRows (off : ℕ → Bool) (links : List ℕ) (ks qs : List (ℕ × Link)) : Type 0 where
  pub high : ℕ
  pub ordered : Between 1 high qs
  pub held : Held LinkHolds (λ l. is_among l links) ks qs
  pub stood : AllStood EndsHold ks qs
  pub on : (l : ℕ) (k : Link) → is_among l links ≡ false → at ks l ≡ Some k → (off k.a ≡ false) × (off k.b ≡ false)
  pub lost : (l : ℕ) (k : Link) → is_among l links ≡ true → at qs l ≡ Some k → (k.up ≡ false) ⊎ ((off k.a ≡ true) ⊎ (off k.b ≡ true))

abbrev pub LosesLinks : (ℕ → Bool) → List ℕ → State → State → Type 0
LosesLinks off links s t = LosesRows off links s.links.rows t.links.rows

-- the terminators of some numbers are gone, and the others hold
pub record LosesEnds (terminators : List ℕ) (es fs : List (ℕ × Terminator)) : Type 0 where
  pub high : ℕ
  pub ordered : Between 1 high fs
  pub held : Held TermHolds (λ n. is_among n terminators) es fs
  pub stood : AllStood TermHolds es fs
  pub lost : (n : ℕ) → is_among n terminators ≡ true → at fs n ≡ None

abbrev pub LosesTerms : List ℕ → State → State → Type 0
LosesTerms terminators s t = LosesEnds terminators s.terminators.rows t.terminators.rows

module _ (s t : State) (v : ValidState s) where
  module _ (off : ℕ → Bool) (keeps : Keeps off s t) where
    identities_left : Left no_number s.identities.rows t.identities.rows
    identities_left = left_held {R = Entity} Any s.identities.rows t.identities.rows keeps.identities

    services_left : Left no_number s.services.rows t.services.rows
    services_left = left_held {R = Entity} Any s.services.rows t.services.rows keeps.services

    routers_left : Left no_number s.routers.rows t.routers.rows
    routers_left = left_held {R = Router} Any s.routers.rows t.routers.rows keeps.routers

    pub turns_kept : (links terminators : List ℕ)
        → (hl : ℕ) → Between 1 hl t.links.rows → Held LinkHolds (λ l. is_among l links) s.links.rows t.links.rows
        → ((l : ℕ) (k : Link) → is_among l links ≡ false → at s.links.rows l ≡ Some k → (off k.a ≡ false) × (off k.b ≡ false))
        → ((l : ℕ) (k : Link) → is_among l links ≡ true → at t.links.rows l ≡ Some k → (k.up ≡ false) ⊎ ((off k.a ≡ true) ⊎ (off k.b ≡ true)))
        → (ht : ℕ) → Between 1 ht t.terminators.rows → Held TermHolds (λ n. is_among n terminators) s.terminators.rows t.terminators.rows
        → ((n : ℕ) → is_among n terminators ≡ true → at t.terminators.rows n ≡ None)
        → Turns no_number no_number off links terminators s t
    turns_kept links terminators hl bl lh on lost ht bt th gone = record {
      identities_held = keeps.identities;
      identities_lost = λ n e. absurd (false≢true e);
      services_held = keeps.services;
      services_lost = λ n e. absurd (false≢true e);
      routers_held = keeps.on;
      routers_lost = keeps.off_now;
      links_high = hl;
      links_ordered = bl;
      links_held = lh;
      links_stay = λ l k q g e h. link_still s t v routers_left l k q e (h.0, h.1);
      links_on = on;
      links_lost = lost;
      terms_high = ht;
      terms_ordered = bt;
      terms_held = th;
      terms_stay = λ n e f g is h. term_still s t v identities_left services_left routers_left n e f is h;
      terms_lost = λ n e g is. absurd (none-some e (sym (gone n g) ∙ is));
    }

    -- the circuits that need a link or a terminator that is gone, and where a router is off those that enter there
    pub lost_by : (links terminators : List ℕ) → LosesLinks off links s t → LosesTerms terminators s t → ((x : ℕ × Circuit) → Among x t.circuits.rows → Among x s.circuits.rows)
        → (entity : Option (Kind × ℕ)) → ((c : Circuit) → option_map_or (λ (e : Kind × ℕ). names_entity e.0 e.1 c) entity false ≡ off c.ingress)
        → Falls t [] [] (numbers (filter (λ (x : ℕ × Circuit). needs entity links terminators x.1) t.circuits.rows))
    lost_by links terminators ll lt some entity names = record {
      links_are = sym (no_link_falls s t v routers_left ll.high ll.ordered ll.stood);
      terms_are = sym (no_term_falls s t v identities_left services_left routers_left lt.high lt.ordered lt.stood);
      circuits_are =
          circuits_fall s t v some no_number no_number off links terminators
          (turns_kept links terminators ll.high ll.ordered ll.held ll.on ll.lost lt.high lt.ordered lt.held lt.lost) entity
          (λ c. ap (λ b. b || (goes_over links c || is_among c.terminator terminators)) (names c));
    }

  module _ (keeps : Keeps no_number s t) where
    calm_turns : LosesLinks no_number [] s t → LosesTerms [] s t → Turns no_number no_number no_number [] [] s t
    calm_turns ll lt = turns_kept no_number keeps [] [] ll.high ll.ordered ll.held ll.on ll.lost lt.high lt.ordered lt.held lt.lost

    -- where nothing is lost, nothing goes
    pub nothing_falls : LosesLinks no_number [] s t → LosesTerms [] s t → ((x : ℕ × Circuit) → Among x t.circuits.rows → Among x s.circuits.rows) → Falls t [] [] []
    nothing_falls ll lt some = record {
      links_are = sym (no_link_falls s t v (routers_left no_number keeps) ll.high ll.ordered ll.stood);
      terms_are = sym (no_term_falls s t v (identities_left no_number keeps) (services_left no_number keeps) (routers_left no_number keeps) lt.high lt.ordered lt.stood);
      circuits_are = sym (no_circuit_falls s t v some (calm_turns ll lt));
    }

-- ---- one record more

-- nothing but the links changes, the terminators or the circuits
pub keeps_all : (s : State) → Keeps no_number s s
keeps_all s = record {
  identities = held_same {R = Entity} Any any s.identities.rows no_number;
  services = held_same {R = Entity} Any any s.services.rows no_number;
  routers = held_same {R = Router} Any any s.routers.rows no_number;
  on = held_same RouterHolds router_itself s.routers.rows no_number;
  off_now = λ n r e. absurd (false≢true e);
}

pub all_links : (s : State) → ValidState s → LosesLinks no_number [] s s
all_links s v = record {
  high = s.links.next;
  ordered = links_between s v;
  held = held_same LinkHolds link_itself s.links.rows no_number;
  stood = stood_same EndsHold ends_itself s.links.rows;
  on = λ l k g e. (refl, refl);
  lost = λ l k g. absurd (false≢true g);
}

pub all_terms : (s : State) → ValidState s → LosesTerms [] s s
all_terms s v = record {
  high = s.terminators.next;
  ordered = terms_between s v;
  held = held_same TermHolds term_itself s.terminators.rows no_number;
  stood = stood_same TermHolds term_itself s.terminators.rows;
  lost = λ n g. absurd (false≢true g);
}

all_fall_none : (s : State) (v : ValidState s) → Falls s [] [] []
all_fall_none s v = nothing_falls s s v (keeps_all s) (all_links s v) (all_terms s v) (λ x m. m)

module _ (s : State) (v : ValidState s) where
  -- a link more: it may go itself
  pub link_more : (l : Link) → let t : State = record s { links = record { rows = with_last s.links.rows s.links.next l; next = s.links.next + 1 } } in
      Falls t (cond (link_stays s (s.links.next, l)) [] (s.links.next ∷ [])) [] []
  link_more l =
      let t : State = record s { links = record { rows = with_last s.links.rows s.links.next l; next = s.links.next + 1 } } in
      record {
        links_are = sym (last_fails (link_stays t) s.links.rows s.links.next l (λ x m. each_link s v x m));
        terms_are = (all_fall_none s v).terms_are;
        circuits_are =
            sym (no_circuit_falls s t v (λ x m. m) (turns_kept s t v no_number (keeps_all s) [] [] (s.links.next + 1)
            (Between-with_last s.links.next s.links.rows 1 l (v.kinds kind.Link).numbers.first (links_between s v))
            (held_last LinkHolds link_itself s.links.rows no_number s.links.next l (links_between s v)) (λ m k g e. (refl, refl)) (λ m k g. absurd (false≢true g))
            s.terminators.next (terms_between s v) (held_same TermHolds term_itself s.terminators.rows no_number) (λ n g. absurd (false≢true g))));
      }

  -- a terminator more: it may go itself
  pub term_more : (e : Terminator) → let t : State = record s { terminators = record { rows = with_last s.terminators.rows s.terminators.next e; next = s.terminators.next + 1 } } in
      Falls t [] (cond (terminator_stays s (s.terminators.next, e)) [] (s.terminators.next ∷ [])) []
  term_more e =
      let t : State = record s { terminators = record { rows = with_last s.terminators.rows s.terminators.next e; next = s.terminators.next + 1 } } in
      record {
        links_are = (all_fall_none s v).links_are;
        terms_are = sym (last_fails (terminator_stays t) s.terminators.rows s.terminators.next e (λ x m. each_terminator s v x m));
        circuits_are =
            sym (no_circuit_falls s t v (λ x m. m) (turns_kept s t v no_number (keeps_all s) [] [] s.links.next (links_between s v)
            (held_same LinkHolds link_itself s.links.rows no_number) (λ m k g e. (refl, refl)) (λ m k g. absurd (false≢true g))
            (s.terminators.next + 1) (Between-with_last s.terminators.next s.terminators.rows 1 e (v.kinds kind.Terminator).numbers.first (terms_between s v))
            (held_last TermHolds term_itself s.terminators.rows no_number s.terminators.next e (terms_between s v)) (λ n g. absurd (false≢true g))));
      }

  -- a circuit more: it may go itself
  pub circuit_more : (c : Circuit) → let t : State = record s { circuits = record { rows = with_last s.circuits.rows s.circuits.next c; next = s.circuits.next + 1 } } in
      Falls t [] [] (cond (stays_in s (s.circuits.next, c)) [] (s.circuits.next ∷ []))
  circuit_more c =
      let t : State = record s { circuits = record { rows = with_last s.circuits.rows s.circuits.next c; next = s.circuits.next + 1 } } in
      record {
        links_are = (all_fall_none s v).links_are;
        terms_are = (all_fall_none s v).terms_are;
        circuits_are =
            ap (λ (u : State). cond (stays_in u (s.circuits.next, c)) [] (s.circuits.next ∷ [])) (sym (same_so_far s v))
            ∙ sym (last_fails (stays_in (settle_terminators (settle_links t))) s.circuits.rows s.circuits.next c (λ x m.
            ap (λ (u : State). stays_in u x) (same_so_far s v) ∙ each_circuit s v x m));
      }
