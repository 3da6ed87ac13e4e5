-- What is left of entities, and so which links and terminators stay.
use Rattle.std.proofs.Common.{◌≡◌, ℕ, ◌==◌, ◌||◌, ◌&&◌, Bool, true, false, not, List, [], Option, None, Some, refl, sym, ◌∙◌, ap, eqb-true, eq-eqb, is_some}
use Rattle.std.proofs.lemmas.Bool.{and_parts, false≢true, true≢false}
use Rattle.std.proofs.lemmas.Option.{same_Some}
use Rattle.std.specs.List.{filter}
use Rattle.std.specs.Option.{option_map_or}
use Rattle.ctrl_model.specs.Numbered.{at, is_present, numbers, without, Between}
use Rattle.ctrl_model.specs.Settling.{link_stays, terminator_stays}
use Rattle.ctrl_model.specs.State.{State, Link, Terminator}
use Rattle.ctrl_model.specs.ValidState.{ValidState}
use Rattle.ctrl_model.specs.Walks.{is_among}
use Rattle.ctrl_model.proofs.Members.{at-row}
use Rattle.ctrl_model.proofs.NumberedLaws.{among_present, at-filter-back, at-without-other}
use Rattle.model_laws.proofs.AbsentRecords.{at-without-none}
use Rattle.record_tables.proofs.NumberLoops.{at_among}
use Rattle.fallen_records.proofs.FailingRows.{failing, none_fails, those_fail, at-passes}
use Rattle.fallen_records.proofs.HeldRows.{Held, AllStood, no_number, one_number, present_held}
use Rattle.fallen_records.proofs.SettledRows.{each_link, each_terminator}
use Rattle.fallen_records.proofs.TurnedStates.{TermHolds}

-- of the records that were present those are gone whose numbers are
abbrev pub Left : {R : Type 0} → (ℕ → Bool) → List (ℕ × R) → List (ℕ × R) → Type 0
Left {R} gone xs ys = (n : ℕ) → is_present xs n ≡ true → is_present ys n ≡ not (gone n)

pub left_held : {R : Type 0} (P : R → R → Type 0) (xs ys : List (ℕ × R)) → Held P no_number xs ys → Left no_number xs ys
left_held P xs ys held n p = present_held P no_number xs ys held n refl p

pub left_without : {R : Type 0} (xs : List (ℕ × R)) (m : ℕ) → Left (one_number m) xs (without xs m)
left_without xs m n p = by (n == m) refl
  where
    by : (b : Bool) → (n == m) ≡ b → is_present (without xs m) n ≡ not b
    by true is = ap (λ k. is_some (at (without xs m) k)) (eqb-true n m is) ∙ ap is_some (at-without-none xs m)
    by false is = ap is_some (at-without-other xs m n (λ s. true≢false (sym (ap (λ k. k == m) s ∙ same m) ∙ is))) ∙ p
      where
        same : (k : ℕ) → (k == k) ≡ true
        same k = eq-eqb k k refl

-- some of the rows are those that a test names
pub among_those : {R : Type 0} (q : R → Bool) (high : ℕ) (rows : List (ℕ × R)) (n : ℕ) (r : R) → Between 1 high rows → at rows n ≡ Some r
    → is_among n (numbers (filter (λ (x : ℕ × R). q x.1) rows)) ≡ q r
among_those {R} q high rows n r b e = among_present (filter (λ (x : ℕ × R). q x.1) rows) n ∙ by (q r) refl
  where
    there : (o : Option R) → at (filter (λ (x : ℕ × R). q x.1) rows) n ≡ o → q r ≡ false → is_some o ≡ false
    there None is f = refl
    there (Some p) is f =
        let back = at-filter-back (λ (x : ℕ × R). q x.1) high rows 1 n p b is in
        absurd (false≢true (sym f ∙ ap q (same_Some r p (sym e ∙ back.0)) ∙ back.1))

    by : (c : Bool) → q r ≡ c → is_present (filter (λ (x : ℕ × R). q x.1) rows) n ≡ c
    by true is = ap is_some (at-passes (λ (x : ℕ × R). q x.1) rows high n r b e is)
    by false is = there (at (filter (λ (x : ℕ × R). q x.1) rows) n) refl is

-- the ends of a link stay
abbrev pub EndsHold : Link → Link → Type 0
EndsHold k q = (q.a ≡ k.a) × (q.b ≡ k.b)

pub no_host : (o : Option ℕ) → option_map_or no_number o false ≡ false
no_host None = refl
no_host (Some h) = refl

module _ (s t : State) (v : ValidState s) where
  module _ (absent : ℕ → Bool) (routers : Left absent s.routers.rows t.routers.rows) where
    pub link_exactly : (l : ℕ) (k q : Link) → at s.links.rows l ≡ Some k → EndsHold k q → link_stays t (l, q) ≡ not (absent k.a || absent k.b)
    link_exactly l k q e h =
        let on = and_parts (is_present s.routers.rows k.a) (is_present s.routers.rows k.b) (each_link s v (l, k) (at-row s.links.rows l k e)) in
        (λ i. is_present t.routers.rows (h.0 i) && is_present t.routers.rows (h.1 i))
        ∙ (λ i. routers k.a on.0 i && routers k.b on.1 i)
        ∙ by (absent k.a) (absent k.b)
      where
        by : (a b : Bool) → (not a && not b) ≡ not (a || b)
        by true b = refl
        by false b = refl

    pub links_fall : t.links.rows ≡ s.links.rows → (high : ℕ) → Between 1 high s.links.rows
        → failing (link_stays t) t.links.rows ≡ numbers (filter (λ (x : ℕ × Link). absent x.1.a || absent x.1.b) s.links.rows)
    links_fall same high b =
        ap (failing (link_stays t)) same
        ∙ those_fail (link_stays t) s.links.rows (λ x. absent x.1.a || absent x.1.b) (λ x m. link_exactly x.0 x.1 x.1 (at_among high s.links.rows 1 x.0 x.1 b m) (refl, refl))

  module _ (routers : Left no_number s.routers.rows t.routers.rows) where
    pub link_still : (l : ℕ) (k q : Link) → at s.links.rows l ≡ Some k → EndsHold k q → link_stays t (l, q) ≡ true
    link_still = link_exactly no_number routers

    pub no_link_falls : (high : ℕ) → Between 1 high t.links.rows → AllStood EndsHold s.links.rows t.links.rows → failing (link_stays t) t.links.rows ≡ []
    no_link_falls high b stood =
        none_fails (link_stays t) t.links.rows (λ x m.
        let before = stood x.0 x.1 (at_among high t.links.rows 1 x.0 x.1 b m) in
        link_still x.0 before.before x.1 before.stood before.kept)

  module _ (identity service absent : ℕ → Bool) (identities : Left identity s.identities.rows t.identities.rows) (services : Left service s.services.rows t.services.rows)
      (routers : Left absent s.routers.rows t.routers.rows) where
    pub term_exactly : (n : ℕ) (e f : Terminator) → at s.terminators.rows n ≡ Some e → TermHolds e f
        → terminator_stays t (n, f) ≡ not (service e.service || (absent e.router || option_map_or identity e.host false))
    term_exactly n e f is h =
        let rest = is_present s.routers.rows e.router && option_map_or (is_present s.identities.rows) e.host true in
        let one = and_parts (is_present s.services.rows e.service) rest (each_terminator s v (n, e) (at-row s.terminators.rows n e is)) in
        let two = and_parts (is_present s.routers.rows e.router) (option_map_or (is_present s.identities.rows) e.host true) one.1 in
        (λ i. is_present t.services.rows (h.0 i) && (is_present t.routers.rows (h.1 i) && option_map_or (is_present t.identities.rows) (h.2 i) true))
        ∙ (λ i. services e.service one.0 i && (routers e.router two.0 i && hosts e.host two.1 i))
        ∙ by (service e.service) (absent e.router) (option_map_or identity e.host false)
      where
        hosts : (o : Option ℕ) → option_map_or (is_present s.identities.rows) o true ≡ true → option_map_or (is_present t.identities.rows) o true ≡ not (option_map_or identity o false)
        hosts None p = refl
        hosts (Some h) p = identities h p

        by : (a b c : Bool) → (not a && (not b && not c)) ≡ not (a || (b || c))
        by true b c = refl
        by false true c = refl
        by false false c = refl

    pub terms_fall : t.terminators.rows ≡ s.terminators.rows → (high : ℕ) → Between 1 high s.terminators.rows → (q : Terminator → Bool)
        → ((e : Terminator) → q e ≡ (service e.service || (absent e.router || option_map_or identity e.host false)))
        → failing (terminator_stays t) t.terminators.rows ≡ numbers (filter (λ (x : ℕ × Terminator). q x.1) s.terminators.rows)
    terms_fall same high b q names =
        ap (failing (terminator_stays t)) same
        ∙ those_fail (terminator_stays t) s.terminators.rows (λ x. q x.1) (λ x m.
        term_exactly x.0 x.1 x.1 (at_among high s.terminators.rows 1 x.0 x.1 b m) (refl, refl, refl) ∙ ap not (sym (names x.1)))

  module _ (identities : Left no_number s.identities.rows t.identities.rows) (services : Left no_number s.services.rows t.services.rows)
      (routers : Left no_number s.routers.rows t.routers.rows) where
    pub term_still : (n : ℕ) (e f : Terminator) → at s.terminators.rows n ≡ Some e → TermHolds e f → terminator_stays t (n, f) ≡ true
    term_still n e f is h = term_exactly no_number no_number no_number identities services routers n e f is h ∙ ap not (no_host e.host)

    pub no_term_falls : (high : ℕ) → Between 1 high t.terminators.rows → AllStood TermHolds s.terminators.rows t.terminators.rows
        → failing (terminator_stays t) t.terminators.rows ≡ []
    no_term_falls high b stood =
        none_fails (terminator_stays t) t.terminators.rows (λ x m.
        let before = stood x.0 x.1 (at_among high t.terminators.rows 1 x.0 x.1 b m) in
        term_still x.0 before.before x.1 before.stood before.kept)
