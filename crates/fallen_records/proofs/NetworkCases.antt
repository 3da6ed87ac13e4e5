-- What settles after a change of the policies, the links, the terminators or the circuits of a valid state.
use Rattle.std.proofs.Common.{◌≡◌, ◌≢◌, ℕ, ◌==◌, ◌||◌, true, false, not, cond, List, [], ◌∷◌, None, Some, inl, refl, sym, ◌∙◌, ap, eqb-true, eq-eqb, ⊎_elim}
use Rattle.std.proofs.lemmas.Bool.{false≢true, true≢false, or_cases}
use Rattle.std.proofs.lemmas.Option.{none-some}
use Rattle.std.specs.List.{filter}
use Rattle.ctrl_model.specs.Numbered.{Table, at, numbers, edit_at, without, with_edit, with_removed}
use Rattle.ctrl_model.specs.State.{State, Link, Policy, Terminator, Circuit}
use Rattle.ctrl_model.specs.ValidState.{ValidState}
use Rattle.ctrl_model.specs.Walks.{is_among}
use Rattle.ctrl_model.proofs.Members.{by_filter}
use Rattle.ctrl_model.proofs.NumberedLaws.{at-edit_at-back, Between-edit_at, Between-without}
use Rattle.model_laws.proofs.AbsentRecords.{at-without-none}
use Rattle.circuits.specs.LostCircuits.{needs}
use Rattle.fallen_records.proofs.EntitiesLeft.{EndsHold}
use Rattle.fallen_records.specs.FallenRecords.{Falls}
use Rattle.fallen_records.proofs.HeldRows.{no_number, held_edit, held_without, stood_edit, stood_without}
use Rattle.fallen_records.proofs.SettlingCases.{link_itself, term_itself, ends_itself, links_between, terms_between, keeps_all, all_links, all_terms, nothing_falls, lost_by}
use Rattle.fallen_records.proofs.TurnedStates.{LinkHolds, TermHolds}

-- ---- one number

one : (n l : ℕ) → is_among l (n ∷ []) ≡ true → l ≡ n
one n l e = ⊎_elim (λ s. sym (eqb-true n l s)) (λ f. absurd (false≢true f)) (or_cases (n == l) false e)

itself : (n : ℕ) → is_among n (n ∷ []) ≡ true
itself n = ap (λ b. b || false) (eq-eqb n n refl)

other : (n l : ℕ) → is_among l (n ∷ []) ≡ false → l ≢ n
other n l g e = true≢false (sym (itself n) ∙ ap (λ m. is_among m (n ∷ [])) (sym e) ∙ g)

module _ (s : State) (v : ValidState s) where
  pub policies_changed : (p q r : Table Policy) → Falls (record s { service_policies = p; edge_router_policies = q; service_edge_router_policies = r }) [] [] []
  policies_changed p q r =
      nothing_falls s (record s { service_policies = p; edge_router_policies = q; service_edge_router_policies = r }) v (keeps_all s) (all_links s v) (all_terms s v) (λ x m. m)

  pub setting_changed : (cost : ℕ) → Falls (record s { least_router_cost = cost }) [] [] []
  setting_changed cost = nothing_falls s (record s { least_router_cost = cost }) v (keeps_all s) (all_links s v) (all_terms s v) (λ x m. m)

  pub circuit_removed : (n : ℕ) → Falls (record s { circuits = with_removed n s.circuits }) [] [] []
  circuit_removed n =
      nothing_falls s (record s { circuits = with_removed n s.circuits }) v (keeps_all s) (all_links s v) (all_terms s v)
      (λ x m. by_filter (λ (y : ℕ × Circuit). not (y.0 == n)) s.circuits.rows x m (λ among _. among))

  -- a link that holds
  pub link_set : (n : ℕ) (f : Link → Link) → ((k : Link) → LinkHolds k (f k)) → Falls (record s { links = with_edit n f s.links }) [] [] []
  link_set n f keeps =
      nothing_falls s (record s { links = with_edit n f s.links }) v (keeps_all s) (record {
        high = s.links.next;
        ordered = Between-edit_at s.links.next s.links.rows 1 n f (links_between s v);
        held = held_edit LinkHolds link_itself s.links.rows no_number n f (λ k is g. keeps k);
        stood = stood_edit EndsHold ends_itself s.links.rows n f (λ k. let h = keeps k in (h.0, h.1));
        on = λ l k g e. (refl, refl);
        lost = λ l k g. absurd (false≢true g);
      }) (all_terms s v) (λ x m. m)

  -- the circuits that go over a link
  abbrev pub circuits_over : ℕ → List ℕ
  circuits_over n = numbers (filter (λ (x : ℕ × Circuit). needs None (n ∷ []) [] x.1) s.circuits.rows)

  pub link_down : (n : ℕ) (f : Link → Link) → ((k : Link) → EndsHold k (f k)) → ((k : Link) → (f k).up ≡ false) → Falls (record s { links = with_edit n f s.links }) [] [] (circuits_over n)
  link_down n f keeps down =
      lost_by s (record s { links = with_edit n f s.links }) v no_number (keeps_all s) (n ∷ []) [] (record {
        high = s.links.next;
        ordered = Between-edit_at s.links.next s.links.rows 1 n f (links_between s v);
        held = held_edit LinkHolds link_itself s.links.rows (λ l. is_among l (n ∷ [])) n f (λ k is g. absurd (true≢false (sym (itself n) ∙ g)));
        stood = stood_edit EndsHold ends_itself s.links.rows n f keeps;
        on = λ l k g e. (refl, refl);
        lost = λ l k g e. inl (is_down l k g e);
      }) (all_terms s v) (λ x m. m) None (λ c. refl)
    where
      is_down : (l : ℕ) (k : Link) → is_among l (n ∷ []) ≡ true → at (edit_at s.links.rows n f) l ≡ Some k → k.up ≡ false
      is_down l k g e =
          let back = at-edit_at-back s.links.rows n l f k e in
          ap (λ (x : Link). x.up) (sym back.2 ∙ ap (λ b. cond b (f back.0) back.0) (eq-eqb l n (one n l g))) ∙ down back.0

  pub link_removed : (n : ℕ) → Falls (record s { links = with_removed n s.links }) [] [] (circuits_over n)
  link_removed n =
      lost_by s (record s { links = with_removed n s.links }) v no_number (keeps_all s) (n ∷ []) [] (record {
        high = s.links.next;
        ordered = Between-without s.links.next s.links.rows 1 n (links_between s v);
        held = held_without LinkHolds link_itself s.links.rows (λ l. is_among l (n ∷ [])) n (λ l g. other n l g);
        stood = stood_without EndsHold ends_itself s.links.rows s.links.next n (links_between s v);
        on = λ l k g e. (refl, refl);
        lost = λ l k g e. absurd (none-some k (sym (ap (at (without s.links.rows n)) (one n l g) ∙ at-without-none s.links.rows n) ∙ e));
      }) (all_terms s v) (λ x m. m) None (λ c. refl)

  -- a terminator that holds
  pub term_set : (n : ℕ) (f : Terminator → Terminator) → ((e : Terminator) → TermHolds e (f e)) → Falls (record s { terminators = with_edit n f s.terminators }) [] [] []
  term_set n f keeps =
      nothing_falls s (record s { terminators = with_edit n f s.terminators }) v (keeps_all s) (all_links s v) (record {
        high = s.terminators.next;
        ordered = Between-edit_at s.terminators.next s.terminators.rows 1 n f (terms_between s v);
        held = held_edit TermHolds term_itself s.terminators.rows no_number n f (λ e is g. keeps e);
        stood = stood_edit TermHolds term_itself s.terminators.rows n f keeps;
        lost = λ m g. absurd (false≢true g);
      }) (λ x m. m)

  pub term_removed : (n : ℕ) → Falls (record s { terminators = with_removed n s.terminators }) [] []
      (numbers (filter (λ (x : ℕ × Circuit). needs None [] (n ∷ []) x.1) s.circuits.rows))
  term_removed n =
      lost_by s (record s { terminators = with_removed n s.terminators }) v no_number (keeps_all s) [] (n ∷ []) (all_links s v) (record {
        high = s.terminators.next;
        ordered = Between-without s.terminators.next s.terminators.rows 1 n (terms_between s v);
        held = held_without TermHolds term_itself s.terminators.rows (λ m. is_among m (n ∷ [])) n (λ m g. other n m g);
        stood = stood_without TermHolds term_itself s.terminators.rows s.terminators.next n (terms_between s v);
        lost = λ m g. ap (at (without s.terminators.rows n)) (one n m g) ∙ at-without-none s.terminators.rows n;
      }) (λ x m. m) None (λ c. refl)
