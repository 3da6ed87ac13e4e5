-- A state and the state after one change of it: what is gone, what holds, and so which circuits stay once it is settled.
use Rattle.std.proofs.Common.{◌≡◌, ℕ, ◌==◌, ◌&&◌, Bool, true, false, not, cond, List, [], ◌∷◌, map, Option, None, Some, inl, inr, ◌⊎◌, refl, sym, ◌∙◌, ap, eqb-true, is_some}
use Rattle.std.proofs.lemmas.Bool.{false≢true}
use Rattle.std.proofs.lemmas.Option.{none-some, same_Some}
use Rattle.std.specs.Bool.{⊤}
use Rattle.std.specs.List.{find}
use Rattle.std.specs.Option.{option_map, option_map_or}
use Rattle.ctrl_model.specs.declared.kinds.RouterSeen.{RouterSeen}
use Rattle.ctrl_model.specs.Networks.{network_of, seen, is_on, is_usable, router_at}
use Rattle.ctrl_model.specs.Numbered.{at, is_present, numbers, Between}
use Rattle.ctrl_model.specs.Settling.{link_stays, terminator_stays, settle_links, settle_terminators}
use Rattle.ctrl_model.specs.State.{State, Entity, Router, Link, Terminator}
use Rattle.ctrl_model.specs.Walks.{is_among}
use Rattle.ctrl_model.proofs.NumberedLaws.{among_present, at-filter-back}
use Rattle.fallen_records.proofs.FailingRows.{at-passes}
use Rattle.fallen_records.proofs.HeldHops.{HoldsRouter, RoutersHold, on_holds, hop_holds, hop-breaks}
use Rattle.fallen_records.proofs.HeldRows.{Held, present_held}
use Rattle.fallen_records.proofs.LostLaws.{Loses}

-- ---- what holds of a record

abbrev pub Any : {R : Type 0} → R → R → Type 0
Any r q = ⊤

abbrev pub RouterHolds : Router → Router → Type 0
RouterHolds r q = (r.connected ≡ true → q.connected ≡ true) × (r.through ≡ true → q.through ≡ true)

abbrev pub LinkHolds : Link → Link → Type 0
LinkHolds k q = (q.a ≡ k.a) × (q.b ≡ k.b) × (k.up ≡ true → q.up ≡ true)

abbrev pub TermHolds : Terminator → Terminator → Type 0
TermHolds e f = (f.service ≡ e.service) × (f.router ≡ e.router) × (f.host ≡ e.host)

-- ---- routers as a network sees them

pub find-seen : (rows : List (ℕ × Router)) (n : ℕ) → find (λ (q : RouterSeen). q.no.0 == n) (map seen rows) ≡ option_map (λ r. seen (n, r)) (at rows n)
find-seen [] n = refl
find-seen (x ∷ rows) n = by (x.0 == n) refl (find-seen rows n)
  where
    by : (b : Bool) → (x.0 == n) ≡ b → find (λ (q : RouterSeen). q.no.0 == n) (map seen rows) ≡ option_map (λ r. seen (n, r)) (at rows n)
        → cond b (Some (seen x)) (find (λ (q : RouterSeen). q.no.0 == n) (map seen rows)) ≡ option_map (λ r. seen (n, r)) (cond b (Some x.1) (at rows n))
    by true is e = ap (λ m. Some (seen (m, x.1))) (eqb-true x.0 n is)
    by false is e = e

-- whether a router is on, by its record
pub on_by : (s : State) (n : ℕ) → is_on (network_of s) n ≡ option_map_or (λ (r : Router). r.connected) (at s.routers.rows n) false
on_by s n = ap (λ (o : Option RouterSeen). option_map_or (λ (r : RouterSeen). r.connected) o false) (find-seen s.routers.rows n) ∙ by (at s.routers.rows n)
  where
    by : (o : Option Router) → option_map_or (λ (r : RouterSeen). r.connected) (option_map (λ r. seen (n, r)) o) false ≡ option_map_or (λ (r : Router). r.connected) o false
    by None = refl
    by (Some r) = refl

pub routers_hold : (off : ℕ → Bool) (s u : State) → Held RouterHolds off s.routers.rows u.routers.rows → RoutersHold off (network_of s) (network_of u)
routers_hold off s u held n q o e = by (at s.routers.rows n) refl (sym (find-seen s.routers.rows n) ∙ e)
  where
    by : (p : Option Router) → at s.routers.rows n ≡ p → option_map (λ r. seen (n, r)) p ≡ Some q → HoldsRouter q (router_at (network_of u) n)
    by None is f = absurd (none-some q f)
    by (Some r) is f =
        let h = held n r o is in
        let same : seen (n, r) ≡ q = same_Some (seen (n, r)) q f in
        record {
          router = seen (n, h.held);
          there = find-seen u.routers.rows n ∙ ap (option_map (λ r. seen (n, r))) h.there;
          connected = λ c. h.kept.0 (ap (λ (x : RouterSeen). x.connected) same ∙ c);
          through = λ c. h.kept.1 (ap (λ (x : RouterSeen). x.through) same ∙ c);
        }

-- ---- one change

-- A state and the one after a change that is not settled yet. Identities, services and routers of some numbers are gone, a router
-- also where it is not connected any more; links of some numbers are gone or cannot be used, and terminators of some numbers are
-- gone or go. All else holds.
pub record Turns (identity service off : ℕ → Bool) (links terminators : List ℕ) (s t : State) : Type 0 where
  pub identities_held : Held {R = Entity} Any identity s.identities.rows t.identities.rows
  pub identities_lost : (n : ℕ) → identity n ≡ true → at t.identities.rows n ≡ None
  pub services_held : Held {R = Entity} Any service s.services.rows t.services.rows
  pub services_lost : (n : ℕ) → service n ≡ true → at t.services.rows n ≡ None
  pub routers_held : Held RouterHolds off s.routers.rows t.routers.rows
  pub routers_lost : (n : ℕ) (r : Router) → off n ≡ true → at t.routers.rows n ≡ Some r → r.connected ≡ false
  pub links_high : ℕ
  pub links_ordered : Between 1 links_high t.links.rows
  pub links_held : Held LinkHolds (λ l. is_among l links) s.links.rows t.links.rows
  pub links_stay : (l : ℕ) (k q : Link) → is_among l links ≡ false → at s.links.rows l ≡ Some k → LinkHolds k q → link_stays t (l, q) ≡ true
  pub links_on : (l : ℕ) (k : Link) → is_among l links ≡ false → at s.links.rows l ≡ Some k → (off k.a ≡ false) × (off k.b ≡ false)
  pub links_lost : (l : ℕ) (k : Link) → is_among l links ≡ true → at t.links.rows l ≡ Some k → (k.up ≡ false) ⊎ ((off k.a ≡ true) ⊎ (off k.b ≡ true))
  pub terms_high : ℕ
  pub terms_ordered : Between 1 terms_high t.terminators.rows
  pub terms_held : Held TermHolds (λ n. is_among n terminators) s.terminators.rows t.terminators.rows
  pub terms_stay : (n : ℕ) (e f : Terminator) → is_among n terminators ≡ false → at s.terminators.rows n ≡ Some e → TermHolds e f → terminator_stays t (n, f) ≡ true
  pub terms_lost : (n : ℕ) (e : Terminator) → is_among n terminators ≡ true → at t.terminators.rows n ≡ Some e → terminator_stays t (n, e) ≡ false

-- numbers of entities, by whether they are gone
numbers_left : (gone : ℕ → Bool) (xs ys : List (ℕ × Entity)) → Held {R = Entity} Any gone xs ys → ((n : ℕ) → gone n ≡ true → at ys n ≡ None)
    → (n : ℕ) → is_among n (numbers xs) ≡ true → is_among n (numbers ys) ≡ not (gone n)
numbers_left gone xs ys held lost n a = among_present ys n ∙ by (gone n) refl
  where
    by : (b : Bool) → gone n ≡ b → is_present ys n ≡ not b
    by false is = present_held Any gone xs ys held n is (sym (among_present xs n) ∙ a)
    by true is = ap is_some (lost n is)

module _ (identity service off : ℕ → Bool) (links terminators : List ℕ) (s t : State) (turns : Turns identity service off links terminators s t) where
  abbrev settled : State
  settled = settle_terminators (settle_links t)

  off_there : (n : ℕ) → off n ≡ true → is_on (network_of t) n ≡ false
  off_there n o = on_by t n ∙ by (at t.routers.rows n) refl
    where
      by : (p : Option Router) → at t.routers.rows n ≡ p → option_map_or (λ (r : Router). r.connected) p false ≡ false
      by None is = refl
      by (Some r) is = turns.routers_lost n r o is

  on_still : (n : ℕ) → is_on (network_of s) n ≡ true → is_on (network_of t) n ≡ not (off n)
  on_still n e = by (off n) refl
    where
      by : (b : Bool) → off n ≡ b → is_on (network_of t) n ≡ not b
      by false is = on_holds off (network_of s) (network_of t) (routers_hold off s t turns.routers_held) n is e
      by true is = off_there n is

  unusable : (k : Link) → (k.up ≡ false) ⊎ ((off k.a ≡ true) ⊎ (off k.b ≡ true)) → is_usable (network_of t) k ≡ false
  unusable k (inl e) = ap (λ b. b && (is_on (network_of t) k.a && is_on (network_of t) k.b)) e
  unusable k (inr (inl e)) = ap (λ b. k.up && (b && is_on (network_of t) k.b)) (off_there k.a e) ∙ never k.up
    where
      never : (b : Bool) → (b && false) ≡ false
      never true = refl
      never false = refl
  unusable k (inr (inr e)) = ap (λ b. k.up && (is_on (network_of t) k.a && b)) (off_there k.b e) ∙ never k.up (is_on (network_of t) k.a)
    where
      never : (b c : Bool) → (b && (c && false)) ≡ false
      never true true = refl
      never true false = refl
      never false c = refl

  absent : (n : ℕ) → is_among n terminators ≡ true → at settled.terminators.rows n ≡ None
  absent n g = by (at settled.terminators.rows n) refl
    where
      by : (o : Option Terminator) → at settled.terminators.rows n ≡ o → o ≡ None
      by None is = refl
      by (Some f) is =
          let back = at-filter-back (terminator_stays t) turns.terms_high t.terminators.rows 1 n f turns.terms_ordered is in
          absurd (false≢true (sym (turns.terms_lost n f g back.0) ∙ back.1))

  -- so the settled state loses what is gone, and no more
  pub loses : Loses identity service off links terminators s settled
  loses = record {
    identities = numbers_left identity s.identities.rows t.identities.rows turns.identities_held turns.identities_lost;
    services = numbers_left service s.services.rows t.services.rows turns.services_held turns.services_lost;
    stand = λ n e is. record {
      gone = absent n;
      stays = λ g.
          let h = turns.terms_held n e g is in
          (h.held, at-passes (terminator_stays t) t.terminators.rows turns.terms_high n h.held turns.terms_ordered h.there (turns.terms_stay n e h.held g is h.kept), h.kept.1);
    };
    on = on_still;
    holds = λ target l g v h e.
        hop_holds off (network_of s) (network_of settled) (routers_hold off s t turns.routers_held) target v l h (λ k is.
        let m = turns.links_held l k g is in
        let on = turns.links_on l k g is in
        record {
          link = m.held;
          there = at-passes (link_stays t) t.links.rows turns.links_high l m.held turns.links_ordered m.there (turns.links_stay l k m.held g is m.kept);
          from_a = m.kept.0;
          to_b = m.kept.1;
          up = m.kept.2;
          a_on = on.0;
          b_on = on.1;
        }) e;
    breaks = λ target v l g. hop-breaks (network_of settled) target v l (λ k e.
        unusable k (turns.links_lost l k g (at-filter-back (link_stays t) turns.links_high t.links.rows 1 l k turns.links_ordered e).0));
  }
