-- Commands that are answered one after the other, section by section.
use Rattle.std.proofs.Common.{◌≡◌, ℕ, ◌<◌, ◌≤◌, ◌&&◌, Bool, true, false, cond, not, List, [], ◌∷◌, ◌++◌, flat_map, length, Option, None, refl, sym, ◌∙◌, ap, subst, arith, append-nil, append_assoc, nat_lt}
use Rattle.std.proofs.lemmas.Bool.{and_parts, and_from, lt-ltb}
use Rattle.std.specs.List.{filter, list_all}
use Rattle.ctrl_model.specs.Controller.{answer, carry}
use Rattle.ctrl_model.specs.declared.commands.Command.{Command}
use Rattle.ctrl_model.specs.declared.kinds.Kind.{Kind}
use Rattle.ctrl_model.specs.declared.kinds.Kind.TheVariants as kind
use Rattle.ctrl_model.specs.declared.kinds.Who.TheVariants.{Admin}
use Rattle.ctrl_model.specs.declared.intercepts.Intercept.{Intercept}
use Rattle.ctrl_model.specs.declared.refusals.Refusal.{Refusal}
use Rattle.ctrl_model.specs.declared.refusals.Refusal.TheVariants.{Full}
use Rattle.ctrl_model.specs.declared.replies.Reply.{Reply}
use Rattle.ctrl_model.specs.Limits.{limit, last_next}
use Rattle.ctrl_model.specs.Numbered.{Table, no_rows, with_kept}
use Rattle.ctrl_model.specs.RecordCommands.{absent_in, after_create, refusal_of_create}
use Rattle.ctrl_model.specs.Rules.{or_then, refuse_if, carried_out, exists_if_present, attributes_full}
use Rattle.ctrl_model.specs.Settling.{settle, link_stays, terminator_stays}
use Rattle.ctrl_model.specs.State.{State, Entity, Router, Link, Policy, Terminator}
use Rattle.ctrl_model.specs.Tables.{Record, table, named, record_name, has_room}
use Rattle.ctrl_model.specs.WorkedStates.{after}
use Rattle.dump_laws.specs.AnsweredInTurn.{is_refusal, none_refused}

-- ---- commands that are answered

-- commands that are answered, none of them refused, lead from one state to another
pub record Leads (cs : List Command) (t u : State) : Type 0 where
  pub ends : after cs t ≡ u
  pub done : none_refused cs t ≡ true

pub leads-nowhere : (t : State) → Leads [] t t
leads-nowhere t = record { ends = refl; done = refl }

pub leads-on : (cs ds : List Command) (t u v : State) → Leads cs t u → Leads ds u v → Leads (cs ++ ds) t v
leads-on [] ds t u v a b = subst (λ w. Leads ds w v) (sym a.ends) b
leads-on (c ∷ cs) ds t u v a b =
    let parts = and_parts (not (is_refusal (answer Admin c t).0)) (none_refused cs (answer Admin c t).1) a.done in
    let rest = leads-on cs ds (answer Admin c t).1 u v (record { ends = a.ends; done = parts.1 }) b in
    record { ends = rest.ends; done = and_from (not (is_refusal (answer Admin c t).0)) _ parts.0 rest.done }

-- a command with an effect that nothing refuses and that settles to a state
pub leads-by : (c : Command) (t : State) (o : Option Refusal) (reply : Reply) (effect u : State) → carry c t ≡ carried_out o t reply effect → o ≡ None → is_refusal reply ≡ false
    → settle effect ≡ u → Leads (c ∷ []) t u
leads-by c t o reply effect u is none fine settled =
    let all : carry c t ≡ (reply, settle effect) = is ∙ ap (λ p. carried_out p t reply effect) none in
    record {
      ends = ap (λ (a : Reply × State). a.1) all ∙ settled;
      done = ap (λ (a : Reply × State). not (is_refusal a.0) && true) all ∙ ap (λ b. not b && true) fine;
    }

-- commands that are made of each of some things, each of which leads on
pub leads-through : {X : Type 0} (f : X → List Command) (at_front : List X → State) (pre post : List X)
    → ((front : List X) (x : X) (back : List X) → front ++ x ∷ back ≡ pre ++ post → Leads (f x) (at_front front) (at_front (front ++ x ∷ [])))
    → Leads (flat_map f post) (at_front pre) (at_front (pre ++ post))
leads-through f at_front pre [] step = subst (λ ys. Leads [] (at_front pre) (at_front ys)) (sym (append-nil pre)) (leads-nowhere (at_front pre))
leads-through {X} f at_front pre (x ∷ post) step =
    leads-on (f x) (flat_map f post) (at_front pre) (at_front (pre ++ x ∷ [])) (at_front (pre ++ x ∷ post)) (step pre x post refl)
    (subst (λ ys. Leads (flat_map f post) (at_front (pre ++ x ∷ [])) (at_front ys)) shift
    (leads-through f at_front (pre ++ x ∷ []) post (λ front y back is. step front y back (is ∙ shift))))
  where
    shift : (pre ++ x ∷ []) ++ post ≡ pre ++ x ∷ post
    shift = append_assoc pre (x ∷ []) post

-- ---- states as they are made

-- a state without circuits, of its tables
abbrev pub stage : ℕ → Table Entity → Table Entity → Table Router → Table Link → Table Terminator → Table Policy → Table Policy → Table Policy → List (ℕ × Intercept) → State
stage cost i v r l t p q o x = record {
  identities = i;
  services = v;
  routers = r;
  links = l;
  service_policies = p;
  edge_router_policies = q;
  service_edge_router_policies = o;
  terminators = t;
  circuits = no_rows;
  least_router_cost = cost;
  intercepts = x;
  serial = 0;
}

filter-all : {X : Type 0} (p : X → Bool) (xs : List X) → list_all p xs ≡ true → filter p xs ≡ xs
filter-all p [] e = refl
filter-all {X} p (x ∷ xs) e = by (p x) (and_parts (p x) (list_all p xs) e).0 (filter-all p xs (and_parts (p x) (list_all p xs) e).1)
  where
    by : (b : Bool) → b ≡ true → filter p xs ≡ xs → cond b (x ∷ filter p xs) (filter p xs) ≡ x ∷ xs
    by true is h = ap (λ ys. x ∷ ys) h
    by false is h = absurd cc

kept-all : {R : Type 0} (p : ℕ × R → Bool) (t : Table R) → list_all p t.rows ≡ true → with_kept p t ≡ t
kept-all p t e = λ i. record t { rows = filter-all p t.rows e i }

-- such a state is settled where its links and its terminators stay
pub settled : (cost : ℕ) (i v : Table Entity) (r : Table Router) (l : Table Link) (t : Table Terminator) (p q o : Table Policy) (x : List (ℕ × Intercept))
    → list_all (link_stays (stage cost i v r l t p q o x)) l.rows ≡ true → list_all (terminator_stays (stage cost i v r l t p q o x)) t.rows ≡ true
    → settle (stage cost i v r l t p q o x) ≡ stage cost i v r l t p q o x
settled cost i v r l t p q o x links terminators =
    λ at. stage cost i v r (kept-all (link_stays (stage cost i v r l t p q o x)) l links at) (kept-all (terminator_stays (stage cost i v r l t p q o x)) t terminators at) p q o x

-- ---- records that are made

pub create-none : (k : Kind) (r : Record k) (t : State) → named k t (record_name k r) ≡ None → absent_in k r t ≡ None → has_room (limit k) (table k t) ≡ true
    → attributes_full (after_create k r t) ≡ false → refusal_of_create k r t ≡ None
create-none k r t free found room few =
    λ i. or_then (exists_if_present (free i)) (or_then (found i) (or_then (refuse_if (not (room i)) (Full k)) (refuse_if (few i) (Full kind.Attribute))))

pub few-kinds : (k : Kind) → limit k ≤ 16384
few-kinds kind.Identity = omega arith
few-kinds kind.Service = omega arith
few-kinds kind.Router = omega arith
few-kinds kind.Link = omega arith
few-kinds kind.ServicePolicy = omega arith
few-kinds kind.EdgeRouterPolicy = omega arith
few-kinds kind.ServiceEdgeRouterPolicy = omega arith
few-kinds kind.Terminator = omega arith
few-kinds kind.Circuit = omega arith
few-kinds kind.Attribute = omega arith

-- a table of few records has room where its numbers have not run out
pub room : {R : Type 0} (k : Kind) (t : Table R) → length t.rows < limit k → t.next ≤ 65536 → has_room (limit k) t ≡ true
room k t few last =
    and_from (nat_lt (length t.rows) (limit k)) (nat_lt t.next last_next) (lt-ltb (length t.rows) (limit k) few) (lt-ltb t.next last_next (omega (arith, last)))
