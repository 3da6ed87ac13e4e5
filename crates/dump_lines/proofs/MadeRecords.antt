-- What the commands of a dump do where they are answered.
use Rattle.std.proofs.Common.{◌≡◌, ℕ, Bool, true, false, not, List, [], ◌∷◌, map, Option, Some, refl, sym, ap, subst}
use Rattle.std.specs.Option.{option_map}
use Rattle.ctrl_model.specs.Controller.{carry}
use Rattle.ctrl_model.specs.declared.commands.Command.TheVariants as command
use Rattle.ctrl_model.specs.declared.kinds.Kind.TheVariants as kind
use Rattle.ctrl_model.specs.declared.kinds.Relation.{Relation}
use Rattle.ctrl_model.specs.declared.kinds.Relation.TheVariants.{IdentityRouter, ServiceRouter}
use Rattle.ctrl_model.specs.LinkCommands.{after_create_link}
use Rattle.ctrl_model.specs.RecordCommands.{after_create, create}
use Rattle.ctrl_model.specs.Rules.{at_number}
use Rattle.ctrl_model.specs.State.{State, Router, Link, Policy, Terminator}
use Rattle.ctrl_model.specs.Tables.{named}
use Rattle.ctrl_model.specs.TerminatorCommands.{after_create_terminator, host_number}
use Rattle.record_lines.specs.RecordNames.{name_of}
use Rattle.dump_lines.specs.Dumps.{making_record}

twice : (b : Bool) → not (not b) ≡ b
twice true = refl
twice false = refl

pub router_made : (t : State) (r : Router) → carry (command.CreateRouter r.name r.attributes r.cost (not r.through)) t ≡ create kind.Router (record r { connected = false }) t
router_made t r = ap (λ (b : Bool). create kind.Router (record r { through = b; connected = false }) t) (twice r.through)

pub edge_policy_made : (s t : State) (p : Policy) → p.relation ≡ IdentityRouter → map (λ c. carry c t) (making_record kind.EdgeRouterPolicy s p) ≡ create kind.EdgeRouterPolicy p t ∷ []
edge_policy_made s t p is = ap (λ (r : Relation). create kind.EdgeRouterPolicy (record p { relation = r }) t ∷ []) (sym is)

pub service_policy_made : (s t : State) (p : Policy) → p.relation ≡ ServiceRouter → map (λ c. carry c t) (making_record kind.ServiceEdgeRouterPolicy s p) ≡ create kind.ServiceEdgeRouterPolicy p t ∷ []
service_policy_made s t p is = ap (λ (r : Relation). create kind.ServiceEdgeRouterPolicy (record p { relation = r }) t ∷ []) (sym is)

-- what is done at two numbers that were found
at_both : (s : State) (o q : Option ℕ) (f : ℕ → ℕ → State) (m n : ℕ) → o ≡ Some m → q ≡ Some n → at_number o s (λ a. at_number q s (λ b. f a b)) ≡ f m n
at_both s o q f m n first second =
    subst (λ (x : Option ℕ). at_number x s (λ a. at_number q s (λ b. f a b)) ≡ f m n) (sym first)
    (subst (λ (x : Option ℕ). at_number x s (λ b. f m b) ≡ f m n) (sym second) refl)

pub link_found : (s t : State) (l : Link) (a b : ℕ) → named kind.Router t (name_of kind.Router s l.a) ≡ Some a → named kind.Router t (name_of kind.Router s l.b) ≡ Some b
    → after_create_link l.name (name_of kind.Router s l.a) (name_of kind.Router s l.b) l.cost l.latency_a l.latency_b t
    ≡ after_create kind.Link (record l { a = a; b = b; up = true }) t
link_found s t l a b first second =
    at_both t (named kind.Router t (name_of kind.Router s l.a)) (named kind.Router t (name_of kind.Router s l.b))
    (λ x y. after_create kind.Link (record l { a = x; b = y; up = true }) t) a b first second

pub terminator_found : (s t : State) (e : Terminator) (n r : ℕ) → named kind.Service t (name_of kind.Service s e.service) ≡ Some n → named kind.Router t (name_of kind.Router s e.router) ≡ Some r
    → after_create_terminator (name_of kind.Service s e.service) (name_of kind.Router s e.router) e.instance (option_map (name_of kind.Identity s) e.host) e.cost e.precedence t
    ≡ after_create kind.Terminator (record e { service = n; router = r; host = host_number t (option_map (name_of kind.Identity s) e.host) }) t
terminator_found s t e n r first second =
    at_both t (named kind.Service t (name_of kind.Service s e.service)) (named kind.Router t (name_of kind.Router s e.router))
    (λ x y. after_create kind.Terminator (record e { service = x; router = y; host = host_number t (option_map (name_of kind.Identity s) e.host) }) t) n r first second
