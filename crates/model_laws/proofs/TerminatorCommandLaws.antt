-- The commands on terminators keep a state valid.
use Rattle.std.proofs.Common.{◌≡◌, ℕ, true, List, Option, refl}
use Rattle.std.proofs.lemmas.Bool.{and_from, false≢true}
use Rattle.ctrl_model.specs.declared.kinds.Kind.TheVariants as kind
use Rattle.ctrl_model.specs.declared.kinds.Precedence.{Precedence}
use Rattle.ctrl_model.specs.declared.refusals.Field.TheVariants as field
use Rattle.ctrl_model.specs.declared.refusals.Refusal.TheVariants.{Full, Unknown}
use Rattle.ctrl_model.specs.declared.replies.Reply.TheVariants.{Done, Made}
use Rattle.ctrl_model.specs.Limits.{limit}
use Rattle.ctrl_model.specs.NameForm.{is_instance}
use Rattle.ctrl_model.specs.State.{State, Terminator}
use Rattle.ctrl_model.specs.Tables.{table, named}
use Rattle.ctrl_model.specs.ValueForms.{is_cost}
use Rattle.ctrl_model.specs.Rules.{unknown_if_absent, refuse_if}
use Rattle.ctrl_model.specs.RecordCommands.{after_remove}
use Rattle.ctrl_model.specs.TerminatorCommands.{host_number, is_host_absent, create_terminator, after_create_terminator, refusal_of_create_terminator, no_such_terminator, update_terminator, after_update_terminator, delete_terminator}
use Rattle.ctrl_model.specs.ValidState.{ValidState}
use Rattle.model_laws.proofs.NamedLaws.{and_more}
use Rattle.model_laws.proofs.RefusalLaws.{or_then-none, full-none, at_number-holds}
use Rattle.model_laws.proofs.ValidLaws.{Follows, Orderly, Orderly-from_valid, carried_out-follows, Orderly-create, Orderly-edit, Orderly-remove}

pub create_terminator-follows : (service router instance : List ℕ) (host : Option (List ℕ)) (cost : ℕ) (precedence : Precedence) (s : State)
    → is_instance instance ≡ true → is_cost cost ≡ true → ValidState s → Follows s (create_terminator service router instance host cost precedence s).1
create_terminator-follows service router instance host cost precedence s spelled fits v =
    let o = Orderly-from_valid s v in
    carried_out-follows (refusal_of_create_terminator service router host s) s (Made s.terminators.next) (after_create_terminator service router instance host cost precedence s) (λ none.
    let ends = or_then-none (unknown_if_absent field.Router (named kind.Router s router)) _ (or_then-none (unknown_if_absent field.Service (named kind.Service s service)) _ none).1 in
    let hosts = or_then-none (refuse_if (is_host_absent s host) (Unknown field.Host)) _ ends.1 in
    let limits = or_then-none _ _ hosts.1 in
    at_number-holds Orderly (named kind.Service s service) s _ o (λ n is. at_number-holds Orderly (named kind.Router s router) s _ o (λ r at_router.
    let new : Terminator = record { service = n; router = r; instance = instance; host = host_number s host; cost = cost; precedence = precedence } in
    Orderly-create kind.Terminator new s o (λ h. absurd (false≢true h)) (full-none (limit kind.Terminator) (table kind.Terminator s) (Full kind.Terminator) limits.0)
    (and_from (is_instance instance) (is_cost cost) spelled fits) o.attributes)))

pub update_terminator-follows : (n cost : ℕ) (precedence : Precedence) (s : State) → is_cost cost ≡ true → ValidState s
    → Follows s (update_terminator n cost precedence s).1
update_terminator-follows n cost precedence s fits v =
    let o = Orderly-from_valid s v in
    carried_out-follows (no_such_terminator n s) s Done (after_update_terminator n cost precedence s) (λ none.
    Orderly-edit kind.Terminator n (λ e. record e { cost = cost; precedence = precedence }) s o (λ e. refl)
    (λ e t. and_more (is_instance e.instance) (is_cost e.cost) (is_instance e.instance) (is_cost cost) (λ u. u) (λ u. fits) t) o.attributes)

pub delete_terminator-follows : (n : ℕ) (s : State) → ValidState s → Follows s (delete_terminator n s).1
delete_terminator-follows n s v =
    carried_out-follows (no_such_terminator n s) s Done (after_remove kind.Terminator n s) (λ none. Orderly-remove kind.Terminator n s refl (Orderly-from_valid s v))
