use Rattle.std.proofs.Common.{◌≡◌, ℕ, nat_lt, nat_le, true, false, List, [], ◌∷◌, ◌++◌, length, drop, codes, Bool, refl, ap}
use Rattle.std.specs.Str.{bytes_eq}
use Rattle.std.specs.Set.{is_member}
use Rattle.ctrl_model.specs.declared.commands.Command.TheVariants.{CreateService, UpdateIdentity}
use Rattle.ctrl_model.specs.declared.kinds.Kind.TheVariants as kind
use Rattle.ctrl_model.specs.declared.refusals.Refusal.TheVariants as refusal
use Rattle.ctrl_model.specs.declared.replies.Reply.{Reply}
use Rattle.ctrl_model.specs.declared.replies.Reply.TheVariants as reply
use Rattle.ctrl_model.specs.Limits.{limit, last_next}
use Rattle.ctrl_model.specs.State.{State, start}
use Rattle.ctrl_model.specs.Rules.{refuse_if, carried_out}
use Rattle.ctrl_model.specs.RecordCommands.{after_create, after_update}
use Rattle.ctrl_model.specs.EntityCommands.{entity, described}
use Rattle.ctrl_model.specs.WorkedStates.{reply_to, names_of_two_bytes}
use Rattle.model_laws.proofs.DistinctNames.{carried_by_one, ascends, more_names, no_more_names, no_more_names-again}
use Rattle.model_laws.proofs.worked.limit_of_attributes.Goals as goal

-- ---- of names that are not computed

refused : (test : Bool) (s : State) (made : Reply) (effect : State) → test ≡ true
    → (carried_out (refuse_if test (refusal.Full kind.Attribute)) s made effect).0 ≡ reply.Refused (refusal.Full kind.Attribute)
refused test s made effect e = ap (λ b. (carried_out (refuse_if b (refusal.Full kind.Attribute)) s made effect).0) e

not_refused : (test : Bool) (s : State) (made : Reply) (effect : State) → test ≡ false
    → (carried_out (refuse_if test (refusal.Full kind.Attribute)) s made effect).0 ≡ made
not_refused test s made effect e = ap (λ b. (carried_out (refuse_if b (refusal.Full kind.Attribute)) s made effect).0) e

one_more : (names : List (List ℕ)) → ascends 0 ((names ++ []) ++ codes "a" ∷ []) ≡ true → nat_lt (limit kind.Attribute) (length ((names ++ []) ++ codes "a" ∷ [])) ≡ true
    → reply_to (CreateService (codes "web") (codes "a" ∷ [])) (carried_by_one names) ≡ reply.Refused (refusal.Full kind.Attribute)
one_more names up long =
    refused _ (carried_by_one names) (reply.Made 1) (after_create kind.Service (entity (codes "web") (codes "a" ∷ [])) (carried_by_one names))
    (more_names (limit kind.Attribute) ((names ++ []) ++ codes "a" ∷ []) up long)

used_twice : (names : List (List ℕ)) → nat_le (length (names ++ [])) (limit kind.Attribute) ≡ true → is_member bytes_eq (names ++ []) (codes "AA") ≡ true
    → reply_to (CreateService (codes "web") (codes "AA" ∷ [])) (carried_by_one names) ≡ reply.Made 1
used_twice names short there =
    not_refused _ (carried_by_one names) (reply.Made 1) (after_create kind.Service (entity (codes "web") (codes "AA" ∷ [])) (carried_by_one names))
    (no_more_names-again (limit kind.Attribute) (names ++ []) (codes "AA") short there)

another : (names others : List (List ℕ)) → nat_le (length ((others ++ []) ++ [])) (limit kind.Attribute) ≡ true
    → reply_to (UpdateIdentity (codes "a") others) (carried_by_one names) ≡ reply.Done
another names others short =
    not_refused _ (carried_by_one names) reply.Done (after_update kind.Identity (codes "a") (described others) (carried_by_one names))
    (no_more_names (limit kind.Attribute) ((others ++ []) ++ []) short)

kind_first : (names : List (List ℕ))
    → reply_to (CreateService (codes "web") (codes "a" ∷ [])) (record (carried_by_one names) { services = record start.services { next = last_next } }) ≡ reply.Refused (refusal.Full kind.Service)
kind_first names = refl

-- ---- of the names of two bytes, whose ranks, length and members compute

pub returns-clause-one_more : goal.returns-clause-one_more
returns-clause-one_more c = one_more names_of_two_bytes refl refl

pub returns-clause-used_twice : goal.returns-clause-used_twice
returns-clause-used_twice c = used_twice names_of_two_bytes refl refl

pub returns-clause-another : goal.returns-clause-another
returns-clause-another c = another names_of_two_bytes (codes "a" ∷ drop 1 names_of_two_bytes) refl

pub returns-clause-kind_first : goal.returns-clause-kind_first
returns-clause-kind_first c = kind_first names_of_two_bytes
