-- The commands on circuits keep a state valid. Which circuits stand is said by settling; here only their numbers and their
-- limit are shown.
use Rattle.std.proofs.Common.{◌≡◌, ℕ, Bool, true, false, cond, List, [], ◌∷◌, ◌⊎◌, inl, inr, Option, None, Some, refl, sym, ◌∙◌, ap}
use Rattle.std.proofs.lemmas.Bool.{false≢true}
use Rattle.std.specs.Option.{option_map_or}
use Rattle.ctrl_model.specs.declared.kinds.Kind.TheVariants as kind
use Rattle.ctrl_model.specs.declared.refusals.Denial.{Denial}
use Rattle.ctrl_model.specs.declared.refusals.Denial.TheVariants.{UnknownIdentity, UnknownService, CircuitsFull}
use Rattle.ctrl_model.specs.declared.refusals.Refusal.TheVariants.{Denied}
use Rattle.ctrl_model.specs.declared.replies.Reply.TheVariants.{Done, Refused}
use Rattle.ctrl_model.specs.Membership.{Among}
use Rattle.ctrl_model.specs.Limits.{limit}
use Rattle.ctrl_model.specs.State.{State}
use Rattle.ctrl_model.specs.Tables.{table}
use Rattle.ctrl_model.specs.RecordCommands.{after_remove}
use Rattle.ctrl_model.specs.Settling.{settle}
use Rattle.ctrl_model.specs.Networks.{Network, network_of}
use Rattle.ctrl_model.specs.Choices.{Ask, best, failing, first_denial, first_rule}
use Rattle.ctrl_model.specs.CircuitCommands.{create_circuit, after_create_circuit, granted_reply, delete_circuit, no_such_circuit}
use Rattle.ctrl_model.specs.ValidState.{ValidState}
use Rattle.model_laws.proofs.RefusalLaws.{has_room-parts, decided-holds}
use Rattle.model_laws.proofs.ValidLaws.{Orderly-from_valid, Follows, carried_out-follows, Orderly-create, Orderly-remove}

-- where no rule fails, none of them does
pub first_denial-none : (xs : List (Bool × Denial)) (x : Bool × Denial) → first_denial xs ≡ None → Among x xs → x.0 ≡ false
first_denial-none [] x e h = absurd h
first_denial-none (y ∷ xs) x e h = by y.0 refl e h (first_denial-none xs x)
  where
    by : (b : Bool) → y.0 ≡ b → cond b (Some y.1) (first_denial xs) ≡ None → (y ≡ x) ⊎ Among x xs → (first_denial xs ≡ None → Among x xs → x.0 ≡ false) → x.0 ≡ false
    by true is e h k = absurd (cc)
    by false is e (inl s) k = sym (ap (λ (z : Bool × Denial). z.0) s) ∙ is
    by false is e (inr m) k = k e m

-- a circuit is granted only where one more can be added
pub first_rule-full : (w : Network) (ask : Ask) → first_rule w ask ≡ None → w.full ≡ false
first_rule-full w ask e = by ask.identity ask.service e
  where
    by : (i s : Option ℕ) → option_map_or (λ i. option_map_or (λ s. first_denial (failing w ask i s)) s (Some UnknownService)) i (Some UnknownIdentity) ≡ None → w.full ≡ false
    by None s e = absurd (cc)
    by (Some i) None e = absurd (cc)
    by (Some i) (Some s) e = first_denial-none (failing w ask i s) (w.full, CircuitsFull) e (inr (inr (inr (inr (inr (inr (inr (inl refl))))))))

pub create_circuit-follows : (ask : Ask) (s : State) → ValidState s → Follows s (create_circuit ask s).1
create_circuit-follows ask s v = decided-holds (λ a. Follows s a.1) (first_rule (network_of s) ask) (best (network_of s) ask)
    (λ d. (Refused (Denied d), s)) (λ c. (granted_reply c s, settle (after_create_circuit ask c s))) (λ d. inl refl) (λ c none.
    let o = Orderly-from_valid s v in
    inr (
      after_create_circuit ask c s,
      Orderly-create kind.Circuit _ s o (λ h. absurd (false≢true h)) (has_room-parts (limit kind.Circuit) (table kind.Circuit s) (first_rule-full (network_of s) ask none)) refl o.attributes,
      refl,
    ))

pub delete_circuit-follows : (n : ℕ) (s : State) → ValidState s → Follows s (delete_circuit n s).1
delete_circuit-follows n s v =
    carried_out-follows (no_such_circuit n s) s Done (after_remove kind.Circuit n s) (λ none. Orderly-remove kind.Circuit n s refl (Orderly-from_valid s v))
