-- What the steps of the findings find. Only private functions and proofs of this crate cite this file.
use Rattle.std.specs.Prelude.{ℕ, ◌==◌, false, List, [], ◌∷◌, ◌++◌, is_none, Some}
use Rattle.std.specs.declared.option.Option.{Option}
use Rattle.ctrl_model.specs.declared.refusals.Denial.TheVariants.{UnknownIdentity, UnknownService, NoDial, NoSharedRouter, SharedRoutersOffline, NoTerminators, NoAdmissibleTerminator, NoPath, CircuitsFull}
use Rattle.ctrl_model.specs.Choices.{candidates_for}
use Rattle.ctrl_model.specs.Matches.{is_nothing}
use Rattle.ctrl_model.specs.Networks.{Network}
use Rattle.ctrl_model.specs.State.{Entity, Router, entity_named}
use Rattle.policy_advisor.specs.declared.advised.Advice.{Advice}
use Rattle.policy_advisor.specs.Advice.{of_both, plain_ask}
use Rattle.access_reasons.specs.declared.findings.Finding.{Finding}
use Rattle.access_reasons.specs.Reasons.{admissible_parts, dial_parts, name_parts, online_parts, path_parts, shared_parts, terminator_parts}

-- A network by other counts of Dial, where circuits are not full.
abbrev pub granted_by : Network → (ℕ → ℕ → ℕ) → Network
granted_by w dial = record w { dial = dial; full = false }

-- The findings on Dial and on where a circuit enters, of an advice.
abbrev pub entry_findings : Network → List (ℕ × Router) → Advice → ℕ → ℕ → List Finding
entry_findings w routers a i s =
    record { rule = NoDial; fails = a.dial == 0; parts = dial_parts a.policies }
    ∷ record { rule = NoSharedRouter; fails = is_nothing a.common; parts = shared_parts w routers a i s }
    ∷ record { rule = SharedRoutersOffline; fails = is_nothing a.online; parts = online_parts routers a }
    ∷ []

-- The findings on where it ends.
abbrev pub exit_findings : Network → List (ℕ × Entity) → List (ℕ × Router) → Advice → List Finding
exit_findings w identities routers a =
    record { rule = NoTerminators; fails = is_nothing a.terminators; parts = terminator_parts a }
    ∷ record { rule = NoAdmissibleTerminator; fails = is_nothing a.admissible; parts = admissible_parts w identities routers a }
    ∷ []

-- The findings on the way and on room.
abbrev pub way_findings : Network → List (ℕ × Router) → Advice → ℕ → ℕ → List Finding
way_findings w routers a i s =
    record { rule = NoPath; fails = is_nothing (candidates_for w (plain_ask (Some i) (Some s)) i s); parts = path_parts w routers a }
    ∷ record { rule = CircuitsFull; fails = w.full; parts = [] }
    ∷ []

-- All findings on two that are present.
abbrev pub pair_findings : Network → List (ℕ × Entity) → List (ℕ × Router) → Advice → ℕ → ℕ → List Finding
pair_findings w identities routers a i s =
    entry_findings w routers a i s ++ (exit_findings w identities routers a ++ way_findings w routers a i s)

-- The findings on two names that have these numbers, of their advice.
abbrev pub findings_with : Network → List (ℕ × Entity) → List (ℕ × Router) → Advice → List ℕ → List ℕ → Option ℕ → Option ℕ → List Finding
findings_with w identities routers a identity service i j =
    record { rule = UnknownIdentity; fails = is_none i; parts = name_parts identity }
    ∷ record { rule = UnknownService; fails = is_none j; parts = name_parts service }
    ∷ of_both i j [] (pair_findings w identities routers a)

-- The findings on two names, of their advice.
abbrev pub findings_by : Network → (identities services : List (ℕ × Entity)) → List (ℕ × Router) → Advice → List ℕ → List ℕ → List Finding
findings_by w identities services routers a identity service =
    findings_with w identities routers a identity service (entity_named identities identity) (entity_named services service)
