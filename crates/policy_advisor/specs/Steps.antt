-- What the steps of an advice find. Only private functions and proofs of this crate cite this file.
use Rattle.std.specs.Prelude.{ℕ, ◌==◌, Bool, false, List, ◌∷◌, [], Some}
use Rattle.std.specs.declared.option.Option.{Option}
use Rattle.std.specs.Option.{option_map_or}
use Rattle.ctrl_model.specs.declared.refusals.Denial.{Denial}
use Rattle.ctrl_model.specs.declared.refusals.Denial.TheVariants.{UnknownIdentity, UnknownService, NoDial, NoSharedRouter, SharedRoutersOffline, NoTerminators, NoAdmissibleTerminator}
use Rattle.ctrl_model.specs.Choices.{first_denial}
use Rattle.ctrl_model.specs.Matches.{is_nothing}
use Rattle.ctrl_model.specs.Networks.{Network, is_counted}
use Rattle.ctrl_model.specs.Numbered.{at}
use Rattle.policy_advisor.specs.declared.entering.Entries.{Entries}
use Rattle.policy_advisor.specs.declared.offering.Offers.{Offers}

-- Whether a request for a service and an instance counts the terminator of a number.
abbrev pub counts : Network → ℕ → List ℕ → ℕ → Bool
counts w s instance n = option_map_or (λ e. is_counted s instance (n, e)) (at w.terminators n) false

-- The first rule that fails, by what was found of each.
abbrev pub rule_by : Option ℕ → Option ℕ → ℕ → Entries → Offers → Option Denial
rule_by identity service dial entries offers =
    option_map_or (λ _. option_map_or (λ _. first_denial (
    (dial == 0, NoDial)
    ∷ (is_nothing entries.common, NoSharedRouter)
    ∷ (is_nothing entries.online, SharedRoutersOffline)
    ∷ (is_nothing offers.terminators, NoTerminators)
    ∷ (is_nothing offers.admissible, NoAdmissibleTerminator)
    ∷ [])) service (Some UnknownService)) identity (Some UnknownIdentity)
