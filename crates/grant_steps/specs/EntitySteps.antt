-- The steps of counts where one entity changes (docs/PROMISES.md, "The steps of counts").
use Rattle.std.specs.Prelude.{ℕ, List, None, Some, option_map}
use Rattle.ctrl_model.specs.declared.kinds.Kind.{Kind}
use Rattle.ctrl_model.specs.EntityCommands.{described}
use Rattle.ctrl_model.specs.Numbered.{at}
use Rattle.entity_store.specs.EntityTables.{Tables, entities, next_of}
use Rattle.policy_store.specs.declared.steps.GrantSteps.{GrantSteps}
use Rattle.policy_store.specs.PolicyTables.{PolicyTables}
use Rattle.grant_steps.specs.GrantChanges.{granting_state, StepsOfEntity}

-- The steps of one more entity of a kind.
abbrev pub Coming : Kind → List ℕ → List (List ℕ) → Tables → PolicyTables → GrantSteps → Type 0
Coming k name attributes t p steps =
    StepsOfEntity k (next_of k t) (record { before = None; after = Some (record { name = name; attributes = attributes }) })
    (granting_state t p) steps

-- The steps of a present entity of a kind and number that goes.
abbrev pub Going : Kind → ℕ → Tables → PolicyTables → GrantSteps → Type 0
Going k n t p steps = StepsOfEntity k n (record { before = at (entities k t) n; after = None }) (granting_state t p) steps

-- The steps of a present entity of a kind and number that gets other attributes.
abbrev pub IsDescribed : Kind → ℕ → List (List ℕ) → Tables → PolicyTables → GrantSteps → Type 0
IsDescribed k n attributes t p steps =
    StepsOfEntity k n (record {
      before = at (entities k t) n;
      after = option_map (described attributes) (at (entities k t) n);
    }) (granting_state t p) steps
