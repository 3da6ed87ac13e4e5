use Rattle.std.proofs.Common.{refl}
use Rattle.session_mux.proofs.worked.worked_memory.Goals as goal

pub returns-clause-frame : goal.returns-clause-frame
returns-clause-frame c = record { some = λ none quiet. cc; whole = λ none quiet. cc; plain = λ is. refl }

pub returns-clause-nothing : goal.returns-clause-nothing
returns-clause-nothing c = λ wants. wants.some refl refl

pub returns-clause-behind : goal.returns-clause-behind
returns-clause-behind c = λ wants.
    let unmet = wants.plain refl in
    cc

pub returns-clause-before_bad : goal.returns-clause-before_bad
returns-clause-before_bad c = record { some = λ none quiet. cc; whole = λ none quiet. cc; plain = λ is. cc }

pub returns-clause-at_bad : goal.returns-clause-at_bad
returns-clause-at_bad c = λ wants. wants.whole refl refl
