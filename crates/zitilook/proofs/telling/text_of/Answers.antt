use Rattle.std.proofs.Common.{◌≡◌, IfOk, sym, subst}
use Rattle.zitilook.specs.LookedTexts.{text_of}
use Rattle.zitilook.specs.declared.telling.Look.{Look}
use Rattle.zitilook.proofs.telling.text_of.Goals as goal

pub returns-in-Why : goal.returns-in-Why
returns-in-Why c = subst (λ (l : Look). IfOk c.why_of.result (λ t. t ≡ text_of l c.args.core.state)) (sym c.in-Why.is) c.why_of.ensures
