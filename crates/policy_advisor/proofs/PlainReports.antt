-- No report has a float.
use Rattle.std.proofs.Common.{◌≡◌, ℕ, false, List, refl}
use Rattle.serde_json.specs.Data.{string}
use Rattle.serde_json.specs.Written.{has_float}
use Rattle.ctrl_model.specs.State.{Router}
use Rattle.reply_codec.proofs.Integers.{items_plain, naturals_plain}
use Rattle.policy_advisor.specs.declared.advised.Advice.{Advice}
use Rattle.policy_advisor.specs.Reports.{mark_array, report_object, router_name}

pub report_plain : (routers : List (ℕ × Router)) (a : Advice) → has_float (report_object routers a) ≡ false
report_plain routers a =
    rw (naturals_plain a.admissible, items_plain (λ n. string (router_name routers n)) (λ n. refl) a.common, items_plain (λ n. string (router_name routers n)) (λ n. refl) a.online, items_plain mark_array (λ m. refl) a.policies, naturals_plain a.terminators)
