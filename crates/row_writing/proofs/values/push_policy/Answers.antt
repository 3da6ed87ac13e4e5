use Rattle.std.proofs.Common.{◌≡◌, ℕ, List, [], ◌++◌, refl, sym, ◌∙◌, ap}
use Rattle.std.proofs.lemmas.List.{append-nil}
use Rattle.ctrl_model.specs.declared.kinds.Relation.{Relation}
use Rattle.ctrl_model.specs.declared.kinds.Semantic.{Semantic}
use Rattle.ctrl_model.specs.declared.numbering.PolicyNo.{PolicyNo}
use Rattle.ctrl_model.specs.declared.kinds.Side.{Side}
use Rattle.row_codec.specs.declared.rows.Row.{Row}
use Rattle.row_codec.specs.declared.rows.Row.TheVariants as row
use Rattle.row_writing.specs.TableValues.{value_between}
use Rattle.row_writing.proofs.values.push_policy.Goals as goal

-- a row that is no policy's has no value among those of policies
no_policy : (r : Row) → ((n : PolicyNo) (name : List ℕ) (relation : Relation) (semantic : Semantic) (left right : Side) → r ≡ row.ServicePolicy n name relation semantic left right → ⊥)
    → ((n : PolicyNo) (name : List ℕ) (semantic : Semantic) (left right : Side) → r ≡ row.EdgeRouterPolicy n name semantic left right → ⊥)
    → ((n : PolicyNo) (name : List ℕ) (semantic : Semantic) (left right : Side) → r ≡ row.ServiceEdgeRouterPolicy n name semantic left right → ⊥)
    → value_between 7 10 r ≡ []
no_policy (row.Next k n) one two three = refl
no_policy (row.Setting n) one two three = refl
no_policy (row.Identity n name attributes) one two three = refl
no_policy (row.Service n name attributes) one two three = refl
no_policy (row.Router n name attributes cost through connected) one two three = refl
no_policy (row.Link n name a b cost latency_a latency_b up) one two three = refl
no_policy (row.Terminator n s r host instance cost precedence) one two three = refl
no_policy (row.Circuit n i s terminator ingress links) one two three = refl
no_policy (row.Dial a b n) one two three = refl
no_policy (row.Bind a b n) one two three = refl
no_policy (row.IdentityRouter a b n) one two three = refl
no_policy (row.ServiceRouter a b n) one two three = refl
no_policy (row.Intercept n i) one two three = refl
no_policy (row.Serial n) one two three = refl
no_policy (row.ServicePolicy n name relation semantic left right) one two three = absurd (one n name relation semantic left right refl)
no_policy (row.EdgeRouterPolicy n name semantic left right) one two three = absurd (two n name semantic left right refl)
no_policy (row.ServiceEdgeRouterPolicy n name semantic left right) one two three = absurd (three n name semantic left right refl)

pub returns-in_default : goal.returns-in_default
returns-in_default c =
    let d = c.in_default in
    let old = c.args.out.now.items in
    sym (ap (λ (v : List ℕ). old ++ v) (no_policy c.args.row.now d.not-ServicePolicy d.not-EdgeRouterPolicy d.not-ServiceEdgeRouterPolicy) ∙ append-nil old)
