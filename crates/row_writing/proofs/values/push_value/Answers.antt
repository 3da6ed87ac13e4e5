use Rattle.std.proofs.Common.{◌≡◌, ℕ, Bool, List, ◌++◌, refl, ◌∙◌, ap}
use Rattle.std.proofs.lemmas.Result.{on_ok_weaker}
use Rattle.ctrl_model.specs.declared.formats.Format.{Format}
use Rattle.ctrl_model.specs.declared.intercepts.Intercept.{Intercept}
use Rattle.ctrl_model.specs.declared.numbering.IdentityNo.{IdentityNo}
use Rattle.ctrl_model.specs.declared.numbering.RouterNo.{RouterNo}
use Rattle.ctrl_model.specs.declared.numbering.ServiceNo.{ServiceNo}
use Rattle.row_codec.specs.declared.rows.Row.{Row}
use Rattle.row_codec.specs.declared.rows.Row.TheVariants as row
use Rattle.row_codec.specs.RowForm.{value_of}
use Rattle.row_writing.specs.TableValues.{value_between}
use Rattle.row_writing.proofs.values.push_value.Goals as goal

-- a row of no other table is one of what joins entities
joins : (f : Format) (r : Row) → ((k n : ℕ) → r ≡ row.Next k n → ⊥) → ((n : ℕ) → r ≡ row.Setting n → ⊥)
    → ((n : IdentityNo) (name : List ℕ) (attributes : List (List ℕ)) → r ≡ row.Identity n name attributes → ⊥) → ((n : ServiceNo) (name : List ℕ) (attributes : List (List ℕ)) → r ≡ row.Service n name attributes → ⊥)
    → ((n : RouterNo) (name : List ℕ) (attributes : List (List ℕ)) (cost : ℕ) (through connected : Bool) → r ≡ row.Router n name attributes cost through connected → ⊥)
    → ((a : IdentityNo) (b : ServiceNo) (n : ℕ) → r ≡ row.Dial a b n → ⊥) → ((a : IdentityNo) (b : ServiceNo) (n : ℕ) → r ≡ row.Bind a b n → ⊥)
    → ((a : IdentityNo) (b : RouterNo) (n : ℕ) → r ≡ row.IdentityRouter a b n → ⊥) → ((a : ServiceNo) (b : RouterNo) (n : ℕ) → r ≡ row.ServiceRouter a b n → ⊥)
    → ((n : ServiceNo) (i : Intercept) → r ≡ row.Intercept n i → ⊥) → ((n : ℕ) → r ≡ row.Serial n → ⊥)
    → value_between 6 12 r ≡ value_of f r
joins f (row.Next k n) next setting identity service router dial bind identity_router service_router intercept serial = absurd (next k n refl)
joins f (row.Setting n) next setting identity service router dial bind identity_router service_router intercept serial = absurd (setting n refl)
joins f (row.Identity n name attributes) next setting identity service router dial bind identity_router service_router intercept serial = absurd (identity n name attributes refl)
joins f (row.Service n name attributes) next setting identity service router dial bind identity_router service_router intercept serial = absurd (service n name attributes refl)
joins f (row.Router n name attributes cost through connected) next setting identity service router dial bind identity_router service_router intercept serial =
    absurd (router n name attributes cost through connected refl)
joins f (row.Link n name a b cost latency_a latency_b up) next setting identity service router dial bind identity_router service_router intercept serial = refl
joins f (row.ServicePolicy n name relation semantic left right) next setting identity service router dial bind identity_router service_router intercept serial = refl
joins f (row.EdgeRouterPolicy n name semantic left right) next setting identity service router dial bind identity_router service_router intercept serial = refl
joins f (row.ServiceEdgeRouterPolicy n name semantic left right) next setting identity service router dial bind identity_router service_router intercept serial = refl
joins f (row.Terminator n s r host instance cost precedence) next setting identity service router dial bind identity_router service_router intercept serial = refl
joins f (row.Circuit n i s terminator ingress links) next setting identity service router dial bind identity_router service_router intercept serial = refl
joins f (row.Dial a b n) next setting identity service router dial bind identity_router service_router intercept serial = absurd (dial a b n refl)
joins f (row.Bind a b n) next setting identity service router dial bind identity_router service_router intercept serial = absurd (bind a b n refl)
joins f (row.IdentityRouter a b n) next setting identity service router dial bind identity_router service_router intercept serial = absurd (identity_router a b n refl)
joins f (row.ServiceRouter a b n) next setting identity service router dial bind identity_router service_router intercept serial = absurd (service_router a b n refl)
joins f (row.Intercept n i) next setting identity service router dial bind identity_router service_router intercept serial = absurd (intercept n i refl)
joins f (row.Serial n) next setting identity service router dial bind identity_router service_router intercept serial = absurd (serial n refl)

pub returns-in_default : goal.returns-in_default
returns-in_default c =
    let d = c.in_default in
    on_ok_weaker c.push_joining.result
    (λ e. e ∙ ap (λ (v : List ℕ). c.args.out.now.items ++ v)
    (joins c.args.format c.args.row.now d.not-Next d.not-Setting d.not-Identity d.not-Service d.not-Router d.not-Dial d.not-Bind d.not-IdentityRouter d.not-ServiceRouter d.not-Intercept d.not-Serial))
    c.push_joining.ensures
