-- The lines of rows in a picture are those of the records of the state that they give.
use Rattle.std.proofs.Common.{◌≡◌, ℕ, cond, List, [], ◌∷◌, ◌++◌, flat_map, refl, ◌∙◌, ap}
use Rattle.ctrl_model.specs.declared.kinds.Kind.{Kind}
use Rattle.ctrl_model.specs.declared.kinds.Kind.TheVariants as kind
use Rattle.ctrl_model.specs.State.{State}
use Rattle.row_codec.specs.declared.rows.Row.{Row}
use Rattle.row_codec.specs.declared.rows.Row.TheVariants as row
use Rattle.state_building.specs.BuiltStates.{state_in}
use Rattle.record_lines.specs.declared.listing.Listed.TheVariants as listed
use Rattle.record_lines.specs.RowTexts.{is_of}
use Rattle.record_lines.proofs.RowRecords.{said_of_records}
use Rattle.network_picture.specs.Pictures.{Marks, drawn, kind_drawn, picture_asked}
use Rattle.network_picture.specs.RowPictures.{asked_of_record, drawn_where, row_asked}

pub kind_of_rows : (m : Marks) (k : Kind) (rows : List Row) → flat_map (drawn_where m k) rows ≡ kind_drawn m (state_in rows) k
kind_of_rows m k rows = said_of_records (λ j x. drawn m j x) (λ x. []) k rows

-- ---- a circuit that a word asks for

-- circuits alone are asked for
asked_row : (word : List ℕ) (s : State) (x : Row) → row_asked word s x ≡ cond (is_of (listed.Records kind.Circuit) x) (row_asked word s x) []
asked_row word s (row.Identity n name attributes) = refl
asked_row word s (row.Service n name attributes) = refl
asked_row word s (row.Router n name attributes cost through connected) = refl
asked_row word s (row.Link n name a b cost latency_a latency_b up) = refl
asked_row word s (row.ServicePolicy n name relation semantic identities services) = refl
asked_row word s (row.EdgeRouterPolicy n name semantic identities routers) = refl
asked_row word s (row.ServiceEdgeRouterPolicy n name semantic services routers) = refl
asked_row word s (row.Terminator n service router host instance cost precedence) = refl
asked_row word s (row.Circuit n identity service terminator ingress links) = refl
asked_row word s x = refl

asked_rows : (word : List ℕ) (s : State) (rows : List Row)
    → flat_map (row_asked word s) rows ≡ flat_map (λ x. cond (is_of (listed.Records kind.Circuit) x) (row_asked word s x) []) rows
asked_rows word s [] = refl
asked_rows word s (x ∷ xs) =
    ap (λ (h : List ℕ). h ++ flat_map (row_asked word s) xs) (asked_row word s x)
    ∙ ap (λ (t : List ℕ). cond (is_of (listed.Records kind.Circuit) x) (row_asked word s x) [] ++ t) (asked_rows word s xs)

-- the pictures that rows ask for are that of the circuit whose number the word is
pub asked_of_rows : (word : List ℕ) (rows : List Row) → flat_map (row_asked word (state_in rows)) rows ≡ picture_asked word (state_in rows)
asked_of_rows word rows =
    asked_rows word (state_in rows) rows ∙ said_of_records (λ k x. asked_of_record word (state_in rows) k x) (λ x. []) kind.Circuit rows
