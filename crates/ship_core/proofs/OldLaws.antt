-- What is shipped of a folder of the first format, and of one without records.
use Rattle.std.proofs.Common.{◌≡◌, ℕ, zero, suc, ◌<◌, Bool, true, false, cond, List, [], ◌∷◌, length, map, refl, sym, ap, ◌∙◌, subst, append-nil, arith}
use Rattle.std.specs.Prelude.{nat_le}
use Rattle.std.proofs.lemmas.Bool.{leb-true}
use Rattle.ziti_outside.specs.declared.desk.Part.TheVariants.{Mark}
use Rattle.ziti_outside.specs.Images.{Image}
use Rattle.ctrl_model.specs.declared.formats.Format.{Format}
use Rattle.ctrl_model.specs.declared.formats.Format.TheVariants.{One, Two}
use Rattle.ctrl_model.specs.State.{State, start}
use Rattle.ctrl_model.specs.ValidState.{ValidState}
use Rattle.channel_frame.specs.declared.frames.Frame.{Frame}
use Rattle.slot_files.specs.FolderImage.{StandsBy, Stands}
use Rattle.row_codec.specs.declared.changes.Op.{Op}
use Rattle.row_codec.specs.NarrowedRows.{narrowed}
use Rattle.row_codec.specs.Batches.{batch_bytes, IsBatch}
use Rattle.row_codec.specs.StateRows.{HasRows}
use Rattle.row_laws.proofs.BatchForms.{IsBatch-between}
use Rattle.row_laws.proofs.NarrowedLaws.{rows_narrowed}
use Rattle.row_laws.proofs.StateBatches.{batch_leads}
use Rattle.slot_reading.specs.BatchRows.{ByteRows, Give, puts, rows_after}
use Rattle.slot_files.proofs.StandLaws.{one_stands}
use Rattle.row_store.specs.RewrittenStores.{compacted}
use Rattle.row_store.specs.OpenedStates.{byte_rows_of, OpensToState}
use Rattle.row_store.specs.StoredRows.{Stored, IsStoreOf}
use Rattle.row_store.proofs.StateRows.{puts_of_state, start_rows, start_valid}
use Rattle.ship_frames.specs.Pieces.{frames_of, frames_of_all}
use Rattle.ship_core.specs.Shipping.{rows_behind_all, old_whole, old_shipments, shipments, chosen, shipped, applied}
use Rattle.ship_core.proofs.OpsLaws.{ops_spelled}
use Rattle.ship_core.proofs.WayLaws.{given_behind}

-- What a test denies does not hold.
pub unlike : {P : Type 0} (told : Bool) → told ≡ false → (P → told ≡ true) → P → ⊥
unlike told no_one yes_if p = let both : false ≡ true = sym no_one ∙ yes_if p in cc

-- What is shipped of rows of the first format.
abbrev pub old_frames : (from : ℕ) → ByteRows → List Frame
old_frames from rows = frames_of_all 0 (chosen from (old_shipments rows))

-- Nothing is shipped from a later serial on.
pub old_none : (from : ℕ) (rows : ByteRows) → 0 < from → old_frames from rows ≡ []
old_none from rows later = by (map narrowed rows)
  where
    by : (narrow : ByteRows) → frames_of_all 0 (chosen from (map old_whole (compacted narrow))) ≡ []
    by [] = refl
    by (x ∷ xs) = one (nat_le from 0) refl
      where
        one : (b : Bool) → nat_le from 0 ≡ b → frames_of_all 0 (cond b (old_whole (batch_bytes (puts (x ∷ xs))) ∷ []) []) ≡ []
        one true e = let low = leb-true from 0 e in absurd (omega (arith, low, later))
        one false e = refl

-- Nothing is shipped of no rows.
pub old_empty : (from : ℕ) (rows : ByteRows) (ops : List Op) → ops ≡ puts (map narrowed rows) → ops ≡ [] → old_frames from rows ≡ []
old_empty from rows ops e none = by (map narrowed rows) (sym e ∙ none)
  where
    by : (narrow : ByteRows) → puts narrow ≡ [] → frames_of_all 0 (chosen from (map old_whole (compacted narrow))) ≡ []
    by [] p = refl
    by (x ∷ xs) p = absurd cc

-- Else it is the one Whole.
pub old_some : (from : ℕ) (rows : ByteRows) (ops : List Op) → from ≡ 0 → ops ≡ puts (map narrowed rows) → (ops ≡ [] → ⊥) → frames_of 0 (old_whole (batch_bytes ops)) ≡ old_frames from rows
old_some from rows ops first e some =
    ap (λ (l : List Op). frames_of 0 (old_whole (batch_bytes l))) e
    ∙ by (map narrowed rows) (λ p. some (e ∙ p))
    ∙ ap (λ (n : ℕ). old_frames n rows) (sym first)
  where
    by : (narrow : ByteRows) → (puts narrow ≡ [] → ⊥) → frames_of 0 (old_whole (batch_bytes (puts narrow))) ≡ frames_of_all 0 (chosen 0 (map old_whole (compacted narrow)))
    by [] n = absurd (n refl)
    by (x ∷ xs) n = sym (append-nil (frames_of 0 (old_whole (batch_bytes (puts (x ∷ xs))))))

-- The frames of the Whole that was made are those.
pub old_made : (from : ℕ) (rows : ByteRows) (ops : List Op) (bytes : List ℕ) → from ≡ 0 → ops ≡ puts (map narrowed rows) → (ops ≡ [] → ⊥) → bytes ≡ batch_bytes ops
    → frames_of 0 (old_whole bytes) ≡ old_frames from rows
old_made from rows ops bytes first e some spelled = ap (λ (b : List ℕ). frames_of 0 (old_whole b)) spelled ∙ old_some from rows ops first e some

-- What is shipped of a store of the first format is what is shipped of its folder.
pub old_shipped : (reads : Image) (stored : Stored) (from : ℕ) (batches : List (List ℕ)) → stored.format ≡ One → IsStoreOf reads stored → Stands One reads batches
    → old_frames from stored.rows ≡ shipped from One batches
old_shipped reads stored from batches format kept stands =
    let own : Stands One reads kept.batches = subst (λ (f : Format). Stands f reads kept.batches) format kept.stands in
    let same : kept.batches ≡ batches = (one_stands One One reads kept.batches batches own stands).1 in
    ap (old_frames from) (sym (given_behind stored.format kept.batches stored.rows kept.give) ∙ ap (rows_behind_all []) same)

-- Nothing is shipped of a folder without records.
pub nothing_shipped : (from : ℕ) (format : Format) → shipped from format [] ≡ []
nothing_shipped from One = refl
nothing_shipped from Two = refl

-- Over an empty mark there are none.
pub none_stand : (reads : Image) (format : Format) (batches : List (List ℕ)) → length (reads Mark) ≡ 0 → Stands format reads batches → batches ≡ []
none_stand reads format batches e stands = subst (λ (m : ℕ). StandsBy m format reads batches) e stands

-- ---- the rows of its state

-- All rows of a valid state are put by one batch, which leads to them from none.
puts_batch : (f : Format) (s : State) → ValidState s → IsBatch (puts (byte_rows_of f s))
puts_batch f s valid = subst IsBatch (puts_of_state f s) (IsBatch-between f start s start_valid valid)

puts_lead : (f : Format) (s : State) → ValidState s → rows_after [] (puts (byte_rows_of f s)) ≡ byte_rows_of f s
puts_lead f s valid =
    ap (λ (r : ByteRows). rows_after r (puts (byte_rows_of f s))) (sym (start_rows f)) ∙ ap (rows_after (byte_rows_of f start)) (sym (puts_of_state f s))
    ∙ batch_leads f start s start_valid valid

-- The Whole of rows is applied so.
whole_applied : (rows : ByteRows) → IsBatch (puts rows) → rows_after [] (puts rows) ≡ rows → applied [] (map old_whole (compacted rows)) ≡ rows
whole_applied [] batch lead = refl
whole_applied (x ∷ xs) batch lead = ap (rows_after []) (ops_spelled (batch_bytes (puts (x ∷ xs))) (puts (x ∷ xs)) (record { batch = batch; spelled = refl })) ∙ lead

-- What is shipped of the rows of a state of the first format is the Whole of its rows in the second.
old_whole_of : (s : State) (batches : List (List ℕ)) → HasRows One s → Give One batches (byte_rows_of One s) → shipments One batches ≡ map old_whole (compacted (byte_rows_of Two s))
old_whole_of s batches has give =
    ap old_shipments (given_behind One batches (byte_rows_of One s) give) ∙ ap (λ (r : ByteRows). map old_whole (compacted r)) (sym (rows_narrowed s has))

-- And so of a folder of the first format that opens to a state.
pub opened_whole : (image : Image) (s : State) (batches : List (List ℕ)) → Stands One image batches → OpensToState image s → shipments One batches ≡ map old_whole (compacted (byte_rows_of Two s))
opened_whole image s batches stands opens = by opens.format (length (image Mark)) refl opens.has opens.rows.stands opens.rows.give
  where
    own : List (List ℕ)
    own = opens.rows.batches

    by : (f : Format) (n : ℕ) → length (image Mark) ≡ n → HasRows f s → Stands f image own → Give f own (byte_rows_of f s) → shipments One batches ≡ map old_whole (compacted (byte_rows_of Two s))
    by One n e has these give = old_whole_of s batches has (subst (λ (l : List (List ℕ)). Give One l (byte_rows_of One s)) (one_stands One One image own batches these stands).1 give)
    by Two zero e has these give =
        let rows : byte_rows_of Two s ≡ [] = subst (λ (l : List (List ℕ)). Give Two l (byte_rows_of Two s)) (none_stand image Two own e these) give in
        ap (shipments One) (none_stand image One batches e stands) ∙ ap (λ (r : ByteRows). map old_whole (compacted r)) (sym rows)
    by Two (suc n) e has these give =
        let same : Two ≡ One = (one_stands Two One image own batches these stands).0 (omega (arith, e)) in
        absurd cc

-- Applied to no rows it leads to those.
pub opened_applied : (image : Image) (s : State) (batches : List (List ℕ)) → Stands One image batches → OpensToState image s → applied [] (shipments One batches) ≡ byte_rows_of Two s
opened_applied image s batches stands opens =
    ap (applied []) (opened_whole image s batches stands opens) ∙ whole_applied (byte_rows_of Two s) (puts_batch Two s opens.valid) (puts_lead Two s opens.valid)
