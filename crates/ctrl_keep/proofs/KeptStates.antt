-- What the batch between two valid states makes of the rows that a store has, and what an image then opens to.
use Rattle.std.proofs.Common.{◌≡◌, ◌⊎◌, inl, inr, List, [], sym, ap, ◌∙◌, subst}
use Rattle.ziti_outside.specs.Images.{Image}
use Rattle.ctrl_model.specs.declared.formats.Format.{Format}
use Rattle.ctrl_model.specs.State.{State}
use Rattle.ctrl_model.specs.ValidState.{ValidState}
use Rattle.ctrl_model.specs.Controller.{counted}
use Rattle.row_codec.specs.declared.changes.Op.{Op}
use Rattle.row_codec.specs.RowDifference.{IsTrueDifference}
use Rattle.row_codec.specs.StateRows.{HasRows}
use Rattle.row_codec.specs.Batches.{bytes_cmp, entries_of, batch_between, IsBatch}
use Rattle.row_laws.proofs.BatchForms.{IsBatch-between}
use Rattle.row_laws.proofs.StateBatches.{batch_leads, batch_is_true, batch_between-same}
use Rattle.slot_reading.specs.BatchRows.{ByteRows, MayLead, rows_after}
use Rattle.row_store.specs.OpenedRows.{OpensTo}
use Rattle.row_store.specs.OpenedStates.{byte_rows_of, OpensToState}
use Rattle.row_store.specs.StoredRows.{Stored, ReadsAs}
use Rattle.row_store.proofs.CommitLaws.{reads_opens}
use Rattle.row_store.proofs.StateRows.{opens_state}
use Rattle.ctrl_core.specs.KeptFormat.{kept_format}
use Rattle.ctrl_core.specs.KeptState.{Cored}
use Rattle.ctrl_keep.specs.KeptController.{Keeps}
use Rattle.ctrl_keep.proofs.SerialRows.{counted_raises}

-- The rows after the batch are those of the next state.
pub rows_lead : (f : Format) (s t : State) (rows : ByteRows) (ops : List Op) → ValidState s → ValidState t → rows ≡ byte_rows_of f s → ops ≡ batch_between f s t → rows_after rows ops ≡ byte_rows_of f t
rows_lead f s t rows ops v w e g =
    ap (λ (r : ByteRows). rows_after r ops) e ∙ ap (λ (o : List Op). rows_after (byte_rows_of f s) o) g ∙ batch_leads f s t v w

-- The batch can be spelled.
pub batch_form : (f : Format) (s t : State) (ops : List Op) → ValidState s → ValidState t → ops ≡ batch_between f s t → IsBatch ops
batch_form f s t ops v w e = subst IsBatch (sym e) (IsBatch-between f s t v w)

-- A batch that is not empty is a true difference of the rows.
pub batch_changes : (f : Format) (s t : State) (rows : ByteRows) (ops : List Op) → ValidState s → ValidState t → HasRows f s → HasRows f t → rows ≡ byte_rows_of f s → ops ≡ batch_between f s t
    → (ops ≡ [] → ⊥) → IsTrueDifference bytes_cmp rows (entries_of ops)
batch_changes f s t rows ops v w has_s has_t e g some =
    subst (λ (r : ByteRows). IsTrueDifference bytes_cmp r (entries_of ops)) (sym e)
    (subst (λ (o : List Op). IsTrueDifference bytes_cmp (byte_rows_of f s) (entries_of o)) (sym g)
    (batch_is_true f s t v w has_s has_t (λ same. some (g ∙ ap (batch_between f s) (sym same) ∙ batch_between-same f s v))))

-- A batch that is not empty raises the serial, so that it may lead on.
pub kept_leads : (stored : Stored) (s t : State) (ops : List Op) → stored.format ≡ kept_format → ValidState s → ValidState (counted s t) → stored.rows ≡ byte_rows_of kept_format s
    → ops ≡ batch_between kept_format s (counted s t) → (ops ≡ [] → ⊥) → MayLead stored.format stored.end stored.rows (rows_after stored.rows ops)
kept_leads stored s t ops format v w e g some =
    subst (λ (f : Format). MayLead f stored.end stored.rows (rows_after stored.rows ops)) (sym format)
    (subst (λ (r : ByteRows). MayLead kept_format stored.end stored.rows r) (sym (rows_lead kept_format s (counted s t) stored.rows ops v w e g))
    (subst (λ (r : ByteRows). MayLead kept_format stored.end r (byte_rows_of kept_format (counted s t))) (sym e)
    (inr (counted_raises s t v w (λ same. some (g ∙ ap (batch_between kept_format s) (sym same) ∙ batch_between-same kept_format s v))))))

-- What opens to the rows of a state, in a format that is the kept one, opens to the state.
pub opens_kept_state : (f : Format) (image : Image) (s : State) (rows : ByteRows) → f ≡ kept_format → ValidState s → rows ≡ byte_rows_of kept_format s
    → OpensTo f image rows → OpensToState image s
opens_kept_state f image s rows same v e p = opens_state kept_format image s rows v tt e (subst (λ (g : Format). OpensTo g image rows) same p)

-- What opens to the rows after the batch opens to the next state.
pub opens_next : (f : Format) (image : Image) (s t : State) (rows : ByteRows) (ops : List Op) → f ≡ kept_format → ValidState s → ValidState t → rows ≡ byte_rows_of kept_format s
    → ops ≡ batch_between kept_format s t → OpensTo f image (rows_after rows ops) → OpensToState image t
opens_next f image s t rows ops same v w e g p = opens_kept_state f image t (rows_after rows ops) same w (rows_lead kept_format s t rows ops v w e g) p

pub opens_either : (f : Format) (image : Image) (s t : State) (rows : ByteRows) (ops : List Op) → f ≡ kept_format → ValidState s → ValidState t
    → rows ≡ byte_rows_of kept_format s → ops ≡ batch_between kept_format s t → OpensTo f image rows ⊎ OpensTo f image (rows_after rows ops) → OpensToState image s ⊎ OpensToState image t
opens_either f image s t rows ops same v w e g (inl p) = inl (opens_kept_state f image s rows same v e p)
opens_either f image s t rows ops same v w e g (inr p) = inr (opens_next f image s t rows ops same v w e g p)

-- Every image of a folder that reads as a store stands opens to the state that the store keeps.
pub still_opens : (core : Cored) (stored : Stored) (reads : Image) (images : Image → Type 0) → Keeps core stored → ReadsAs stored reads images → (image : Image) → images image
    → OpensToState image core.state
still_opens core stored reads images k r image p = opens_kept_state stored.format image core.state stored.rows k.format k.valid k.rows (reads_opens stored reads images r image p)
