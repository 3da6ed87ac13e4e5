-- Rows that can be put: what operations and payloads leave of them.
use Rattle.std.proofs.Common.{ℕ, List, [], ◌∷◌, sym, subst}
use Rattle.std.specs.List.{AllByRecursion}
use Rattle.row_codec.specs.declared.changes.Op.{Op}
use Rattle.row_codec.specs.declared.changes.Op.TheVariants.{Put, Delete}
use Rattle.row_codec.specs.Batches.{IsSpelledOp}
use Rattle.row_laws.proofs.RisingRows.{All-append, All-filter}
use Rattle.slot_reading.specs.BatchRows.{ByteRows, Leads, ArePuttable, rows_after}

-- One operation more leaves rows that can be put.
puttable_entry : (rows : ByteRows) (op : Op) → ArePuttable rows → IsSpelledOp op → ArePuttable (rows_after rows (op ∷ []))
puttable_entry rows (Put key value) all fits =
    All-append (λ (x : List ℕ × List ℕ). IsSpelledOp (Put x.0 x.1)) _ _ (All-filter _ _ rows all) (fits, All-filter _ _ rows all)
puttable_entry rows (Delete key) all fits = All-filter (λ (x : List ℕ × List ℕ). IsSpelledOp (Put x.0 x.1)) _ rows all

-- So do some.
pub puttable_after : (rows : ByteRows) (ops : List Op) → ArePuttable rows → AllByRecursion IsSpelledOp ops → ArePuttable (rows_after rows ops)
puttable_after rows [] all fits = all
puttable_after rows (op ∷ ops) all fits = puttable_after (rows_after rows (op ∷ [])) ops (puttable_entry rows op all fits.0) fits.1

-- And so does a payload that leads on from them.
pub puttable_leads : (rows next : ByteRows) (payload : List ℕ) → Leads rows payload next → ArePuttable rows → ArePuttable next
puttable_leads rows next payload l all = subst ArePuttable (sym l.after) (puttable_after rows l.ops all l.spelled.batch.fits)
