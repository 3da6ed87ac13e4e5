-- What is shipped of a folder of the second format leads from the rows of a serial to the rows of the folder.
use Rattle.std.proofs.Common.{◌≡◌, ℕ, ◌+◌, ◌<◌, ◌≤◌, Bool, true, false, cond, List, [], ◌∷◌, ◌++◌, filter, refl, sym, ap, ◌∙◌, subst, arith}
use Rattle.std.specs.List.{AllByRecursion}
use Rattle.std.proofs.lemmas.Bool.{leb-true, le-leb}
use Rattle.std.proofs.lemmas.List.Elements.{filter-append}
use Rattle.ctrl_model.specs.declared.formats.Format.TheVariants.{Two}
use Rattle.slot_reading.specs.BatchRows.{ByteRows, LeadFrom, Give}
use Rattle.ship_frames.specs.declared.shipments.Shipment.{Shipment}
use Rattle.ship_frames.specs.declared.shipments.Sort.{Sort}
use Rattle.ship_frames.specs.declared.shipments.Sort.TheVariants.{Whole, Next}
use Rattle.ship_core.specs.Shipping.{rows_behind, rows_behind_all, serial_or_none, shipments_from, shipments, is_from, chosen, CountOn, Follow, applied}
use Rattle.ship_core.proofs.ReadLaws.{shipments_append}
use Rattle.ship_core.proofs.WayLaws.{all_pass, chosen_from, from_less, given_behind, led_behind, led_behind_all, raised, rising, AreFrom}

-- ---- serials follow each other

counting : (first : Sort) (rows last : ByteRows) (batches : List (List ℕ)) → LeadFrom Two rows batches last → CountOn (serial_or_none rows) (shipments_from first rows batches)
counting first rows last [] l = tt
counting first rows last (bytes ∷ more) l =
    let same : rows_behind rows bytes ≡ l.0 = led_behind rows l.0 bytes l.1 in (
      ap serial_or_none same ∙ sym (raised rows l.0 l.2),
      subst (λ (r : ByteRows). CountOn (serial_or_none r) (shipments_from Next r more)) (sym same) (counting Next l.0 last more l.3),
    )

-- Those of the batches of a folder do.
pub follows : (batches : List (List ℕ)) (rows : ByteRows) → Give Two batches rows → Follow (shipments Two batches)
follows [] rows g = tt
follows (bytes ∷ more) rows g =
    subst (λ (r : ByteRows). CountOn (serial_or_none r) (shipments_from Next r more)) (sym (led_behind [] g.0 bytes g.1)) (counting Next g.0 rows more g.2)

-- ---- batches that are applied

-- Nexts are applied one behind another.
applied_next : (rows : ByteRows) (batches : List (List ℕ)) → applied rows (shipments_from Next rows batches) ≡ rows_behind_all rows batches
applied_next rows [] = refl
applied_next rows (bytes ∷ more) = applied_next (rows_behind rows bytes) more

-- All batches of a folder lead to its rows, whatever rows were held.
applied_all : (held rows : ByteRows) (first : List ℕ) (more : List (List ℕ)) → Give Two (first ∷ more) rows → applied held (shipments Two (first ∷ more)) ≡ rows
applied_all held rows first more g = applied_next (rows_behind [] first) more ∙ given_behind Two (first ∷ more) rows g

-- And so where the first of them is shipped.
pub whole_leads : (from : ℕ) (held rows : ByteRows) (first : List ℕ) (more : List (List ℕ)) → Give Two (first ∷ more) rows → from ≤ serial_or_none (rows_behind [] first)
    → applied held (chosen from (shipments Two (first ∷ more))) ≡ rows
whole_leads from held rows first more g low =
    ap (λ (b : Bool). applied held (cond b (shipments Two (first ∷ more)) (filter (is_from from) (shipments_from Next (rows_behind [] first) more))))
    (le-leb from (serial_or_none (rows_behind [] first)) low)
    ∙ applied_all held rows first more g

-- ---- from the rows of a serial on

-- Batches that lead on, in two parts.
led_split : (rows last : ByteRows) (these those : List (List ℕ)) → LeadFrom Two rows (these ++ those) last → (mid : ByteRows) × LeadFrom Two rows these mid × LeadFrom Two mid those last
led_split rows last [] those l = (rows, refl, l)
led_split rows last (x ∷ these) those l = let rest = led_split l.0 last these those l.3 in (rest.0, (l.0, l.1, l.2, rest.1), rest.2)

-- None of some batches has a serial above one.
abbrev AreUpTo : ℕ → List Shipment → Type 0
AreUpTo n list = AllByRecursion (λ (s : Shipment). s.serial ≤ n) list

-- No batch has a serial above that of the rows behind it.
risen : (first : Sort) (rows last : ByteRows) (batches : List (List ℕ)) → LeadFrom Two rows batches last
    → (serial_or_none rows ≤ serial_or_none last) × AreUpTo (serial_or_none last) (shipments_from first rows batches)
risen first rows last [] l = (let same = ap serial_or_none l in omega (arith, same), tt)
risen first rows last (bytes ∷ more) l =
    let same : rows_behind rows bytes ≡ l.0 = led_behind rows l.0 bytes l.1 in
    let up = raised rows l.0 l.2 in
    let here : serial_or_none (rows_behind rows bytes) ≡ serial_or_none l.0 = ap serial_or_none same in
    let rest = risen Next l.0 last more l.3 in
    let least = rest.0 in (
      omega (arith, up, least),
      (omega (arith, here, least), subst (λ (r : ByteRows). AreUpTo (serial_or_none last) (shipments_from Next r more)) (sym same) rest.1),
    )

-- What is up to a serial is not from a later one on.
none_pass : (from n : ℕ) (list : List Shipment) → n < from → AreUpTo n list → filter (is_from from) list ≡ []
none_pass from n [] late all = refl
none_pass from n (s ∷ list) late all = by (is_from from s) refl (none_pass from n list late all.1)
  where
    by : (b : Bool) → is_from from s ≡ b → filter (is_from from) list ≡ [] → cond b (s ∷ filter (is_from from) list) (filter (is_from from) list) ≡ []
    by true e rest = let low = leb-true from s.serial e in let most = all.0 in absurd (omega (arith, low, most, late))
    by false e rest = rest

-- What leads on from rows has later serials than these.
above : (first : Sort) (rows last : ByteRows) (batches : List (List ℕ)) → LeadFrom Two rows batches last → AreFrom (serial_or_none rows + 1) (shipments_from first rows batches)
above first rows last [] l = tt
above first rows last (bytes ∷ more) l =
    let same : rows_behind rows bytes ≡ l.0 = led_behind rows l.0 bytes l.1 in
    let up = raised rows l.0 l.2 in
    let here : serial_or_none (rows_behind rows bytes) ≡ serial_or_none l.0 = ap serial_or_none same in (
      omega (arith, up, here),
      subst (λ (r : ByteRows). AreFrom (serial_or_none rows + 1) (shipments_from Next r more)) (sym same)
          (from_less (serial_or_none rows + 1) (serial_or_none l.0) (shipments_from Next l.0 more) (omega (arith, up)) (rising Next l.0 last more l.3)),
    )

-- Of the batches before some rows and of those behind them the latter are chosen from the next serial on.
chosen_behind : (first : List ℕ) (before after : List (List ℕ)) (mid rows : ByteRows) (g : Give Two (first ∷ (before ++ after)) rows) → LeadFrom Two g.0 before mid → LeadFrom Two mid after rows
    → chosen (serial_or_none mid + 1) (shipments Two (first ∷ (before ++ after))) ≡ shipments_from Next mid after
chosen_behind first before after mid rows g early late =
    chosen_from from (first ∷ (before ++ after)) rows g
    ∙ ap (filter (is_from from)) (shipments_append Whole [] (first ∷ before) after ∙ ap (λ (r : ByteRows). these ++ shipments_from Next r after) led)
    ∙ filter-append (is_from from) these those
    ∙ ap (λ (l : List Shipment). l ++ filter (is_from from) those) (none_pass from n these (omega arith) up)
    ∙ all_pass from from those (le-leb from from (omega arith)) (above Next mid rows after late)
  where
    n : ℕ
    n = serial_or_none mid

    from : ℕ
    from = serial_or_none mid + 1

    these : List Shipment
    these = shipments_from Whole [] (first ∷ before)

    those : List Shipment
    those = shipments_from Next mid after

    one : rows_behind [] first ≡ g.0
    one = led_behind [] g.0 first g.1

    led : rows_behind_all [] (first ∷ before) ≡ mid
    led = ap (λ (r : ByteRows). rows_behind_all r before) one ∙ led_behind_all Two g.0 before mid early

    up : AreUpTo n these
    up =
        let rest = risen Next g.0 mid before early in
        let least = rest.0 in
        let here : serial_or_none (rows_behind [] first) ≡ serial_or_none g.0 = ap serial_or_none one in
        (omega (arith, least, here), subst (λ (r : ByteRows). AreUpTo n (shipments_from Next r before)) (sym one) rest.1)

-- From the rows of a serial what is shipped from the next one on leads to the rows of the folder.
pub next_leads : (first : List ℕ) (before after : List (List ℕ)) (rows : ByteRows) → Give Two (first ∷ (before ++ after)) rows
    → applied (rows_behind_all [] (first ∷ before)) (chosen (serial_or_none (rows_behind_all [] (first ∷ before)) + 1) (shipments Two (first ∷ (before ++ after)))) ≡ rows
next_leads first before after rows g = subst Leads (sym led) (ap (applied mid) (chosen_behind first before after mid rows g parts.1 parts.2) ∙ applied_next mid after ∙ led_behind_all Two mid after rows parts.2)
  where
    parts : (r : ByteRows) × LeadFrom Two g.0 before r × LeadFrom Two r after rows
    parts = led_split g.0 rows before after g.2

    mid : ByteRows
    mid = parts.0

    led : rows_behind_all [] (first ∷ before) ≡ mid
    led = ap (λ (r : ByteRows). rows_behind_all r before) (led_behind [] g.0 first g.1) ∙ led_behind_all Two g.0 before mid parts.1

    Leads : ByteRows → Type 0
    Leads r = applied r (chosen (serial_or_none r + 1) (shipments Two (first ∷ (before ++ after)))) ≡ rows
