-- How the turns of a telling make up the text, whatever more comes.
use Rattle.std.proofs.Common.{◌≡◌, ℕ, ◌+◌, ◌-◌, ◌≤◌, true, false, ◌++◌, List, [], ◌∷◌, length, drop, None, Some, Ok, Err, refl, sym, ap, subst, ◌∙◌, append_assoc, append-nil, arith}
use Rattle.std.specs.declared.option.Option.{Option}
use Rattle.std.specs.declared.result.Result.{Result}
use Rattle.std.specs.Option.{is_some}
use Rattle.std.proofs.lemmas.List.{drop-append-le, drop-drop, length-append, length-drop}
use Rattle.frame_lines.specs.declared.told.TellCause.{TellCause}
use Rattle.frame_lines.specs.declared.told.DecodeFault.{DecodeFault}
use Rattle.frame_lines.specs.declared.told.DecodeCause.{DecodeCause}
use Rattle.frame_lines.specs.declared.told.DecodeCause.TheVariants.{Untold}
use Rattle.frame_lines.specs.declared.kinds.Turn.{Turn}
use Rattle.frame_lines.specs.declared.kinds.Turn.TheVariants as turn
use Rattle.frame_lines.specs.declared.decoding.Turned.{Turned}
use Rattle.frame_lines.specs.LineKinds.{Front, Short, Whole, Faulty, Reading, turn_of, line_in, IsInOrder}
use Rattle.frame_lines.specs.FrameTurns.{TurnsOn}
use Rattle.frame_lines.specs.TextTelling.{lines_until, text_of, untold_from, front_fault, tail_fault, fault_behind, fault_of}
use Rattle.frame_lines.specs.TellingSoFar.{Told, GoesOn, HasEnded, StandsAt, end_fault}

-- ---- what became of a front

-- a front whose line was put down
pub record HasLine (x : Front) (len : ℕ) : Type 0 where
  pub line : List ℕ
  pub stands : x ≡ Whole (Ok line) len

pub has_line : (x : Front) (len : ℕ) → turn.Told len ≡ turn_of x → HasLine x len
has_line Short len is = absurd cc
has_line (Whole (Ok line) n) len is = let same : len ≡ n = cc in record { line = line; stands = ap (Whole (Ok line)) (sym same) }
has_line (Whole (Err why) n) len is = absurd cc
has_line (Faulty cause) len is = absurd cc

pub is_short : (x : Front) → turn.Short ≡ turn_of x → x ≡ Short
is_short Short is = refl
is_short (Whole (Ok line) n) is = absurd cc
is_short (Whole (Err why) n) is = absurd cc
is_short (Faulty cause) is = absurd cc

-- at a short front nothing is put down
pub none_put : (x : Front) (out now : List ℕ) → x ≡ Short → now ≡ out ++ line_in x → now ≡ out
none_put x out now is put = put ∙ ap (λ (y : Front). out ++ line_in y) is ∙ append-nil out

-- ---- of bytes to which nothing more comes

told_start : (k : Reading) (bytes : List ℕ) → Told k [] 1 bytes bytes
told_start k bytes = record { whole = refl; fault = refl; tail = refl }

told_more : (k : Reading) → IsInOrder k → (out now : List ℕ) (number at : ℕ) (rest after bytes line : List ℕ) (n : ℕ) → k.front at rest ≡ Whole (Ok line) n → after ≡ drop n rest
    → now ≡ out ++ (line ++ 10 ∷ []) → Told k out number rest bytes → Told k now (number + 1) after bytes
told_more k order out now number at rest after bytes line n whole behind put told =
    let step = order.first at n rest (Ok line) whole in
    let first : k.lines rest ≡ Ok line ∷ k.lines after = step.0 ∙ ap (λ (r : List ℕ). Ok line ∷ k.lines r) (sym behind) in
    let more : List ℕ = lines_until (k.lines after) in
    record {
      whole =
          ap (λ (b : List ℕ). b ++ more) put ∙ append_assoc out (line ++ 10 ∷ []) more ∙ ap (λ (b : List ℕ). out ++ b) (append_assoc line (10 ∷ []) more)
          ∙ ap (λ (ls : List (Result (List ℕ) TellCause)). out ++ lines_until ls) (sym first) ∙ told.whole;
      fault = ap (λ (ls : List (Result (List ℕ) TellCause)). untold_from ls (fault_behind k bytes) number) (sym first) ∙ told.fault;
      tail = ap k.tail behind ∙ sym step.1 ∙ told.tail;
    }

-- an item that no line tells
told_untold : (k : Reading) → IsInOrder k → (out : List ℕ) (number at : ℕ) (rest bytes : List ℕ) (n : ℕ) (why : TellCause) → k.front at rest ≡ Whole (Err why) n → Told k out number rest bytes
    → (out ≡ text_of k bytes) × (Some (record { frame = number; cause = Untold why }) ≡ fault_of k bytes)
told_untold k order out number at rest bytes n why whole told =
    let first = (order.first at n rest (Err why) whole).0 in (
      sym (append-nil out) ∙ ap (λ (ls : List (Result (List ℕ) TellCause)). out ++ lines_until ls) (sym first) ∙ told.whole,
      ap (λ (ls : List (Result (List ℕ) TellCause)). untold_from ls (fault_behind k bytes) number) (sym first) ∙ told.fault,
    )

-- the end of the items
told_end : (k : Reading) → IsInOrder k → (out : List ℕ) (number at : ℕ) (rest bytes : List ℕ) → ((line : Result (List ℕ) TellCause) (n : ℕ) → k.front at rest ≡ Whole line n → ⊥)
    → at ≡ length bytes - length rest → Told k out number rest bytes → (out ≡ text_of k bytes) × (tail_fault k rest at number ≡ fault_of k bytes)
told_end k order out number at rest bytes none place told =
    let stop = order.last at rest none in
    let tail : rest ≡ k.tail bytes = sym stop.1 ∙ told.tail in (
      sym (append-nil out) ∙ ap (λ (ls : List (Result (List ℕ) TellCause)). out ++ lines_until ls) (sym stop.0) ∙ told.whole,
      ap (λ (p : ℕ). tail_fault k rest p number) place ∙ ap (λ (r : List ℕ). tail_fault k r (length bytes - length r) number) tail
          ∙ ap (λ (ls : List (Result (List ℕ) TellCause)). untold_from ls (fault_behind k bytes) number) (sym stop.0) ∙ told.fault,
    )

faulty_tail : (k : Reading) → IsInOrder k → (rest : List ℕ) (at number : ℕ) (cause : DecodeCause) → k.front at rest ≡ Faulty cause
    → tail_fault k rest at number ≡ Some (record { frame = number; cause = cause })
faulty_tail k order [] at number cause is = let short = order.none at in absurd cc
faulty_tail k order (b ∷ rest) at number cause is = ap (front_fault number at) is

short_tail : (k : Reading) (rest : List ℕ) (at number : ℕ) → k.front at rest ≡ Short → tail_fault k rest at number ≡ end_fault None rest at number
short_tail k [] at number is = refl
short_tail k (b ∷ rest) at number is = ap (front_fault number at) is

told_short : (k : Reading) → IsInOrder k → (out : List ℕ) (number at : ℕ) (rest bytes : List ℕ) → k.front at rest ≡ Short → at ≡ length bytes - length rest → Told k out number rest bytes
    → (out ≡ text_of k bytes) × (end_fault None rest at number ≡ fault_of k bytes)
told_short k order out number at rest bytes short place told =
    let end = told_end k order out number at rest bytes (λ line n is. cc) place told in
    (end.0, sym (short_tail k rest at number short) ∙ end.1)

told_faulty : (k : Reading) → IsInOrder k → (out : List ℕ) (number at : ℕ) (rest bytes : List ℕ) (cause : DecodeCause) → k.front at rest ≡ Faulty cause → at ≡ length bytes - length rest
    → Told k out number rest bytes → (out ≡ text_of k bytes) × (Some (record { frame = number; cause = cause }) ≡ fault_of k bytes)
told_faulty k order out number at rest bytes cause faulty place told =
    let end = told_end k order out number at rest bytes (λ line n is. cc) place told in
    (end.0, sym (faulty_tail k order rest at number cause faulty) ∙ end.1)

abbrev fault_for : ℕ → DecodeCause → Option DecodeFault
fault_for number cause = Some (record { frame = number; cause = cause })

-- a turn that ended, for whichever cause
told_ended : (k : Reading) → IsInOrder k → (x : Front) (out : List ℕ) (number at : ℕ) (rest bytes : List ℕ) (cause : DecodeCause) → k.front at rest ≡ x → turn.Ended cause ≡ turn_of x
    → at ≡ length bytes - length rest → Told k out number rest bytes → (out ≡ text_of k bytes) × (Some (record { frame = number; cause = cause }) ≡ fault_of k bytes)
told_ended k order Short out number at rest bytes cause is ended place told = absurd cc
told_ended k order (Whole (Ok line) n) out number at rest bytes cause is ended place told = absurd cc
told_ended k order (Whole (Err why) n) out number at rest bytes cause is ended place told =
    let same : cause ≡ Untold why = cc in
    let end = told_untold k order out number at rest bytes n why is told in
    (end.0, ap (fault_for number) same ∙ end.1)
told_ended k order (Faulty other) out number at rest bytes cause is ended place told =
    let same : cause ≡ other = cc in
    let end = told_faulty k order out number at rest bytes other is place told in
    (end.0, ap (fault_for number) same ∙ end.1)

-- at an end nothing is put down
pub none_put_ended : (x : Front) (cause : DecodeCause) (out now : List ℕ) → turn.Ended cause ≡ turn_of x → now ≡ out ++ line_in x → now ≡ out
none_put_ended Short cause out now ended put = absurd cc
none_put_ended (Whole (Ok line) n) cause out now ended put = absurd cc
none_put_ended (Whole (Err why) n) cause out now ended put = put ∙ append-nil out
none_put_ended (Faulty other) cause out now ended put = put ∙ append-nil out

-- ---- whatever more comes

-- before the first byte
pub goes_start : (k : Reading) (bytes : List ℕ) → GoesOn k bytes [] 1 0 bytes
goes_start k bytes = record { told = λ more. told_start k (bytes ++ more); place = omega arith }

-- so the telling stands, with nothing held
pub stands_start : (k : Reading) → IsInOrder k → (held : List ℕ) → held ≡ [] → StandsAt k [] (text_of k []) 1 0 held None
stands_start k order held none =
    let nothing : [] ≡ text_of k [] = ap lines_until (sym (order.last 0 [] (λ line n is. let short = order.none 0 in cc)).0) in
    subst (λ (h : List ℕ). StandsAt k [] (text_of k []) 1 0 h None) (sym none)
    (subst (λ (t : List ℕ). StandsAt k [] t 1 0 [] None) nothing (goes_start k [], order.none 0))

-- a piece comes
pub goes_fed : (k : Reading) (came text : List ℕ) (number at : ℕ) (held piece : List ℕ) → GoesOn k came text number at held → GoesOn k (came ++ piece) text number at (held ++ piece)
goes_fed k came text number at held piece goes = record {
  told = λ more.
      subst (λ (bytes : List ℕ). Told k text number ((held ++ piece) ++ more) bytes) (sym (append_assoc came piece more))
      (subst (λ (rest : List ℕ). Told k text number rest (came ++ (piece ++ more))) (sym (append_assoc held piece more)) (goes.told (piece ++ more)));
  place = omega (arith, length-append came piece, length-append held piece, goes.place);
}

stays : (k : Reading) → IsInOrder k → (at : ℕ) (held more : List ℕ) (x : Front) → k.front at held ≡ x → (x ≡ Short → ⊥) → k.front at (held ++ more) ≡ x
stays k order at held more x is other = order.stays at held more (λ short. other (sym is ∙ short)) ∙ is

-- the place of what is held, among the bytes with more behind them
placed : (came held more : List ℕ) (at : ℕ) → at + length held ≡ length came → at ≡ length (came ++ more) - length (held ++ more)
placed came held more at place = omega (arith, length-append came more, length-append held more, place)

-- an item whose line was put down
goes_more : (k : Reading) → IsInOrder k → (came text out now : List ℕ) (number at : ℕ) (held line : List ℕ) (n : ℕ) → k.front at held ≡ Whole (Ok line) n
    → now ≡ out ++ (line ++ 10 ∷ []) → GoesOn k came (text ++ out) number at held → GoesOn k came (text ++ now) (number + 1) (at + n) (drop n held)
goes_more k order came text out now number at held line n whole put goes =
    let fits = (order.within at n held (Ok line) whole).1 in
    record {
      told = λ more.
          told_more k order (text ++ out) (text ++ now) number at (held ++ more) (drop n held ++ more) (came ++ more) line n (stays k order at held more (Whole (Ok line) n) whole (λ s. cc))
          (sym (drop-append-le n held more fits)) (ap (λ (b : List ℕ). text ++ b) put ∙ sym (append_assoc text out (line ++ 10 ∷ []))) (goes.told more);
      place = omega (arith, length-drop n held, fits, goes.place);
    }

-- So far, in a turn over some bytes: wherever the telling stood, it goes on with the rest of them.
pub record Turning (k : Reading) (number at : ℕ) (bytes out : List ℕ) (next place : ℕ) (rest : List ℕ) : Type 0 where
  pub goes : (came text : List ℕ) → GoesOn k came text number at bytes → GoesOn k came (text ++ out) next place rest

pub turning_start : (k : Reading) (number at : ℕ) (bytes out : List ℕ) → out ≡ [] → Turning k number at bytes out number (at + 0) (drop 0 bytes)
turning_start k number at bytes out none = record {
  goes = λ came text goes.
      let here : at ≡ at + 0 = omega arith in
      subst (λ (p : ℕ). GoesOn k came (text ++ out) number p bytes) here
      (subst (λ (t : List ℕ). GoesOn k came t number at bytes) (sym (ap (λ (o : List ℕ). text ++ o) none ∙ append-nil text)) goes);
}

-- What became of a front, at the same place of the same bytes.
pub turn_there : (k : Reading) (t : Turn) (at here : ℕ) (rest bytes : List ℕ) → t ≡ turn_of (k.front at rest) → at ≡ here → rest ≡ bytes → t ≡ turn_of (k.front here bytes)
turn_there k t at here rest bytes is place same = is ∙ ap (λ (p : ℕ). turn_of (k.front p rest)) place ∙ ap (λ (r : List ℕ). turn_of (k.front here r)) same

pub line_there : (k : Reading) (out now : List ℕ) (at here : ℕ) (rest bytes : List ℕ) → now ≡ out ++ line_in (k.front at rest) → at ≡ here → rest ≡ bytes → now ≡ out ++ line_in (k.front here bytes)
line_there k out now at here rest bytes is place same =
    is ∙ ap (λ (p : ℕ). out ++ line_in (k.front p rest)) place ∙ ap (λ (r : List ℕ). out ++ line_in (k.front here r)) same

-- The item at the place was told.
pub turning_put : (k : Reading) → IsInOrder k → (number at : ℕ) (bytes out now : List ℕ) (next then used past n : ℕ) → turn.Told n ≡ turn_of (k.front (at + used) (drop used bytes))
    → now ≡ out ++ line_in (k.front (at + used) (drop used bytes)) → then ≡ next + 1 → past ≡ used + n → Turning k number at bytes out next (at + used) (drop used bytes)
    → Turning k number at bytes now then (at + past) (drop past bytes)
turning_put k order number at bytes out now next then used past n is put count place turning =
    let told = has_line (k.front (at + used) (drop used bytes)) n is in
    let line : now ≡ out ++ (told.line ++ 10 ∷ []) = put ∙ ap (λ (x : Front). out ++ line_in x) told.stands in
    record {
      goes = λ came text goes.
          let on = goes_more k order came text out now next (at + used) (drop used bytes) told.line n told.stands line (turning.goes came text goes) in
          let here : (at + used) + n ≡ at + (used + n) = omega arith in
          subst (λ (m : ℕ). GoesOn k came (text ++ now) m (at + past) (drop past bytes)) (sym count)
          (subst (λ (p : ℕ). GoesOn k came (text ++ now) (next + 1) (at + p) (drop p bytes)) (sym place)
          (subst (λ (p : ℕ). GoesOn k came (text ++ now) (next + 1) p (drop (used + n) bytes)) here
          (subst (λ (r : List ℕ). GoesOn k came (text ++ now) (next + 1) ((at + used) + n) r) (drop-drop n used bytes) on)));
    }

-- It takes some of the bytes that are left.
pub told_fits : (k : Reading) → IsInOrder k → (at n used : ℕ) (bytes : List ℕ) → used ≤ length bytes → turn.Told n ≡ turn_of (k.front at (drop used bytes)) → (1 ≤ n) × (used + n ≤ length bytes)
told_fits k order at n used bytes within is =
    let told = has_line (k.front at (drop used bytes)) n is in
    let fits = order.within at n (drop used bytes) (Ok told.line) told.stands in
    (fits.0, omega (arith, fits.1, length-drop used bytes, within))

-- A turn ends where nothing is whole any more.
pub turned_short : (k : Reading) (number at : ℕ) (bytes out lines : List ℕ) (next place : ℕ) (rest : List ℕ) (here : ℕ) → here ≡ place → turn.Short ≡ turn_of (k.front here rest)
    → lines ≡ out ++ line_in (k.front here rest) → Turning k number at bytes out next place rest
    → (came text : List ℕ) → GoesOn k came text number at bytes → StandsAt k came (text ++ lines) next here rest None
turned_short k number at bytes out lines next place rest here same is put turning came text goes =
    let short = is_short (k.front here rest) is in (
      subst (λ (l : List ℕ). GoesOn k came (text ++ l) next here rest) (sym (none_put (k.front here rest) out lines short put))
          (subst (λ (p : ℕ). GoesOn k came (text ++ out) next p rest) (sym same) (turning.goes came text goes)),
      short,
    )

-- At an item that no line tells, or at bytes that are none.
pub turned_ended : (k : Reading) → IsInOrder k → (number at : ℕ) (bytes out lines : List ℕ) (next place : ℕ) (rest : List ℕ) (here : ℕ) (cause : DecodeCause) → here ≡ place
    → turn.Ended cause ≡ turn_of (k.front here rest) → lines ≡ out ++ line_in (k.front here rest) → Turning k number at bytes out next place rest
    → (came text : List ℕ) → GoesOn k came text number at bytes → StandsAt k came (text ++ lines) next here rest (Some (record { frame = next; cause = cause }))
turned_ended k order number at bytes out lines next place rest here cause same is put turning came text goes =
    let on = turning.goes came text goes in
    let x : Front = k.front here rest in
    let other : x ≡ Short → ⊥ = λ short. let e : turn.Ended cause ≡ turn.Short = is ∙ ap turn_of short in cc in
    let ends : (more : List ℕ) → (text ++ out ≡ text_of k (came ++ more)) × (Some (record { frame = next; cause = cause }) ≡ fault_of k (came ++ more)) = λ more.
    told_ended k order x (text ++ out) next here (rest ++ more) (came ++ more) cause (stays k order here rest more x refl other) is (same ∙ placed came rest more place on.place) (on.told more) in
    record { none_more = λ more. ap (λ (o : List ℕ). text ++ o) (none_put_ended x cause out lines is put) ∙ (ends more).0; is_fault = λ more. (ends more).1 }

-- ---- what was told where everything whole was

all_told_on : (k : Reading) → IsInOrder k → (came text : List ℕ) (number at : ℕ) (held : List ℕ) → GoesOn k came text number at held → k.front at held ≡ Short
    → (text ≡ text_of k came) × (end_fault None held at number ≡ fault_of k came)
all_told_on k order came text number at held goes short =
    let told : Told k text number held came =
    subst (λ (bytes : List ℕ). Told k text number held bytes) (append-nil came) (subst (λ (rest : List ℕ). Told k text number rest (came ++ [])) (append-nil held) (goes.told [])) in
    told_short k order text number at held came short (omega (arith, goes.place)) told

-- The lines are all lines, and the fault is the one that all bytes have where no more come.
pub all_told : (k : Reading) → IsInOrder k → (came text : List ℕ) (number at : ℕ) (held : List ℕ) (fault : Option DecodeFault) → StandsAt k came text number at held fault
    → (text ≡ text_of k came) × (end_fault fault held at number ≡ fault_of k came)
all_told k order came text number at held None stands = all_told_on k order came text number at held stands.0 stands.1
all_told k order came text number at held (Some fault) stands = (stands.none_more [] ∙ ap (text_of k) (append-nil came), stands.is_fault [] ∙ ap (fault_of k) (append-nil came))

-- A piece that comes behind an end tells nothing.
pub ended_fed : (k : Reading) (came piece text : List ℕ) (fault : DecodeFault) → HasEnded k came text fault → (text ≡ text_of k (came ++ piece)) × HasEnded k (came ++ piece) text fault
ended_fed k came piece text fault ended = (
  ended.none_more piece,
  record {
    none_more = λ more. ended.none_more (piece ++ more) ∙ ap (text_of k) (sym (append_assoc came piece more));
    is_fault = λ more. ended.is_fault (piece ++ more) ∙ ap (fault_of k) (sym (append_assoc came piece more));
  },
)

-- ---- a piece

-- Behind an end it tells nothing.
pub fed_ended : (k : Reading) (came piece : List ℕ) (number at : ℕ) (held : List ℕ) (fault : Option DecodeFault) (lines : List ℕ) → is_some fault ≡ true → lines ≡ []
    → StandsAt k came (text_of k came) number at held fault → (text_of k (came ++ piece) ≡ text_of k came ++ lines) × StandsAt k (came ++ piece) (text_of k (came ++ piece)) number at held fault
fed_ended k came piece number at held None lines some none stands = absurd cc
fed_ended k came piece number at held (Some f) lines some none stands =
    let on = ended_fed k came piece (text_of k came) f stands in (
      sym on.0 ∙ sym (append-nil (text_of k came)) ∙ ap (λ (l : List ℕ). text_of k came ++ l) (sym none),
      subst (λ (t : List ℕ). HasEnded k (came ++ piece) t f) on.0 on.1,
    )

-- Else a turn over what is held and the piece tells its lines.
pub fed_turned : (k : Reading) → IsInOrder k → (came piece : List ℕ) (number at : ℕ) (held : List ℕ) (fault : Option DecodeFault) (bytes : List ℕ) (t : Turned) (lines held_now : List ℕ) (number_now at_now : ℕ)
    (fault_now : Option DecodeFault) → is_some fault ≡ false → bytes ≡ held ++ piece → TurnsOn k number at bytes t → lines ≡ t.lines → held_now ≡ drop t.used bytes → number_now ≡ t.number
    → at_now ≡ t.at → fault_now ≡ t.fault → StandsAt k came (text_of k came) number at held fault
    → (text_of k (came ++ piece) ≡ text_of k came ++ lines) × StandsAt k (came ++ piece) (text_of k (came ++ piece)) number_now at_now held_now fault_now
fed_turned k order came piece number at held (Some f) bytes t lines held_now number_now at_now fault_now none is turns put rest count place ends stands = absurd cc
fed_turned k order came piece number at held None bytes t lines held_now number_now at_now fault_now none is turns put rest count place ends stands =
    let all : List ℕ = came ++ piece in
    let goes : GoesOn k all (text_of k came) number at bytes = subst (λ (b : List ℕ). GoesOn k all (text_of k came) number at b) (sym is) (goes_fed k came (text_of k came) number at held piece stands.0) in
    let turned = turns.stands all (text_of k came) goes in
    let whole : text_of k came ++ t.lines ≡ text_of k all = (all_told k order all (text_of k came ++ t.lines) t.number t.at (drop t.used bytes) t.fault turned).0 in (
      sym whole ∙ ap (λ (l : List ℕ). text_of k came ++ l) (sym put),
      subst (λ (f : Option DecodeFault). StandsAt k all (text_of k all) number_now at_now held_now f) (sym ends)
          (subst (λ (h : List ℕ). StandsAt k all (text_of k all) number_now at_now h t.fault) (sym rest)
          (subst (λ (a : ℕ). StandsAt k all (text_of k all) number_now a (drop t.used bytes) t.fault) (sym place)
          (subst (λ (n : ℕ). StandsAt k all (text_of k all) n t.at (drop t.used bytes) t.fault) (sym count)
          (subst (λ (b : List ℕ). StandsAt k all b t.number t.at (drop t.used bytes) t.fault) whole turned)))),
    )
