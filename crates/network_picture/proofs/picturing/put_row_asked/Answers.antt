use Rattle.std.proofs.Common.{◌≡◌, ℕ, cond, List, [], ◌++◌, decimal, sym, subst, OnOk}
use Rattle.std.specs.Str.{bytes_eq}
use Rattle.row_codec.specs.declared.rows.Row.{Row}
use Rattle.state_building.specs.BuiltStates.{state_in}
use Rattle.network_picture.specs.Pictures.{way_picture}
use Rattle.network_picture.specs.RowPictures.{row_asked}
use Rattle.network_picture.proofs.picturing.put_row_asked.Goals as goal

pub returns-in-Circuit : goal.returns-in-Circuit
returns-in-Circuit c =
    let put = c.put_circuit_asked in
    let old = c.args.text.now.items in
    let s = state_in c.args.rows.now in
    subst (λ (x : Row). OnOk put.result (put.new.text.items ≡ old ++ row_asked c.args.word.now s x)) (sym c.in-Circuit.is)
    (subst (λ (links : List ℕ). OnOk put.result (put.new.text.items
    ≡ old ++ cond (bytes_eq (decimal c.in-Circuit.no.0) c.args.word.now) (way_picture s links c.in-Circuit.terminator.0 c.in-Circuit.no.0 c.in-Circuit.identity.0 c.in-Circuit.ingress.0) []))
    c.as_slice.ensures put.ensures)
