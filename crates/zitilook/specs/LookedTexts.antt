-- What is said of the state of a folder that is looked at. Only private contracts cite these.
use Rattle.std.specs.Prelude.{◌≡◌, ℕ, ⊤, true, List, None, Some, Ok}
use Rattle.std.specs.declared.option.Option.{Option}
use Rattle.std.specs.declared.result.Result.{Result}
use Rattle.ctrl_model.specs.NameForm.{is_name}
use Rattle.ctrl_model.specs.State.{State}
use Rattle.access_reasons.specs.ReasonLines.{lines_of as reason_lines}
use Rattle.access_reasons.specs.Reasons.{who, why}
use Rattle.dump_lines.specs.Dumps.{dump_lines}
use Rattle.network_picture.specs.Pictures.{picture_asked, picture_of}
use Rattle.record_lines.specs.RecordLines.{lines_asked, lines_of}
use Rattle.zitilook.specs.declared.telling.Look.{Look}
use Rattle.zitilook.specs.declared.telling.Look.TheVariants as look
use Rattle.zitilook.specs.Looks.{found}
use Rattle.zitilook.specs.Notes.{absent_note}

-- The text that is asked for.
abbrev pub text_of : Look → State → List ℕ
text_of (look.Lines l) s = lines_of l s
text_of (look.Line l name) s = lines_asked l name.now s
text_of (look.Why identity service) s = reason_lines (why s identity.now service.now)
text_of (look.Who service) s = reason_lines (who s service.now)
text_of look.Dump s = dump_lines s
text_of look.Picture s = picture_of s
text_of (look.PictureOf circuit) s = picture_asked circuit.now s

-- The name by which one record is asked for.
abbrev pub asked_name : Look → Option (List ℕ)
asked_name (look.Line l name) = Some name.now
asked_name (look.PictureOf circuit) = Some circuit.now
asked_name _ = None

-- What is told of a text that was asked for: where it was asked for by a name and is empty, that none has the name.
abbrev pub told_under : Option (List ℕ) → List ℕ → Result (List ℕ) (List ℕ)
told_under None text = Ok text
told_under (Some name) text = found (absent_note name) text

-- What is told of the state of a folder that is looked at.
abbrev pub told_by : Look → State → Result (List ℕ) (List ℕ)
told_by l s = told_under (asked_name l) (text_of l s)

-- The names that it is asked by are names.
abbrev pub HasNames : Look → Type 0
HasNames (look.Lines l) = ⊤
HasNames (look.Line l name) = ⊤
HasNames (look.Why identity service) = (is_name identity.now ≡ true) × (is_name service.now ≡ true)
HasNames (look.Who service) = is_name service.now ≡ true
HasNames look.Dump = ⊤
HasNames look.Picture = ⊤
HasNames (look.PictureOf circuit) = ⊤
