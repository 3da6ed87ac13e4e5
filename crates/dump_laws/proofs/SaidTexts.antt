-- The lines of a dump are read as the frames of its commands, and without a fault.
use Rattle.std.proofs.Common.{◌≡◌, ℕ, ◌+◌, ◌≤◌, ◌&&◌, Bool, true, false, cond, inl, inr, List, [], ◌∷◌, ◌++◌, flat_map, length, Option, None, Some, Ok, refl, sym, ap, ◌∙◌, subst, append_assoc, append-nil, is_some}
use Rattle.std.proofs.lemmas.Bool.{and_parts}
use Rattle.channel_frame.specs.declared.frames.Frame.{Frame}
use Rattle.ctrl_model.specs.declared.commands.Command.{Command}
use Rattle.ctrl_model.specs.declared.commands.Command.TheVariants as command
use Rattle.ctrl_model.specs.ContentTypes.{content_of}
use Rattle.ctrl_model.specs.Membership.{Among}
use Rattle.ctrl_model.specs.SpelledCommands.{is_spelled}
use Rattle.ctrl_model.specs.State.{State}
use Rattle.ctrl_model.specs.ValidState.{ValidState}
use Rattle.ctrl_model.proofs.NumberedLaws.{by_is_some}
use Rattle.command_bodies.specs.BodyTexts.{body_object, body_text}
use Rattle.serde_json.specs.Written.{compact_text}
use Rattle.frame_lines.specs.TypeNames.{name_numbered}
use Rattle.frame_lines.specs.TextLines.{lines_of}
use Rattle.frame_lines.specs.TextReading.{fault_from, fault_said, frames_from, frames_said, next_after}
use Rattle.frame_lines.specs.FrameLines.{body_words, name_or}
use Rattle.frame_lines.proofs.TurnLaws.{fault_at, frames_at}
use Rattle.record_lines.specs.declared.listing.Listed.{Listed}
use Rattle.record_lines.specs.RecordLines.{Entry, entries, entry_line}
use Rattle.dump_lines.specs.Dumps.{are_spelled, command_line, dump_commands, dump_lines, dumped, is_remarked, making, remark, section, section_commands, sections, setting}
use Rattle.dump_laws.specs.SaidDumps.{command_frame, commands_told, frames_from_commands, said_commands, section_told}
use Rattle.dump_laws.proofs.ClearTexts.{IsClear, written_clear}
use Rattle.dump_laws.proofs.SaidLines.{lacks_newline, line_of_name, named_says, named_stays, remark_line}
use Rattle.dump_laws.proofs.BodyLengths.{body_length}
use Rattle.dump_laws.proofs.RecordTexts.{OneLine, one_line}

-- ---- a text that says commands

-- before whatever text, it says these commands, in order, and no fault
pub record SaysCommands (text : List ℕ) (cs : List Command) : Type 0 where
  pub frames : (rest : List ℕ) (later : List Command) → ((n : ℕ) → frames_from (lines_of rest) n ≡ frames_from_commands n later)
      → (n : ℕ) → frames_from (lines_of (text ++ rest)) n ≡ frames_from_commands n (cs ++ later)
  pub faultless : (rest : List ℕ) → ((n : ℕ) → fault_from (lines_of rest) n ≡ None) → (n : ℕ) → fault_from (lines_of (text ++ rest)) n ≡ None

says_none : SaysCommands [] []
says_none = record { frames = λ rest later k n. k n; faultless = λ rest k n. k n }

says_both : (text more : List ℕ) (cs ds : List Command) → SaysCommands text cs → SaysCommands more ds → SaysCommands (text ++ more) (cs ++ ds)
says_both text more cs ds first second = record {
  frames = λ rest later k n.
      ap (λ (t : List ℕ). frames_from (lines_of t) n) (append_assoc text more rest)
      ∙ first.frames (more ++ rest) (ds ++ later) (second.frames rest later k) n
      ∙ ap (frames_from_commands n) (sym (append_assoc cs ds later));
  faultless = λ rest k n.
      ap (λ (t : List ℕ). fault_from (lines_of t) n) (append_assoc text more rest)
      ∙ first.faultless (more ++ rest) (second.faultless rest k) n;
}

says_each : {X : Type 0} (f : X → List ℕ) (g : X → List Command) (xs : List X) → ((x : X) → Among x xs → SaysCommands (f x) (g x)) → SaysCommands (flat_map f xs) (flat_map g xs)
says_each f g [] each = says_none
says_each f g (x ∷ xs) each = says_both (f x) (flat_map f xs) (g x) (flat_map g xs) (each x (inl refl)) (says_each f g xs (λ y m. each y (inr m)))

-- ---- the line of a command

has_type_name : (c : Command) → is_some (name_numbered (content_of c)) ≡ true
has_type_name command.Hello = refl
has_type_name c = refl

empty_or : (t : Bool) (text : List ℕ) → IsClear text → IsClear (cond t [] text)
empty_or true text clear = tt
empty_or false text clear = clear

body_clear : (c : Command) → IsClear (body_text c)
body_clear c = empty_or _ (compact_text (body_object c)) (written_clear (body_object c))

-- the line of a named content type and a body
abbrev line_of_type : ℕ → List ℕ → List ℕ
line_of_type content body = name_or (name_numbered content) content ++ (body_words body ++ 10 ∷ [])

module _ (content : ℕ) (name body : List ℕ) (is : name_numbered content ≡ Some name) (clear : IsClear body) (short : length body ≤ 1048576) where
  line_there : (rest : List ℕ) → lines_of (line_of_type content body ++ rest) ≡ (name ++ body_words body) ∷ lines_of rest
  line_there rest =
      ap (λ (o : Option (List ℕ)). lines_of ((name_or o content ++ (body_words body ++ 10 ∷ [])) ++ rest)) is
      ∙ line_of_name content name body rest is clear

  frames_there : (rest : List ℕ) (n : ℕ)
      → frames_from (lines_of (line_of_type content body ++ rest)) n ≡ record { content = content; sequence = n; headers = []; body = body } ∷ frames_from (lines_of rest) (next_after n)
  frames_there rest n =
      ap (λ (ls : List (List ℕ)). frames_from ls n) (line_there rest)
      ∙ frames_at (name ++ body_words body) (lines_of rest) n (Ok (record { sequence = None; content = content; body = body }))
      (named_stays content name body is) (named_says content name body is short)

  fault_there : (rest : List ℕ) (n : ℕ) → fault_from (lines_of (line_of_type content body ++ rest)) n ≡ fault_from (lines_of rest) (n + 1)
  fault_there rest n =
      ap (λ (ls : List (List ℕ)). fault_from ls n) (line_there rest)
      ∙ fault_at (name ++ body_words body) (lines_of rest) n (Ok (record { sequence = None; content = content; body = body }))
      (named_stays content name body is) (named_says content name body is short)

says_command : (c : Command) → is_spelled c ≡ true → SaysCommands (command_line c) (c ∷ [])
unfolding command_line
says_command c h = by_is_some (name_numbered (content_of c)) (has_type_name c) (λ name is. record {
  frames = λ rest later k n.
      frames_there (content_of c) name (body_text c) is (body_clear c) (body_length c h) rest n
      ∙ ap (λ (fs : List Frame). command_frame n c ∷ fs) (k (next_after n));
  faultless = λ rest k n. fault_there (content_of c) name (body_text c) is (body_clear c) (body_length c h) rest n ∙ k (n + 1);
})

says_commands : (cs : List Command) → are_spelled cs ≡ true → SaysCommands (flat_map command_line cs) cs
says_commands [] h = says_none
says_commands (c ∷ cs) h =
    let p = and_parts (is_spelled c) (are_spelled cs) h in
    says_both (command_line c) (flat_map command_line cs) (c ∷ []) cs (says_command c p.0) (says_commands cs p.1)

-- ---- remarks

-- a remark says nothing
remark_of_line : (line : List ℕ) → IsClear line → SaysCommands (remark (line ++ 10 ∷ [])) []
remark_of_line line clear = record {
  frames = λ rest later k n. ap (λ (ls : List (List ℕ)). frames_from ls n) (remark_line line rest (lacks_newline line clear)) ∙ k n;
  faultless = λ rest k n. ap (λ (ls : List (List ℕ)). fault_from ls n) (remark_line line rest (lacks_newline line clear)) ∙ k (n + 1);
}

says_remark : (text : List ℕ) → OneLine text → SaysCommands (remark text) []
says_remark text one = subst (λ (t : List ℕ). SaysCommands (remark t) []) (sym one.whole) (remark_of_line one.line one.clear)

-- ---- a dump

entry_at : (remarked said : Bool) (text : List ℕ) (cs : List Command) → OneLine text → (said ≡ true → SaysCommands (flat_map command_line cs) cs)
    → SaysCommands (cond remarked (remark text) [] ++ cond said (flat_map command_line cs) []) (cond said cs [])
entry_at true true text cs one says = says_both (remark text) (flat_map command_line cs) [] cs (says_remark text one) (says refl)
entry_at true false text cs one says = says_both (remark text) [] [] [] (says_remark text one) says_none
entry_at false true text cs one says = says refl
entry_at false false text cs one says = says_none

says_entry : (l : Listed) (s : State) → ValidState s → (x : ℕ × Entry l) → Among x (entries l s) → SaysCommands (dumped l s x) (commands_told l s x)
says_entry l s v x m = entry_at (is_remarked l s x) (are_spelled (making l s x)) (entry_line l s x) (making l s x) (one_line l s v x m) (says_commands (making l s x))

says_section : (s : State) → ValidState s → (l : Listed) → SaysCommands (section s l) (section_told s l)
says_section s v l = says_each (dumped l s) (commands_told l s) (entries l s) (says_entry l s v)

says_dump : (s : State) → ValidState s → SaysCommands (dump_lines s) (said_commands s)
says_dump s v =
    says_both (command_line (setting s)) (flat_map (section s) sections) (setting s ∷ []) (flat_map (section_told s) sections)
    (says_command (setting s) v.setting) (says_each (section s) (section_told s) sections (λ l m. says_section s v l))

pub dump_read_back : (s : State) → ValidState s → frames_said (dump_lines s) ≡ frames_from_commands 1 (said_commands s)
dump_read_back s v =
    ap frames_said (sym (append-nil (dump_lines s))) ∙ (says_dump s v).frames [] [] (λ n. refl) 1 ∙ ap (frames_from_commands 1) (append-nil (said_commands s))

pub dump_faultless : (s : State) → ValidState s → fault_said (dump_lines s) ≡ None
dump_faultless s v = ap fault_said (sym (append-nil (dump_lines s))) ∙ (says_dump s v).faultless [] (λ n. refl) 1

-- ---- where some lines say each command

spelled_parts : (cs ds : List Command) → are_spelled (cs ++ ds) ≡ true → (are_spelled cs ≡ true) × (are_spelled ds ≡ true)
spelled_parts [] ds h = (refl, h)
spelled_parts (c ∷ cs) ds h =
    let p = and_parts (is_spelled c) (are_spelled (cs ++ ds)) h in
    let later = spelled_parts cs ds p.1 in
    (ap (λ (b : Bool). b && are_spelled cs) p.0 ∙ later.0, later.1)

said_each : {X : Type 0} (told made : X → List Command) → ((x : X) → are_spelled (made x) ≡ true → told x ≡ made x) → (xs : List X)
    → are_spelled (flat_map made xs) ≡ true → flat_map told xs ≡ flat_map made xs
said_each told made each [] h = refl
said_each told made each (x ∷ xs) h =
    let p = spelled_parts (made x) (flat_map made xs) h in
    ap (λ (cs : List Command). cs ++ flat_map told xs) (each x p.0) ∙ ap (λ (cs : List Command). made x ++ cs) (said_each told made each xs p.1)

entry_said : (l : Listed) (s : State) (x : ℕ × Entry l) → are_spelled (making l s x) ≡ true → commands_told l s x ≡ making l s x
entry_said l s x h = ap (λ (b : Bool). cond b (making l s x) []) h

pub each_said : (s : State) → are_spelled (dump_commands s) ≡ true → said_commands s ≡ dump_commands s
each_said s h =
    ap (λ (cs : List Command). setting s ∷ cs)
    (said_each (section_told s) (section_commands s) (λ l. said_each (commands_told l s) (making l s) (entry_said l s) (entries l s)) sections
    (and_parts (is_spelled (setting s)) (are_spelled (flat_map (section_commands s) sections)) h).1)
