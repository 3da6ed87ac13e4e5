-- The words of the command line, and what they ask for (docs/FORMATS.md, "The words of zitiline").
use Rattle.std.specs.Prelude.{ℕ, List, [], ◌∷◌, codes, if◌then◌else◌, None, Some}
use Rattle.std.specs.declared.option.Option.{Option}
use Rattle.std.specs.Str.{bytes_eq}
use Rattle.zitiline.specs.declared.words.Asked.{Asked}
use Rattle.zitiline.specs.declared.words.Asked.TheVariants.{Turn, Tell}
use Rattle.live_lines.specs.declared.kinds.Kind.TheVariants.{Frames, Replies}
use Rattle.zitiline.specs.declared.words.Form.TheVariants.{Whole, Live}
use Rattle.zitiline.specs.declared.words.Whole.TheVariants.{Encode, Trace, Check, Answers}
use Rattle.zitiline.specs.declared.words.Page.TheVariants.{Help, Version}

-- The words, each with what it asks for.
abbrev pub known_words : List (List ℕ × Asked)
known_words =
    (codes "encode", Turn (Whole Encode)) ∷ (codes "decode", Turn (Live Frames)) ∷ (codes "trace", Turn (Whole Trace))
    ∷ (codes "replies", Turn (Live Replies)) ∷ (codes "check", Turn (Whole Check)) ∷ (codes "answers", Turn (Whole Answers))
    ∷ (codes "help", Tell Help) ∷ (codes "version", Tell Version) ∷ []

-- What a word asks for, if it is one of some.
abbrev pub asked_among : List (List ℕ × Asked) → List ℕ → Option Asked
asked_among [] word = None
asked_among (row ∷ rows) word = if bytes_eq word row.0 then Some row.1 else asked_among rows word

-- What the words ask for, if they are one of the eight alone.
abbrev pub asked_of : List (List ℕ) → Option Asked
asked_of [] = None
asked_of (word ∷ []) = asked_among known_words word
asked_of (word ∷ next ∷ words) = None
