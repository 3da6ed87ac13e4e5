-- The words of the command line, and what they ask for (docs/FORMATS.md, "The words of zitilook").
use Rattle.std.specs.Prelude.{ℕ, Bool, false, List, [], ◌∷◌, codes, if◌then◌else◌, not, None, Some}
use Rattle.std.specs.declared.option.Option.{Option}
use Rattle.std.specs.Str.{bytes_eq}
use Rattle.ctrl_model.specs.declared.kinds.Kind.TheVariants as kind
use Rattle.ctrl_model.specs.NameForm.{is_name}
use Rattle.record_lines.specs.declared.listing.Listed.{Listed}
use Rattle.record_lines.specs.declared.listing.Listed.TheVariants.{Intercepts, Records}
use Rattle.zitilook.specs.declared.words.Asked.{Asked}
use Rattle.zitilook.specs.declared.words.Asked.TheVariants as asked
use Rattle.zitilook.specs.declared.words.Page.TheVariants.{Help, Version}
use Rattle.zitilook.specs.declared.words.Place.{Place}
use Rattle.zitilook.specs.declared.words.Place.TheVariants.{Second, Third}

-- The words that name what is listed: the records of a kind, or the intercepts.
abbrev pub kind_words : List (List ℕ × Listed)
kind_words =
    (codes "identities", Records kind.Identity) ∷ (codes "services", Records kind.Service) ∷ (codes "routers", Records kind.Router)
    ∷ (codes "links", Records kind.Link) ∷ (codes "service-policies", Records kind.ServicePolicy)
    ∷ (codes "edge-router-policies", Records kind.EdgeRouterPolicy)
    ∷ (codes "service-edge-router-policies", Records kind.ServiceEdgeRouterPolicy) ∷ (codes "terminators", Records kind.Terminator)
    ∷ (codes "circuits", Records kind.Circuit) ∷ (codes "intercepts", Intercepts) ∷ []

-- What a word names, if it is one of some.
abbrev pub kind_among : List (List ℕ × Listed) → List ℕ → Option Listed
kind_among [] word = None
kind_among (row ∷ rows) word = if bytes_eq word row.0 then Some row.1 else kind_among rows word

-- What a word names that is listed.
abbrev pub kind_of : List ℕ → Option Listed
kind_of word = kind_among kind_words word

-- What is asked for with what is listed, if there is such.
abbrev pub listing : Option Listed → Asked
listing None = asked.Unknown
listing (Some l) = asked.List l

-- What is asked for with the name of a service, if the word is a name.
abbrev pub asked_who : List ℕ → Asked
asked_who service = if is_name service then asked.Who else asked.Misnamed Second

-- What is asked for with the names of an identity and of a service, if the words are names. The first that is none is told.
abbrev pub asked_why : (identity service : List ℕ) → Asked
asked_why identity service =
    if not (is_name identity) then asked.Misnamed Second
    else if not (is_name service) then asked.Misnamed Third else asked.Why

-- What is asked for with the name of one of what is listed, if there is such.
abbrev pub showing : Option Listed → Asked
showing None = asked.Unknown
showing (Some l) = asked.Show l

-- What one word asks for, if it is a line of the table of words.
abbrev pub asked_alone : List ℕ → Option Asked
asked_alone word =
    if bytes_eq word (codes "dump") then Some asked.Dump
    else if bytes_eq word (codes "picture") then Some asked.Picture
    else if bytes_eq word (codes "doctor") then Some asked.Doctor
    else if bytes_eq word (codes "help") then Some (asked.Tell Help)
    else if bytes_eq word (codes "version") then Some (asked.Tell Version) else None

-- What two words ask for, if they are a line of the table of words.
abbrev pub asked_pair : (word next : List ℕ) → Option Asked
asked_pair word next =
    if bytes_eq word (codes "list") then Some (listing (kind_of next))
    else if bytes_eq word (codes "who") then Some (asked_who next)
    else if bytes_eq word (codes "picture") then Some asked.PictureOf else None

-- What three words ask for, if they are a line of the table of words.
abbrev pub asked_triple : (word next third : List ℕ) → Option Asked
asked_triple word next third =
    if bytes_eq word (codes "show") then Some (showing (kind_of next))
    else if bytes_eq word (codes "why") then Some (asked_why next third) else None

-- What the words ask for, if they are a line of the table of words.
abbrev pub asked_of : List (List ℕ) → Option Asked
asked_of [] = None
asked_of (word ∷ []) = asked_alone word
asked_of (word ∷ next ∷ []) = asked_pair word next
asked_of (word ∷ next ∷ third ∷ []) = asked_triple word next third
asked_of (word ∷ next ∷ third ∷ fourth ∷ words) = None

-- The word at a place; none where there is none.
abbrev pub word_at : Place → List (List ℕ) → List ℕ
word_at Second (word ∷ next ∷ words) = next
word_at Third (word ∷ next ∷ third ∷ words) = third
word_at _ _ = []

-- Whether the words ask for the changes between two folders: `diff` and the place of the other one.
abbrev pub is_diff : List (List ℕ) → Bool
is_diff (word ∷ other ∷ []) = bytes_eq word (codes "diff")
is_diff words = false

-- Whether the words ask what the commands of the input would change: `plan` alone.
abbrev pub is_plan : List (List ℕ) → Bool
is_plan (word ∷ []) = bytes_eq word (codes "plan")
is_plan words = false

-- The place of the other folder, among all words: the one behind `diff`, and else the working folder.
abbrev pub other_place : List (List ℕ) → List ℕ
other_place (program ∷ word ∷ place ∷ []) = if bytes_eq word (codes "diff") then place else codes "."
other_place words = codes "."
