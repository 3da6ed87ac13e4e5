-- The telling of items whose bytes come in pieces (docs/FORMATS.md, "Lines for people").
use Rattle.std.specs.Prelude.{◌≡◌, ℕ, ◌+◌, List, [], ◌∷◌, ◌++◌, length, None, Some}
use Rattle.std.specs.declared.option.Option.{Option}
use Rattle.frame_lines.specs.declared.told.DecodeCause.TheVariants.{Unfinished}
use Rattle.frame_lines.specs.declared.told.DecodeFault.{DecodeFault}
use Rattle.frame_lines.specs.declared.decoding.LineTelling.{LineTelling}
use Rattle.frame_lines.specs.LineKinds.{Reading, Short}
use Rattle.frame_lines.specs.TextTelling.{lines_until, untold_from, fault_behind, text_of, fault_of}

-- So far: what was told and what the rest still tells are all lines, and the fault of the rest, whose first item has this number, is the
-- fault.
pub record Told (k : Reading) (text : List ℕ) (number : ℕ) (rest bytes : List ℕ) : Type 0 where
  pub whole : text ++ lines_until (k.lines rest) ≡ text_of k bytes
  pub fault : untold_from (k.lines rest) (fault_behind k bytes) number ≡ fault_of k bytes
  pub tail : k.tail rest ≡ k.tail bytes

-- The telling goes on: whatever more comes, what was told of the bytes that came, and what these last ones of them, from a place on, tell
-- with what more comes, is the whole.
pub record GoesOn (k : Reading) (came text : List ℕ) (number at : ℕ) (held : List ℕ) : Type 0 where
  pub told : (more : List ℕ) → Told k text number (held ++ more) (came ++ more)
  pub place : at + length held ≡ length came

-- The telling has ended at a fault: whatever more comes, nothing more is told, and this is the fault.
pub record HasEnded (k : Reading) (came text : List ℕ) (fault : DecodeFault) : Type 0 where
  pub none_more : (more : List ℕ) → text ≡ text_of k (came ++ more)
  pub is_fault : (more : List ℕ) → Some fault ≡ fault_of k (came ++ more)

-- Everything that is whole in the bytes that came was told: the telling goes on with less than one item or nothing, or has ended.
abbrev pub StandsAt : (k : Reading) (came text : List ℕ) (number at : ℕ) (held : List ℕ) → Option DecodeFault → Type 0
StandsAt k came text number at held None = GoesOn k came text number at held × (k.front at held ≡ Short)
StandsAt k came text number at held (Some fault) = HasEnded k came text fault

-- The fault at the end of all bytes: the one that was met, else that of an item that is cut off.
abbrev pub end_fault : Option DecodeFault → List ℕ → ℕ → ℕ → Option DecodeFault
end_fault (Some fault) held at number = Some fault
end_fault None [] at number = None
end_fault None (b ∷ held) at number = Some (record { frame = number; cause = Unfinished at })

-- The telling stands behind these bytes.
abbrev pub Follows : {K : Type 0} → Reading → List ℕ → LineTelling K → Type 0
Follows k came t = StandsAt k came (text_of k came) t.number t.at t.held.items t.fault
