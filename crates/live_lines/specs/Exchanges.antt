-- The input of an exchange, and what is remembered of its takes (docs/PROMISES.md, "Lines as they come").
use Rattle.std.specs.Prelude.{List}
use Rattle.live_lines.specs.declared.exchanges.Exchange.{Exchange}

-- The source of which an exchange takes.
abbrev pub source_of : {S D : Type 0} → Exchange S D → S
source_of e = e.source

-- What the source and the desk were at the start of each take, in the order of the takes.
abbrev pub starts_of : {S D : Type 0} → Exchange S D → List (S × D)
starts_of e = e.starts.items

-- What they were at the end of each take.
abbrev pub ends_of : {S D : Type 0} → Exchange S D → List (S × D)
ends_of e = e.ends.items
