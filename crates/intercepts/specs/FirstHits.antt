-- The first of hits that are looked through one after the other. Private contracts alone cite it.
use Rattle.std.specs.Prelude.{List, None, Some}
use Rattle.std.specs.declared.option.Option.{Option}
use Rattle.ctrl_model.specs.Hits.{Hit, hit_rank}
use Rattle.ctrl_model.specs.Ranks.{first_of, least_by}

-- The one that comes first of a hit, if it is there, and of some hits. Where two come together, the one before counts.
abbrev pub first_with : Option Hit → List Hit → Option Hit
first_with None hits = least_by hit_rank hits
first_with (Some h) hits = Some (first_of hit_rank h (least_by hit_rank hits))
