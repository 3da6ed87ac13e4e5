use Rattle.std.proofs.Common.{◌≡◌, ℕ, ◌∙◌, List, length, map, drop, ap, arith}
use Rattle.std.proofs.lemmas.List.{length-map, take_at}
use Rattle.ctrl_model.specs.Matches.{matches}
use Rattle.ctrl_model.specs.State.{Entity}
use Rattle.entity_store.specs.EntityTables.{entities}
use Rattle.grant_steps.proofs.MemberLaws.{marks_are}
use Rattle.grant_steps.proofs.membership.marks_of.Goals as goal

pub returns : goal.returns
returns c =
    let rows = entities c.args.kind c.args.known.now in
    let names : length c.lanes-lanes.result.names.now ≡ length rows = ap (λ (ns : List (List ℕ)). length ns) c.lanes-lanes.ensures.names ∙ length-map rows (λ (row : ℕ × Entity). row.1.name) in
    let all : length c.match_all.new.out ≡ c.in_ok-marks.marks.len = omega arith in
    let long : length c.match_all.new.out ≡ length rows = omega (arith, all, names, c.in_ok-marks.ensures.len) in
    take_at c.match_all.new.out (drop (length c.match_all.new.out) c.in_ok-marks.marks.items) c.in_ok-marks.marks.len all
    ∙ marks_are (λ e. matches c.args.side.now c.args.semantic e) rows c.match_all.new.out long
    (λ p within. rw c.lanes-lanes.ensures.names at (c.match_all.ensures (map (λ (row : ℕ × Entity). row.1.attributes) rows) c.lanes-lanes.ensures.rows p within))
