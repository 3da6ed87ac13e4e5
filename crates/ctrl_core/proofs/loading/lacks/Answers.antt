use Rattle.std.proofs.Common.{refl, sym, ◌∙◌}
use Rattle.std.proofs.lemmas.Bool.{false≢true}
use Rattle.ctrl_model.specs.declared.kinds.Relation.TheVariants.{Dial, Bind, IdentityRouter, ServiceRouter}
use Rattle.ctrl_core.proofs.LoadedLaws.{have_all, lacks_one}
use Rattle.ctrl_core.proofs.loading.lacks.Goals as goal
use Rattle.ctrl_core.proofs.loading.lacks.Goals.{then-lacks_counts, else-lacks_counts, then-lacks_counts-2, else-lacks_counts-2}

pub lacks_counts-requires-clause-kept : goal.lacks_counts-requires-clause-kept
lacks_counts-requires-clause-kept c = λ a b h. c.requires.told Dial a b h ∙ sym (c.requires.kept.counts Dial a b)

pub lacks_counts-requires-else-lacks_counts-clause-kept : goal.lacks_counts-requires-else-lacks_counts-clause-kept
lacks_counts-requires-else-lacks_counts-clause-kept c = λ a b h. c.requires.told Bind a b h ∙ sym (c.requires.kept.counts Bind a b)

pub lacks_counts-requires-else-lacks_counts-2-clause-kept : goal.lacks_counts-requires-else-lacks_counts-2-clause-kept
lacks_counts-requires-else-lacks_counts-2-clause-kept c = λ a b h. c.requires.told IdentityRouter a b h ∙ sym (c.requires.kept.counts IdentityRouter a b)

pub lacks_counts-requires-else-lacks_counts-3-clause-kept : goal.lacks_counts-requires-else-lacks_counts-3-clause-kept
lacks_counts-requires-else-lacks_counts-3-clause-kept c = λ a b h. c.requires.told ServiceRouter a b h ∙ sym (c.requires.kept.counts ServiceRouter a b)

pub lacks_counts-requires-clause-rows : goal.lacks_counts-requires-clause-rows
lacks_counts-requires-clause-rows c = (c.requires.loads.0, c.requires.loads.1.form, c.requires.loads.1.rises)

pub lacks_counts-requires-else-lacks_counts-clause-rows : goal.lacks_counts-requires-else-lacks_counts-clause-rows
lacks_counts-requires-else-lacks_counts-clause-rows c = (c.requires.loads.0, c.requires.loads.1.form, c.requires.loads.1.rises)

pub lacks_counts-requires-else-lacks_counts-2-clause-rows : goal.lacks_counts-requires-else-lacks_counts-2-clause-rows
lacks_counts-requires-else-lacks_counts-2-clause-rows c = (c.requires.loads.0, c.requires.loads.1.form, c.requires.loads.1.rises)

pub lacks_counts-requires-else-lacks_counts-3-clause-rows : goal.lacks_counts-requires-else-lacks_counts-3-clause-rows
lacks_counts-requires-else-lacks_counts-3-clause-rows c = (c.requires.loads.0, c.requires.loads.1.form, c.requires.loads.1.rises)

pub returns-then-lacks_counts-3-clause-lacks : goal.returns-then-lacks_counts-3-clause-lacks
returns-then-lacks_counts-3-clause-lacks c = λ e.
    elim c.if-lacks_counts-2.branch [
      | then-lacks_counts-2 w ↦
          elim c.if-lacks_counts.branch [
            | then-lacks_counts u ↦ lacks_one c.args.rows.now c.args.stores.now c.requires.kept Dial _ refl (c.lacks_counts.ensures.lacks u.if-lacks_counts.true)
            | else-lacks_counts u ↦
                lacks_one c.args.rows.now c.args.stores.now c.requires.kept Bind _ refl (u.lacks_counts-else-lacks_counts.ensures.lacks (sym u.value-is ∙ w.if-lacks_counts-2.true))
          ]
      | else-lacks_counts-2 w ↦
          lacks_one c.args.rows.now c.args.stores.now c.requires.kept IdentityRouter _ refl (w.lacks_counts-else-lacks_counts-2.ensures.lacks (sym w.value-is ∙ e))
    ]

pub returns-else-lacks_counts-3-clause-lacks : goal.returns-else-lacks_counts-3-clause-lacks
returns-else-lacks_counts-3-clause-lacks c = λ e. lacks_one c.args.rows.now c.args.stores.now c.requires.kept ServiceRouter _ refl (c.lacks_counts-else-lacks_counts-3.ensures.lacks e)

pub returns-else-lacks_counts-3-clause-all : goal.returns-else-lacks_counts-3-clause-all
returns-else-lacks_counts-3-clause-all c = λ e.
    elim c.if-lacks_counts-2.branch [
      | then-lacks_counts-2 w ↦ absurd (false≢true (sym c.if-lacks_counts-3.false ∙ w.value-is ∙ w.if-lacks_counts-2.true))
      | else-lacks_counts-2 w ↦
          elim c.if-lacks_counts.branch [
            | then-lacks_counts u ↦ absurd (false≢true (sym w.if-lacks_counts-2.false ∙ u.value-is ∙ u.if-lacks_counts.true))
            | else-lacks_counts u ↦
                have_all c.args.rows.now c.args.stores.now c.requires.kept (c.lacks_counts.ensures.all u.if-lacks_counts.false)
                (u.lacks_counts-else-lacks_counts.ensures.all (sym u.value-is ∙ w.if-lacks_counts-2.false))
                (w.lacks_counts-else-lacks_counts-2.ensures.all (sym w.value-is ∙ c.if-lacks_counts-3.false)) (c.lacks_counts-else-lacks_counts-3.ensures.all e)
          ]
    ]
