use Rattle.row_loading.proofs.CountedRows.{none_lacks, one_lacks}
use Rattle.row_loading.proofs.counting.lacks_counts.Goals as goal

pub returns-clause-all : goal.returns-clause-all
returns-clause-all c = λ h.
    none_lacks c.requires.rows.0 c.args.relation c.args.rows.now c.args.counted.now c.counts_in.result c.pairs.result
    c.requires.rows.1 c.requires.rows.2 c.pairs.ensures.counts c.requires.kept c.counts_in.ensures c.pairs.ensures.number h

pub returns-clause-lacks : goal.returns-clause-lacks
returns-clause-lacks c = λ h.
    one_lacks c.requires.rows.0 c.args.relation c.args.rows.now c.args.counted.now c.counts_in.result c.pairs.result
    c.requires.rows.1 c.requires.rows.2 c.pairs.ensures.counts c.requires.kept c.counts_in.ensures c.pairs.ensures.number h
