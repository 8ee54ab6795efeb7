use Rattle.cutset_store.proofs.dominance.dominates.Goals as goal

pub returns-clause-value : goal.returns-clause-value
returns-clause-value c = c.would_dominate.ensures c.requires.record

pub returns-clause-replaces : goal.returns-clause-replaces
returns-clause-replaces c = λ e s completes.
    c.dominance.ensures c.args.project.now c.args.a.now.front c.args.b.now.front s c.known.ensures.acyclic c.requires.record.front c.requires.node.front ((c.would_dominate.ensures c.requires.record).0 e) completes
