use Rattle.std.proofs.Common.{sym, ◌∙◌, true≢false}
use Rattle.cutset_store.proofs.Compared.{comparable-orderly, orderly-record, beats-exactly}
use Rattle.cutset_store.proofs.dominance.would_dominate.Goals as goal

pub beats-requires : goal.beats-requires
beats-requires c =
    comparable-orderly c.args.project.now c.known.ensures.limits c.args.a.now c.args.b.now.front c.facts_of_record-record.result c.facts_of_node-node.result (c.are_orderly.ensures.0 c.if-not-are_orderly.false) c.requires.front c.facts_of_record-record.ensures c.facts_of_node-node.ensures

pub returns-then-not-are_orderly : goal.returns-then-not-are_orderly
returns-then-not-are_orderly c = λ base. (
  λ e. absurd (true≢false (sym e)),
  λ d. sym c.if-not-are_orderly.true ∙ c.are_orderly.ensures.1 (orderly-record c.args.project.now c.known.ensures.limits c.args.a.now c.facts_of_record-record.result base c.facts_of_record-record.ensures),
)

pub returns : goal.returns
returns c = λ base.
    let exactly = beats-exactly c.args.project.now c.known.ensures.acyclic c.args.a.now c.args.b.now.front c.facts_of_record-record.result c.facts_of_node-node.result base c.requires.front c.facts_of_record-record.ensures c.facts_of_node-node.ensures
    ((c.has_its_jobs.ensures base).0 c.if-not-has_its_jobs.false) in
    (λ e. exactly.0 (c.beats.ensures.0 e), λ d. c.beats.ensures.1 (exactly.1 d))
