use Rattle.std.proofs.lemmas.Bool.{both_ways}
use Rattle.cutset_store.specs.Index.{fronts_of}
use Rattle.tree_worker.proofs.VisitSteps.{LoadsBest, work-leaf, work-heard, live-same, live-cited, few-expanded, visits-expanded, work-expanded}
use Rattle.tree_worker.proofs.worker.TreeWorker.visit.Goals as goal

pub returns-then-is_leaf-clause-work : goal.returns-then-is_leaf-clause-work
returns-then-is_leaf-clause-work g c =
    let v = c.args.pass.now.view in
    let u = c.best-best.new.pass.view in
    let best = c.best-best.result in
    let l : LoadsBest best v u = record { view = c.best-best.ensures.view; seen = c.best-best.ensures.seen; offered = c.best-best.ensures.offered } in
    work-leaf c.args.project.now c.args.rows.now c.args.node.front c.args.self.now c.offer.new.self v u c.offer.new.pass.view best c.requires.work l c.in_ok-offer.ensures.offers c.offer.ensures.view c.offer.ensures.worker

pub returns-in-Some-clause-work : goal.returns-in-Some-clause-work
returns-in-Some-clause-work g c =
    let v = c.args.pass.now.view in
    let u = c.best-best.new.pass.view in
    let w = c.cited_live.new.pass.view in
    let best = c.best-best.result in
    let l : LoadsBest best v u = record { view = c.best-best.ensures.view; seen = c.best-best.ensures.seen; offered = c.best-best.ensures.offered } in
    let h = c.cited_live.ensures.listens in
    work-heard c.args.project.now c.args.rows.now c.args.self.now c.cited_live.new.self v u w best c.requires.work l h c.cited_live.ensures.worker c.cited_live.ensures.heard
    (live-cited c.args.project.now c.args.rows.now c.args.node.front c.args.self.now c.cited_live.new.self v u w best c.in-Some.cite c.requires.work l h c.in-Some.ensures.some)

pub expand_node-requires-clause-few : goal.expand_node-requires-clause-few
expand_node-requires-clause-few g c =
    let v = c.args.pass.now.view in
    let u = c.best-best.new.pass.view in
    let best = c.best-best.result in
    let l : LoadsBest best v u = record { view = c.best-best.ensures.view; seen = c.best-best.ensures.seen; offered = c.best-best.ensures.offered } in
    few-expanded c.args.project.now c.args.rows.now c.args.self.now c.cited_live.new.self v u c.cited_live.new.pass.view c.draw.new.pass.view best c.requires.work l c.cited_live.ensures.listens c.cited_live.ensures.worker
    c.in-Ticket.ensures.drawn.outcome.view c.in-Ticket.ensures.within

pub returns-in_ok-children-in-Ticket-clause-visits : goal.returns-in_ok-children-in-Ticket-clause-visits
returns-in_ok-children-in-Ticket-clause-visits g c =
    let v = c.args.pass.now.view in
    let u = c.best-best.new.pass.view in
    let best = c.best-best.result in
    let l : LoadsBest best v u = record { view = c.best-best.ensures.view; seen = c.best-best.ensures.seen; offered = c.best-best.ensures.offered } in
    visits-expanded c.args.project.now (fronts_of c.args.earlier.now) c.args.rows.now (g.C.Cells.refused c.args.cells.now) (g.C.Cells.refused c.cited_live.new.cells) (g.C.Cells.refused c.expand_node.new.cells) c.args.node
    c.in_ok-children-in-Ticket.children c.in_ok-children-in-Ticket.known c.args.self.now c.cited_live.new.self c.expand_node.new.self v u c.cited_live.new.pass.view c.draw.new.pass.view c.expand_node.new.pass.view best c.cited_live.ensures.refused_later l
    c.cited_live.ensures.listens (λ leaf. both_ways c.is_leaf.result c.if-is_leaf.false (c.is_leaf.ensures.1 leaf)) c.in-Passes.ensures c.cited_live.ensures.worker c.in-None.ensures.none
    c.in-Ticket.ensures.drawn.outcome.view c.in_ok-children-in-Ticket.ensures.children c.in_ok-children-in-Ticket.ensures.stand c.in_ok-children-in-Ticket.ensures.expands

pub returns-in_ok-children-in-Ticket-clause-work : goal.returns-in_ok-children-in-Ticket-clause-work
returns-in_ok-children-in-Ticket-clause-work g c =
    let P = c.args.project.now in
    let rows = c.args.rows.now in
    let old = c.args.self.now in
    let mid = c.cited_live.new.self in
    let v = c.args.pass.now.view in
    let u = c.best-best.new.pass.view in
    let w = c.cited_live.new.pass.view in
    let best = c.best-best.result in
    let l : LoadsBest best v u = record { view = c.best-best.ensures.view; seen = c.best-best.ensures.seen; offered = c.best-best.ensures.offered } in
    let h = c.cited_live.ensures.listens in
    let heard = work-heard P rows old mid v u w best c.requires.work l h c.cited_live.ensures.worker c.cited_live.ensures.heard (live-same P rows old mid v u w best c.requires.work l h c.in-None.ensures.none) in
    work-expanded P rows c.args.node.front c.in_ok-children-in-Ticket.known (g.C.Cells.refused c.cited_live.new.cells) (g.C.Cells.refused c.expand_node.new.cells) mid c.expand_node.new.self w c.draw.new.pass.view c.expand_node.new.pass.view heard
    c.in-Ticket.ensures.drawn.outcome.view c.in_ok-children-in-Ticket.ensures.expands
