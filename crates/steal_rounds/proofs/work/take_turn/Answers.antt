use Rattle.std.proofs.Common.{◌≡◌, ◌∙◌, refl, ap, arith, ◌∷◌, length}
use Rattle.precedence_tree.specs.Node.{NodeState}
use Rattle.search_rounds.specs.declared.round.WaitingNode.{WaitingNode}
use Rattle.node_sources.specs.Source.{SourceState, given_by, taken_by}
use Rattle.steal_rounds.specs.Lists.{part_state}
use Rattle.steal_rounds.specs.Turns.{Stage, stage_of, next_stage}
use Rattle.steal_rounds.proofs.ClosedNodes.{cited-within}
use Rattle.steal_rounds.proofs.SourceTurns.{keeps-gained, keeps-alike}
use Rattle.steal_rounds.proofs.SameParts.{same_part}
use Rattle.steal_rounds.proofs.TurnSteps.{closed-keeps, expanded-keeps, back-keeps}
use Rattle.steal_rounds.proofs.VisitTurns.{closed-visit, expanded-visit, back-visit, few-kids, expanded-counts, closed-counts, back-counts}
use Rattle.steal_rounds.proofs.work.take_turn.Goals as goal

pub closed-requires-clause-cited : goal.closed-requires-clause-cited
closed-requires-clause-cited g c =
    let v = closed-visit c.args.project.now c.args.records.now.index c.args.rows.now _ _ c.args.next.node c.in-Closed.field-0 _ _ c.in_ok-close.field-0 c.in-Closed.close c.in_ok-close.ensures.visits c.in-Closed.is in
    cited-within c.args.project.now c.args.records.now.index c.args.rows.now v.best c.args.next.node.front _ _ c.in-Closed.close (length c.args.records.now.places) (length c.args.part.now.made.items)
    c.requires.places c.requires.counts.made v.closes

pub returns-in-Closed-clause-keeps : goal.returns-in-Closed-clause-keeps
returns-in-Closed-clause-keeps g c =
    let v = closed-visit c.args.project.now c.args.records.now.index c.args.rows.now _ _ c.args.next.node c.in-Closed.field-0 _ _ c.in_ok-close.field-0 c.in-Closed.close c.in_ok-close.ensures.visits c.in-Closed.is in
    let s = part_state c.args.part.now in
    let is = c.in_ok-closed-in-Closed.ensures.closes in
    let before : Stage = next_stage c.args.next (stage_of c.args.worker.now c.args.pass.now c.args.part.now) in
    let after : Stage = stage_of c.visit.new.self c.visit.new.pass c.closed.new.part in
    keeps-alike c.args.project.now c.args.records.now c.args.origin before after (ap given_by c.in_ok-closed-in-Closed.ensures.source) (ap taken_by c.in_ok-closed-in-Closed.ensures.source)
    (closed-keeps c.args.project.now c.args.rows.now v.best c.args.records.now c.args.origin c.args.next _ _ s _ c.in-Closed.close c.known.ensures c.requires.node
    c.requires.places v.low v.falls c.requires.turn v.closes v.expanded (same_part _ _ is.grown is.fills is.live is.made is.left))

pub returns-in-Closed-clause-counts : goal.returns-in-Closed-clause-counts
returns-in-Closed-clause-counts g c =
    let v = closed-visit c.args.project.now c.args.records.now.index c.args.rows.now _ _ c.args.next.node c.in-Closed.field-0 _ _ c.in_ok-close.field-0 c.in-Closed.close c.in_ok-close.ensures.visits c.in-Closed.is in
    closed-counts c.args.project.now c.args.records.now c.args.rows.now c.args.next.place c.args.next.node _ _ _ _ _ _ c.in-Closed.close c.args.origin c.known.ensures.limits c.requires.node v c.in_ok-closed-in-Closed.ensures.closes c.requires.counts

pub expanded-requires-clause-few : goal.expanded-requires-clause-few
expanded-requires-clause-few g c =
    let v = expanded-visit c.args.project.now c.args.records.now.index c.args.rows.now _ _ c.args.next.node c.in-Expanded.field-0 _ _ c.in_ok-close.field-0 c.in-Expanded.children c.in-Expanded.known c.in_ok-close.ensures.visits c.in-Expanded.is in
    few-kids c.args.project.now c.args.next.node c.in-Expanded.children c.known.ensures.limits v.expanding.are

pub expanded-requires-clause-room : goal.expanded-requires-clause-room
expanded-requires-clause-room g c =
    let v = expanded-visit c.args.project.now c.args.records.now.index c.args.rows.now _ _ c.args.next.node c.in-Expanded.field-0 _ _ c.in_ok-close.field-0 c.in-Expanded.children c.in-Expanded.known c.in_ok-close.ensures.visits c.in-Expanded.is in
    let few = few-kids c.args.project.now c.args.next.node c.in-Expanded.children c.known.ensures.limits v.expanding.are in
    let grown = c.requires.counts.grown in
    let turn = c.requires.turn in
    let most = c.requires.few in
    let worker = c.requires.worker in
    let d : length c.as_slice.result.now ≡ length c.args.part.now.grown.items = ap length c.as_slice.ensures.value in
    omega arith

pub expanded-requires-clause-high : goal.expanded-requires-clause-high
expanded-requires-clause-high g c =
    let v = expanded-visit c.args.project.now c.args.records.now.index c.args.rows.now _ _ c.args.next.node c.in-Expanded.field-0 _ _ c.in_ok-close.field-0 c.in-Expanded.children c.in-Expanded.known c.in_ok-close.ensures.visits c.in-Expanded.is in
    let few = few-kids c.args.project.now c.args.next.node c.in-Expanded.children c.known.ensures.limits v.expanding.are in
    let grown = c.requires.counts.grown in
    let turn = c.requires.turn in
    let most = c.requires.few in
    let worker = c.requires.worker in
    let d : length c.as_slice.result.now ≡ length c.args.part.now.grown.items = ap length c.as_slice.ensures.value in
    let own = c.requires.own in
    omega arith

pub returns-in-Expanded-clause-counts : goal.returns-in-Expanded-clause-counts
returns-in-Expanded-clause-counts g c =
    let v = expanded-visit c.args.project.now c.args.records.now.index c.args.rows.now _ _ c.args.next.node c.in-Expanded.field-0 _ _ c.in_ok-close.field-0 c.in-Expanded.children c.in-Expanded.known c.in_ok-close.ensures.visits c.in-Expanded.is in
    expanded-counts c.args.project.now c.args.records.now.index c.args.next.place c.args.next.node c.in-Expanded.field-0 _ _ _ _ _ _ c.in-Expanded.children c.in-Expanded.known _ c.args.origin c.known.ensures.limits v c.in_ok-expanded-in-Expanded.ensures.expands c.requires.counts

pub returns-in-Expanded-clause-keeps : goal.returns-in-Expanded-clause-keeps
returns-in-Expanded-clause-keeps g c =
    let v = expanded-visit c.args.project.now c.args.records.now.index c.args.rows.now _ _ c.args.next.node c.in-Expanded.field-0 _ _ c.in_ok-close.field-0 c.in-Expanded.children c.in-Expanded.known c.in_ok-close.ensures.visits c.in-Expanded.is in
    let s = part_state c.args.part.now in
    let few = few-kids c.args.project.now c.args.next.node c.in-Expanded.children c.known.ensures.limits v.expanding.are in
    let grown = c.requires.counts.grown in
    let turn = c.requires.turn in
    let most = c.requires.few in
    let d : length c.as_slice.result.now ≡ length c.args.part.now.grown.items = ap length c.as_slice.ensures.value in
    let before : Stage = next_stage c.args.next (stage_of c.args.worker.now c.args.pass.now c.args.part.now) in
    let after : Stage = stage_of c.visit.new.self c.visit.new.pass c.expanded.new.part in
    keeps-gained c.args.project.now c.args.records.now c.args.origin before after _ c.in_ok-expanded-in-Expanded.ensures.gains refl
    (expanded-keeps c.args.project.now v.best c.args.records.now c.args.origin c.args.next _ _ s _ c.in-Expanded.children c.in-Expanded.known _ v.low v.falls c.requires.turn (omega arith) (omega arith) v.expanding c.in_ok-expanded-in-Expanded.ensures.expands)

pub returns-clause-counts : goal.returns-clause-counts
returns-clause-counts g c =
    let v = back-visit c.args.project.now c.args.records.now.index c.args.rows.now _ _ c.args.next.node c.in-Back.node _ _ c.in_ok-close.field-0 c.in_ok-close.ensures.visits c.in-Back.is in
    back-counts c.args.next.node c.in-Back.node _ _ _ _ _ _ v refl refl refl refl c.requires.counts

pub returns-clause-keeps : goal.returns-clause-keeps
returns-clause-keeps g c =
    let v = back-visit c.args.project.now c.args.records.now.index c.args.rows.now _ _ c.args.next.node c.in-Back.node _ _ c.in_ok-close.field-0 c.in_ok-close.ensures.visits c.in-Back.is in
    let s = part_state c.args.part.now in
    let back = c.in_ok-put_back-in-Back.ensures.back in
    let before : Stage = next_stage c.args.next (stage_of c.args.worker.now c.args.pass.now c.args.part.now) in
    let after : Stage = stage_of c.visit.new.self c.visit.new.pass (record c.args.part.now { source = c.put_back.new.self }) in
    keeps-alike c.args.project.now c.args.records.now c.args.origin before after (ap given_by back) (ap taken_by back)
    (back-keeps c.args.project.now c.args.records.now c.args.origin c.args.next _ _ s _ v.falls v.offers v.expanded v.live
    (same_part _ _ refl refl refl refl (ap (λ (x : SourceState). x.list) back ∙ ap (λ (n : NodeState). let w : WaitingNode = record { place = c.args.next.place; node = n } in w ∷ s.left) v.same)))
