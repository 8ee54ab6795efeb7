use Rattle.std.proofs.Common.{◌∙◌, ℕ, ◌+◌, ◌<◌, refl, sym, ap, subst, arith, List, All, length}
use Rattle.std.specs.List.{AllZip}
use Rattle.precedence_tree.specs.Node.{StandsFor}
use Rattle.search_log.specs.declared.row.Fill.{Fill}
use Rattle.search_log.specs.Stands.{fill_rows, fill_origins}
use Rattle.search_rounds.specs.declared.round.WaitingNode.{WaitingNode}
use Rattle.search_rounds.specs.Closing.{IsLowered, IsCloseOf}
use Rattle.search_rounds.specs.Found.{IsEnded}
use Rattle.search_rounds.proofs.ClosingFills.{lowered-leaves, closing-places}
use Rattle.search_rounds.proofs.NextRounds.{rooms}
use Rattle.search_rounds.proofs.FoundReports.{closes_of, ended_by, ends, same_ended}
use Rattle.search_rounds.proofs.going.Search.finish.Goals as goal

pub overflow_cast-number : goal.overflow_cast-number
overflow_cast-number c =
    let g = c.requires.goes.1 in
    let few = rooms c.args.project.now c.requires.goes.0 c.args.nodes c.args.self c.known.ensures.limits c.requires.few g in
    let rounds = g.rounds in
    let len = c.len.ensures in
    omega arith

pub overflow_add-number : goal.overflow_add-number
overflow_add-number c =
    let g = c.requires.goes.1 in
    let few = rooms c.args.project.now c.requires.goes.0 c.args.nodes c.args.self c.known.ensures.limits c.requires.few g in
    let rounds = g.rounds in
    let len = c.len.ensures in
    omega arith

pub closes-requires-clause-leaves : goal.closes-requires-clause-leaves
closes-requires-clause-leaves c =
    let stand = subst (λ (ws : List WaitingNode). All (λ (w : WaitingNode). StandsFor c.args.project.now w.node) ws) (sym c.as_slice-left.ensures) c.requires.goes.1.fronts in
    lowered-leaves c.args.project.now c.as_slice-left.result.now c.args.self.best.end c.in_ok-best.best.end c.known.ensures.limits stand c.in_ok-best.ensures.least

pub fill-requires-clause-rows : goal.fill-requires-clause-rows
fill-requires-clause-rows c =
    let s = c.args.self in
    let P = c.args.project.now in
    let best = c.in_ok-best.best in
    let number = c.len.result + 1 in
    let fills = c.in_ok-fills.fills.items in
    let g = c.requires.goes.1 in
    let low = subst (λ (ws : List WaitingNode). IsLowered P ws s.best.end best.end) c.as_slice-left.ensures c.in_ok-best.ensures.least in
    let z = subst (λ (ws : List WaitingNode). AllZip (IsCloseOf P best.end number) ws fills) c.as_slice-left.ensures c.in_ok-fills.ensures in
    let k = closes_of P c.requires.goes.0 c.args.nodes number s best fills g low z in
    subst (λ (fs : List Fill). All (λ (f : Fill). f.place < length s.table.rows) fs) (sym c.as_slice.ensures.value) (closing-places P s.table.rows s.table.origins g.tree s.frontier s.best.end best.end number fills k)

pub returns : goal.returns
returns c w g =
    let s = c.args.self in
    let P = c.args.project.now in
    let best = c.in_ok-best.best in
    let number = c.len.result + 1 in
    let fills = c.in_ok-fills.fills.items in
    let low = subst (λ (ws : List WaitingNode). IsLowered P ws s.best.end best.end) c.as_slice-left.ensures c.in_ok-best.ensures.least in
    let z = subst (λ (ws : List WaitingNode). AllZip (IsCloseOf P best.end number) ws fills) c.as_slice-left.ensures c.in_ok-fills.ensures in
    subst (IsEnded P w c.args.nodes s.first)
    (sym (same_ended _ (ended_by (fill_rows s.table.rows fills) (fill_origins s.table.origins fills) s.starts best)
    (c.fill.ensures.rows ∙ ap (fill_rows s.table.rows) c.as_slice.ensures.value) (c.fill.ensures.origins ∙ ap (fill_origins s.table.origins) c.as_slice.ensures.value) refl refl))
    (ends P w c.args.nodes number s best fills g c.requires.ended (ap (λ (n : ℕ). n + 1) c.len.ensures) low c.in_ok-best.ensures.plan c.in_ok-best.ensures.soon z)
