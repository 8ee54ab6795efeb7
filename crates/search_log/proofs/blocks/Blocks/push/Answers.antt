use Rattle.std.proofs.Common.{rules, ◌≡◌, ◌%◌, ◌∙◌, ℕ, ap, sym, length, arith}
use Rattle.search_log.proofs.BlockPlaces.{length-view}
use Rattle.search_log.proofs.blocks.Blocks.push.Goals as goal

pub overflow_add-self : goal.overflow_add-self
overflow_add-self g c =
    let all = length-view c.self.inside.len _ c.args.self.now c.self.invariant.filled c.self.view_is in
    let few = c.requires in
    omega arith

pub returns-in_err-open_block-clause-full : goal.returns-in_err-open_block-clause-full
returns-in_err-open_block-clause-full g c =
    let all = length-view c.self.inside.len _ c.args.self.now c.self.invariant.filled c.self.view_is in
    let full = c.in_err-open_block.ensures.full in
    let none : length c.args.self.now % 4096 ≡ 0 = ap (λ (n : ℕ). n % 4096) (sym all) ∙ full in
    search rules
