use Rattle.std.specs.Prelude.{vec_items, vec_capacity}
use Rattle.std.proofs.Common.{rules, sym, ◌∙◌, arith}
use Rattle.search_log.proofs.BlockPlaces.{reopened, room-left, none-over, roomy-more}
use Rattle.search_log.proofs.blocks.open_block.Goals as goal

pub returns-in_err-block-clause-full : goal.returns-in_err-block-clause-full
returns-in_err-block-clause-full g c =
    let n = c.args.blocks.now.ok.0 in
    let e = c.len.ensures in
    let t = c.if-len.true in
    let none = none-over vec_items c.args.len c.args.blocks.now.items c.requires.filled (omega arith) in
    search rules

pub returns-in_err-push-clause-full : goal.returns-in_err-push-clause-full
returns-in_err-push-clause-full g c =
    let n = c.args.blocks.now.ok.0 in
    let e = c.len.ensures in
    let t = c.if-len.true in
    let none = none-over vec_items c.args.len c.args.blocks.now.items c.requires.filled (omega arith) in
    search rules

pub returns-in_ok-push-clause-blocks : goal.returns-in_ok-push-clause-blocks
returns-in_ok-push-clause-blocks g c =
    let n = c.args.blocks.now.ok.0 in
    let e = c.len.ensures in
    let t = c.if-len.true in
    record {
      filled = (reopened vec_items c.args.len c.args.blocks.now.items c.push.new.self.items c.in_ok-block.block c.in_ok-push.ensures.items c.in_ok-block.ensures.items (omega arith) c.requires.filled).filled;
      roomy = roomy-more vec_capacity c.args.blocks.now.items c.push.new.self.items c.in_ok-block.block c.in_ok-push.ensures.items c.requires.roomy c.in_ok-block.ensures.capacity;
    }

pub returns-in_ok-push-clause-items : goal.returns-in_ok-push-clause-items
returns-in_ok-push-clause-items g c =
    let n = c.args.blocks.now.ok.0 in
    let e = c.len.ensures in
    let t = c.if-len.true in
    (reopened vec_items c.args.len c.args.blocks.now.items c.push.new.self.items c.in_ok-block.block c.in_ok-push.ensures.items c.in_ok-block.ensures.items (omega arith) c.requires.filled).items

pub returns-else-len-clause-room : goal.returns-else-len-clause-room
returns-else-len-clause-room g c =
    let n = c.args.blocks.now.ok.0 in
    let e = c.len.ensures in
    room-left vec_items c.args.len c.args.blocks.now.items c.requires.filled (λ d. c.if-len.false (d ∙ (sym n ∙ sym e)))
