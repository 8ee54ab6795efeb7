use Rattle.std.specs.Prelude.{◌≤◌, ◌/◌, length, slice_index_or, vec_items, vec_capacity}
use Rattle.std.proofs.Common.{arith}
use Rattle.std.proofs.lemmas.List.Elements.{All-get_or, All-set}
use Rattle.search_log.proofs.BlockPlaces.{append-in_place, block-within, next-room}
use Rattle.search_log.proofs.blocks.append_at.Goals as goal

pub returns-in_err-push-clause-done : goal.returns-in_err-push-clause-done
returns-in_err-push-clause-done g c =
    let room = next-room vec_items vec_capacity c.args.len c.args.blocks.now c.index-blocks-len.result c.requires.blocks c.requires.room in
    let full = c.in_err-push.ensures.full in
    let block = slice_index_or c.args.blocks.now (c.args.len / 4096) c.index-blocks-len.result in
    let size = block.ok.0 in
    absurd (omega arith)

pub returns-in_err-push-clause-blocks : goal.returns-in_err-push-clause-blocks
returns-in_err-push-clause-blocks g c =
    let room = next-room vec_items vec_capacity c.args.len c.args.blocks.now c.index-blocks-len.result c.requires.blocks c.requires.room in
    let full = c.in_err-push.ensures.full in
    let block = slice_index_or c.args.blocks.now (c.args.len / 4096) c.index-blocks-len.result in
    let size = block.ok.0 in
    absurd (omega arith)

pub returns-in_err-push-clause-items : goal.returns-in_err-push-clause-items
returns-in_err-push-clause-items g c =
    let room = next-room vec_items vec_capacity c.args.len c.args.blocks.now c.index-blocks-len.result c.requires.blocks c.requires.room in
    let full = c.in_err-push.ensures.full in
    let block = slice_index_or c.args.blocks.now (c.args.len / 4096) c.index-blocks-len.result in
    let size = block.ok.0 in
    absurd (omega arith)

pub returns-clause-blocks : goal.returns-clause-blocks
returns-clause-blocks g c =
    let i = c.args.len / 4096 in
    let old = All-get_or (λ v. 4096 ≤ vec_capacity v) c.args.blocks.now i c.index-blocks-len.result (block-within c.args.len (length c.args.blocks.now) c.requires.room) c.requires.blocks.roomy in
    let more = c.push.ensures.capacity in
    record {
      filled = (append-in_place vec_items c.args.len c.args.blocks.now c.index-blocks-len.result c.push.new.self c.args.item c.requires.blocks.filled c.requires.room c.in_ok-push.ensures.items).filled;
      roomy = All-set (λ v. 4096 ≤ vec_capacity v) c.args.blocks.now i c.push.new.self (omega arith) c.requires.blocks.roomy;
    }

pub returns-clause-items : goal.returns-clause-items
returns-clause-items g c =
    (append-in_place vec_items c.args.len c.args.blocks.now c.index-blocks-len.result c.push.new.self c.args.item c.requires.blocks.filled c.requires.room c.in_ok-push.ensures.items).items
