use Rattle.std.proofs.Common.{◌%◌, length, sym, ap, ◌∙◌, arith}
use Rattle.std.specs.Prelude.{vec_items, slice_index_or}
use Rattle.search_log.proofs.BlockPlaces.{lies-in_place, in-blocks}
use Rattle.search_log.proofs.blocks.item_at.Goals as goal

pub bounds-blocks-place : goal.bounds-blocks-place
bounds-blocks-place g c = in-blocks vec_items c.args.len c.args.blocks.now c.args.place c.requires.blocks.filled c.requires.within

pub offset_bounds-block-place : goal.offset_bounds-block-place
offset_bounds-block-place g c =
    let r = lies-in_place vec_items c.args.len c.args.blocks.now c.index-blocks-place.result c.args.place c.requires.blocks.filled c.requires.within in
    let w = r.within in
    let e = ap (λ v. length v.items) c.index-blocks-place.is in
    let s = ap length c.as_slice-block.ensures.value in
    omega arith

pub bounds-block-place : goal.bounds-block-place
bounds-block-place g c =
    let r = lies-in_place vec_items c.args.len c.args.blocks.now c.index-blocks-place.result c.args.place c.requires.blocks.filled c.requires.within in
    let w = r.within in
    let e = ap (λ v. length v.items) c.index-blocks-place.is in
    let s = ap length c.as_slice-block.ensures.value in
    omega arith

pub returns : goal.returns
returns g c =
    let r = lies-in_place vec_items c.args.len c.args.blocks.now c.index-blocks-place.result c.args.place c.requires.blocks.filled c.requires.within in
    let x = c.index-block-place.result in
    let j = c.args.place % 4096 in
    c.index-block-place.is
    ∙ (ap (λ ys. slice_index_or ys j x) (c.as_slice-block.ensures.value ∙ ap vec_items c.index-blocks-place.is)
    ∙ sym (r.is x))
