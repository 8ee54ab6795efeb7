use Rattle.std.specs.Prelude.{◌≤◌, ◌/◌, slice_index_or, vec_items, vec_capacity}
use Rattle.std.proofs.Common.{arith, refl}
use Rattle.std.proofs.lemmas.List.Elements.{All-get_or, All-set}
use Rattle.search_log.proofs.BlockPlaces.{lies-in_place, put-in_place, in-blocks}
use Rattle.search_log.proofs.blocks.put_at.Goals as goal

pub bounds-blocks-place : goal.bounds-blocks-place
bounds-blocks-place g c = in-blocks vec_items c.args.len c.args.blocks.now c.args.place c.requires.blocks.filled c.requires.within

pub index_mut-requires : goal.index_mut-requires
index_mut-requires g c =
    let w = (lies-in_place vec_items c.args.len c.args.blocks.now c.index-blocks-place.result c.args.place c.requires.blocks.filled c.requires.within).within in
    let block = slice_index_or c.args.blocks.now (c.args.place / 4096) c.index-blocks-place.result in
    let n = block.ok.0 in
    omega arith

pub returns-clause-blocks : goal.returns-clause-blocks
returns-clause-blocks g c =
    let i = c.args.place / 4096 in
    let old = All-get_or (λ v. 4096 ≤ vec_capacity v) c.args.blocks.now i c.index-blocks-place.result (in-blocks vec_items c.args.len c.args.blocks.now c.args.place c.requires.blocks.filled c.requires.within) c.requires.blocks.roomy in
    record {
      filled = (put-in_place vec_items c.args.len c.args.blocks.now c.index-blocks-place.result _ c.args.place c.args.item c.requires.blocks.filled c.requires.within refl).filled;
      roomy = All-set (λ v. 4096 ≤ vec_capacity v) c.args.blocks.now i _ old c.requires.blocks.roomy;
    }

pub returns-clause-items : goal.returns-clause-items
returns-clause-items g c = (put-in_place vec_items c.args.len c.args.blocks.now c.index-blocks-place.result _ c.args.place c.args.item c.requires.blocks.filled c.requires.within refl).items
