use Rattle.std.proofs.Common.{◌∙◌, refl, sym, ap, subst, arith, List, [], ◌∷◌, ◌++◌, length, length-set}
use Rattle.std.specs.Prelude.{slice_index_or}
use Rattle.tree_worker.specs.declared.live.LiveNote.{LiveNote}
use Rattle.steal_rounds.specs.Cited.{IsToBeCited, IsRowOf}
use Rattle.steal_rounds.proofs.CitedPlaces.{same-all, same-then, still-published, still-to_cite, set-same, one-more}
use Rattle.steal_rounds.proofs.citing.cite_live.Goals as goal

pub loop-done-init : goal.loop-done-init
loop-done-init c = record { published = same-all c.args.published.now; cited = refl; places = []; rows = tt; fills = refl; many = refl }

pub cited_place-place-requires-clause-published : goal.cited_place-place-requires-clause-published
cited_place-place-requires-clause-published c = still-published c.args.rows.now c.args.made.now c.args.published.now c.loop-done.published c.loop-done.invariant.published c.requires.published

pub cited_place-place-requires-clause-cited : goal.cited_place-place-requires-clause-cited
cited_place-place-requires-clause-cited c =
    let l = c.loop-done-test.true in
    let many = c.requires.many in
    still-to_cite c.args.rows.now c.args.published.now c.loop-done.published (slice_index_or c.loop-done.cited c.loop-done.done c.index-cited-done.result) c.loop-done.invariant.published
    (subst (λ (ns : List LiveNote). IsToBeCited c.args.rows.now c.args.published.now (slice_index_or ns c.loop-done.done c.index-cited-done.result)) (sym c.loop-done.invariant.cited)
    (c.requires.cited c.loop-done.done c.index-cited-done.result (omega arith)))

pub loop-done-preserved : goal.loop-done-preserved
loop-done-preserved c =
    let v = c.loop-done.invariant in
    let l = c.loop-done-test.true in
    let many = c.requires.many in
    let row = subst (λ (ns : List LiveNote). IsRowOf c.args.made.now c.cited_place-place.result (slice_index_or ns c.loop-done.done c.index-cited-done.result)) v.cited c.cited_place-place.ensures.row in
    let more = one-more c.args.made.now c.args.cited.now c.args.live.now c.args.fills.now c.loop-done.done c.loop-done.fills v.places c.index-cited-done.result c.cited_place-place.result l many row v.rows v.fills in
    record {
      published = same-then c.args.published.now c.loop-done.published c.cited_place-place.new.published v.published c.cited_place-place.ensures.published;
      cited = set-same c.loop-done.cited c.loop-done.done c.index-cited-done.result _ (sym c.cited_place-place.ensures.cited) (let n = ap length v.cited in omega arith) ∙ v.cited;
      places = v.places ++ c.cited_place-place.result ∷ [];
      rows = more.0;
      fills = more.1;
      many = length-set c.loop-done.fills (slice_index_or c.args.live.now c.loop-done.done 0) _ ∙ v.many;
    }
