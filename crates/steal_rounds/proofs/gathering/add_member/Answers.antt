use Rattle.std.proofs.Common.{◌∙◌, ◌++◌, ◌∷◌, [], ℕ, ap, List, length, map, Option, Global}
use Rattle.std.specs.declared.vec.Vec.{Vec}
use Rattle.rcpsp_model.specs.declared.parts.Placing.{Placing}
use Rattle.tree_worker.specs.declared.live.LiveNote.{LiveNote}
use Rattle.steal_rounds.specs.declared.gathering.Published.{Published}
use Rattle.steal_rounds.specs.Whole.{by_worker, better_plan}
use Rattle.steal_rounds.proofs.gathering.add_member.Goals as goal

pub returns-clause-joined : goal.returns-clause-joined
returns-clause-joined c =
    let p = c.in_ok-add_part.ensures in
    let by : Published = record { first = length c.as_slice-made.result.now; shown = c.in_ok-shown.shown } in
    record {
      lists = p.lists;
      cited = c.in_ok-append.ensures.items ∙ (ap (λ (v : Vec LiveNote Global). v.items ++ c.into_vec-live.result.items) p.cited
          ∙ ap (λ (xs : List LiveNote). c.args.whole.now.cited.items ++ xs) (c.into_vec-live.ensures ∙ c.into_parts-parts.ensures.live));
      by = by;
      published = c.in_ok-push.ensures.items ∙ ap (λ (v : Vec Published Global). v.items ++ by ∷ []) p.published;
      is_by = record {
        first = ap length c.as_slice-made.ensures.value;
        shown = c.in_ok-shown.ensures ∙ (ap (λ (n : ℕ). map (by_worker n) c.into_parts-parts.result.own) c.number-number.ensures.number ∙ ap (map (by_worker c.args.member.pass.view.number)) c.into_parts-parts.ensures.own);
      };
      plan = c.better.ensures ∙ (ap (λ (x : Option (List Placing)). better_plan c.args.project.now x c.into_parts-parts.result.plan) (c.take.ensures.value ∙ p.plan) ∙ ap (better_plan c.args.project.now c.args.whole.now.plan) c.into_parts-parts.ensures.plan);
    }
