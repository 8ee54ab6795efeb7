-- What is known of a front is known of the same front in a block.
use Rattle.std.proofs.Common.{◌≡◌, ◌≤◌, sym, subst, ◌∙◌, ap, List}
use Rattle.rcpsp_model.specs.declared.parts.Entry.{Entry}
use Rattle.rcpsp_model.specs.Project.{Project}
use Rattle.rcpsp_model.specs.Schedule.{end_of}
use Rattle.rcpsp_model.specs.Tree.{IsFront}
use Rattle.precedence_tree.specs.declared.base.Base.{Base}
use Rattle.precedence_tree.specs.Active.{AreActive, AreByFinish}
use Rattle.precedence_tree.specs.Needs.{AreNeeds, AreWorks}
use Rattle.precedence_tree.specs.Frontier.{HasJobs, AreEligible}
use Rattle.precedence_tree.specs.Tails.{IsLongestTail}
use Rattle.precedence_tree.specs.Base.{IsBaseOf}

pub known-base : (P : Project) (F : List Entry) (b : Base) → b.front ≡ F → IsFront P F → HasJobs F b.placed → AreEligible P F b.eligible → AreActive P F b.active → AreByFinish b.active → AreNeeds P F b.needs →
    AreWorks P F b.works.rest → b.end ≡ end_of P F → IsLongestTail P F b.longest_tail → b.longest_tail ≤ 1280000 → IsBaseOf P b
known-base P F b same front placed eligible active order needs works end longest limit = record {
  front = subst (IsFront P) (sym same) front;
  placed = subst (λ (G : List Entry). HasJobs G b.placed) (sym same) placed;
  eligible = subst (λ (G : List Entry). AreEligible P G b.eligible) (sym same) eligible;
  active = subst (λ (G : List Entry). AreActive P G b.active) (sym same) active;
  order = order;
  needs = subst (λ (G : List Entry). AreNeeds P G b.needs) (sym same) needs;
  works = subst (λ (G : List Entry). AreWorks P G b.works.rest) (sym same) works;
  end = end ∙ ap (end_of P) (sym same);
  longest_tail = subst (λ (G : List Entry). IsLongestTail P G b.longest_tail) (sym same) longest;
  tail_limit = limit;
}
