use Rattle.std.proofs.Common.{◌≡◌, sym, subst, ◌∙◌}
use Rattle.std.proofs.lemmas.Result.{IfOk-weaker}
use Rattle.precedence_tree.specs.declared.base.Base.{Base}
use Rattle.precedence_tree.specs.Base.{IsBaseOf}
use Rattle.precedence_tree.proofs.KnownBases.{known-base}
use Rattle.precedence_tree.proofs.expanding.expand.Goals as goal

pub returns-clause-base : goal.returns-clause-base
returns-clause-base c =
    let P = c.args.project.now in
    let F = c.args.node.now.front in
    let b : Base = record {
      front = c.in_ok-front.front;
      active = c.in_ok-active.active;
      needs = c.needs-needs.result;
      works = c.works-works.result;
      placed = c.placed-placed.result;
      eligible = c.eligible-eligible.result;
      end = c.end-end.result;
      longest_tail = c.longest_tail-longest_tail.result;
    } in
    let known : IsBaseOf P b =
    known-base P F b c.in_ok-front.ensures c.requires.front c.placed-placed.ensures c.eligible-eligible.ensures c.in_ok-active.ensures.active c.in_ok-active.ensures.order c.needs-needs.ensures
    c.works-works.ensures (c.end-end.ensures ∙ c.requires.end) (c.longest_tail-longest_tail.ensures.value F c.eligible-eligible.ensures) c.longest_tail-longest_tail.ensures.limit in
    IfOk-weaker c.new.result (λ (x : Base). x ≡ b) (IsBaseOf P) (λ x e. subst (IsBaseOf P) (sym e) known) c.new.ensures
