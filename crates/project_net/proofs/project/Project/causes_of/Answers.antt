use Rattle.std.proofs.Common.{ℕ, subst, sym, ap, ◌∙◌, get_or}
use Rattle.rcpsp_model.specs.Project.{Project}
use Rattle.project_net.specs.Causes.{AreCauses, AreAllCauses, mode_place}
use Rattle.project_net.proofs.project.Project.causes_of.Goals as goal

pub returns : goal.returns
returns c =
    let project = c.args.self.now in
    let causes = c.self.inside.prepared.causes.items in
    let all : AreAllCauses project causes = subst (λ (P : Project). AreAllCauses P causes) c.self.view_is c.self.invariant.causes in
    let found = c.index.result.now in
    let place = c.place.ensures ∙ ap (λ (P : Project). mode_place P c.args.job c.args.mode) c.self.view_is in
    subst (AreCauses project c.args.job c.args.mode) (sym (c.index.ensures ∙ ap (λ (i : ℕ). get_or causes i found) place)) (all.each c.args.job c.args.mode found c.requires.job c.requires.mode)
