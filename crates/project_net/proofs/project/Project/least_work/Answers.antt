use Rattle.std.proofs.Common.{ℕ, ap, ◌∙◌, subst}
use Rattle.rcpsp_model.specs.Project.{Project, job_count, renewables}
use Rattle.rcpsp_model.specs.Modes.{least_work}
use Rattle.project_net.specs.Least.{place_in, AreLeastWorks}
use Rattle.project_net.proofs.FlatTables.{table-read}
use Rattle.project_net.proofs.project.Project.least_work.Goals as goal

pub returns-clause-value : goal.returns-clause-value
returns-clause-value c =
    let project = c.args.self.now in
    let works = c.self.inside.prepared.least.works.items in
    let table : AreLeastWorks project works = subst (λ (P : Project). AreLeastWorks P works) c.self.view_is c.self.invariant.least.works in
    let job = c.requires.job in let resource = c.requires.resource in
    (table-read (job_count project) (renewables project) 10000000000 (least_work project) works c.args.job c.args.resource c.place_in-place.result c.index.result.now table job.0 job.1 resource.0 resource.1
    (c.place_in-place.ensures ∙ ap (λ (n : ℕ). place_in n c.args.job c.args.resource) (c.renewables.ensures.value ∙ ap renewables c.self.view_is)) c.index.ensures).0

pub returns-clause-limit : goal.returns-clause-limit
returns-clause-limit c =
    let project = c.args.self.now in
    let works = c.self.inside.prepared.least.works.items in
    let table : AreLeastWorks project works = subst (λ (P : Project). AreLeastWorks P works) c.self.view_is c.self.invariant.least.works in
    let job = c.requires.job in let resource = c.requires.resource in
    (table-read (job_count project) (renewables project) 10000000000 (least_work project) works c.args.job c.args.resource c.place_in-place.result c.index.result.now table job.0 job.1 resource.0 resource.1
    (c.place_in-place.ensures ∙ ap (λ (n : ℕ). place_in n c.args.job c.args.resource) (c.renewables.ensures.value ∙ ap renewables c.self.view_is)) c.index.ensures).1
