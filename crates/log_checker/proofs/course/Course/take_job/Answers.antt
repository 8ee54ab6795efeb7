use Rattle.std.proofs.Common.{◌≡◌, ◌≢◌, ◌∙◌, refl, sym, ap, arith, length, ◌+◌, subst, List, Some, cond, Bool, true, false}
use Rattle.std.specs.Prelude.{◌==◌}
use Rattle.std.proofs.lemmas.Bool.Decides.{nat_tests}
use Rattle.rcpsp_model.specs.declared.parts.Placing.{Placing}
use Rattle.rcpsp_model.specs.Project.{job_count}
use Rattle.rcpsp_model.specs.Claim.{HasDuration}
use Rattle.proof_log.specs.Report.{duration_of}
use Rattle.log_checker.specs.declared.course.Course.{Course}
use Rattle.log_checker.specs.declared.stage.Stage.TheVariants as stages
use Rattle.log_checker.proofs.CourseSteps.{job-start, starts-push, job-goes}
use Rattle.log_checker.proofs.course.Course.take_job.Goals as goal

pub returns-then-len-jobs-clause-ready : goal.returns-then-len-jobs-clause-ready
returns-then-len-jobs-clause-ready c e = record {
  walk = c.requires.ready.walk;
  starts = starts-push c.args.self.now.places c.push.new.self _ c.requires.ready.starts (job-start c.args.line c.in-Job.job c.in-Job.mode c.in-Job.start c.requires.line c.in-Job.is) c.in-Ok.ensures.ok;
}

pub returns-then-len-jobs-clause-line : goal.returns-then-len-jobs-clause-line
returns-then-len-jobs-clause-line c p h =
    let P = c.args.project.now in
    let new : Course = record { stage = c.args.self.now.stage; places = c.push.new.self; walk = c.args.self.now.walk } in
    let differ : length c.push.new.self ≢ job_count P = λ same. c.if-len-jobs.true (c.len-2.ensures ∙ same ∙ sym c.jobs.ensures.value) in
    let test : (length c.push.new.self == job_count P) ≡ false = grind (arith, nat_tests) in
    job-goes P c.args.self.now new p c.args.verdict c.args.line c.in-Job.job c.in-Job.mode c.in-Job.start h c.requires.stage c.in-Job.is
    (c.is_next.ensures.0 c.if-not-is_next.false ∙ ap (λ n. n + 1) c.len.ensures) (c.has_mode.ensures.mode.0 c.if-not-has_mode.false) c.in-Ok.ensures.ok refl
    (c.requires.stage ∙ sym (ap (λ (b : Bool). cond b (stages.Flag c.args.verdict) (stages.Job c.args.verdict)) test)) (λ same. absurd (differ same))

pub returns-clause-ready : goal.returns-clause-ready
returns-clause-ready c e = record {
  walk = c.requires.ready.walk;
  starts = starts-push c.args.self.now.places c.push.new.self _ c.requires.ready.starts (job-start c.args.line c.in-Job.job c.in-Job.mode c.in-Job.start c.requires.line c.in-Job.is) c.in-Ok.ensures.ok;
}

pub returns-clause-line : goal.returns-clause-line
returns-clause-line c p h =
    let P = c.args.project.now in
    let new : Course = record { stage = stages.Flag c.args.verdict; places = c.push.new.self; walk = c.args.self.now.walk } in
    let same : length c.push.new.self ≡ job_count P = sym c.len-2.ensures ∙ c.if-len-jobs.false ∙ c.jobs.ensures.value in
    let test : (length c.push.new.self == job_count P) ≡ true = grind (arith, nat_tests) in
    let plan = c.in_ok-is_right_plan.ensures.0 c.if-not-branch.false in
    job-goes P c.args.self.now new p c.args.verdict c.args.line c.in-Job.job c.in-Job.mode c.in-Job.start h c.requires.stage c.in-Job.is
    (c.is_next.ensures.0 c.if-not-is_next.false ∙ ap (λ n. n + 1) c.len.ensures) (c.has_mode.ensures.mode.0 c.if-not-has_mode.false) c.in-Ok.ensures.ok refl
    (sym (ap (λ (b : Bool). cond b (stages.Flag c.args.verdict) (stages.Job c.args.verdict)) test)) (λ all. subst (λ (ps : List Placing). HasDuration P (duration_of c.args.verdict) (Some ps)) c.as_slice.ensures plan)
