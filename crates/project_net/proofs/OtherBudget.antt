-- A project with another budget is a project too.
use Rattle.std.proofs.Common.{ℕ, ◌-◌, ◌≤◌, subst, sym, ◌∙◌, List, length, length-set}
use Rattle.std.proofs.lemmas.List.Elements.{All-set}
use Rattle.sched_base.specs.declared.job_set.JobSet.{JobSet}
use Rattle.rcpsp_model.specs.Project.{Project, IsWithinLimits, IsActivityWithinLimits, IsAcyclic, job_count, successors_of, is_before}
use Rattle.std.specs.Prelude.{All}
use Rattle.project_net.specs.Budget.{with_budget}
use Rattle.project_net.specs.Flat.{ModeList, Agrees}

pub limits-with_budget : (P : Project) (l b : ℕ) → b ≤ 1000000 → IsWithinLimits P → IsWithinLimits (with_budget P l b)
unfolding job_count
limits-with_budget P l b h w =
    let size = length-set P.budgets (l - 1) b in
    record {
      some_job = w.some_job;
      few_jobs = w.few_jobs;
      few_modes = w.few_modes;
      few_renewables = w.few_renewables;
      few_nonrenewables = subst (λ n. n ≤ 16) (sym size) w.few_nonrenewables;
      activities = subst (λ n. All (IsActivityWithinLimits (length P.activities) (length P.capacities) n) P.activities) (sym size) w.activities;
      capacities = w.capacities;
      budgets = All-set (λ (n : ℕ). n ≤ 1000000) P.budgets (l - 1) b h w.budgets;
      few_rows = w.few_rows;
      rows = w.rows;
      calendar = w.calendar;
    }

pub agrees-with_budget : (P : Project) (table : ModeList) (firsts : List ℕ) (after before : List JobSet) (l b : ℕ) → b ≤ 1000000 → Agrees P table firsts after before →
    Agrees (with_budget P l b) table firsts after before
unfolding job_count is_before successors_of
agrees-with_budget P table firsts after before l b h a = record {
  limits = limits-with_budget P l b h a.limits;
  renewables = a.renewables;
  nonrenewables = a.nonrenewables ∙ sym (length-set P.budgets (l - 1) b);
  all_places = a.all_places;
  first = a.first;
  rising = a.rising;
  within = a.within;
  all_predecessors = a.all_predecessors;
  successors = a.successors;
  predecessors = a.predecessors;
}

pub acyclic-with_budget : (P : Project) (l b : ℕ) → IsAcyclic P → IsAcyclic (with_budget P l b)
unfolding job_count is_before successors_of
acyclic-with_budget P l b a = record { jobs = a.jobs; rank = a.rank; rises = a.rises }
