use Rattle.std.proofs.Common.{ℕ, arith, refl, subst, sym, ap, List, length, ◌∙◌}
use Rattle.std.proofs.lemmas.Bool.{false≢true}
use Rattle.rcpsp_model.specs.declared.parts.Entry.{Entry}
use Rattle.rcpsp_model.specs.Schedule.{AreOf, KeepsBudgets, Agrees}
use Rattle.rcpsp_model.specs.Plan.{IsSerialPlan}
use Rattle.project_net.specs.Placings.{HaveJobsOnce}
use Rattle.profiles.specs.Placed.{Placed}
use Rattle.serial_scheme.specs.Rules.{HasMode, SomeHasNoMode}
use Rattle.serial_scheme.proofs.PlacedInTurn.{length-placing, scheduled-of, scheduled-once, scheduled-placing}
use Rattle.serial_scheme.proofs.PlanFacts.{some-case, none-case, no_plan-without_mode, no_plan-over_budget, infeasible-without_mode, plan-by}
use Rattle.serial_scheme.proofs.plan.plan_by.Goals as goal

pub returns-in_default-clause-plan : goal.returns-in_default-clause-plan
returns-in_default-clause-plan c =
    no_plan-without_mode c.args.rule c.args.project.now
    (none-case (λ (held : Placed). IsSerialPlan c.args.project.now (HasMode c.args.rule) held.entries) (SomeHasNoMode c.args.project.now) c.in_ok-placed.field-0 c.in_default.is c.in_ok-placed.ensures)

pub returns-in_default-clause-infeasible : goal.returns-in_default-clause-infeasible
returns-in_default-clause-infeasible c none =
    infeasible-without_mode c.args.project.now
    (none-case (λ (held : Placed). IsSerialPlan c.args.project.now (HasMode c.args.rule) held.entries) (SomeHasNoMode c.args.project.now) c.in_ok-placed.field-0 c.in_default.is c.in_ok-placed.ensures)

pub keeps_budgets-requires-clause-entries : goal.keeps_budgets-requires-clause-entries
keeps_budgets-requires-clause-entries c =
    let serial = some-case (λ (held : Placed). IsSerialPlan c.args.project.now (HasMode c.args.rule) held.entries) (SomeHasNoMode c.args.project.now) c.in_ok-placed.field-0 c.in-Some.placed c.in-Some.is c.in_ok-placed.ensures in
    subst (AreOf c.args.project.now) (sym c.entries-entries.ensures) (scheduled-of c.args.project.now c.known.ensures (HasMode c.args.rule) c.in-Some.placed.entries serial.in_turn)

pub keeps_budgets-requires-clause-few : goal.keeps_budgets-requires-clause-few
keeps_budgets-requires-clause-few c =
    let serial = some-case (λ (held : Placed). IsSerialPlan c.args.project.now (HasMode c.args.rule) held.entries) (SomeHasNoMode c.args.project.now) c.in_ok-placed.field-0 c.in-Some.placed c.in-Some.is c.in_ok-placed.ensures in
    let le = length-placing c.args.project.now c.in-Some.placed.entries (scheduled-placing c.args.project.now c.known.ensures.acyclic (HasMode c.args.rule) c.in-Some.placed.entries serial.in_turn) in
    let few = c.known.ensures.limits.few_jobs in
    let same = ap (λ (es : List Entry). length es) c.entries-entries.ensures in
    omega arith

pub returns-then-not-keeps_budgets-clause-plan : goal.returns-then-not-keeps_budgets-clause-plan
returns-then-not-keeps_budgets-clause-plan c =
    let P = c.args.project.now in
    let serial = some-case (λ (held : Placed). IsSerialPlan P (HasMode c.args.rule) held.entries) (SomeHasNoMode P) c.in_ok-placed.field-0 c.in-Some.placed c.in-Some.is c.in_ok-placed.ensures in
    no_plan-over_budget c.args.rule P c.known.ensures.acyclic c.in-Some.placed.entries serial
    (λ keeps. false≢true (c.if-not-keeps_budgets.ensures.1 (subst (KeepsBudgets P) (sym c.entries-entries.ensures) keeps)))

pub of_entries-requires : goal.of_entries-requires
of_entries-requires c =
    let P = c.args.project.now in
    let serial = some-case (λ (held : Placed). IsSerialPlan P (HasMode c.args.rule) held.entries) (SomeHasNoMode P) c.in_ok-placed.field-0 c.in-Some.placed c.in-Some.is c.in_ok-placed.ensures in
    subst (λ (es : List Entry). HaveJobsOnce c.jobs.result es) (sym c.entries-entries.ensures)
    (subst (λ (n : ℕ). HaveJobsOnce n c.in-Some.placed.entries) (sym c.jobs.ensures.value) (scheduled-once P c.known.ensures.acyclic (HasMode c.args.rule) c.in-Some.placed.entries serial.in_turn))

pub returns-clause-plan : goal.returns-clause-plan
returns-clause-plan c =
    let P = c.args.project.now in
    let serial = some-case (λ (held : Placed). IsSerialPlan P (HasMode c.args.rule) held.entries) (SomeHasNoMode P) c.in_ok-placed.field-0 c.in-Some.placed c.in-Some.is c.in_ok-placed.ensures in
    plan-by c.args.rule P c.in-Some.placed.entries c.in_ok-schedule.schedule serial
    (subst (KeepsBudgets P) c.entries-entries.ensures (c.if-not-keeps_budgets.ensures.0 refl)) (c.in_ok-schedule.ensures.jobs ∙ c.jobs.ensures.value)
    (subst (Agrees c.in_ok-schedule.schedule) c.entries-entries.ensures c.in_ok-schedule.ensures.agrees)
