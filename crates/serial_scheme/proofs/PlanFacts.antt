-- What holds of every plan by a mode rule, and when there is none.
use Rattle.std.proofs.Common.{◌≡◌, ℕ, ◌+◌, ◌<◌, ◌≤◌, inl, inr, arith, refl, sym, ap, subst, ◌∙◌, List, [], ◌∷◌, length}
use Rattle.std.specs.Prelude.{Option, Some, None, MatchOption, IfSome, IfNone, All, Contains}
use Rattle.rcpsp_model.specs.declared.parts.Entry.{Entry}
use Rattle.rcpsp_model.specs.declared.parts.Placing.{Placing}
use Rattle.rcpsp_model.specs.Project.{Project, job_count, nonrenewables, IsMode, IsAcyclic, IsProject}
use Rattle.rcpsp_model.specs.Schedule.{end_of, entries, entries_from, IsFeasible, KeepsBudgets}
use Rattle.rcpsp_model.specs.Modes.{IsExecutable}
use Rattle.rcpsp_model.specs.Tree.{InTurn}
use Rattle.rcpsp_model.specs.Plan.{ModeRule as Rules, IsShortestMode, IsCheapestMode, IsPlacedInTurn, IsScheduledNext, IsSerialPlan, IsPlanBy, HasNoPlanBy, IsFirstPlan}
use Rattle.rcpsp_model.specs.Claim.{NoneIsFeasible}
use Rattle.rcpsp_model.proofs.Lists.{In, In-push, In-from_Contains, All-from_In, In-All}
use Rattle.rcpsp_model.proofs.Entries.{entry_of}
use Rattle.rcpsp_model.proofs.Usage.{finish-le-end, end-le}
use Rattle.rcpsp_model.proofs.Fronts.{in_turn}
use Rattle.rcpsp_model.proofs.PlansFeasible.{plan-entries, plan_law, no_mode_law}
use Rattle.rcpsp_model.proofs.OnePlan.{one_plan_law}
use Rattle.rcpsp_model.proofs.Merged.{same-placings}
use Rattle.rcpsp_model.proofs.Calendars.{calm_law}
use Rattle.serial_scheme.specs.declared.mode_rule.ModeRule.{ModeRule}
use Rattle.serial_scheme.specs.declared.mode_rule.ModeRule.TheVariants.{Shortest, Cheapest}
use Rattle.serial_scheme.specs.Rules.{HasMode, SomeHasNoMode}
use Rattle.project_net.proofs.PlaceSteps.{in_turn-weaker}
use Rattle.serial_scheme.proofs.PlacedInTurn.{as-placed, length-placing, scheduled-placing, ends-soon}

pub has_mode-is : (rule : ModeRule) (P : Project) (j m : ℕ) → HasMode rule P j m → IsMode P j m × IsExecutable P j m
has_mode-is Shortest P j m h = (h.mode, h.executable)
has_mode-is Cheapest P j m h = (h.mode, h.executable)

-- One plan by each rule.

serial-one : (rule : ModeRule) (P : Project) → IsAcyclic P → (a b : List Entry) → IsSerialPlan P (HasMode rule) a → IsSerialPlan P (HasMode rule) b → a ≡ b
serial-one Shortest P acyclic a b p q = (one_plan_law P a b acyclic).0 p q
serial-one Cheapest P acyclic a b p q = (one_plan_law P a b acyclic).1 p q

placed-in : (P : Project) (Rule : Rules) (s : List Placing) (p : IsPlanBy P Rule s) (e : Entry) → In p.placed e → In (entries s) e
placed-in P Rule s p e i = In-from_Contains (entries s) e (In-All (Contains (entries s)) p.placed p.agrees e i)

in-placed : (P : Project) (Rule : Rules) (s : List Placing) (p : IsPlanBy P Rule s) (e : Entry) → In (entries s) e → In p.placed e
in-placed P Rule s p e i = plan-entries P p.placed s p.serial.whole p.jobs (placed-in P Rule s p) e i

plan_by-one : (rule : ModeRule) (P : Project) → IsAcyclic P → (r s : List Placing) → IsPlanBy P (HasMode rule) r → IsPlanBy P (HasMode rule) s → r ≡ s
plan_by-one rule P acyclic r s p q =
    let same = serial-one rule P acyclic p.placed q.placed p.serial q.serial in
    same-placings 1 r s (p.jobs ∙ sym q.jobs)
    (λ e i. placed-in P (HasMode rule) s q e (subst (λ (xs : List Entry). In xs e) same (in-placed P (HasMode rule) r p e i)))

-- A plan is feasible and ends soon.

pub record PlanFacts (P : Project) (s : List Placing) : Type 0 where
  pub feasible : IsFeasible P s
  pub end : end_of P (entries s) ≤ 1290000
  pub starts : All (λ (q : Placing). q.start ≤ 999999999) s

entry-with : (i : ℕ) (ps : List Placing) (q : Placing) → In ps q → (e : Entry) × In (entries_from i ps) e × (e.start ≡ q.start)
entry-with i [] q m = absurd m
entry-with i (p ∷ ps) q (inl e) = (record { job = i; mode = p.mode; start = p.start }, inl refl, ap (λ (x : Placing). x.start) e)
entry-with i (p ∷ ps) q (inr m) = let r = entry-with (i + 1) ps q m in (r.0, inr r.1, r.2)

pub plan-facts : (P : Project) → IsProject P → (Rule : Rules) (s : List Placing) → IsPlanBy P Rule s → PlanFacts P s
unfolding job_count
plan-facts P project Rule s p =
    let turn = p.serial.in_turn in
    let soon = ends-soon P project.limits Rule p.placed turn in
    let few = length-placing P p.placed (scheduled-placing P project.acyclic Rule p.placed turn) in
    let jobs = project.limits.few_jobs in
    let calm_soon = calm_law P project.limits in
    let law = plan_law P p.placed project.acyclic (in_turn-weaker (IsScheduledNext P Rule) (IsPlacedInTurn P) (as-placed P Rule) [] p.placed turn) p.serial.whole p.budgets in
    let end : end_of P (entries s) ≤ end_of P p.placed = end-le P (entries s) (end_of P p.placed) (λ e i. finish-le-end P p.placed e (in-placed P Rule s p e i)) in
    record {
      feasible = subst (IsFeasible P) (sym (law.0.only s p.jobs p.agrees)) law.1;
      end = omega arith;
      starts = All-from_In (λ (q : Placing). q.start ≤ 999999999) s (λ q i.
          let e = entry-with 1 s q i in let le = finish-le-end P (entries s) e.0 e.1 in let same = e.2 in omega arith);
    }

-- When there is no plan.

scheduled-modes : (P : Project) (Rule : Rules) (F : List Entry) → InTurn (IsScheduledNext P Rule) [] F → (e : Entry) → In F e → IsMode P e.job e.mode × Rule P e.job e.mode
scheduled-modes P Rule F t =
    in_turn (IsScheduledNext P Rule) (λ G. (e : Entry) → In G e → IsMode P e.job e.mode × Rule P e.job e.mode)
    (λ G x all r e i. elim (In-push G x e i) [ inl j ↦ all e j | inr q ↦ subst (λ (z : Entry). IsMode P z.job z.mode × Rule P z.job z.mode) q (r.mode, r.rule) ]) [] F (λ e i. absurd i) t

pub no_plan-without_mode : (rule : ModeRule) (P : Project) → SomeHasNoMode P → HasNoPlanBy P (HasMode rule)
no_plan-without_mode rule P none s p =
    let e = entry_of p.placed none.0 (p.serial.whole none.0 none.1) in
    let mode = scheduled-modes P (HasMode rule) p.placed p.serial.in_turn e.0 e.1 in
    let is = has_mode-is rule P e.0.job e.0.mode mode.1 in
    none.2 e.0.mode (subst (λ (j : ℕ). IsMode P j e.0.mode) e.2 is.0) (subst (λ (j : ℕ). IsExecutable P j e.0.mode) e.2 is.1)

pub infeasible-without_mode : (P : Project) → SomeHasNoMode P → NoneIsFeasible P
infeasible-without_mode P none = no_mode_law P none.0 none.1 none.2

pub no_plan-over_budget : (rule : ModeRule) (P : Project) → IsAcyclic P → (F : List Entry) → IsSerialPlan P (HasMode rule) F → (KeepsBudgets P F → ⊥) → HasNoPlanBy P (HasMode rule)
no_plan-over_budget rule P a F serial over s p = over (subst (KeepsBudgets P) (serial-one rule P a p.placed F p.serial serial) p.budgets)

pub budgets-without_resource : (P : Project) (F : List Entry) → nonrenewables P ≡ 0 → KeepsBudgets P F
budgets-without_resource P F none l r = let low = r.0 in let high = r.1 in absurd (omega arith)

pub plan-by : (rule : ModeRule) (P : Project) (F : List Entry) (s : List Placing) → IsSerialPlan P (HasMode rule) F → KeepsBudgets P F → length s ≡ job_count P → All (Contains (entries s)) F → IsPlanBy P (HasMode rule) s
plan-by rule P F s serial budgets jobs agrees = record { placed = F; serial = serial; budgets = budgets; jobs = jobs; agrees = agrees }

-- Which plan is the first.

pub some-case : {X : Type 0} (Q : X → Type 0) (A : Type 0) (o : Option X) (x : X) → o ≡ Some x → MatchOption o A Q → Q x
some-case {X = X} Q A o x e m = let h : MatchOption (Some x) A Q = subst (λ (y : Option X). MatchOption y A Q) e m in h

pub none-case : {X : Type 0} (Q : X → Type 0) (A : Type 0) (o : Option X) → o ≡ None → MatchOption o A Q → A
none-case {X = X} Q A o e m = let h : MatchOption None A Q = subst (λ (y : Option X). MatchOption y A Q) e m in h

pub first-both : (P : Project) → IsAcyclic P → (r s : List Placing) → IsPlanBy P IsShortestMode r → IsPlanBy P IsCheapestMode s → end_of P (entries r) ≤ end_of P (entries s) → IsFirstPlan P (Some r)
first-both P a r s p q le = inl (p, λ x y. subst (λ (z : List Placing). end_of P (entries r) ≤ end_of P (entries z)) (plan_by-one Cheapest P a s x q y) le)

pub second-both : (P : Project) → IsAcyclic P → (r s : List Placing) → IsPlanBy P IsShortestMode r → IsPlanBy P IsCheapestMode s → end_of P (entries s) < end_of P (entries r) → IsFirstPlan P (Some s)
second-both P a r s p q lt = inr (q, λ x y. subst (λ (z : List Placing). end_of P (entries s) < end_of P (entries z)) (plan_by-one Shortest P a r x p y) lt)

pub first-alone : (P : Project) (r : List Placing) → IsPlanBy P IsShortestMode r → HasNoPlanBy P IsCheapestMode → IsFirstPlan P (Some r)
first-alone P r p none = inl (p, λ x y. absurd (none x y))

pub second-or_none : (P : Project) (o : Option (List Placing)) → HasNoPlanBy P IsShortestMode → MatchOption o (HasNoPlanBy P IsCheapestMode) (IsPlanBy P IsCheapestMode) → IsFirstPlan P o
second-or_none P None none m = (none, m)
second-or_none P (Some s) none m = inr (m, λ x y. absurd (none x y))

-- What the first plan tells.

first-facts : (P : Project) → IsProject P → (s : List Placing) → IsFirstPlan P (Some s) → PlanFacts P s
first-facts P project s (inl f) = plan-facts P project IsShortestMode s f.0
first-facts P project s (inr f) = plan-facts P project IsCheapestMode s f.0

pub first-feasible : (P : Project) → IsProject P → (o : Option (List Placing)) → IsFirstPlan P o → IfSome o (IsFeasible P)
first-feasible P project None f = tt
first-feasible P project (Some s) f = (first-facts P project s f).feasible

pub first-end : (P : Project) → IsProject P → (o : Option (List Placing)) → IsFirstPlan P o → IfSome o (λ s. end_of P (entries s) ≤ 1290000)
first-end P project None f = tt
first-end P project (Some s) f = (first-facts P project s f).end

-- what follows where the shortest modes give no plan follows where there is no first plan
pub none-first : (P : Project) (A : Type 0) (o r : Option (List Placing)) → IsFirstPlan P r → MatchOption o (HasNoPlanBy P IsShortestMode) (IsPlanBy P IsShortestMode) → IfNone o A → IfNone r A
none-first P A o (Some s) f m h = tt
none-first P A None None f m h = h
none-first P A (Some s) None f m h = absurd (f.0 s m)
