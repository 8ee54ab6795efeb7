-- The log of a project whose root has a budget gap.
use Rattle.std.proofs.Common.{◌≡◌, ℕ, arith, refl, sym, ap, subst, List, [], ◌∷◌, ◌++◌}
use Rattle.sched_base.specs.declared.fate.Fate.{Fate}
use Rattle.sched_base.specs.declared.fate.Fate.TheVariants.{Expanded, Leaf, TailBound, WorkBound, Budget, Capacity, Worse, Cutset, Left}
use Rattle.rcpsp_model.specs.Project.{Project}
use Rattle.rcpsp_model.specs.Tree.{HasGap, LeavesBudgets}
use Rattle.rcpsp_model.specs.Bounds.{IsBudgetGap}
use Rattle.rcpsp_model.proofs.Numbers.{least-one}
use Rattle.proof_log.specs.declared.report.LogLine.{LogLine}
use Rattle.log_truth.specs.Fates.{saying, expands}
use Rattle.log_truth.specs.Log.{Branch, at_root, front_at, expanded_branches, below, IsRootSaying, AreLogs, IsTreeLog}
use Rattle.log_truth.specs.Laws.{IsGapLine, GapLogLaw}

gap-leaves : (P : Project) (l : ℕ) → IsBudgetGap P [] l → LeavesBudgets P [] → ⊥
gap-leaves P l gap leaves = let enough = leaves l gap.attained.nonrenewable in let exceeds = gap.attained.exceeds in omega arith

gap-fate : (P : Project) (l : ℕ) (fate : Fate) → IsBudgetGap P [] l → IsRootSaying P (saying fate) → fate ≡ Budget l
gap-fate P l (Budget k) gap is = ap Budget (least-one (HasGap P []) k l is gap)
gap-fate P l (Capacity k) gap is = absurd is
gap-fate P l (Worse k) gap is = absurd is
gap-fate P l Expanded gap is = absurd (gap-leaves P l gap is)
gap-fate P l Leaf gap is = absurd (gap-leaves P l gap is)
gap-fate P l TailBound gap is = absurd (gap-leaves P l gap is)
gap-fate P l (WorkBound k) gap is = absurd (gap-leaves P l gap is)
gap-fate P l (Cutset k) gap is = absurd (gap-leaves P l gap is)
gap-fate P l (Left k) gap is = absurd (gap-leaves P l gap is)

below-budget : (P : Project) (line : LogLine) (l : ℕ) → line.fate ≡ Budget l → below P at_root line ≡ []
unfolding below
below-budget P line l e = ap (λ (f : Fate). expanded_branches P (expands (saying f)) (front_at at_root line)) e

no_lines : (P : Project) (lines : List LogLine) → AreLogs P [] lines → lines ≡ []
no_lines P [] a = refl
no_lines P (l ∷ ls) a = absurd a

gap-log : (P : Project) (lines : List LogLine) (l : ℕ) → IsBudgetGap P [] l → IsTreeLog P lines → (line : LogLine) × (lines ≡ line ∷ []) × IsGapLine l line
gap-log P [] l gap a = absurd (cc)
gap-log P (line ∷ lines) l gap a =
    let fate = gap-fate P l line.fate gap a.0.fate in
    let rest : AreLogs P [] lines = subst (λ (bs : List Branch). AreLogs P (bs ++ []) lines) (below-budget P line l fate) a.1 in
    (line, ap (λ (ls : List LogLine). line ∷ ls) (no_lines P lines rest), record { job = a.0.job; mode = a.0.mode; start = a.0.start; fate = fate })

pub gap_log_law : GapLogLaw
gap_log_law P lines l gap = (
  λ a. gap-log P lines l gap a,
  λ g.
      let is = g.2 in
      let none : AreLogs P (below P at_root g.0 ++ []) [] = ap (λ (bs : List Branch). bs ++ []) (below-budget P g.0 l is.fate) in
      subst (IsTreeLog P) (sym g.1)
      (record { job = is.job; mode = is.mode; start = is.start; fate = subst (λ (f : Fate). IsRootSaying P (saying f)) (sym is.fate) gap }, none),
)
