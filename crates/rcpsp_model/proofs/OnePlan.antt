-- A mode rule gives one plan, and so there is one first plan.
use Rattle.std.proofs.Common.{◌≡◌, ℕ, inl, inr, arith, refl, sym, ap, subst, ◌∙◌, List, [], ◌∷◌, ◌++◌, append_assoc}
use Rattle.std.specs.Prelude.{Some, None, Contains}
use Rattle.std.proofs.lemmas.Bool.{both_ways}
use Rattle.std.proofs.lemmas.List.{append-nil}
use Rattle.rcpsp_model.specs.declared.parts.Entry.{Entry}
use Rattle.rcpsp_model.specs.declared.parts.Placing.{Placing}
use Rattle.rcpsp_model.specs.Project.{Project, IsAcyclic}
use Rattle.rcpsp_model.specs.Schedule.{entries}
use Rattle.rcpsp_model.specs.Chain.{IsLeast}
use Rattle.rcpsp_model.specs.Tree.{has_job, InTurn, IsLeaf, entry_at}
use Rattle.rcpsp_model.specs.Plan.{ModeRule, IsShortestMode, IsCheapestMode, CanRun, IsUrgent, IsScheduledNext, IsSerialPlan, IsPlanBy}
use Rattle.rcpsp_model.specs.Laws.{OnePlanLaw, OneFirstPlanLaw}
use Rattle.rcpsp_model.proofs.Lists.{In, In-from_Contains, In-All}
use Rattle.rcpsp_model.proofs.PlansFeasible.{plan-entries}
use Rattle.rcpsp_model.proofs.Tails.{has_tail_law}
use Rattle.rcpsp_model.proofs.Merged.{same-placings}
use Rattle.rcpsp_model.proofs.Numbers.{least-one}

-- the rule gives a job one mode at most
abbrev GivesOne : ModeRule → Project → Type 0
GivesOne Rule P = (j m n : ℕ) → Rule P j m → Rule P j n → m ≡ n

urgent-one : (P : Project) → IsAcyclic P → (F : List Entry) (i j : ℕ) → IsUrgent P F i → IsUrgent P F j → i ≡ j
urgent-one P a F i j p q =
    let t = has_tail_law P i a p.eligible.job in
    let u = has_tail_law P j a q.eligible.job in
    elim (p.first j u.0 t.0 q.eligible u.1 t.1) [
      | inl less ↦ elim (q.first i t.0 u.0 p.eligible t.1 u.1) [ inl more ↦ absurd (omega arith) | inr same ↦ let e = same.0 in absurd (omega arith) ]
      | inr same ↦ elim (q.first i t.0 u.0 p.eligible t.1 u.1) [ inl more ↦ let e = same.0 in absurd (omega arith) | inr again ↦ let low = same.1 in let high = again.1 in omega arith ]
    ]

scheduled-one : (P : Project) → IsAcyclic P → (Rule : ModeRule) → GivesOne Rule P → (F : List Entry) (e f : Entry) → IsScheduledNext P Rule F e → IsScheduledNext P Rule F f → e ≡ f
scheduled-one P a Rule one F e f p q =
    let job = urgent-one P a F e.job f.job p.urgent q.urgent in
    let mode = one f.job e.mode f.mode (subst (λ (j : ℕ). Rule P j e.mode) job p.rule) q.rule in
    let moved : IsLeast (CanRun P F f.job f.mode) e.start =
    subst (λ (m : ℕ). IsLeast (CanRun P F f.job m) e.start) mode (subst (λ (j : ℕ). IsLeast (CanRun P F j e.mode) e.start) job p.start) in
    let start = least-one (CanRun P F f.job f.mode) e.start f.start moved q.start in
    ap (λ (j : ℕ). entry_at j e.mode e.start) job ∙ ap (λ (m : ℕ). entry_at f.job m e.start) mode ∙ ap (λ (t : ℕ). entry_at f.job f.mode t) start

-- nothing follows a leaf
past-leaf : (P : Project) (Rule : ModeRule) (F : List Entry) (e : Entry) → IsLeaf P F → IsScheduledNext P Rule F e → ⊥
past-leaf P Rule F e leaf s = both_ways (has_job F e.job) s.urgent.eligible.unplaced (leaf e.job s.urgent.eligible.job)

serial-one : (P : Project) → IsAcyclic P → (Rule : ModeRule) → GivesOne Rule P → (F es fs : List Entry) → InTurn (IsScheduledNext P Rule) F es → InTurn (IsScheduledNext P Rule) F fs →
    IsLeaf P (F ++ es) → IsLeaf P (F ++ fs) → es ≡ fs
serial-one P a Rule one F [] [] p q l m = refl
serial-one P a Rule one F [] (f ∷ fs) p q l m = absurd (past-leaf P Rule F f (subst (IsLeaf P) (append-nil F) l) q.0)
serial-one P a Rule one F (e ∷ es) [] p q l m = absurd (past-leaf P Rule F e (subst (IsLeaf P) (append-nil F) m) p.0)
serial-one P a Rule one F (e ∷ es) (f ∷ fs) p q l m =
    let head = scheduled-one P a Rule one F e f p.0 q.0 in
    let rest : es ≡ fs = serial-one P a Rule one (F ++ e ∷ []) es fs p.1 (subst (λ (x : Entry). InTurn (IsScheduledNext P Rule) (F ++ x ∷ []) fs) (sym head) q.1)
    (subst (IsLeaf P) (sym (append_assoc F (e ∷ []) es)) l) (subst (λ (x : Entry). IsLeaf P ((F ++ x ∷ []) ++ fs)) (sym head) (subst (IsLeaf P) (sym (append_assoc F (f ∷ []) fs)) m)) in
    ap (λ (x : Entry). x ∷ es) head ∙ ap (λ (xs : List Entry). f ∷ xs) rest

shortest-one : (P : Project) → GivesOne IsShortestMode P
shortest-one P j m n p q =
    elim (p.shortest n q.mode q.executable) [
      | inl less ↦ elim (q.shortest m p.mode p.executable) [ inl more ↦ absurd (omega arith) | inr same ↦ let e = same.0 in absurd (omega arith) ]
      | inr same ↦ elim (q.shortest m p.mode p.executable) [ inl more ↦ let e = same.0 in absurd (omega arith) | inr again ↦ let low = same.1 in let high = again.1 in omega arith ]
    ]

cheapest-one : (P : Project) → GivesOne IsCheapestMode P
cheapest-one P j m n p q =
    elim (p.cheapest n q.mode q.executable) [
      | inl less ↦ elim (q.cheapest m p.mode p.executable) [ inl more ↦ absurd (omega arith) | inr same ↦ let e = same.0 in absurd (omega arith) ]
      | inr same ↦ elim (q.cheapest m p.mode p.executable) [ inl more ↦ let e = same.0 in absurd (omega arith) | inr again ↦ let low = same.1 in let high = again.1 in omega arith ]
    ]

pub one_plan_law : OnePlanLaw
one_plan_law P x y a = (
  λ p q. serial-one P a IsShortestMode (shortest-one P) [] x y p.in_turn q.in_turn p.whole q.whole,
  λ p q. serial-one P a IsCheapestMode (cheapest-one P) [] x y p.in_turn q.in_turn p.whole q.whole,
)

-- so there is one schedule by each rule
plan_by-one : (P : Project) (Rule : ModeRule) → ((x y : List Entry) → IsSerialPlan P Rule x → IsSerialPlan P Rule y → x ≡ y) → (r s : List Placing) → IsPlanBy P Rule r → IsPlanBy P Rule s → r ≡ s
plan_by-one P Rule one r s p q =
    let same = one p.placed q.placed p.serial q.serial in
    let in_s : (e : Entry) → In q.placed e → In (entries s) e = λ e i. In-from_Contains (entries s) e (In-All (Contains (entries s)) q.placed q.agrees e i) in
    let in_r : (e : Entry) → In p.placed e → In (entries r) e = λ e i. In-from_Contains (entries r) e (In-All (Contains (entries r)) p.placed p.agrees e i) in
    same-placings 1 r s (p.jobs ∙ sym q.jobs) (λ e i. in_s e (subst (λ (xs : List Entry). In xs e) same (plan-entries P p.placed r p.serial.whole p.jobs in_r e i)))

pub one_first_plan_law : OneFirstPlanLaw
one_first_plan_law P None None a p q = refl
one_first_plan_law P None (Some s) a p (inl q) = absurd (p.0 s q.0)
one_first_plan_law P None (Some s) a p (inr q) = absurd (p.1 s q.0)
one_first_plan_law P (Some r) None a (inl p) q = absurd (q.0 r p.0)
one_first_plan_law P (Some r) None a (inr p) q = absurd (q.1 r p.0)
one_first_plan_law P (Some r) (Some s) a (inl p) (inl q) = ap Some (plan_by-one P IsShortestMode (λ x y. (one_plan_law P x y a).0) r s p.0 q.0)
one_first_plan_law P (Some r) (Some s) a (inl p) (inr q) = let no_later = p.1 s q.0 in let sooner = q.1 r p.0 in absurd (omega arith)
one_first_plan_law P (Some r) (Some s) a (inr p) (inl q) = let sooner = p.1 s q.0 in let no_later = q.1 r p.0 in absurd (omega arith)
one_first_plan_law P (Some r) (Some s) a (inr p) (inr q) = ap Some (plan_by-one P IsCheapestMode (λ x y. (one_plan_law P x y a).1) r s p.0 q.0)
