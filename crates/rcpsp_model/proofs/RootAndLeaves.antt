-- The root, the leaves, and a longer front.
use Rattle.std.proofs.Common.{◌≡◌, ◌≤◌, arith, sym, subst, List, [], ◌∷◌, ◌++◌, append_assoc, false}
use Rattle.std.specs.Prelude.{Contains}
use Rattle.std.proofs.lemmas.Bool.{both_ways}
use Rattle.std.proofs.lemmas.List.{append-nil}
use Rattle.std.proofs.lemmas.List.Elements.{All-nil}
use Rattle.rcpsp_model.specs.declared.parts.Entry.{Entry}
use Rattle.rcpsp_model.specs.Project.{Project, IsAcyclic}
use Rattle.rcpsp_model.specs.Schedule.{entries, KeepsBudgets}
use Rattle.rcpsp_model.specs.Tree.{has_job, last_start, Follows, InTurn, IsFront, Completes}
use Rattle.rcpsp_model.specs.Laws.{FrontLaw, RootLaw, OwnSchedule, LeafLaw}
use Rattle.rcpsp_model.proofs.Lists.{All-from_In}
use Rattle.rcpsp_model.proofs.Entries.{has_job-In}
use Rattle.rcpsp_model.proofs.Completed.{front-distinct}
use Rattle.rcpsp_model.proofs.Fronts.{in_turn, front-keeps, named-in_turn, length-front, front-end_le}
use Rattle.rcpsp_model.proofs.Sound.{front-sound}
use Rattle.rcpsp_model.proofs.PlansFeasible.{IsPlan, agrees-In, plan-feasible, plan-entries, own-schedule}

pub front_law : FrontLaw
front_law P F p f = (length-front P F f, front-end_le P F p.limits f)

pub root_law : RootLaw
root_law P = (
  tt,
  λ s. (
    λ c. c.feasible,
    λ f. record {
      feasible = f;
      kept = All-nil (Contains (entries s));
      rest = All-from_In (λ (e : Entry). has_job [] e.job ≡ false → last_start [] ≤ e.start) (entries s) (λ x i h. omega arith);
    },
  ),
)

front-budgets : (P : Project) (F : List Entry) → IsFront P F → KeepsBudgets P F
front-budgets P F f = in_turn (Follows P) (KeepsBudgets P) (λ G e keeps follows. follows.budgets) [] F (λ l r. omega arith) f

front-plan : (P : Project) → IsAcyclic P → (F : List Entry) → IsFront P F → IsPlan P F
front-plan P a F f = record {
  jobs = λ e i. (named-in_turn P [] F f e i).0;
  distinct = front-distinct P F f;
  keeps = front-keeps P F f;
  sound = front-sound P a F f;
  modes = λ e i. (named-in_turn P [] F f e i).1;
}

pub leaf_law : LeafLaw
leaf_law P F a f leaf =
    let own = own-schedule P F (front-plan P a F f) leaf in
    (own, λ s. (λ c. own.only s c.feasible.whole c.kept, λ is. subst (Completes P F) (sym is) (completes own)))
  where
    completes : (own : OwnSchedule P F) → Completes P F own.schedule
    completes own = record {
      feasible = plan-feasible P F own.schedule (front-plan P a F f) leaf own.jobs (agrees-In F own.schedule own.agrees) (front-budgets P F f);
      kept = own.agrees;
      rest = All-from_In (λ (e : Entry). has_job F e.job ≡ false → last_start F ≤ e.start) (entries own.schedule)
          (λ e i n. absurd (both_ways (has_job F e.job) n (has_job-In F e (plan-entries P F own.schedule leaf own.jobs (agrees-In F own.schedule own.agrees) e i))));
    }

-- One more entry makes a longer front.
pub in_turn-push : {X : Type 0} (R : List X → X → Type 0) (before xs : List X) (x : X) → InTurn R before xs → R (before ++ xs) x → InTurn R before (xs ++ x ∷ [])
in_turn-push {X = X} R before [] x t r = (subst (λ (ys : List X). R ys x) (append-nil before) r, tt)
in_turn-push {X = X} R before (y ∷ ys) x t r = (t.0, in_turn-push R (before ++ y ∷ []) ys x t.1 (subst (λ (zs : List X). R zs x) (sym (append_assoc before (y ∷ []) ys)) r))

pub front-push : (P : Project) (F : List Entry) (e : Entry) → IsFront P F → Follows P F e → IsFront P (F ++ e ∷ [])
front-push P F e f follows = in_turn-push (Follows P) [] F e f follows
