-- The plan of two workers.
use Rattle.std.proofs.Common.{◌≡◌, ℕ, ◌<◌, ◌≤◌, inl, inr, sym, subst, arith, List, [], ◌∷◌, ◌++◌, Option, Some, None, min, append-nil}
use Rattle.std.specs.Prelude.{nat_lt, if◌then◌else◌}
use Rattle.std.proofs.lemmas.Bool.{cases_lt}
use Rattle.std.proofs.lemmas.Bool.Decides.{nat_tests}
use Rattle.rcpsp_model.specs.declared.parts.Placing.{Placing}
use Rattle.rcpsp_model.specs.Project.{Project}
use Rattle.rcpsp_model.specs.Schedule.{end_of, entries}
use Rattle.rcpsp_model.specs.Claim.{EndsAt}
use Rattle.search_table.specs.Lists.{least}
use Rattle.tree_worker.specs.Worker.{HasPlan}
use Rattle.steal_rounds.specs.Whole.{better_plan}
use Rattle.steal_rounds.proofs.PartLaws.{PlansLaw}

least-swap : (a b : ℕ) (ends : List ℕ) → min a (least b ends) ≡ min b (least a ends)
least-swap a b [] = omega arith
least-swap a b (e ∷ ends) = let ih = least-swap a b ends in omega arith

least-both : (a b : ℕ) (ends others : List ℕ) → least a (ends ++ b ∷ others) ≡ min (least a ends) (least b others)
least-both a b [] others = least-swap b a others
least-both a b (e ∷ ends) others = let ih = least-both a b ends others in omega arith

chosen : {X : Type 0} (a b : ℕ) (x y : X) (Q : X → Type 0) → (a < b → Q x) → (b ≤ a → Q y) → Q (if nat_lt a b then x else y)
chosen a b x y Q l m = elim (cases_lt a b) [
  | inl less ↦ (let e : (if nat_lt a b then x else y) ≡ x = grind (arith, nat_tests) in subst Q (sym e) (l less))
  | inr over ↦ (let e : (if nat_lt a b then x else y) ≡ y = grind (arith, nat_tests) in subst Q (sym e) (m over))
]

ends-earlier : (P : Project) (a b : ℕ) (s t : List Placing) → EndsAt P a s → EndsAt P b t → (n : ℕ) → n ≡ min a b → HasPlan P (n ∷ []) (better_plan P (Some s) (Some t))
ends-earlier P a b s t x y n e =
    let first = x.end in
    let second = y.end in
    chosen (end_of P (entries t)) (end_of P (entries s)) (Some t) (Some s) (HasPlan P (n ∷ [])) (λ l. record { feasible = y.feasible; end = omega arith }) (λ l. record { feasible = x.feasible; end = omega arith })

-- a plan of these ends is one of their least
one-end : (P : Project) (end : ℕ) (ends : List ℕ) (o : Option (List Placing)) → HasPlan P (least end ends ∷ []) o → HasPlan P (end ∷ ends) o
one-end P end ends None h = h
one-end P end ends (Some s) h = h

pub plans_law : PlansLaw
plans_law P [] two None q x y = y
plans_law P [] two (Some s) q x y = absurd x
plans_law P (end ∷ ends) two None q x y = absurd x
plans_law P (end ∷ ends) [] (Some s) None x y = subst (λ (es : List ℕ). HasPlan P es (Some s)) (sym (append-nil (end ∷ ends))) x
plans_law P (end ∷ ends) [] (Some s) (Some t) x y = absurd y
plans_law P (end ∷ ends) (other ∷ others) (Some s) None x y = absurd y
plans_law P (end ∷ ends) (other ∷ others) (Some s) (Some t) x y =
    one-end P end (ends ++ other ∷ others) (better_plan P (Some s) (Some t)) (ends-earlier P (least end ends) (least other others) s t x y (least end (ends ++ other ∷ others)) (least-both end other ends others))
