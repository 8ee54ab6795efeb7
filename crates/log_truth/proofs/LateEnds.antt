-- Fronts that end late. A further bound is one case more in `late_law`, `one_late_law` and `late-number`, and in nothing else.
use Rattle.std.proofs.Common.{ℕ, ◌<◌, inl, inr, arith, refl, sym, ◌∙◌, subst, List, Option, Some, None}
use Rattle.std.specs.Prelude.{IfSome}
use Rattle.std.proofs.lemmas.Bool.{cases_eq}
use Rattle.rcpsp_model.specs.declared.parts.Entry.{Entry}
use Rattle.rcpsp_model.specs.declared.parts.Verdict.{Verdict}
use Rattle.rcpsp_model.specs.declared.parts.Verdict.TheVariants.{Optimal, Infeasible, Limit}
use Rattle.rcpsp_model.specs.Project.{Project, capacity, IsAcyclic}
use Rattle.rcpsp_model.specs.Schedule.{end_of, entries}
use Rattle.rcpsp_model.specs.Tree.{IsFront}
use Rattle.rcpsp_model.proofs.Numbers.{Decided, le_decided, lt_decided, both_decided}
use Rattle.rcpsp_model.proofs.LeastModes.{renewable_decided}
use Rattle.rcpsp_model.proofs.Usage.{finish-le-end, end-le}
use Rattle.rcpsp_model.proofs.Completed.{kept-In}
use Rattle.rcpsp_model.proofs.BoundsHold.{tail_law, lower_law}
use Rattle.rcpsp_model.proofs.WorkHeld.{work_law}
use Rattle.rcpsp_model.proofs.BoundsExist.{tail_bound-exists, tail_bound-one, work_bound-exists, work_bound-one, lower_bound-exists}
use Rattle.rcpsp_model.proofs.Decided.{leaf_decided}
use Rattle.proof_log.specs.Report.{duration_of}
use Rattle.log_truth.specs.Fates.{Reason, late_leaf, late_tail, late_work, late_left}
use Rattle.log_truth.specs.Holds.{IsLateBy, IsLimit, Reaches, Suffices, IsLate}
use Rattle.log_truth.specs.Laws.{LateLaw, OneLateLaw}

pub late_law : LateLaw
late_law P F s late_leaf n a f c is =
    let all = end-le P F (end_of P (entries s)) (λ x i. finish-le-end P (entries s) x (kept-In P F s c x i)) in let end = is.1 in omega arith
late_law P F s late_tail n a f c is = tail_law P F s n a c is
late_law P F s (late_work k) n a f c is = work_law P F s k n f c is
late_law P F s (late_left b) n a f c is = lower_law P F s n a f c is.1

pub one_late_law : OneLateLaw
one_late_law P F late_leaf m n p q = sym p.1 ∙ q.1
one_late_law P F late_tail m n p q = tail_bound-one P F m n p q
one_late_law P F (late_work k) m n p q = work_bound-one P F k m n p q
one_late_law P F (late_left b) m n p q = sym p.2 ∙ q.2

-- for each reason there is such a number, or none
pub late-number : (P : Project) (a : IsAcyclic P) (F : List Entry) (r : Reason) → IsFront P F → Decided ((n : ℕ) × IsLateBy P F r n)
late-number P a F late_leaf f = elim (leaf_decided P F) [ inl leaf ↦ inl (end_of P F, (leaf, refl)) | inr no_ ↦ inr (λ l. no_ l.1.0) ]
late-number P a F late_tail f = inl (tail_bound-exists P a F f)
late-number P a F (late_work k) f = elim (both_decided (renewable_decided P k) (lt_decided 0 (capacity P k))) [
  | inl has ↦ inl (work_bound-exists P F k has.0 has.1)
  | inr none ↦ inr (λ l. none (l.1.renewable, l.1.some))
]
late-number P a F (late_left b) f =
    let own = lower_bound-exists P a F f in
    elim (leaf_decided P F) [
      | inl leaf ↦ inr (λ l. l.1.0 leaf)
      | inr no_ ↦ elim (cases_eq b own.0) [
        | inl same ↦ inl (own.0, (no_, own.1, same))
        | inr differs ↦ inr (λ l.
            let up = own.1.greatest l.0 l.1.1.attained in
            let down = l.1.1.greatest own.0 own.1.attained in
            let number = l.1.2 in
            differs (omega arith))
      ]
    ]

-- What a number has to reach.
reaches_decided : (o : Option ℕ) (n : ℕ) → Decided (Reaches o n)
reaches_decided None n = inr (λ h. h)
reaches_decided (Some d) n = le_decided d n

below_decided : (o : Option ℕ) (n : ℕ) → Decided (IfSome o (λ d. n < d))
below_decided None n = inl tt
below_decided (Some d) n = lt_decided n d

limit_decided : (v : Verdict) → Decided (IsLimit v)
limit_decided (Limit d b) = inl tt
limit_decided (Optimal d) = inr (λ h. h)
limit_decided Infeasible = inr (λ h. h)

suffices_decided : (v : Verdict) (r : Reason) (n : ℕ) → Decided (Suffices v r n)
suffices_decided v (late_left b) n = both_decided (limit_decided v) (below_decided (duration_of v) n)
suffices_decided v _ n = reaches_decided (duration_of v) n

pub late_decided : (P : Project) (a : IsAcyclic P) (v : Verdict) (F : List Entry) (r : Reason) → IsFront P F → Decided (IsLate P v F r)
late_decided P a v F r f = elim (late-number P a F r f) [
  | inr none ↦ inr (λ l. none (l.number, l.late))
  | inl own ↦ elim (suffices_decided v r own.0) [
    | inl enough ↦ inl (record { number = own.0; late = own.1; suffices = enough })
    | inr no_ ↦ inr (λ l. no_ (subst (Suffices v r) (one_late_law P F r l.number own.0 l.late own.1) l.suffices))
  ]
]
