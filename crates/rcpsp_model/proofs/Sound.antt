-- Entries whose predecessors are there and done: this stands as entries are added.
use Rattle.std.proofs.Common.{◌≡◌, ℕ, ◌≤◌, ◌⊎◌, inl, inr, arith, sym, ap, subst, List, [], ◌∷◌, ◌++◌, append_assoc, true, eqb}
use Rattle.std.specs.Prelude.{All}
use Rattle.std.proofs.lemmas.Bool.{cases_Bool, both_ways, eqb-true}
use Rattle.std.proofs.lemmas.List.{append-nil}
use Rattle.rcpsp_model.specs.declared.parts.Entry.{Entry}
use Rattle.rcpsp_model.specs.Project.{Project, Before, IsAcyclic}
use Rattle.rcpsp_model.specs.Schedule.{finish}
use Rattle.rcpsp_model.specs.Tree.{has_job, IsEligible, Follows, IsFront, InTurn}
use Rattle.rcpsp_model.proofs.Lists.{In, In-push, In-All}
use Rattle.rcpsp_model.proofs.Entries.{has_job-In, has_job-push_false, has_job-push_none}

-- each predecessor is there, and done by the start
pub record IsSound (P : Project) (F : List Entry) : Type 0 where
  pub closed : (i j : ℕ) → Before P i j → has_job F j ≡ true → has_job F i ≡ true
  pub done : (x y : Entry) → In F x → In F y → Before P x.job y.job → finish P x ≤ y.start

pub has_job-push_cases : (F : List Entry) (e : Entry) (j : ℕ) → has_job (F ++ e ∷ []) j ≡ true → (has_job F j ≡ true) ⊎ (e.job ≡ j)
has_job-push_cases F e j h =
    elim (cases_Bool (has_job F j)) [
      | inl y ↦ inl y
      | inr n ↦ elim (cases_Bool (eqb e.job j)) [ inl y ↦ inr (eqb-true e.job j y) | inr m ↦ absurd (both_ways _ (has_job-push_none F e j n m) h) ]
    ]

pub has_job-push_true : (F : List Entry) (e : Entry) (j : ℕ) → has_job F j ≡ true → has_job (F ++ e ∷ []) j ≡ true
has_job-push_true F e j h = elim (cases_Bool (has_job (F ++ e ∷ []) j)) [ inl y ↦ y | inr n ↦ absurd (both_ways _ (has_job-push_false F e j n).0 h) ]

pub sound-push : (P : Project) (a : IsAcyclic P) (F : List Entry) (e : Entry) → IsSound P F → IsEligible P F e.job → All (λ x. Before P x.job e.job → finish P x ≤ e.start) F → IsSound P (F ++ e ∷ [])
sound-push P a F e s el after = record {
  closed = λ i j b h. has_job-push_true F e i (elim (has_job-push_cases F e j h) [
    | inl old ↦ s.closed i j b old
    | inr new ↦ el.preds i (subst (λ (k : ℕ). Before P i k) (sym new) b)
  ]);
  done = λ x y i j b. elim (In-push F e y j) [
    | inl old_y ↦ elim (In-push F e x i) [
      | inl old_x ↦ s.done x y old_x old_y b
      | inr p ↦ absurd (both_ways (has_job F e.job) el.unplaced (s.closed e.job y.job (subst (λ (z : Entry). Before P z.job y.job) (sym p) b) (has_job-In F y old_y)))
    ]
    | inr q ↦ elim (In-push F e x i) [
      | inl old_x ↦ subst (λ (z : Entry). finish P x ≤ z.start) q
          (In-All (λ (z : Entry). Before P z.job e.job → finish P z ≤ e.start) F after x old_x (subst (λ (z : Entry). Before P x.job z.job) (sym q) b))
      | inr p ↦ let up = a.rises x.job y.job b in let jx = ap (λ (z : Entry). a.rank z.job) p in let jy = ap (λ (z : Entry). a.rank z.job) q in absurd (omega arith)
    ]
  ];
}

sound-in_turn : (P : Project) (a : IsAcyclic P) (F es : List Entry) → InTurn (Follows P) F es → IsSound P F → IsSound P (F ++ es)
sound-in_turn P a F [] f s = subst (IsSound P) (sym (append-nil F)) s
sound-in_turn P a F (e ∷ es) f s = subst (IsSound P) (append_assoc F (e ∷ []) es) (sound-in_turn P a (F ++ e ∷ []) es f.1 (sound-push P a F e s f.0.eligible f.0.start.attained.after_preds))

pub front-sound : (P : Project) (a : IsAcyclic P) (F : List Entry) → IsFront P F → IsSound P F
front-sound P a F f = sound-in_turn P a [] F f (record { closed = λ i j b h. cc; done = λ x y i j b. absurd i })
