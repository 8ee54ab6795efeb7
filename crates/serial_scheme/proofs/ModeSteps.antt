-- The total need, one resource further, and the mode of a rule, one mode further.
use Rattle.std.proofs.Common.{◌≡◌, ℕ, zero, suc, ◌+◌, ◌<◌, ◌≤◌, ◌⊎◌, inl, inr, arith, sym, ap, subst, ◌∙◌, [], ◌∷◌, ◌++◌}
use Rattle.std.specs.Prelude.{Option, Some, None, IfSome, IfNone, sum_by}
use Rattle.std.proofs.lemmas.Bool.{cases_eq, cases_lt}
use Rattle.std.proofs.lemmas.List.Sums.{sum_by_push}
use Rattle.rcpsp_model.specs.Project.{Project, need, numbers_from, IsMode}
use Rattle.rcpsp_model.specs.Modes.{IsExecutable}
use Rattle.serial_scheme.specs.declared.mode_rule.ModeRule.{ModeRule}
use Rattle.serial_scheme.specs.declared.mode_rule.ModeRule.TheVariants.{Shortest, Cheapest}
use Rattle.serial_scheme.specs.Rules.{HasMode, HasNoMode, IsLighter, weight_of}

numbers_from-suc : (i n : ℕ) → numbers_from i (suc n) ≡ numbers_from i n ++ (i + n) ∷ []
numbers_from-suc i zero = ap (λ k. k ∷ []) (let e : i ≡ i + 0 = omega arith in e)
numbers_from-suc i (suc n) = ap (λ ks. i ∷ ks) (numbers_from-suc (i + 1) n ∙ ap (λ k. numbers_from (i + 1) n ++ k ∷ []) (let e : i + 1 + n ≡ i + suc n = omega arith in e))

pub total_need-more : (P : Project) (j m n : ℕ) → sum_by (need P j m) (numbers_from 1 (n + 1)) ≡ sum_by (need P j m) (numbers_from 1 n) + need P j m (n + 1)
total_need-more P j m n =
    ap (λ k. sum_by (need P j m) (numbers_from 1 k)) (let e : n + 1 ≡ suc n = omega arith in e)
    ∙ ap (sum_by (need P j m)) (numbers_from-suc 1 n) ∙ sum_by_push (need P j m) (numbers_from 1 n) (1 + n)
    ∙ ap (λ k. sum_by (need P j m) (numbers_from 1 n) + need P j m k) (let e : 1 + n ≡ n + 1 = omega arith in e)

-- each mode of the job is below n
abbrev pub AreBelow : Project → ℕ → ℕ → Type 0
AreBelow P j n = (m : ℕ) → IsMode P j m → m < n

-- of the executable modes below n, the first of least weight
abbrev pub BestBelow : Project → ℕ → (ℕ → ℕ) → ℕ → Option ℕ → Type 0
BestBelow P j weight n None = (m : ℕ) → m < n → IsMode P j m → IsExecutable P j m → ⊥
BestBelow P j weight n (Some b) =
    (b < n) × IsMode P j b × IsExecutable P j b
    × ((m : ℕ) → m < n → IsMode P j m → IsExecutable P j m → (weight b < weight m) ⊎ ((weight b ≡ weight m) × (b ≤ m)))

pub best_is_mode : (P : Project) (j : ℕ) (weight : ℕ → ℕ) (n : ℕ) (best : Option ℕ) → BestBelow P j weight n best → IfSome best (IsMode P j)
best_is_mode P j weight n None b = tt
best_is_mode P j weight n (Some x) b = b.1

-- a mode that isn't executable changes nothing
pub best-skip : (P : Project) (j : ℕ) (weight : ℕ → ℕ) (n : ℕ) (best : Option ℕ) → (IsExecutable P j n → ⊥) → BestBelow P j weight n best → BestBelow P j weight (n + 1) best
best-skip P j weight n None no_ b = λ m l r x. elim (cases_eq m n) [ inl e ↦ no_ (subst (IsExecutable P j) e x) | inr ne ↦ b m (omega arith) r x ]
best-skip P j weight n (Some k) no_ b =
    (let l = b.0 in omega arith, b.1, b.2, λ m l r x. elim (cases_eq m n) [ inl e ↦ absurd (no_ (subst (IsExecutable P j) e x)) | inr ne ↦ b.3 m (omega arith) r x ])

pub best-more : (P : Project) (j : ℕ) (weight : ℕ → ℕ) (n : ℕ) (best new : Option ℕ) → IsMode P j n → IsExecutable P j n → IsLighter weight best n new → BestBelow P j weight n best →
    BestBelow P j weight (n + 1) new
best-more P j weight n None new mode can l b =
    subst (BestBelow P j weight (n + 1)) (sym l)
    (omega arith, mode, can, λ m h r x. elim (cases_eq m n) [ inl e ↦ inr (ap weight (sym e), omega arith) | inr ne ↦ absurd (b m (omega arith) r x) ])
best-more P j weight n (Some k) new mode can (inl l) b =
    subst (BestBelow P j weight (n + 1)) (sym l.1) (
      let low = b.0 in omega arith,
      b.1,
      b.2,
      λ m h r x. elim (cases_eq m n) [
        | inl e ↦ let same = ap weight e in let le = l.0 in let low = b.0 in elim (cases_lt (weight k) (weight m)) [ inl less ↦ inl less | inr no_less ↦ inr (omega arith, omega arith) ]
        | inr ne ↦ b.3 m (omega arith) r x
      ],
    )
best-more P j weight n (Some k) new mode can (inr l) b =
    subst (BestBelow P j weight (n + 1)) (sym l.1) (
      omega arith,
      mode,
      can,
      λ m h r x. elim (cases_eq m n) [
        | inl e ↦ inr (ap weight (sym e), omega arith)
        | inr ne ↦ inl (let less = l.0 in elim (b.3 m (omega arith) r x) [ inl y ↦ omega arith | inr y ↦ let same = y.0 in omega arith ])
      ],
    )

pub mode-from_best : (rule : ModeRule) (P : Project) (j n : ℕ) (best : Option ℕ) → AreBelow P j n → BestBelow P j (weight_of rule P j) n best → IfSome best (HasMode rule P j)
mode-from_best rule P j n None past b = tt
mode-from_best Shortest P j n (Some k) past b = record { mode = b.1; executable = b.2; shortest = λ m r x. b.3 m (past m r) r x }
mode-from_best Cheapest P j n (Some k) past b = record { mode = b.1; executable = b.2; cheapest = λ m r x. b.3 m (past m r) r x }

pub no_mode-from_best : (rule : ModeRule) (P : Project) (j n : ℕ) (best : Option ℕ) → AreBelow P j n → BestBelow P j (weight_of rule P j) n best → IfNone best (HasNoMode P j)
no_mode-from_best rule P j n None past b = λ m r x. b m (past m r) r x
no_mode-from_best rule P j n (Some k) past b = tt
