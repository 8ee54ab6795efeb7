-- The order in which a pass moves the jobs, one job more.
use Rattle.std.proofs.Common.{◌≡◌, ℕ, ◌+◌, ◌<◌, ◌≤◌, ◌⊎◌, inl, inr, arith, refl, sym, subst, ◌∙◌, List, Bool, true, false, leb}
use Rattle.std.specs.Prelude.{Option, Some, None, IfSome, IfNone}
use Rattle.std.specs.Option.{ForSome}
use Rattle.std.specs.Bool.{OnTrue, OnFalse}
use Rattle.std.proofs.lemmas.Bool.{cases_eq, cases_Bool, both_ways, leb-true, leb-false}
use Rattle.rcpsp_model.specs.declared.parts.Placing.{Placing}
use Rattle.rcpsp_model.specs.Project.{Project, IsJob, IsAcyclic, job_count}
use Rattle.rcpsp_model.specs.Rank.{IsRank}
use Rattle.rcpsp_model.proofs.Ranks.{rank_law}
use Rattle.justify_plans.specs.declared.direction.Direction.{Direction}
use Rattle.justify_plans.specs.declared.direction.Direction.TheVariants.{Backward, Forward}
use Rattle.justify_plans.specs.Order.{HasNoGreaterRank, ComesFirst, IsNext}

pub rank-one : (P : Project) → IsAcyclic P → (j x y : ℕ) → IsJob P j → IsRank P j x → IsRank P j y → x ≡ y
rank-one P a j x y job p q = let one = rank_law P j a job in let ex = one.only x p in let ey = one.only y q in omega arith

pub no_greater-from : (P : Project) → IsAcyclic P → (i j x y : ℕ) → IsJob P i → IsJob P j → IsRank P i x → IsRank P j y → x ≤ y → HasNoGreaterRank P i j
no_greater-from P a i j x y ji jj p q le u v ru rv = let eu = rank-one P a i u x ji ru p in let ev = rank-one P a j v y jj rv q in omega arith

no_greater-trans : (P : Project) → IsAcyclic P → (x y z : ℕ) → IsJob P y → HasNoGreaterRank P x y → HasNoGreaterRank P y z → HasNoGreaterRank P x z
no_greater-trans P a x y z job p q u v ru rv = let own = rank_law P y a job in let up = p u own.rank ru own.is in let on = q own.rank v own.is rv in omega arith

no_greater-self : (P : Project) → IsAcyclic P → (j : ℕ) → IsJob P j → HasNoGreaterRank P j j
no_greater-self P a j job u v ru rv = let e = rank-one P a j u v job ru rv in omega arith

pub comes-self : (way : Direction) (P : Project) → IsAcyclic P → (s : List Placing) (j : ℕ) → IsJob P j → ComesFirst way P s j j
comes-self Backward P a s j job = inr (refl, no_greater-self P a j job)
comes-self Forward P a s j job = inr (refl, no_greater-self P a j job)

pub best-self : (way : Direction) (P : Project) → IsAcyclic P → (s : List Placing) (best : Option ℕ) (b : ℕ) → best ≡ Some b → ForSome best (IsJob P) → ForSome best (ComesFirst way P s b)
best-self way P a s best b is job x e = subst (ComesFirst way P s b) (let z : Some b ≡ Some x = sym is ∙ e in let same : b ≡ x = cc in same) (comes-self way P a s b (job b is))

pub comes-trans : (way : Direction) (P : Project) → IsAcyclic P → (s : List Placing) (x y z : ℕ) → IsJob P y → ComesFirst way P s x y → ComesFirst way P s y z → ComesFirst way P s x z
comes-trans Backward P a s x y z job (inl p) (inl q) = inl (omega arith)
comes-trans Backward P a s x y z job (inl p) (inr q) = inl (let e = q.0 in omega arith)
comes-trans Backward P a s x y z job (inr p) (inl q) = inl (let e = p.0 in omega arith)
comes-trans Backward P a s x y z job (inr p) (inr q) = inr (p.0 ∙ q.0, no_greater-trans P a z y x job q.1 p.1)
comes-trans Forward P a s x y z job (inl p) (inl q) = inl (omega arith)
comes-trans Forward P a s x y z job (inl p) (inr q) = inl (let e = q.0 in omega arith)
comes-trans Forward P a s x y z job (inr p) (inl q) = inl (let e = p.0 in omega arith)
comes-trans Forward P a s x y z job (inr p) (inr q) = inr (p.0 ∙ q.0, no_greater-trans P a x y z job p.1 q.1)

-- where a test of two ranks says which is no greater
pub on-le : (x y : ℕ) (A B : Type 0) → (x ≤ y → A) → (y ≤ x → B) → OnTrue (leb x y) A × OnFalse (leb x y) B
on-le x y A B f g = elim (cases_Bool (leb x y)) [
  | inl yes_ ↦ (subst (λ (b : Bool). OnTrue b A) (sym yes_) (f (leb-true x y yes_)), subst (λ (b : Bool). OnFalse b B) (sym yes_) tt)
  | inr no_ ↦ (subst (λ (b : Bool). OnTrue b A) (sym no_) tt, subst (λ (b : Bool). OnFalse b B) (sym no_) (g (let more = leb-false x y no_ in omega arith)))
]

pub ranks-first : (P : Project) → IsAcyclic P → (i j x y : ℕ) → IsJob P i → IsJob P j → IsRank P i x → IsRank P j y → OnTrue (leb x y) (HasNoGreaterRank P i j) × OnFalse (leb x y) (HasNoGreaterRank P j i)
ranks-first P a i j x y ji jj p q = on-le x y (HasNoGreaterRank P i j) (HasNoGreaterRank P j i) (no_greater-from P a i j x y ji jj p q) (no_greater-from P a j i y x jj ji q p)

-- of the jobs below n that weren't moved, the one that comes first
abbrev pub FirstBelow : Direction → Project → List Placing → (ℕ → Bool) → ℕ → Option ℕ → Type 0
FirstBelow way P s done n None = (i : ℕ) → IsJob P i → i < n → done i ≡ false → ⊥
FirstBelow way P s done n (Some j) = (j < n) × IsJob P j × (done j ≡ false) × ((i : ℕ) → IsJob P i → i < n → done i ≡ false → ComesFirst way P s j i)

pub below-is_job : (way : Direction) (P : Project) (s : List Placing) (done : ℕ → Bool) (n : ℕ) (best : Option ℕ) → FirstBelow way P s done n best → ForSome best (IsJob P)
below-is_job way P s done n None u = λ x e. absurd (let z : None ≡ Some x = e in cc)
below-is_job way P s done n (Some j) u = λ x e. subst (IsJob P) (let z : j ≡ x = cc in z) u.1

pub below-skip : (way : Direction) (P : Project) (s : List Placing) (done : ℕ → Bool) (n : ℕ) (best : Option ℕ) → done n ≡ true → FirstBelow way P s done n best → FirstBelow way P s done (n + 1) best
below-skip way P s done n None moved u = λ i job low h. elim (cases_eq i n) [
  | inl e ↦ both_ways (done i) h (subst (λ (k : ℕ). done k ≡ true) (sym e) moved)
  | inr ne ↦ u i job (omega arith) h
]
below-skip way P s done n (Some j) moved u = (
  let low = u.0 in omega arith,
  u.1,
  u.2,
  λ i job low h. elim (cases_eq i n) [
    | inl e ↦ absurd (both_ways (done i) h (subst (λ (k : ℕ). done k ≡ true) (sym e) moved))
    | inr ne ↦ u.3 i job (omega arith) h
  ],
)

pub below-more : (way : Direction) (P : Project) → IsAcyclic P → (s : List Placing) (done : ℕ → Bool) (n : ℕ) (best : Option ℕ) (r : ℕ) → IsJob P n → done n ≡ false →
    (r ≡ n) ⊎ (best ≡ Some r) → ComesFirst way P s r n → ForSome best (ComesFirst way P s r) → FirstBelow way P s done n best → FirstBelow way P s done (n + 1) (Some r)
below-more way P a s done n None r job free (inl e) own others u = (
  omega arith,
  subst (IsJob P) (sym e) job,
  subst (λ (k : ℕ). done k ≡ false) (sym e) free,
  λ i ji low h. elim (cases_eq i n) [ inl same ↦ subst (ComesFirst way P s r) (sym same) own | inr ne ↦ absurd (u i ji (omega arith) h) ],
)
below-more way P a s done n None r job free (inr e) own others u = absurd (let z : None ≡ Some r = e in cc)
below-more way P a s done n (Some b) r job free either own others u = (
  (elim either [ inl e ↦ omega arith | inr e ↦ let same : b ≡ r = cc in let low = u.0 in omega arith ]),
  (elim either [ inl e ↦ subst (IsJob P) (sym e) job | inr e ↦ let same : b ≡ r = cc in subst (IsJob P) same u.1 ]),
  (elim either [ inl e ↦ subst (λ (k : ℕ). done k ≡ false) (sym e) free | inr e ↦ let same : b ≡ r = cc in subst (λ (k : ℕ). done k ≡ false) same u.2 ]),
  λ i ji low h. elim (cases_eq i n) [
    | inl same ↦ subst (ComesFirst way P s r) (sym same) own
    | inr ne ↦ comes-trans way P a s r b i u.1 (others b refl) (u.3 i ji (omega arith) h)
  ],
)

pub below-some : (way : Direction) (P : Project) (s : List Placing) (done : ℕ → Bool) (n : ℕ) (best : Option ℕ) → job_count P < n → FirstBelow way P s done n best → IfSome best (IsNext way P s done)
below-some way P s done n None past u = tt
below-some way P s done n (Some j) past u = record { job = u.1; unmoved = u.2; first = λ i job h. u.3 i job (let high = job.1 in omega arith) h }

pub below-none : (way : Direction) (P : Project) (s : List Placing) (done : ℕ → Bool) (n : ℕ) (best : Option ℕ) → job_count P < n → FirstBelow way P s done n best → IfNone best ((j : ℕ) → IsJob P j → done j ≡ true)
below-none way P s done n None past u = λ j job. elim (cases_Bool (done j)) [ inl yes_ ↦ yes_ | inr no_ ↦ absurd (u j job (let high = job.1 in omega arith) no_) ]
below-none way P s done n (Some j) past u = tt
