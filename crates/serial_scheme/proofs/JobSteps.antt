-- The most urgent open job, one job further.
use Rattle.std.proofs.Common.{◌≡◌, ℕ, zero, suc, ◌+◌, ◌<◌, ◌≤◌, ◌⊎◌, inl, inr, arith, refl, sym, subst, Bool, true}
use Rattle.std.specs.Prelude.{Option, Some, None, IfSome, IfNone}
use Rattle.std.proofs.lemmas.Bool.{cases_eq, cases_lt, cases_Bool}
use Rattle.rcpsp_model.specs.Project.{Project, IsJob, IsAcyclic, job_count}
use Rattle.rcpsp_model.specs.Chain.{IsTail}
use Rattle.rcpsp_model.proofs.Tails.{has_tail_law}
use Rattle.project_net.specs.Order.{IsFree}
use Rattle.serial_scheme.specs.Priority.{HasLessTail, HasNoMoreTail, IsMoreUrgent, IsMostUrgent}

-- a job has one tail
tail-one : (P : Project) (j a b : ℕ) → IsTail P j a → IsTail P j b → a ≡ b
tail-one P j a b p q = let x = p.greatest b q.attained in let y = q.greatest a p.attained in omega arith

no_more_tail-from : (P : Project) (i j x y : ℕ) → IsTail P i x → IsTail P j y → x ≤ y → HasNoMoreTail P i j
no_more_tail-from P i j x y p q le a b ta tb = let ea = tail-one P i a x ta p in let eb = tail-one P j b y tb q in omega arith

less_tail-from : (P : Project) (i j x y : ℕ) → IsTail P i x → IsTail P j y → x < y → HasLessTail P i j
less_tail-from P i j x y p q lt a b ta tb = let ea = tail-one P i a x ta p in let eb = tail-one P j b y tb q in omega arith

pub more_urgent-keeps : (P : Project) (best : Option ℕ) (b j x y : ℕ) → best ≡ Some b → IsTail P j x → IsTail P b y → x ≤ y → IsMoreUrgent P best j (Some b)
more_urgent-keeps P best b j x y is p q le = subst (λ (o : Option ℕ). IsMoreUrgent P o j (Some b)) (sym is) (inl (no_more_tail-from P j b x y p q le, refl))

pub more_urgent-takes : (P : Project) (best : Option ℕ) (b j x y : ℕ) → best ≡ Some b → IsTail P j x → IsTail P b y → y < x → IsMoreUrgent P best j (Some j)
more_urgent-takes P best b j x y is p q lt = subst (λ (o : Option ℕ). IsMoreUrgent P o j (Some j)) (sym is) (inr (less_tail-from P b j y x q p lt, refl))

-- of the open jobs below n, the first of greatest tail
abbrev pub UrgentBelow : Project → (ℕ → Bool) → ℕ → Option ℕ → Type 0
UrgentBelow P placed n None = (i : ℕ) → i < n → IsFree P placed i → ⊥
UrgentBelow P placed n (Some j) =
    (j < n) × IsFree P placed j × ((i a b : ℕ) → i < n → IsFree P placed i → IsTail P i a → IsTail P j b → (a < b) ⊎ ((a ≡ b) × (j ≤ i)))

pub urgent_is_job : (P : Project) (placed : ℕ → Bool) (n : ℕ) (best : Option ℕ) → UrgentBelow P placed n best → IfSome best (IsJob P)
urgent_is_job P placed n None u = tt
urgent_is_job P placed n (Some j) u = u.1.job

-- a job that isn't open changes nothing
pub urgent-skip : (P : Project) (placed : ℕ → Bool) (n : ℕ) (best : Option ℕ) → (IsFree P placed n → ⊥) → UrgentBelow P placed n best → UrgentBelow P placed (n + 1) best
urgent-skip P placed n None no_ u = λ i l o. elim (cases_eq i n) [ inl e ↦ no_ (subst (IsFree P placed) e o) | inr ne ↦ u i (omega arith) o ]
urgent-skip P placed n (Some j) no_ u =
    (let l = u.0 in omega arith, u.1, λ i a b l o. elim (cases_eq i n) [ inl e ↦ absurd (no_ (subst (IsFree P placed) e o)) | inr ne ↦ u.2 i a b (omega arith) o ])

pub urgent-more : (P : Project) → IsAcyclic P → (placed : ℕ → Bool) (n : ℕ) (best new : Option ℕ) → IsFree P placed n → IsMoreUrgent P best n new → UrgentBelow P placed n best →
    UrgentBelow P placed (n + 1) new
urgent-more P acyclic placed n None new is_open l u =
    subst (UrgentBelow P placed (n + 1)) (sym l) (
      omega arith,
      is_open,
      λ i a b h o ta tb. elim (cases_eq i n) [
        | inl e ↦ inr (tail-one P n a b (subst (λ k. IsTail P k a) e ta) tb, omega arith)
        | inr ne ↦ absurd (u i (omega arith) o)
      ],
    )
urgent-more P acyclic placed n (Some j) new is_open (inl l) u =
    subst (UrgentBelow P placed (n + 1)) (sym l.1) (
      let low = u.0 in omega arith,
      u.1,
      λ i a b h o ta tb. elim (cases_eq i n) [
        | inl e ↦ let le = l.0 a b (subst (λ k. IsTail P k a) e ta) tb in let low = u.0 in elim (cases_lt a b) [ inl less ↦ inl less | inr no_less ↦ inr (omega arith, omega arith) ]
        | inr ne ↦ u.2 i a b (omega arith) o ta tb
      ],
    )
urgent-more P acyclic placed n (Some j) new is_open (inr l) u =
    subst (UrgentBelow P placed (n + 1)) (sym l.1) (
      omega arith,
      is_open,
      λ i a b h o ta tb. elim (cases_eq i n) [
        | inl e ↦ inr (tail-one P n a b (subst (λ k. IsTail P k a) e ta) tb, omega arith)
        | inr ne ↦
            let own = has_tail_law P j acyclic u.1.job in
            let less = l.0 own.0 b own.1 tb in
            inl (elim (u.2 i a own.0 (omega arith) o ta own.1) [ inl y ↦ omega arith | inr y ↦ let same = y.0 in omega arith ])
      ],
    )

pub most_urgent-from : (P : Project) (placed : ℕ → Bool) (n : ℕ) (best : Option ℕ) → job_count P < n → UrgentBelow P placed n best → IfSome best (IsMostUrgent P placed)
most_urgent-from P placed n None past u = tt
most_urgent-from P placed n (Some j) past u = record { free = u.1; first = λ i a b o ta tb. u.2 i a b (let high = o.job.1 in omega arith) o ta tb }

pub none_open-from : (P : Project) (placed : ℕ → Bool) (n : ℕ) (best : Option ℕ) → job_count P < n → UrgentBelow P placed n best → IfNone best ((j : ℕ) → IsFree P placed j → ⊥)
none_open-from P placed n None past u = λ j o. u j (let high = o.job.1 in omega arith) o
none_open-from P placed n (Some j) past u = tt

-- where no job is open, all are placed
all-below : (P : Project) (a : IsAcyclic P) (placed : ℕ → Bool) → ((j : ℕ) → IsFree P placed j → ⊥) → (r j : ℕ) → IsJob P j → a.rank j < r → placed j ≡ true
all-below P a placed none zero j job h = absurd (omega arith)
all-below P a placed none (suc r) j job h =
    elim (cases_Bool (placed j)) [
      | inl y ↦ y
      | inr n ↦ absurd (none j (record { job = job; untaken = n; predecessors = λ i b. all-below P a placed none r i (a.jobs i j b).0 (let up = a.rises i j b in omega arith) }))
    ]

pub all-placed : (P : Project) (a : IsAcyclic P) (placed : ℕ → Bool) → ((j : ℕ) → IsFree P placed j → ⊥) → (j : ℕ) → IsJob P j → placed j ≡ true
all-placed P a placed none j job = all-below P a placed none (a.rank j + 1) j job (omega arith)
