-- Periods that hold their jobs' work from each earliest start on hold it from any period on.
use Rattle.std.proofs.Common.{◌≡◌, ℕ, ◌+◌, ◌≤◌, inl, inr, arith, refl, sym, ap, subst, ◌∙◌, List, Bool, true, false, cond, not}
use Rattle.std.specs.Prelude.{nat_le}
use Rattle.std.proofs.lemmas.Bool.{cases_eq, cases_Bool, and_parts, and_from, leb-true, le-leb}
use Rattle.rcpsp_model.specs.Project.{Project, job_count, jobs, IsJob}
use Rattle.rcpsp_model.specs.Modes.{least_work}
use Rattle.rcpsp_model.proofs.Lists.{In, total-le, total-zero, sum_by-filter, first_failing}
use Rattle.rcpsp_model.proofs.LeastModes.{numbers-range}
use Rattle.window_refuter.specs.declared.window.Window.{Window}
use Rattle.window_refuter.specs.Windows.{es_of, lf_of, is_within, work_within, NoneIsEmpty}
use Rattle.window_refuter.specs.Dues.{HoldsWithin}
use Rattle.window_refuter.proofs.Supplies.{supply-within}

not_false : (b : Bool) → not b ≡ false → b ≡ true
not_false true h = refl
not_false false h = absurd (cc)

not_true : (b : Bool) → not b ≡ true → b ≡ false
not_true true h = absurd (cc)
not_true false h = refl

module _ (P : Project) (ws : List Window) (none : NoneIsEmpty P ws) (k : ℕ) (holds : (j : ℕ) → IsJob P j → (b : ℕ) → es_of ws j ≤ b → HoldsWithin P ws k (es_of ws j) b) where
  work-le : (a b c : ℕ) → ((x : ℕ) → In (jobs P) x → is_within ws a b x ≡ true → is_within ws c b x ≡ true) → work_within P ws k a b ≤ work_within P ws k c b
  work-le a b c h =
      let f : ℕ → ℕ = λ j. least_work P j k in
      let one = sum_by-filter f (is_within ws a b) (jobs P) in
      let two = sum_by-filter f (is_within ws c b) (jobs P) in
      let le = total-le (λ (j : ℕ). cond (is_within ws a b j) (least_work P j k) 0) (λ (j : ℕ). cond (is_within ws c b j) (least_work P j k) 0) (jobs P) (λ x i. each x (h x i)) in
      omega arith
    where
      each : (x : ℕ) → (is_within ws a b x ≡ true → is_within ws c b x ≡ true) → cond (is_within ws a b x) (least_work P x k) 0 ≤ cond (is_within ws c b x) (least_work P x k) 0
      each x step = elim (cases_Bool (is_within ws a b x)) [
        | inl in_ ↦ let m = ap (λ (p : Bool). cond p (least_work P x k) 0) in_ in let n = ap (λ (p : Bool). cond p (least_work P x k) 0) (step in_) in omega arith
        | inr out ↦ let m = ap (λ (p : Bool). cond p (least_work P x k) 0) out in omega arith
      ]

  -- no job has to run within the periods
  no-work : (a b : ℕ) → ((x : ℕ) → In (jobs P) x → is_within ws a b x ≡ false) → work_within P ws k a b ≡ 0
  no-work a b h =
      sum_by-filter (λ (j : ℕ). least_work P j k) (is_within ws a b) (jobs P)
      ∙ total-zero (λ (j : ℕ). cond (is_within ws a b j) (least_work P j k) 0) (jobs P) (λ x i. ap (λ (p : Bool). cond p (least_work P x k) 0) (h x i))

  pub holds-all : (a b : ℕ) → a ≤ b → HoldsWithin P ws k a b
  holds-all a b low = elim (first_failing (λ (x : ℕ). not (is_within ws a b x)) (es_of ws) (λ (x : ℕ). x) (jobs P)) [
    | inl all ↦ let zero_ = no-work a b (λ x i. not_true (is_within ws a b x) (all x i)) in omega arith
    | inr found ↦
        let j = found.0 in
        let is = found.1 in
        let range = numbers-range 1 (job_count P) j is.member in
        let job : IsJob P j = (range.0, let high = range.1 in omega arith) in
        let inside = not_false (is_within ws a b j) is.fails in
        let parts = and_parts (nat_le a (es_of ws j)) (nat_le (lf_of ws j) b) inside in
        let start = leb-true a (es_of ws j) parts.0 in
        let finish = leb-true (lf_of ws j) b parts.1 in
        let room = none j job in
        let own = holds j job b (omega arith) in
        let more = work-le a b (es_of ws j) (λ x i within.
        let both = and_parts (nat_le a (es_of ws x)) (nat_le (lf_of ws x) b) within in
        let first = is.first x i (ap not within) in
        and_from _ _ (le-leb (es_of ws j) (es_of ws x) (elim first [ inl less ↦ omega arith | inr same ↦ let e = same.0 in omega arith ])) both.1) in
        let wide = supply-within P k a b (es_of ws j) b start (omega arith) (omega arith) in
        omega arith
  ]

-- one more
pub holds-next : (P : Project) (ws : List Window) (k n : ℕ) → ((j : ℕ) → 1 ≤ j → j ≤ n → (b : ℕ) → es_of ws j ≤ b → HoldsWithin P ws k (es_of ws j) b) → ((b : ℕ) → es_of ws (n + 1) ≤ b → HoldsWithin P ws k (es_of ws (n + 1)) b) →
    (j : ℕ) → 1 ≤ j → j ≤ n + 1 → (b : ℕ) → es_of ws j ≤ b → HoldsWithin P ws k (es_of ws j) b
holds-next P ws k n old new j low high = elim (cases_eq j (n + 1)) [
  | inl same ↦ subst (λ (i : ℕ). (b : ℕ) → es_of ws i ≤ b → HoldsWithin P ws k (es_of ws i) b) (sym same) new
  | inr other ↦ old j low (omega arith)
]

pub all-next : (P : Project) (ws : List Window) (n : ℕ) → ((k : ℕ) → 1 ≤ k → k ≤ n → (a b : ℕ) → a ≤ b → HoldsWithin P ws k a b) → ((a b : ℕ) → a ≤ b → HoldsWithin P ws (n + 1) a b) →
    (k : ℕ) → 1 ≤ k → k ≤ n + 1 → (a b : ℕ) → a ≤ b → HoldsWithin P ws k a b
all-next P ws n old new k low high = elim (cases_eq k (n + 1)) [
  | inl same ↦ subst (λ (i : ℕ). (a b : ℕ) → a ≤ b → HoldsWithin P ws i a b) (sym same) new
  | inr other ↦ old k low (omega arith)
]
