-- Bounds that reach the best, and bounds that don't.
use Rattle.std.proofs.Common.{◌≡◌, ℕ, ◌<◌, ◌≤◌, ◌+◌, arith, subst, sym, List, Bool, true, false, MatchBool, inl, inr}
use Rattle.std.proofs.lemmas.Bool.{cases_eq, cases_lt}
use Rattle.rcpsp_model.specs.declared.parts.Entry.{Entry}
use Rattle.rcpsp_model.specs.Project.{Project, renewables, capacity}
use Rattle.rcpsp_model.specs.Chain.{IsLeast}
use Rattle.rcpsp_model.specs.Bounds.{IsTailBound, IsWorkBound, HoldsWork, of_tail, of_work}
use Rattle.rcpsp_model.proofs.Numbers.{least-one}
use Rattle.tree_worker.specs.Reasons.{Reaches, IsBelow}

-- each work bound of the resource is less
abbrev pub WorkIsBelow : Project → List Entry → ℕ → ℕ → Type 0
WorkIsBelow P F best k = (w : ℕ) → IsWorkBound P F k w → w < best

pub work-one : (P : Project) (F : List Entry) (k v w : ℕ) → IsWorkBound P F k v → IsWorkBound P F k w → v ≡ w
work-one P F k v w a b =
    let same = least-one (HoldsWork P F k) a.enough b.enough a.least b.least in let x = a.bound in let y = b.bound in omega arith

pub work-below : (P : Project) (F : List Entry) (best k bound : ℕ) → IsWorkBound P F k bound → bound < best → WorkIsBelow P F best k
work-below P F best k bound is less w other = let same = work-one P F k bound w is other in omega arith

pub no-work : (P : Project) (F : List Entry) (best k : ℕ) → capacity P k ≡ 0 → WorkIsBelow P F best k
no-work P F best k none w is = absurd (let some = is.some in omega arith)

-- what the test of a resource says where it fails
pub not-reached : (P : Project) (F : List Entry) (best k : ℕ) (yes : Bool) → yes ≡ false → MatchBool yes (Reaches (IsWorkBound P F k) best) (WorkIsBelow P F best k) → WorkIsBelow P F best k
not-reached P F best k true is says = absurd cc
not-reached P F best k false is says = says

-- the first resource that is reached is the lowest
pub lowest-reached : (P : Project) (F : List Entry) (best k : ℕ) (yes : Bool) → yes ≡ true → MatchBool yes (Reaches (IsWorkBound P F k) best) (WorkIsBelow P F best k) → ((j : ℕ) → j < k → WorkIsBelow P F best j) →
    IsLeast (λ j. Reaches (IsWorkBound P F j) best) k
lowest-reached P F best k false is says before = absurd cc
lowest-reached P F best k true is says before = record { attained = says; least = least }
  where
    least : (u : ℕ) → Reaches (IsWorkBound P F u) best → k ≤ u
    least u r = elim (cases_lt u k) [
      | inl low ↦ absurd (let less = before u low r.number r.is in let reaches = r.reaches in omega arith)
      | inr high ↦ high
    ]

-- below the resource n, and of it: so below the next one
pub works-more : (P : Project) (F : List Entry) (best n : ℕ) → ((k : ℕ) → k < n → WorkIsBelow P F best k) → WorkIsBelow P F best n → (k : ℕ) → k < n + 1 → WorkIsBelow P F best k
works-more P F best n before here k low =
    elim (cases_eq k n) [
      | inl same ↦ subst (WorkIsBelow P F best) (sym same) here
      | inr other ↦ before k (omega arith)
    ]

pub works-none : (P : Project) (F : List Entry) (best k : ℕ) → k < 1 → WorkIsBelow P F best k
works-none P F best k low w is = absurd (let r = is.renewable.0 in omega arith)

pub works-all : (P : Project) (F : List Entry) (best n : ℕ) → renewables P < n → ((k : ℕ) → k < n → WorkIsBelow P F best k) → (k : ℕ) → WorkIsBelow P F best k
works-all P F best n past before k w is = before k (let high = is.renewable.1 in omega arith) w is

pub tail-below : (P : Project) (F : List Entry) (best tail : ℕ) → IsTailBound P F tail → tail < best → (t : ℕ) → IsTailBound P F t → t < best
tail-below P F best tail is less t b = let low = is.greatest t b.attained in omega arith

pub all-below : (P : Project) (F : List Entry) (best tail : ℕ) → IsTailBound P F tail → tail < best → ((k : ℕ) → WorkIsBelow P F best k) → IsBelow P F best
all-below P F best tail is less works n (of_tail t b) = tail-below P F best tail is less n b
all-below P F best tail is less works n (of_work k w b) = works k w b
