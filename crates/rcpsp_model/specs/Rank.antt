-- The rank of a job in the order of precedence.
use Rattle.std.specs.Prelude.{◌≡◌, ℕ, ◌+◌, ◌≤◌, ◌==◌, Bool, true, false, List, [], ◌∷◌, ◌++◌, length}
use Rattle.std.specs.List.{list_any}
use Rattle.rcpsp_model.specs.Project.{Project, Before, IsJob}
use Rattle.rcpsp_model.specs.Tree.{InTurn}

-- whether the job is in the list
abbrev pub is_among : List ℕ → ℕ → Bool
is_among js j = list_any (λ i. i == j) js

abbrev pub HasPredecessors : Project → (ℕ → Bool) → ℕ → Type 0
HasPredecessors P taken j = (i : ℕ) → Before P i j → taken i ≡ true

-- the lowest job that isn't taken and whose predecessors are
pub record IsLowestFree (P : Project) (taken : ℕ → Bool) (j : ℕ) : Type 0 where
  pub job : IsJob P j
  pub untaken : taken j ≡ false
  pub preds : HasPredecessors P taken j
  pub lowest : (i : ℕ) → IsJob P i → taken i ≡ false → HasPredecessors P taken i → j ≤ i

-- each job of the list is the lowest whose predecessors stand before it
abbrev pub IsLowestFirst : Project → List ℕ → Type 0
IsLowestFirst P js = InTurn (λ before. IsLowestFree P (is_among before)) [] js

-- r is the rank of j: its place, from 1, in the order that takes the lowest free job each time
abbrev pub IsRank : Project → ℕ → ℕ → Type 0
IsRank P j r = (before : List ℕ) × IsLowestFirst P (before ++ j ∷ []) × (length before + 1 ≡ r)
