-- The order in which a pass moves the jobs.
use Rattle.std.specs.Prelude.{◌≡◌, ℕ, ◌<◌, ◌≤◌, ◌⊎◌, Bool, true, false, List, []}
use Rattle.rcpsp_model.specs.declared.parts.Placing.{Placing}
use Rattle.rcpsp_model.specs.Project.{Project, IsJob}
use Rattle.rcpsp_model.specs.Tree.{InTurn}
use Rattle.rcpsp_model.specs.Rank.{is_among, IsRank}
use Rattle.justify_plans.specs.declared.direction.Direction.{Direction}
use Rattle.justify_plans.specs.declared.direction.Direction.TheVariants.{Backward, Forward}
use Rattle.justify_plans.specs.Placings.{start_in, finish_in}

-- the rank of i is at most that of j
abbrev pub HasNoGreaterRank : Project → ℕ → ℕ → Type 0
HasNoGreaterRank P i j = (a b : ℕ) → IsRank P i a → IsRank P j b → a ≤ b

-- i is moved no later than j: back by falling finish, the greater rank first on a tie; forth by rising start, the lower
-- rank first on a tie
abbrev pub ComesFirst : Direction → Project → List Placing → ℕ → ℕ → Type 0
ComesFirst Backward P s i j = (finish_in P s j < finish_in P s i) ⊎ ((finish_in P s i ≡ finish_in P s j) × HasNoGreaterRank P j i)
ComesFirst Forward P s i j = (start_in s i < start_in s j) ⊎ ((start_in s i ≡ start_in s j) × HasNoGreaterRank P i j)

-- the job that comes first of those that weren't moved yet
pub record IsNext (way : Direction) (P : Project) (s : List Placing) (is_moved : ℕ → Bool) (j : ℕ) : Type 0 where
  pub job : IsJob P j
  pub unmoved : is_moved j ≡ false
  pub first : (i : ℕ) → IsJob P i → is_moved i ≡ false → ComesFirst way P s j i

-- all jobs, each once, in the order in which they are moved from where they are in s
pub record IsOrder (way : Direction) (P : Project) (s : List Placing) (order : List ℕ) : Type 0 where
  pub in_turn : InTurn (λ before. IsNext way P s (is_among before)) [] order
  pub whole : (j : ℕ) → IsJob P j → is_among order j ≡ true
