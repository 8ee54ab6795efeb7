-- Chains of jobs along the pairs, and what they take at least.
use Rattle.std.specs.Prelude.{◌≡◌, ℕ, ◌≤◌, min, List, [], ◌∷◌, sum_by}
use Rattle.rcpsp_model.specs.declared.parts.Mode.{Mode}
use Rattle.rcpsp_model.specs.Project.{Project, Before, modes_of}

-- the least of a number over the modes of a list, 0 where there is none
abbrev pub least_over : (Mode → ℕ) → List Mode → ℕ
least_over f [] = 0
least_over f (m ∷ []) = f m
least_over f (m ∷ n ∷ ms) = min (f m) (least_over f (n ∷ ms))

-- the least over all modes of a job: of the duration, of the need of a nonrenewable resource, and of the work on a
-- renewable one, which is the duration times the request
unfoldable pub least_duration : Project → ℕ → ℕ
unfolding modes_of
least_duration P j = least_over (λ m. m.duration) (modes_of P j)

-- each job is a direct predecessor of the next
abbrev pub IsChain : Project → List ℕ → Type 0
IsChain P [] = Unit {0}
IsChain P (j ∷ []) = Unit {0}
IsChain P (i ∷ j ∷ js) = Before P i j × IsChain P (j ∷ js)

-- a chain of pairs leads from one job to another
pub data Leads (P : Project) : ℕ → ℕ → Type 0 where
  leads_directly : {i j : ℕ} → Before P i j → Leads P i j
  leads_on : {i j k : ℕ} → Before P i j → Leads P j k → Leads P i k

-- the job lies on a cycle: a chain leads from it back to it
abbrev pub IsOnCycle : Project → ℕ → Type 0
IsOnCycle P j = Leads P j j

-- a sum of least durations along a chain that begins with j
abbrev pub ChainLength : Project → ℕ → ℕ → Type 0
ChainLength P j n = (js : List ℕ) × IsChain P (j ∷ js) × (n ≡ sum_by (least_duration P) (j ∷ js))

-- t has the property, and each number that has it is at most t
pub record IsGreatest (Q : ℕ → Type 0) (t : ℕ) : Type 0 where
  pub attained : Q t
  pub greatest : (u : ℕ) → Q u → u ≤ t

-- t has the property, and each number that has it is at least t
pub record IsLeast (Q : ℕ → Type 0) (t : ℕ) : Type 0 where
  pub attained : Q t
  pub least : (u : ℕ) → Q u → t ≤ u

-- n is the tail of j: the length of the longest chain that begins with j, in least durations
abbrev pub IsTail : Project → ℕ → ℕ → Type 0
IsTail P j n = IsGreatest (ChainLength P j) n
