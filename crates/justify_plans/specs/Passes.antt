-- Passes over a schedule (Valls, Ballestin and Quintanilla 2005, "Justification and RCPSP: a technique that pays"): each job
-- once is moved as late as it can stand, or as early as it can, with all other jobs where they now are.
use Rattle.std.specs.Prelude.{◌≡◌, ℕ, ◌+◌, ◌≤◌, List, [], ◌∷◌, All}
use Rattle.rcpsp_model.specs.declared.parts.Entry.{Entry}
use Rattle.rcpsp_model.specs.declared.parts.Placing.{Placing}
use Rattle.rcpsp_model.specs.Project.{Project, duration, Before}
use Rattle.rcpsp_model.specs.Schedule.{end_of, entries}
use Rattle.rcpsp_model.specs.Chain.{IsLeast, IsGreatest}
use Rattle.rcpsp_model.specs.Tree.{Fits}
use Rattle.rcpsp_model.specs.Plan.{CanRun}
use Rattle.justify_plans.specs.declared.direction.Direction.{Direction}
use Rattle.justify_plans.specs.declared.direction.Direction.TheVariants.{Backward, Forward}
use Rattle.justify_plans.specs.Placings.{mode_in, others, moved}
use Rattle.justify_plans.specs.Order.{IsOrder}

-- a start at which the job in the mode is done by the end and before its successors start, and fits beside the entries
pub record CanRunBy (P : Project) (es : List Entry) (end j m t : ℕ) : Type 0 where
  pub by_end : t + duration P j m ≤ end
  pub before_succs : All (λ x. Before P j x.job → t + duration P j m ≤ x.start) es
  pub fits : Fits P es j m t

-- where the job is moved: back to the greatest such start, forth to the least start at which its predecessors are done and
-- it fits
abbrev pub IsNewStart : Direction → Project → ℕ → List Placing → ℕ → ℕ → Type 0
IsNewStart Backward P end s j t = IsGreatest (CanRunBy P (others s j) end j (mode_in s j)) t
IsNewStart Forward P end s j t = IsLeast (CanRun P (others s j) j (mode_in s j)) t

-- r is s with the job moved
abbrev pub Moves : Direction → Project → ℕ → List Placing → ℕ → List Placing → Type 0
Moves way P end s j r = (t : ℕ) × IsNewStart way P end s j t × (r ≡ moved s j t)

-- r is s with the jobs of the list moved, one after another
abbrev pub MovesAll : Direction → Project → ℕ → List Placing → List ℕ → List Placing → Type 0
MovesAll way P end s [] r = r ≡ s
MovesAll way P end s (j ∷ js) r = (q : List Placing) × Moves way P end s j q × MovesAll way P end q js r

-- r is s with all jobs moved, in the order in which they come in s, and up to the end of s
pub record IsPass (way : Direction) (P : Project) (s r : List Placing) : Type 0 where
  pub order : List ℕ
  pub is_order : IsOrder way P s order
  pub moves : MovesAll way P (end_of P (entries s)) s order r

-- the backward pass: by falling finish, each job as late as it can stand
abbrev pub IsBackward : Project → List Placing → List Placing → Type 0
IsBackward P s r = IsPass Backward P s r

-- the forward pass: by rising start, each job as early as it can stand
abbrev pub IsForward : Project → List Placing → List Placing → Type 0
IsForward P s r = IsPass Forward P s r
