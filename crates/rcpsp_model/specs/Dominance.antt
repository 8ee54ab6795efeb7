-- Dominance between fronts, after the cutset rule of Demeulemeester and Herroelen (1992), in a form of its own.
use Rattle.std.specs.Prelude.{◌≡◌, ℕ, ◌≤◌, max, false, List, Contains}
use Rattle.rcpsp_model.specs.declared.parts.Entry.{Entry}
use Rattle.rcpsp_model.specs.Project.{Project, Before, IsRenewable, IsNonrenewable}
use Rattle.rcpsp_model.specs.Schedule.{finish, usage, used, end_of}
use Rattle.rcpsp_model.specs.Tree.{has_job, last_start}

-- A has the jobs of B, starts its last one and ends no later, needs no more, takes no more from B's last start on, and
-- holds up no other job longer
pub record Dominates (P : Project) (A B : List Entry) : Type 0 where
  pub jobs : (j : ℕ) → has_job A j ≡ has_job B j
  pub last : last_start A ≤ last_start B
  pub end : end_of P A ≤ end_of P B
  pub needs : (l : ℕ) → IsNonrenewable P l → used P A l ≤ used P B l
  pub usage : (k t : ℕ) → IsRenewable P k → last_start B ≤ t → usage P A k t ≤ usage P B k t
  -- each job that a job j waits for, where j isn't placed
  pub finishes : (a b : Entry) (j : ℕ) → Contains A a → Contains B b → a.job ≡ b.job → Before P a.job j → has_job A j ≡ false → finish P a ≤ max (finish P b) (last_start B)
