-- What dominance asks beside the jobs, by the numbers and the active jobs of both fronts.
use Rattle.std.specs.Prelude.{◌≡◌, ℕ, ◌-◌, ◌≤◌, ◌⊎◌, List, [], length, slice_index, All, Contains}
use Rattle.rcpsp_model.specs.Project.{Project, Before, IsRenewable, IsNonrenewable, nonrenewables}
use Rattle.precedence_tree.specs.declared.active.Active.{Active}
use Rattle.precedence_tree.specs.Active.{IsNamed, AreByFinish, load_at}
use Rattle.precedence_tree.specs.Node.{joined}
use Rattle.cutset_store.specs.declared.facts.RecordFacts.{RecordFacts}
use Rattle.cutset_store.specs.declared.facts.NodeFacts.{NodeFacts}

-- of each nonrenewable resource the needs are no more than the others
abbrev pub NeedsNoMore : Project → List ℕ → List ℕ → Type 0
NeedsNoMore P used other = (l : ℕ) → IsNonrenewable P l → slice_index used (l - 1) ≤ slice_index other (l - 1)

-- one of the jobs is this one, and finishes at the period or later
abbrev pub HasFinish : List Active → ℕ → ℕ → Type 0
HasFinish ys j from = (a : Active) × Contains ys a × (a.entry.job ≡ j) × (from ≤ a.finish)

-- the job is done by the period, no job waits for it, or it is done no later among the others
abbrev pub InTime : Project → List Active → ℕ → Active → Type 0
InTime P ys last a = (a.finish ≤ last) ⊎ ((j : ℕ) → Before P a.entry.job j → ⊥) ⊎ HasFinish ys a.entry.job a.finish

-- so is each of the jobs
abbrev pub HoldsUpNone : Project → List Active → List Active → ℕ → Type 0
HoldsUpNone P xs ys last = All (InTime P ys last) xs

-- from the period on the jobs take no more of the resource than the others
abbrev pub TakesNoMoreOf : Project → List Active → List Active → ℕ → ℕ → Type 0
TakesNoMoreOf P xs ys last k = (t : ℕ) → last ≤ t → load_at P xs k t ≤ load_at P ys k t

-- nor of any renewable resource
abbrev pub TakesNoMore : Project → List Active → List Active → ℕ → Type 0
TakesNoMore P xs ys last = (k : ℕ) → IsRenewable P k → TakesNoMoreOf P xs ys last k

-- the record's last start, end and needs are no more than the node's, it holds up no job longer, and from the node's last
-- start on it takes no more
pub record Beats (P : Project) (a : RecordFacts) (b : NodeFacts) : Type 0 where
  pub last : a.last ≤ b.last
  pub end : a.end ≤ b.end
  pub needs : NeedsNoMore P a.used.now b.used
  pub finishes : HoldsUpNone P a.active.now (joined b.newest b.older.now) b.last
  pub usage : TakesNoMore P a.active.now (joined b.newest b.older.now) b.last

-- jobs in modes of the project, no more than it may have
pub record AreJobs (P : Project) (xs : List Active) : Type 0 where
  pub named : All (IsNamed P) xs
  pub few : length xs ≤ 128

-- they stand in the order of their finishes too
pub record AreOrderly (P : Project) (xs : List Active) : Type 0 where
  pub jobs : AreJobs P xs
  pub order : AreByFinish xs

-- both are of the project
pub record AreComparable (P : Project) (a : RecordFacts) (b : NodeFacts) : Type 0 where
  pub wide : nonrenewables P ≤ length a.used.now
  pub active : AreJobs P a.active.now
  pub order : AreByFinish a.active.now
  pub newest : All (IsNamed P) (joined b.newest [])
  pub older : AreJobs P b.older.now
