-- Why a node is closed, by its front alone and by fronts that were expanded.
use Rattle.std.specs.Prelude.{ℕ, ◌<◌, ◌≤◌, List, All}
use Rattle.rcpsp_model.specs.declared.parts.Entry.{Entry}
use Rattle.rcpsp_model.specs.Project.{Project}
use Rattle.rcpsp_model.specs.Chain.{IsLeast}
use Rattle.rcpsp_model.specs.Bounds.{IsTailBound, IsWorkBound, LowerValue}
use Rattle.rcpsp_model.specs.Dominance.{Dominates}
use Rattle.cutset_store.specs.Index.{DominatesAt}
use Rattle.tree_worker.specs.declared.answer.Cite.TheVariants.{Earlier, Own}
use Rattle.tree_worker.specs.declared.answer.Close.{Close}
use Rattle.tree_worker.specs.declared.answer.Close.TheVariants.{TailBound, WorkBound, Cutset}
use Rattle.tree_worker.specs.declared.worker.Tested.{Tested}
use Rattle.tree_worker.specs.declared.worker.Tested.TheVariants.{Closes, Passes}

-- a number of this kind is no less than the best
pub record Reaches (Kind : ℕ → Type 0) (best : ℕ) : Type 0 where
  pub number : ℕ
  pub is : Kind number
  pub reaches : best ≤ number

-- k is the lowest renewable resource whose work bound reaches the best, and no tail bound does
pub record IsLowestWork (P : Project) (F : List Entry) (best k : ℕ) : Type 0 where
  pub tail : (t : ℕ) → IsTailBound P F t → t < best
  pub lowest : IsLeast (λ j. Reaches (IsWorkBound P F j) best) k

-- the bound that is named is the first that reaches the best
abbrev pub IsBoundBy : Project → List Entry → ℕ → Close → Type 0
IsBoundBy P F best TailBound = Reaches (IsTailBound P F) best
IsBoundBy P F best (WorkBound k) = IsLowestWork P F best k
IsBoundBy P F best _ = ⊥

-- each bound of F is less than the best
abbrev pub IsBelow : Project → List Entry → ℕ → Type 0
IsBelow P F best = (n : ℕ) → LowerValue P F n → n < best

-- none of these fronts dominates F
abbrev pub IsNewTo : Project → List (List Entry) → List Entry → Type 0
IsNewTo P fronts F = All (λ A. Dominates P A F → ⊥) fronts

-- no bound reaches the best, and the front at the place i is the first of these that dominates F
pub record IsCutsetBy (P : Project) (fronts : List (List Entry)) (best : ℕ) (F : List Entry) (i : ℕ) : Type 0 where
  pub below : IsBelow P F best
  pub first : IsLeast (DominatesAt P fronts F) i

-- a front of the index dominates F; or else one of the worker's own; or a bound reaches the best
abbrev pub IsKnownReason : Project → List (List Entry) → List (List Entry) → ℕ → List Entry → Close → Type 0
IsKnownReason P earlier own best F (Cutset (Earlier i)) = IsCutsetBy P earlier best F i
IsKnownReason P earlier own best F (Cutset (Own i)) = IsNewTo P earlier F × IsCutsetBy P own best F i
IsKnownReason P earlier own best F close = IsBoundBy P F best close

-- no bound reaches the best, and no front of the index and none of the worker's own dominates F
pub record IsOpen (P : Project) (earlier own : List (List Entry)) (best : ℕ) (F : List Entry) : Type 0 where
  pub below : IsBelow P F best
  pub new_to_earlier : IsNewTo P earlier F
  pub new_to_own : IsNewTo P own F

abbrev pub IsTested : Project → List (List Entry) → List (List Entry) → ℕ → List Entry → Tested → Type 0
IsTested P earlier own best F (Closes close) = IsKnownReason P earlier own best F close
IsTested P earlier own best F (Passes set) = IsOpen P earlier own best F
