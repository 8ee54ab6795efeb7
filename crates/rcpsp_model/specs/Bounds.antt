-- Lower bounds on the end of all schedules that complete a front, and what shows that no schedule does.
use Rattle.std.specs.Prelude.{◌≡◌, ℕ, zero, suc, ◌+◌, ◌-◌, ◌*◌, ◌<◌, ◌≤◌, max, min, false, List, ◌∷◌, sum_by, filter, All}
use Rattle.rcpsp_model.specs.declared.parts.Entry.{Entry}
use Rattle.rcpsp_model.specs.Project.{Project, request, capacity, is_before, IsJob, IsRenewable}
use Rattle.rcpsp_model.specs.Schedule.{finish, end_of, cap}
use Rattle.rcpsp_model.specs.Chain.{least_duration, IsChain, IsGreatest, IsLeast}
use Rattle.rcpsp_model.specs.Modes.{least_work}
use Rattle.rcpsp_model.specs.Tree.{has_job, last_start, unplaced, HasGap}

-- The tail bound, by critical paths: no chain of unplaced jobs is done earlier.

-- an unplaced job starts no earlier: the greatest of the last start and the finishes of its placed predecessors
abbrev pub ready : Project → List Entry → ℕ → ℕ
ready P F j = max (last_start F) (end_of P (filter (λ e. is_before P e.job j) F))

-- the front's end, and for each chain of unplaced jobs when its first job is ready, and then its least durations
pub data TailValue (P : Project) (F : List Entry) : ℕ → Type 0 where
  of_front : TailValue P F (end_of P F)
  of_chain : (j : ℕ) (js : List ℕ) → IsJob P j → IsChain P (j ∷ js) → All (λ i. has_job F i ≡ false) (j ∷ js) → TailValue P F (ready P F j + sum_by (least_duration P) (j ∷ js))

-- t is the tail bound of F
abbrev pub IsTailBound : Project → List Entry → ℕ → Type 0
IsTailBound P F t = IsGreatest (TailValue P F) t

-- The work bound of a renewable resource: its capacities have to hold the work that is left.

-- of an entry that starts by t, the periods from t on
abbrev pub periods_left : Project → ℕ → Entry → ℕ
periods_left P t e = finish P e - t

-- the work on k from the last start on: what the placed jobs still ask for, and the least work of the others
abbrev pub rest_work : Project → List Entry → ℕ → ℕ
rest_work P F k = sum_by (λ e. request P e.job e.mode k * periods_left P (last_start F) e) F + sum_by (λ j. least_work P j k) (unplaced P F)

-- what there is of k in n periods from t on, summed
abbrev pub supply : Project → ℕ → ℕ → ℕ → ℕ
supply P k t zero = 0
supply P k t (suc n) = cap P k t + supply P k (t + 1) n

-- the periods from the last start up to e hold the work that is left
pub record HoldsWork (P : Project) (F : List Entry) (k e : ℕ) : Type 0 where
  pub after_last : last_start F ≤ e
  pub holds : rest_work P F k ≤ supply P k (last_start F) (e - last_start F)

-- w is the work bound of k: the least such e, or 999,999,999 where that is less
pub record IsWorkBound (P : Project) (F : List Entry) (k w : ℕ) : Type 0 where
  pub renewable : IsRenewable P k
  pub some : 0 < capacity P k
  pub enough : ℕ
  pub least : IsLeast (HoldsWork P F k) enough
  pub bound : w ≡ min 999999999 enough

-- the values of the tail bound and of all work bounds
pub data LowerValue (P : Project) (F : List Entry) : ℕ → Type 0 where
  of_tail : (t : ℕ) → IsTailBound P F t → LowerValue P F t
  of_work : (k w : ℕ) → IsWorkBound P F k w → LowerValue P F w

-- b is the lower bound of F: the greatest of these
abbrev pub IsLowerBound : Project → List Entry → ℕ → Type 0
IsLowerBound P F b = IsGreatest (LowerValue P F) b

-- l is the budget gap of F: the lowest nonrenewable resource that it and the other jobs need too much of
abbrev pub IsBudgetGap : Project → List Entry → ℕ → Type 0
IsBudgetGap P F l = IsLeast (HasGap P F) l
