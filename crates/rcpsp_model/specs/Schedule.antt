-- Schedules, and what they take of the resources. Periods count from 0; a job with start s and duration p is active in
-- the periods s to s + p - 1, and in none where p is 0.
use Rattle.std.specs.Prelude.{◌≡◌, ℕ, ◌+◌, ◌<◌, ◌≤◌, ◌==◌, max, min, ◌&&◌, Bool, List, [], ◌∷◌, length, fold, nat_le, nat_lt, sum_by, filter, All, Contains}
use Rattle.rcpsp_model.specs.declared.parts.CalRow.{CalRow}
use Rattle.rcpsp_model.specs.declared.parts.Entry.{Entry}
use Rattle.rcpsp_model.specs.declared.parts.Placing.{Placing}
use Rattle.rcpsp_model.specs.Project.{Project, duration, request, need, capacity, budget, job_count, Before, IsJob, IsMode, IsRenewable, IsNonrenewable}

-- the first period after the entry
abbrev pub finish : Project → Entry → ℕ
finish P e = e.start + duration P e.job e.mode

abbrev pub is_active : Project → ℕ → Entry → Bool
is_active P t e = nat_le e.start t && nat_lt t (finish P e)

-- what the entries take of a renewable resource in a period
abbrev pub usage : Project → List Entry → ℕ → ℕ → ℕ
usage P es k t = sum_by (λ e. request P e.job e.mode k) (filter (is_active P t) es)

-- what the entries take of a nonrenewable resource
abbrev pub used : Project → List Entry → ℕ → ℕ
used P es l = sum_by (λ e. need P e.job e.mode l) es

-- the greatest finish, 0 where there is no entry
abbrev pub end_of : Project → List Entry → ℕ
end_of P [] = 0
end_of P (e ∷ es) = max (finish P e) (end_of P es)

-- whether the row is one of the resource and has the period
abbrev pub covers : ℕ → ℕ → CalRow → Bool
covers k t row = row.resource == k && (nat_le row.begin t && nat_lt t row.until)

-- what there is of a renewable resource in a period: its capacity, or what the row of the calendar says that has the
-- period, where that is less
unfoldable pub cap : Project → ℕ → ℕ → ℕ
cap P k t = fold (λ least row. min least row.capacity) (capacity P k) (filter (covers k t) P.calendar)

-- the greatest end of a row of the calendar, 0 where there is none: from this period on each capacity is whole
unfoldable pub calm : Project → ℕ
calm P = fold (λ greatest row. max greatest row.until) 0 P.calendar

-- A schedule is a list with one placing for each job, in the order of the jobs.

-- the placings as entries of the jobs from j on
abbrev pub entries_from : ℕ → List Placing → List Entry
entries_from j [] = []
entries_from j (p ∷ ps) = record { job = j; mode = p.mode; start = p.start } ∷ entries_from (j + 1) ps

-- the entries of a schedule
abbrev pub entries : List Placing → List Entry
entries s = entries_from 1 s

-- a schedule that keeps every precedence, capacity and budget
pub record IsFeasible (P : Project) (s : List Placing) : Type 0 where
  pub whole : length s ≡ job_count P
  pub modes : All (λ e. IsMode P e.job e.mode) (entries s)
  pub precedence : (a b : Entry) → Contains (entries s) a → Contains (entries s) b → Before P a.job b.job → finish P a ≤ b.start
  pub capacity : (k t : ℕ) → IsRenewable P k → t < end_of P (entries s) → usage P (entries s) k t ≤ cap P k t
  pub budgets : (l : ℕ) → IsNonrenewable P l → used P (entries s) l ≤ budget P l

-- Facts of any list of entries, as a front or a part of a schedule.

-- the entries keep every capacity in every period
abbrev pub KeepsCapacities : Project → List Entry → Type 0
KeepsCapacities P es = (k t : ℕ) → IsRenewable P k → usage P es k t ≤ cap P k t

-- what the entries need keeps every budget
abbrev pub KeepsBudgets : Project → List Entry → Type 0
KeepsBudgets P es = (l : ℕ) → IsNonrenewable P l → used P es l ≤ budget P l

-- an entry of a job and a mode of the project, with a start up to 999,999,999
pub record IsOf (P : Project) (e : Entry) : Type 0 where
  pub job : IsJob P e.job
  pub mode : IsMode P e.job e.mode
  pub start : e.start ≤ 999999999

abbrev pub AreOf : Project → List Entry → Type 0
AreOf P es = All (IsOf P) es

-- the schedule gives the entries' jobs the modes and starts that they have here
abbrev pub Agrees : List Placing → List Entry → Type 0
Agrees s es = All (Contains (entries s)) es
