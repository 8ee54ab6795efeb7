-- How a run ends.
use Rattle.std.specs.Prelude.{ℕ}
use Rattle.sched_base.specs.Outside.{Rose}
use Rattle.scheduler.specs.declared.status.Status.{Status}
use Rattle.scheduler.specs.declared.status.Status.TheVariants.{Done, Infeasible, Limit, ReportRefused, BadWords, BadProject, ReadFault, WriteFault, NoMemory}

-- the number that the program ends with
abbrev pub status_number : Status → ℕ
status_number Done = 0
status_number Infeasible = 1
status_number Limit = 2
status_number ReportRefused = 3
status_number BadWords = 4
status_number BadProject = 5
status_number ReadFault = 6
status_number WriteFault = 7
status_number NoMemory = 8

-- the status of a verdict
abbrev pub IsSolved : Status → Type 0
IsSolved Done = Unit {0}
IsSolved Infeasible = Unit {0}
IsSolved Limit = Unit {0}
IsSolved _ = ⊥

-- the status of a verdict, or of a report that is judged
abbrev pub IsServed : Status → Type 0
IsServed ReportRefused = Unit {0}
IsServed status = IsSolved status

-- the statuses at which an answer was told whole
abbrev pub IsTold : Status → Type 0
IsTold ReadFault = ⊥
IsTold WriteFault = ⊥
IsTold NoMemory = ⊥
IsTold _ = Unit {0}

-- no fault was counted, by the counts before and after
abbrev pub IsFaultless : ℕ → ℕ → Type 0
IsFaultless before now = Rose before now → ⊥
