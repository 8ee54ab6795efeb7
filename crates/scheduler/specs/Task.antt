-- What words ask of the project under a name.
use Rattle.std.specs.Prelude.{◌≡◌, ℕ, List}
use Rattle.scheduler.specs.declared.task.Task.{Task}
use Rattle.scheduler.specs.declared.task.Task.TheVariants as tasks
use Rattle.plan_words.specs.Words.{IsSolve, IsPlan, IsBound, IsShow, IsRequest, IsWithinSearch, tries_in}

-- the words ask for this
abbrev pub IsTaskOf : List (List ℕ) → Task → Type 0
IsTaskOf words (tasks.Solve request) = IsSolve words × IsRequest words request
IsTaskOf words (tasks.Plan tries) = IsPlan words × (tries ≡ tries_in words)
IsTaskOf words tasks.Bound = IsBound words
IsTaskOf words tasks.Show = IsShow words

-- a search can run so
abbrev pub CanBeDone : Task → Type 0
CanBeDone (tasks.Solve request) = IsWithinSearch request
CanBeDone (tasks.Plan tries) = Unit {0}
CanBeDone tasks.Bound = Unit {0}
CanBeDone tasks.Show = Unit {0}
