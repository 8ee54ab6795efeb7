-- How far the jobs that can be placed next are from the end.
use Rattle.std.specs.Prelude.{◌≡◌, ℕ, ◌⊎◌, List}
use Rattle.rcpsp_model.specs.declared.parts.Entry.{Entry}
use Rattle.rcpsp_model.specs.Project.{Project}
use Rattle.rcpsp_model.specs.Chain.{IsGreatest, IsTail}
use Rattle.rcpsp_model.specs.Tree.{IsEligible}

-- n is 0, or the tail of a job that can be placed next
abbrev pub IsZeroOrTail : Project → List Entry → ℕ → Type 0
IsZeroOrTail P F n = (n ≡ 0) ⊎ ((j : ℕ) × IsEligible P F j × IsTail P j n)

-- the greatest of these, in periods
abbrev pub IsLongestTail : Project → List Entry → ℕ → Type 0
IsLongestTail P F n = IsGreatest (IsZeroOrTail P F) n
