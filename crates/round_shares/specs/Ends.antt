-- Ends as the words of a round have them.
use Rattle.std.specs.Prelude.{ℕ, ◌==◌, if◌then◌else◌, Option, Some, None}
use Rattle.search_log.specs.Lean.{none_yet}

-- the end of which this is the number, if there is one
abbrev pub end_in : ℕ → Option ℕ
end_in n = if n == none_yet then None else Some n
