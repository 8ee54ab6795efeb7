-- What a search may not waste: of each line it is known who visited it and when, and what is expanded was needed by what was
-- known then. It is told of the lines in whatever order they stand.
use Rattle.std.specs.Prelude.{◌≡◌, ℕ, ◌+◌, ◌-◌, ◌<◌, ◌≤◌, ◌==◌, ◌&&◌, if◌then◌else◌, Bool, true, false, Option, Some, None, List, [], ◌∷◌, length, map, slice_get, slice_index, Contains, count_by}
use Rattle.rcpsp_model.specs.declared.parts.Entry.{Entry}
use Rattle.rcpsp_model.specs.Project.{Project, numbers_from}
use Rattle.rcpsp_model.specs.Schedule.{end_of}
use Rattle.rcpsp_model.specs.Chain.{IsLeast}
use Rattle.rcpsp_model.specs.Tree.{Choice}
use Rattle.rcpsp_model.specs.Bounds.{IsLowerBound}
use Rattle.rcpsp_model.specs.Dominance.{Dominates}
use Rattle.proof_log.specs.declared.report.LogLine.{LogLine}
use Rattle.log_truth.specs.Fates.{Saying, says_late, late_leaf, expands, shuts}
use Rattle.log_truth.specs.Log.{Branch, by_choice, says, LogNode, front_of, nodes}
use Rattle.search_log.specs.declared.row.Row.{Row}
use Rattle.search_log.specs.declared.row.Origin.{Origin}
use Rattle.search_log.specs.Table.{row_at}
use Rattle.search_log.specs.Stands.{line_of, TreeNode, branch_at, place_front}
use Rattle.search_log.specs.Told.{origin_at}

-- a line, by its branch, its front and what it says, with its origin
pub record Seen : Type 0 where
  pub branch : Branch
  pub front : Option (List Entry)
  pub said : Saying
  pub origin : Origin

abbrev pub seen_node : LogNode → Origin → Seen
seen_node node origin = record { branch = node.branch; front = front_of node; said = says node.line; origin = origin }

abbrev pub seen_nodes : List LogNode → List Origin → List Seen
seen_nodes [] origins = []
seen_nodes (node ∷ ns) [] = []
seen_nodes (node ∷ ns) (origin ∷ origins) = seen_node node origin ∷ seen_nodes ns origins

-- the lines of a log, with their origins
abbrev pub seen_lines : Project → List LogLine → List Origin → List Seen
seen_lines P lines origins = seen_nodes (nodes P lines) origins

-- the row at a place, as a line
abbrev pub seen_row : List Row → List TreeNode → List Origin → ℕ → Seen
seen_row T ns O p = record { branch = branch_at ns p; front = place_front ns p; said = says (line_of [] (row_at T p)); origin = origin_at O p }

-- the rows of a table, with their origins
abbrev pub seen_rows : List Row → List TreeNode → List Origin → List Seen
seen_rows T ns O = map (seen_row T ns O) (numbers_from 0 (length T))

-- Ends.

-- the number of an end that isn't known
abbrev pub none_yet : ℕ
none_yet = 4294967295

abbrev pub end_number : Option ℕ → ℕ
end_number (Some d) = d
end_number None = none_yet

-- e is the end of the plan to begin with, or that of one of these leaves
pub data IsEnd (P : Project) (first : Option ℕ) (Among : Seen → Type 0) (e : ℕ) : Type 0 where
  of_first : e ≡ end_number first → IsEnd P first Among e
  of_leaf : (s : Seen) (F : List Entry) → Among s → s.said ≡ says_late late_leaf → s.front ≡ Some F → e ≡ end_of P F → IsEnd P first Among e

-- a line of one of the first rounds
pub record IsOfFirst (all : List Seen) (rounds : ℕ) (s : Seen) : Type 0 where
  pub among : Contains all s
  pub round : s.origin.round ≤ rounds

-- What is expanded.

abbrev pub expands_line : Seen → Bool
expands_line s = expands s.said

-- It was expanded in one of the rounds by one of the workers, and its lower bound is less than the best at the round's start
pub record IsBegun (P : Project) (workers : ℕ) (starts : List ℕ) (s : Seen) : Type 0 where
  pub some_round : 1 ≤ s.origin.round
  pub round : s.origin.round ≤ length starts
  pub some_worker : 1 ≤ s.origin.worker
  pub worker : s.origin.worker ≤ workers
  pub early : (F : List Entry) (b : ℕ) → s.front ≡ Some F → IsLowerBound P F b → b < slice_index starts (s.origin.round - 1)

-- how many lines a round may expand
abbrev pub most_in_round : ℕ → ℕ
most_in_round r = if r == 1 then 32 else 4096

abbrev pub expands_in : ℕ → Seen → Bool
expands_in r s = expands_line s && (s.origin.round == r)

-- what was expanded at the one was known at the other: it was in an earlier round, or at an earlier turn of the same worker
pub data IsKnown (a b : Origin) : Type 0 where
  by_round : a.round < b.round → IsKnown a b
  by_turn : a.round ≡ b.round → a.worker ≡ b.worker → a.turn < b.turn → IsKnown a b

-- a child isn't visited before its parent
pub record IsAfterParent (parent child : Seen) : Type 0 where
  pub round : parent.origin.round ≤ child.origin.round
  pub turn : shuts child.said ≡ false → parent.origin.round ≡ child.origin.round → parent.origin.worker ≡ child.origin.worker → parent.origin.turn < child.origin.turn

-- The lines of a search with so many workers, which began with the end of a plan, if there was one; the best at the
-- start of each round; and the duration of the best schedule, if there is one
pub record IsLean (P : Project) (workers : ℕ) (first : Option ℕ) (starts : List ℕ) (duration : Option ℕ) (all : List Seen) : Type 0 where
  pub begun : (s : Seen) → Contains all s → expands_line s ≡ true → IsBegun P workers starts s
  -- what no worker visited was closed after the last round
  pub closed : (s : Seen) → Contains all s → s.origin.worker ≡ 0 → s.origin.round ≡ length starts + 1
  pub few : (r : ℕ) → count_by (expands_in r) all ≤ most_in_round r
  -- each visit expands one line at most
  pub one : (i k : ℕ) (s t : Seen) → slice_get all i ≡ Some s → slice_get all k ≡ Some t → expands_line s ≡ true → expands_line t ≡ true → s.origin ≡ t.origin → i ≡ k
  -- what was expanded and known then doesn't dominate it
  pub new :
      (s t : Seen) (F A : List Entry) → Contains all s → Contains all t → expands_line s ≡ true → expands_line t ≡ true → IsKnown t.origin s.origin →
      t.front ≡ Some A → s.front ≡ Some F → Dominates P A F → ⊥
  pub parents :
      (s t : Seen) (F : List Entry) (c : Choice) → Contains all s → Contains all t → expands_line t ≡ true → t.front ≡ Some F → s.branch ≡ by_choice F c → IsAfterParent t s
  -- the best at the start of round i + 1
  pub starts_least : (i : ℕ) → i < length starts → IsLeast (IsEnd P first (IsOfFirst all i)) (slice_index starts i)
  pub duration_least : IsLeast (IsEnd P first (Contains all)) (end_number duration)

-- a log with an origin for each of its lines
pub record IsLeanLog (P : Project) (workers : ℕ) (first : Option ℕ) (starts : List ℕ) (duration : Option ℕ) (lines : List LogLine) (origins : List Origin) : Type 0 where
  pub size : length origins ≡ length lines
  -- what was closed after the last round has the number of its line as its turn
  pub closed : (i : ℕ) (origin : Origin) → slice_get origins i ≡ Some origin → origin.worker ≡ 0 → origin.turn ≡ i + 1
  pub lean : IsLean P workers first starts duration (seen_lines P lines origins)
