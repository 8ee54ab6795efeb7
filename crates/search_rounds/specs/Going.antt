-- A search between its rounds.
use Rattle.std.specs.Prelude.{◌≡◌, ℕ, ◌+◌, ◌-◌, ◌*◌, ◌<◌, ◌≤◌, true, Option, Some, None, IfSome, List, [], length, All, count_by, slice_index}
use Rattle.rcpsp_model.specs.declared.parts.Entry.{Entry}
use Rattle.rcpsp_model.specs.declared.parts.Placing.{Placing}
use Rattle.rcpsp_model.specs.Project.{Project}
use Rattle.rcpsp_model.specs.Chain.{IsLeast}
use Rattle.rcpsp_model.specs.Tree.{Choice}
use Rattle.rcpsp_model.specs.Bounds.{IsLowerBound}
use Rattle.rcpsp_model.specs.Dominance.{Dominates}
use Rattle.rcpsp_model.specs.Claim.{HasDuration}
use Rattle.log_truth.specs.Log.{by_choice}
use Rattle.precedence_tree.specs.Node.{StandsFor}
use Rattle.search_log.specs.declared.row.Row.{Row}
use Rattle.search_log.specs.declared.row.Origin.{Origin}
use Rattle.search_log.specs.Table.{says_at}
use Rattle.search_log.specs.Stands.{TreeNode, searching, IsClosed, Stands, RowsCite, expanded_rows}
use Rattle.search_log.specs.Lean.{Seen, seen_row, seen_rows, end_number, IsEnd, expands_line, most_in_round, expands_in, IsKnown, IsAfterParent}
use Rattle.search_rounds.specs.declared.best.Best.{Best}
use Rattle.search_rounds.specs.declared.going.Search.{Search}
use Rattle.search_rounds.specs.declared.round.WaitingNode.{WaitingNode}
use Rattle.search_rounds.specs.declared.round.Terms.{Terms}
use Rattle.search_rounds.specs.declared.round.RoundResult.{RoundResult}
use Rattle.search_rounds.specs.Round.{waiting_of, AreRecords, IsByWorker, IsAmong, IsRoundOn}

-- something is said of the node at the place
pub record IsSaid (T : List Row) (p : ℕ) : Type 0 where
  pub within : p < length T
  pub closed : IsClosed (says_at T p)

-- it was visited in one of the first rounds, by one of the workers
pub record IsOfRounds (workers rounds : ℕ) (origin : Origin) : Type 0 where
  pub some : 1 ≤ origin.round
  pub round : origin.round ≤ rounds
  pub worker : IsByWorker workers origin

-- one of these places of one of the first rounds
pub record IsSaidBy (Said : ℕ → Type 0) (line : ℕ → Seen) (rounds p : ℕ) : Type 0 where
  pub said : Said p
  pub round : (line p).origin.round ≤ rounds

-- What is so of the rows after some rounds, with the best at the start of each and the best now
pub record IsLeanSoFar (P : Project) (workers : ℕ) (first : Option ℕ) (starts : List ℕ) (best : Option ℕ) (Said : ℕ → Type 0) (line : ℕ → Seen) : Type 0 where
  pub rounds : (p : ℕ) → Said p → IsOfRounds workers (length starts) (line p).origin
  pub early :
      (p : ℕ) (F : List Entry) (b : ℕ) → Said p → expands_line (line p) ≡ true → (line p).front ≡ Some F → IsLowerBound P F b →
      b < slice_index starts ((line p).origin.round - 1)
  pub one : (p q : ℕ) → Said p → Said q → expands_line (line p) ≡ true → expands_line (line q) ≡ true → (line p).origin ≡ (line q).origin → p ≡ q
  pub new :
      (p q : ℕ) (F A : List Entry) → Said p → Said q → expands_line (line p) ≡ true → expands_line (line q) ≡ true → IsKnown (line q).origin (line p).origin →
      (line q).front ≡ Some A → (line p).front ≡ Some F → Dominates P A F → ⊥
  pub parents :
      (p q : ℕ) (F : List Entry) (c : Choice) → Said p → Said q → expands_line (line q) ≡ true → (line q).front ≡ Some F → (line p).branch ≡ by_choice F c →
      IsAfterParent (line q) (line p)
  -- the best at the start of round i + 1
  pub starts_least : (i : ℕ) → i < length starts → IsLeast (IsEnd P first (IsAmong (IsSaidBy Said line i) line)) (slice_index starts i)
  pub best_least : IsLeast (IsEnd P first (IsAmong Said line)) (end_number best)

-- The table stands for nodes of the tree, of which those of the frontier wait
pub record Goes (P : Project) (workers nodes : ℕ) (s : Search) : Type 0 where
  pub tree : List TreeNode
  pub stands : Stands P (searching s.best.end) s.table.rows tree [] (waiting_of s.frontier)
  pub origins : length s.table.origins ≡ length s.table.rows
  pub fronts : All (λ w. StandsFor P w.node) s.frontier
  pub cites : RowsCite P s.table.rows tree
  pub records : AreRecords P s.table.rows tree s.records
  pub recorded : length s.records.index ≡ s.used
  pub used : expanded_rows s.table.rows ≡ s.used
  pub few : s.used ≤ nodes
  -- each round visits a node
  pub rounds : length s.starts + length s.frontier ≤ length s.table.rows
  pub few_in_round : (r : ℕ) → count_by (expands_in r) (seen_rows s.table.rows tree s.table.origins) ≤ most_in_round r
  pub lean : IsLeanSoFar P workers s.first s.starts s.best.end (IsSaid s.table.rows) (seen_row s.table.rows tree s.table.origins)
  pub best : HasDuration P s.best.end s.best.plan
  pub soon : IfSome s.best.end (λ end. end ≤ 1290000)

-- the best after a round, which brings a schedule where it fell
abbrev pub best_after : Best → Option ℕ → Option (List Placing) → Best
best_after best end (Some plan) = record { end = end; plan = Some plan }
best_after best end None = best

-- what is still to do: expansions that are left, and then nodes that wait
abbrev pub work : ℕ → Search → ℕ
work nodes s = (nodes - s.used) * 4294967296 + length s.frontier

-- While a round runs, the frontier of the search is with it.

-- the search with this frontier
abbrev pub holding : List WaitingNode → Search → Search
holding frontier s = record { table = s.table; frontier = frontier; records = s.records; first = s.first; starts = s.starts; best = s.best; used = s.used }

-- the terms of its next round: no more expansions than are left, nor than a round of its number may make
pub record AreTerms (nodes : ℕ) (s : Search) (terms : Terms) : Type 0 where
  pub number : terms.number ≡ length s.starts + 1
  pub some : 0 < terms.quota
  pub left : terms.quota + s.used ≤ nodes
  pub few : terms.quota ≤ most_in_round terms.number
  pub best : terms.best ≡ s.best.end

-- a round took the frontier of the search, on these terms, and ended with r
pub record HasRun (P : Project) (workers nodes : ℕ) (s : Search) (frontier : List WaitingNode) (terms : Terms) (r : RoundResult) : Type 0 where
  pub before : Goes P workers nodes (holding frontier s)
  pub terms_are : AreTerms nodes s terms
  pub round : IsRoundOn P workers s.table s.records frontier terms r
  pub small : nodes ≤ 100000
