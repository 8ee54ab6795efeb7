-- The rule of the table: what holds of all its words and of the views of all passes between any two steps, whoever makes them.
use Rattle.std.specs.Prelude.{◌≡◌, ℕ, ◌+◌, ◌*◌, List, length, slice_index}
use Rattle.atomic_table.specs.Table.{State}
use Rattle.search_table.specs.declared.view.PassView.{PassView}
use Rattle.search_table.specs.declared.view.RoundTerms.{RoundTerms}
use Rattle.search_table.specs.Rule.{KeepsRound}
use Rattle.search_table.specs.CountRule.{KeepsCounts}

-- the published count of a worker among the words: that of worker w is word 8 + 8 * w, so that no two words that change lie
-- within 64 bytes
abbrev pub count_in : List ℕ → ℕ → ℕ
count_in words worker = slice_index words (8 + 8 * worker)

-- word 0 is the best and word 8 the tickets; then comes a published count for each worker
pub record HoldsBetweenSteps (terms : RoundTerms) (s : State (Unit {0}) PassView) : Type 0 where
  pub words : length s.words ≡ 16 + 8 * terms.workers
  pub round : KeepsRound terms (slice_index s.words 0) (slice_index s.words 8) s.views
  pub counts : KeepsCounts terms.workers (count_in s.words) s.views
