-- A round once live citations have their rows.
use Rattle.std.specs.Prelude.{◌≡◌, ℕ, List, IsPermutation}
use Rattle.std.specs.List.{AllZip}
use Rattle.steal_rounds.specs.declared.gathering.Whole.{Whole}
use Rattle.steal_rounds.specs.Cited.{IsRowOf}
use Rattle.search_rounds.specs.declared.round.WaitingNode.{WaitingNode}
use Rattle.search_rounds.specs.declared.round.RoundResult.{RoundResult}
use Rattle.steal_rounds.specs.Ended.{result_of, resolved_part}
use Rattle.steal_rounds.specs.Whole.{whole_state}

-- the live records that were cited have rows at these places, and the fills cite them; all else stays
pub record Settles (before after : Whole) : Type 0 where
  pub places : List ℕ
  pub rows : AllZip (IsRowOf before.made.items) places before.cited.items
  pub grown : after.grown.items ≡ before.grown.items
  pub fills : after.fills.items ≡ (resolved_part (whole_state before) places).fills
  pub made : after.made.items ≡ before.made.items
  pub left : after.left.items ≡ before.left.items
  pub plan : after.plan ≡ before.plan

-- the result of the round is what was put together, with what is left in some order
pub record EndsAs (whole : Whole) (best : ℕ) (r : RoundResult) : Type 0 where
  pub left : List WaitingNode
  pub same : IsPermutation whole.left.items left
  pub is : r ≡ result_of (record (whole_state whole) { left = left }) whole.plan best
