-- Turns one after another.
use Rattle.std.proofs.Common.{◌≡◌, ◌∙◌, arith}
use Rattle.std.specs.Prelude.{Bool, true, false}
use Rattle.search_table.specs.declared.view.PassView.{PassView}
use Rattle.tree_worker.specs.Visits.{StaysOf}
use Rattle.steal_rounds.specs.Turns.{Stage, IsTurn}

pub stays-then : (u v w : PassView) → StaysOf u v → StaysOf v w → StaysOf u w
stays-then u v w a b = record {
  number = b.number ∙ a.number;
  terms = b.terms ∙ a.terms;
  passes = b.passes ∙ a.passes;
  split_off = b.split_off ∙ a.split_off;
  joined_counts = b.joined_counts ∙ a.joined_counts;
  least_seen = let x = a.least_seen in let y = b.least_seen in omega arith;
  seen = λ k. let x = a.seen k in let y = b.seen k in omega arith;
}

pub turned : (on : Bool) (a b : Stage) → on ≡ true → IsTurn on a b → IsTurn true a b
turned true a b e t = t
turned false a b e t = absurd cc
