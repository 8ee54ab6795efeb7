use Rattle.std.proofs.Common.{◌≡◌, ℕ, List, take, length}
use Rattle.std.specs.List.{AllZip}
use Rattle.steal_rounds.specs.Cited.{AreSamePublished, IsRowOf, cited_rows}
use Rattle.steal_rounds.proofs.citing.cite_live.Given as goal

abbrev pub invariant-loop-done : goal.invariant-loop-done
invariant-loop-done l = record {
  published : AreSamePublished l.initial.published l.published;
  cited : l.cited ≡ l.initial.cited;
  places : List ℕ;
  rows : AllZip (IsRowOf l.made) places (take l.done l.initial.cited);
  fills : l.fills ≡ cited_rows l.initial.fills (take l.done l.live) places;
  many : length l.fills ≡ length l.initial.fills;
}
