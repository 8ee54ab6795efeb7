use Rattle.std.proofs.Common.{take}
use Rattle.std.specs.List.{AllZip}
use Rattle.search_rounds.specs.Closing.{IsCloseOf}
use Rattle.search_rounds.proofs.closing.closes.Given as goal

abbrev pub invariant-loop-waiting : goal.invariant-loop-waiting
invariant-loop-waiting l = AllZip (IsCloseOf l.project l.best l.number) (take l.waiting-index l.left) l.fills.items
