use Rattle.std.proofs.Common.{ℕ, drop, List, Option}
use Rattle.std.specs.List.{AllZip}
use Rattle.log_checker.specs.Walk.{Citation, IsKeptAs}
use Rattle.log_checker.specs.Citations.{numbers_of, Ascends, IsFirstBad}
use Rattle.log_checker.proofs.citations.first_unserved.Given as goal

-- those before are served, so what is the first of the others is the first of all
abbrev pub invariant-loop-one : goal.invariant-loop-one
invariant-loop-one l =
    (cs : List Citation) → AllZip (IsKeptAs l.project l.grown) cs l.citing → Ascends (numbers_of l.grown) → (n : Option ℕ) → IsFirstBad l.project l.grown (drop l.one-index cs) n → IsFirstBad l.project l.grown cs n
