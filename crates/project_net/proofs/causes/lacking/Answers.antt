use Rattle.std.proofs.Common.{arith, inl, inr}
use Rattle.std.proofs.lemmas.Bool.{cases_lt}
use Rattle.project_net.proofs.causes.lacking.Goals as goal

pub returns-then-request-capacity-clause-some : goal.returns-then-request-capacity-clause-some
returns-then-request-capacity-clause-some c = record {
  attained = record { renewable = (omega arith, omega arith); takes_time = omega arith; lacks = omega arith };
  least = λ u lack. elim (cases_lt u c.loop-resource.resource) [
    | inl before ↦ let enough = c.loop-resource.invariant u lack.renewable before in let lacks = lack.lacks in absurd (omega arith)
    | inr from_here ↦ from_here
  ];
}
