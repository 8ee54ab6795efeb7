use Rattle.std.proofs.Common.{◌≡◌, take}
use Rattle.psplib_reader.proofs.drafting.job_numbers.Given as goal

abbrev pub invariant-loop-number : goal.invariant-loop-number
invariant-loop-number l = l.jobs.items ≡ take l.number-index l.numbers
