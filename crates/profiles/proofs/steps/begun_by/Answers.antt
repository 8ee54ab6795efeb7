use Rattle.std.proofs.Common.{ℕ, arith, rules, leb}
use Rattle.std.proofs.lemmas.Bool.{leb-true, leb-false}
use Rattle.std.proofs.lemmas.List.Sorted.{IsPartitionedBy-leb, IsPartitionPoint-from_clause}
use Rattle.profiles.proofs.Reading.{ascends}
use Rattle.profiles.proofs.steps.begun_by.Goals as goal

pub returns-clause-begun : goal.returns-clause-begun
returns-clause-begun c =
    let xs = c.args.times.now in
    let point = IsPartitionPoint-from_clause (λ (t : ℕ). leb t c.args.period) xs _ c.partition_point.ensures.partitioned
    (IsPartitionedBy-leb (λ (t : ℕ). t) xs c.args.period (ascends xs c.requires)) (λ a r f' k. search rules) in
    λ i h. leb-true _ _ (point.0 i 0 (omega arith) h)

pub returns-clause-ahead : goal.returns-clause-ahead
returns-clause-ahead c =
    let xs = c.args.times.now in
    let point = IsPartitionPoint-from_clause (λ (t : ℕ). leb t c.args.period) xs _ c.partition_point.ensures.partitioned
    (IsPartitionedBy-leb (λ (t : ℕ). t) xs c.args.period (ascends xs c.requires)) (λ a r f' k. search rules) in
    λ i h within. leb-false _ _ (point.1 i 0 h within)
