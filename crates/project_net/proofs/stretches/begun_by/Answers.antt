use Rattle.std.proofs.Common.{◌≡◌, ℕ, ◌<◌, inl, inr, arith, ap, rules, List, length, leb}
use Rattle.std.specs.List.Sorted.{IsNonDecreasingBy}
use Rattle.std.proofs.lemmas.Bool.{cases_lt, leb-true, leb-false}
use Rattle.std.proofs.lemmas.List.Sorted.{IsNonDecreasingBy-from_default, IsPartitionedBy-leb, IsPartitionPoint-from_clause}
use Rattle.project_net.specs.declared.stretches.Stretch.{Stretch}
use Rattle.project_net.specs.Stretches.{no_stretch, begin_of}
use Rattle.project_net.proofs.stretches.begun_by.Goals as goal

ascends : (xs : List Stretch) → ((i j : ℕ) → i < j → j < length xs → begin_of xs i < begin_of xs j) → IsNonDecreasingBy (λ (s : Stretch). s.begin) xs
ascends xs rising = IsNonDecreasingBy-from_default (λ (s : Stretch). s.begin) xs no_stretch (λ i j le h. elim (cases_lt i j) [
  | inl lt ↦ let r = rising i j lt h in omega arith
  | inr ge ↦ let same = ap (begin_of xs) (let z : i ≡ j = omega arith in z) in omega arith
])

pub returns-clause-begun : goal.returns-clause-begun
returns-clause-begun c =
    let xs = c.args.stretches.now in
    let point = IsPartitionPoint-from_clause (λ (s : Stretch). leb s.begin c.args.period) xs _ c.partition_point.ensures.partitioned
    (IsPartitionedBy-leb (λ (s : Stretch). s.begin) xs c.args.period (ascends xs c.requires)) (λ a r f' k. search rules) in
    λ i h. leb-true _ _ (point.0 i no_stretch (omega arith) h)

pub returns-clause-ahead : goal.returns-clause-ahead
returns-clause-ahead c =
    let xs = c.args.stretches.now in
    let point = IsPartitionPoint-from_clause (λ (s : Stretch). leb s.begin c.args.period) xs _ c.partition_point.ensures.partitioned
    (IsPartitionedBy-leb (λ (s : Stretch). s.begin) xs c.args.period (ascends xs c.requires)) (λ a r f' k. search rules) in
    λ i h within. leb-false _ _ (point.1 i no_stretch h within)
