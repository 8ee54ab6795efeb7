-- What a sink keeps of a piece that may be more than its room.
use Rattle.std.proofs.Common.{◌≡◌, ℕ, ◌-◌, ◌≤◌, min, arith, sym, ap, ◌∙◌, inl, inr, Bool, true, false, ◌||◌, List, ◌++◌, length, take, Some, None}
use Rattle.std.specs.Prelude.{nat_lt, if◌then◌else◌}
use Rattle.std.proofs.Math.Seq.{take-append-add}
use Rattle.std.proofs.lemmas.Bool.{cases_lt}
use Rattle.std.proofs.lemmas.Bool.Decides.{nat_tests}
use Rattle.std.proofs.lemmas.List.{take_all}
use Rattle.sched_base.specs.Outside.{Gains}

-- no more of a piece than it has
take_min : (piece : List ℕ) (n : ℕ) → take (min (length piece) n) piece ≡ take n piece
take_min piece n = elim (cases_lt n (length piece)) [
  | inl less ↦ ap (λ (m : ℕ). take m piece) (omega arith)
  | inr all ↦ take_all (min (length piece) n) piece (omega arith) ∙ sym (take_all n piece all)
]

-- the bytes kept and what fits of a piece are the first bytes of both
pub kept_of_room : (kept piece : List ℕ) (used room n : ℕ) → used ≡ length kept → used ≤ room → n ≡ min (length piece) (room - used) → kept ++ take n piece ≡ take room (kept ++ piece)
kept_of_room kept piece used room n count within fits =
    ap (λ (m : ℕ). kept ++ take m piece) fits
    ∙ ap (λ (xs : List ℕ). kept ++ xs) (take_min piece (room - used))
    ∙ sym (take-append-add kept piece (room - used))
    ∙ ap (λ (m : ℕ). take m (kept ++ piece)) (omega arith)

-- while nothing was lost, all of the piece was gained
pub gains_kept : (was_lost : Bool) (kept piece : List ℕ) (n : ℕ) →
    Gains (if was_lost then None else Some kept) (if was_lost || nat_lt n (length piece) then None else Some (kept ++ take n piece)) (take (length piece) piece)
gains_kept true kept piece n = tt
gains_kept false kept piece n = elim (cases_lt n (length piece)) [
  | inl less ↦ let test : nat_lt n (length piece) ≡ true = grind (arith, nat_tests) in rw test tt
  | inr all ↦
      let test : nat_lt n (length piece) ≡ false = grind (arith, nat_tests) in
      rw test (ap (λ (xs : List ℕ). kept ++ xs) (take_all n piece all ∙ sym (take_all (length piece) piece (omega arith))))
]
