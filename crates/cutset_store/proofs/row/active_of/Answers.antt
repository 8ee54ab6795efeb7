use Rattle.std.proofs.Common.{◌≡◌, ℕ, arith, inl, inr, sym, ap, ◌∙◌, List, length, take, min}
use Rattle.std.proofs.lemmas.Bool.{cases_lt}
use Rattle.std.proofs.lemmas.List.{take_all}
use Rattle.precedence_tree.specs.declared.active.Active.{Active}
use Rattle.cutset_store.proofs.row.active_of.Goals as goal

take-min : (xs : List Active) (n m : ℕ) → n ≡ min (length xs) m → take n xs ≡ take m xs
take-min xs n m e = elim (cases_lt (length xs) m) [
  | inl few ↦ take_all n xs (omega arith) ∙ sym (take_all m xs (omega arith))
  | inr many ↦ ap (λ k. take k xs) (let same : n ≡ m = omega arith in same)
]

pub returns : goal.returns
returns c = take-min c.as_slice-active.result.now c.min.result 128 c.min.ensures ∙ ap (take 128) c.as_slice-active.ensures
