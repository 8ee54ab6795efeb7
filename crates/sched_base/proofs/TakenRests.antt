-- What a read took of what was left of a text.
use Rattle.std.proofs.Common.{◌≡◌, ℕ, ◌-◌, ◌≤◌, min, sym, ap, ◌∙◌, arith, List, ◌++◌, length, take, drop}
use Rattle.std.proofs.lemmas.List.{take-append-drop, length-drop, drop-drop, nil_from_length}
use Rattle.sched_base.specs.Outside.{Takes}

-- n of the last bytes of a text were taken
pub taken_of_last : (text piece : List ℕ) (left n step : ℕ) → left ≤ length text → 1 ≤ step → n ≡ min (length piece) (min step (length (drop (length text - left) text))) →
    take n piece ≡ take n (drop (length text - left) text) → Takes (drop (length text - left) text) (drop (length text - (left - n)) text) piece n
taken_of_last text piece left n step within some count same =
    let size : length (drop (length text - left) text) ≡ left = omega (arith, length-drop (length text - left) text) in
    record {
      taken =
          let rest : drop n (drop (length text - left) text) ≡ drop (length text - (left - n)) text = drop-drop n (length text - left) text ∙ ap (λ (i : ℕ). drop i text) (omega arith) in
          sym (ap (λ (xs : List ℕ). take n piece ++ xs) (sym rest) ∙ ap (λ (xs : List ℕ). xs ++ drop n (drop (length text - left) text)) same ∙ take-append-drop n (drop (length text - left) text));
      ended = λ none room. nil_from_length (drop (length text - left) text) (omega arith);
    }
