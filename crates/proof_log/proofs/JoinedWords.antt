-- The text of a line, word by word.
use Rattle.std.proofs.Common.{◌≡◌, ℕ, refl, Bool, true, false, cond, List, [], ◌∷◌, ◌++◌}
use Rattle.std.specs.List.{join_with_byte}
use Rattle.proof_log.specs.Line.{number_word, has_number, fate_words}
use Rattle.std.specs.Prelude.{Some}

-- a word before those of a fate, of which there is at least one
pub join-fate : (word : List ℕ) (letter number : ℕ) → join_with_byte 0x20 (word ∷ fate_words letter number) ≡ word ++ 0x20 ∷ join_with_byte 0x20 (fate_words letter number)
unfolding fate_words
join-fate word letter number = at (has_number letter)
  where
    at : (b : Bool) → join_with_byte 0x20 (word ∷ cond b ((letter ∷ []) ∷ number_word (Some number) ∷ []) ((letter ∷ []) ∷ [])) ≡ word ++ 0x20 ∷ join_with_byte 0x20 (cond b ((letter ∷ []) ∷ number_word (Some number) ∷ []) ((letter ∷ []) ∷ []))
    at true = refl
    at false = refl
