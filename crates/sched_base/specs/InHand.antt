-- The text in hand of a shelf in memory.
use Rattle.std.specs.Prelude.{ℕ, ◌-◌, ◌<◌, ◌≤◌, List, [], length, drop, Option, None, Some}
use Rattle.std.specs.List.{slice_index_or}
use Rattle.sched_base.specs.declared.texts.InHand.{InHand}

-- the text at a place, from 0
abbrev pub text_at : List (List ℕ × List ℕ) → ℕ → List ℕ
text_at texts place = (slice_index_or texts place ([], [])).1

-- what is left of the text in hand
abbrev pub left_of : List (List ℕ × List ℕ) → Option InHand → List ℕ
left_of texts None = []
left_of texts (Some hand) = drop (length (text_at texts hand.text) - hand.left) (text_at texts hand.text)

-- what is in hand is one of the texts, of which no more is left than there is
abbrev pub IsWithin : List (List ℕ × List ℕ) → Option InHand → Type 0
IsWithin texts None = Unit {0}
IsWithin texts (Some hand) = (hand.text < length texts) × (hand.left ≤ length (text_at texts hand.text))
