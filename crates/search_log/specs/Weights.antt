-- Sums. That a list has each thing once is told by them: however things are weighed, two lists weigh the same.
use Rattle.std.specs.Prelude.{ℕ, ◌+◌, List, [], ◌∷◌}

-- what the items of a list weigh together
abbrev pub total : {X : Type 0} → (X → ℕ) → List X → ℕ
total f [] = 0
total f (x ∷ xs) = f x + total f xs

-- the same, where an item weighs by its place too, and the first is at place k
abbrev pub over : {X : Type 0} → (ℕ → X → ℕ) → ℕ → List X → ℕ
over g k [] = 0
over g k (x ∷ xs) = g k x + over g (k + 1) xs

-- what each place of a list weighs, summed
abbrev pub places_weight : {X : Type 0} → (ℕ → ℕ) → List X → ℕ
places_weight h xs = over (λ k x. h k) 0 xs

-- each item of a list has the property
abbrev pub Each : {X : Type 0} → (X → Type 0) → List X → Type 0
Each P [] = Unit {0}
Each P (x ∷ xs) = P x × Each P xs
