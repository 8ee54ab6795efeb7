-- Items of a list that are changed in place, one after another.
use Rattle.std.proofs.Common.{◌≡◌, ℕ, zero, suc, ◌+◌, ◌<◌, ◌≤◌, refl, ap, ◌∙◌, arith, List, [], ◌∷◌, ◌++◌, map, take, drop, length}
use Rattle.std.specs.Prelude.{slice_set, slice_index_or}

-- the first so many are changed, and the others are what they were
abbrev pub changed_to : {X : Type 0} → (X → X) → ℕ → List X → List X
changed_to f i xs = map f (take i xs) ++ drop i xs

-- one more is changed
changed-next : {X : Type 0} (f : X → X) (xs : List X) (i : ℕ) (d : X) → i < length xs → slice_set (changed_to f i xs) i (f (slice_index_or (changed_to f i xs) i d)) ≡ changed_to f (suc i) xs
changed-next f [] i d l = absurd (omega arith)
changed-next f (x ∷ xs) zero d l = refl
changed-next f (x ∷ xs) (suc i) d l = ap (λ ys. f x ∷ ys) (changed-next f xs i d (omega arith))

pub changed-more : {X : Type 0} (f : X → X) (xs : List X) (i : ℕ) (d : X) → i < length xs → slice_set (changed_to f i xs) i (f (slice_index_or (changed_to f i xs) i d)) ≡ changed_to f (i + 1) xs
changed-more f xs i d l = changed-next f xs i d l ∙ ap (λ n. changed_to f n xs) (let next : suc i ≡ i + 1 = omega arith in next)

-- and in the end all are
pub changed-all : {X : Type 0} (f : X → X) (xs : List X) (i : ℕ) → length xs ≤ i → changed_to f i xs ≡ map f xs
changed-all f [] zero l = refl
changed-all f [] (suc i) l = refl
changed-all f (x ∷ xs) zero l = absurd (omega arith)
changed-all f (x ∷ xs) (suc i) l = ap (λ ys. f x ∷ ys) (changed-all f xs i (omega arith))
