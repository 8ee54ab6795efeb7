-- A list that is cut into blocks.
use Rattle.std.specs.Prelude.{◌≡◌, ℕ, ◌-◌, min, List, [], ◌∷◌, ◌++◌, length, map, ◌≤◌, All}

-- the items of the blocks, one block after another
abbrev pub joined : {X : Type 0} → List (List X) → List X
joined [] = []
joined (b ∷ bs) = b ++ joined bs

-- n items are in the blocks: each block is full, with so many, before the next has any
abbrev pub AreFilled : {X : Type 0} → ℕ → ℕ → List (List X) → Type 0
AreFilled size n [] = n ≡ 0
AreFilled size n (b ∷ bs) = (length b ≡ min n size) × AreFilled size (n - size) bs

-- n items are in the blocks, and each block has room for 4,096
pub record AreBlocks {V X : Type 0} (items : V → List X) (room : V → ℕ) (n : ℕ) (vs : List V) : Type 0 where
  pub filled : AreFilled 4096 n (map items vs)
  pub roomy : All (λ v. 4096 ≤ room v) vs
