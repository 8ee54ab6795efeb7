-- Lists of ends and of workers.
use Rattle.std.specs.Prelude.{◌≡◌, ℕ, List, [], ◌∷◌, true, false, min, nat_eq}
use Rattle.std.specs.List.{list_any}

-- the least of a start value and of the ends of a list
abbrev pub least : ℕ → List ℕ → ℕ
least start [] = start
least start (end ∷ ends) = min end (least start ends)

-- the worker stands in the list
abbrev pub Has : List ℕ → ℕ → Type 0
Has workers worker = list_any (nat_eq worker) workers ≡ true

-- the worker does not stand in the list
abbrev pub Lacks : List ℕ → ℕ → Type 0
Lacks workers worker = list_any (nat_eq worker) workers ≡ false
