-- Which numbers are wanted in a row of words, in their order.
use Rattle.std.specs.Prelude.{◌≡◌, ℕ, zero, suc, List, [], ◌∷◌}
use Rattle.psplib_layout.specs.declared.rule.Rule.{Rule}
use Rattle.psplib_layout.specs.Rule.{Keeps}

-- no more number, and this is the value; or a number under a rule, and what is wanted after it, which depends on it
pub data Wanted (A : Type 0) : Type 0 where
  give : A → Wanted A
  number : Rule → (ℕ → Wanted A) → Wanted A

-- first this, and then what its value asks for
infixl 10 ◌>>=◌
abbrev pub ◌>>=◌ : {A B : Type 0} → Wanted A → (A → Wanted B) → Wanted B
(give x) >>= more = more x
(number rule next) >>= more = number rule (λ n. next n >>= more)

-- one number under a rule
abbrev pub one : Rule → Wanted ℕ
one rule = number rule give

-- so many numbers under one rule
abbrev pub times : ℕ → Rule → Wanted (List ℕ)
times zero rule = give []
times (suc k) rule = do
  n ← one rule
  ns ← times k rule
  give (n ∷ ns)

-- these numbers are what is wanted, and stand for this value
abbrev pub Stands : {A : Type 0} → Wanted A → List ℕ → A → Type 0
Stands (give x) [] y = x ≡ y
Stands (give x) (n ∷ ns) y = ⊥
Stands (number rule next) [] y = ⊥
Stands (number rule next) (n ∷ ns) y = Keeps rule n × Stands (next n) ns y
