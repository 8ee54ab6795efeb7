-- The first fault of a row of words, apart from how it is read.
use Rattle.std.specs.Prelude.{◌≡◌, ℕ, List, [], ◌∷◌, Ok, Err}
use Rattle.psplib_lex.specs.Line.{Line}
use Rattle.psplib_layout.specs.declared.fault.Refusal.{Refusal}
use Rattle.psplib_layout.specs.declared.rule.Rule.{Rule}
use Rattle.psplib_layout.specs.Rule.{Keeps}
use Rattle.psplib_layout.specs.Wanted.{Wanted, give, number}
use Rattle.psplib_layout.specs.Reading.{next_word, number_in}
use Rattle.psplib_layout.specs.Part.{Spells}

-- these words are the next ones of the lines, and these lines are left behind them
abbrev pub Takes : ℕ → List Line → List (List ℕ) → List Line → Type 0
Takes end lines [] rest = lines ≡ rest
Takes end lines (word ∷ words) rest = (line : ℕ) × (after : List Line) × (next_word end lines ≡ Ok (record { line = line; bytes = word }, after)) × Takes end after words rest

-- these numbers are wanted first, and then this
abbrev pub Leaves : {A : Type 0} → Wanted A → List ℕ → Wanted A → Type 0
Leaves wanted [] later = wanted ≡ later
Leaves (give x) (n ∷ ns) later = ⊥
Leaves (number rule next) (n ∷ ns) later = Keeps rule n × Leaves (next n) ns later

-- the words up to one are numbers that are wanted, and that one breaks the rule under which it stands
pub record FirstFault {A : Type 0} (end : ℕ) (wanted : Wanted A) (lines : List Line) (fault : Refusal) : Type 0 where
  pub numbers : List ℕ
  pub words : List (List ℕ)
  pub rule : Rule
  pub next : ℕ → Wanted A
  pub before : Leaves wanted numbers (number rule next)
  pub spelled : Spells words numbers
  pub left : List Line
  pub taken : Takes end lines words left
  pub breaks : number_in end rule left ≡ Err fault
