-- A text that is judged as it is read, by a judge that stands for the bytes so far.
use Rattle.std.specs.Prelude.{◌≡◌, ℕ, ◌+◌, ◌≤◌, Option, Some, None, IsSome, List, ◌++◌, length}
use Rattle.sched_base.specs.Outside.{text_under}

-- this is the text under the name, where the shelf tells its texts
abbrev pub IsTextUnder : Option (List (List ℕ × List ℕ)) → List ℕ → List ℕ → Type 0
IsTextUnder None name bytes = Unit {0}
IsTextUnder (Some texts) name bytes = bytes ≡ text_under texts name

-- the judge stands for some bytes, so many: what it stood for and what was taken since, where the shelf tells its texts
pub record HasTaken (texts : Option (List (List ℕ × List ℕ))) (Stands : List ℕ → Type 0) (before left : List ℕ) (count : ℕ) : Type 0 where
  pub bytes : List ℕ
  pub stands : Stands bytes
  pub size : length bytes ≡ count
  pub taken : IsSome texts → before ≡ bytes ++ left

-- the judge stands for all of these, where the shelf tells its texts, and for some bytes in any case
pub record HasAll (texts : Option (List (List ℕ × List ℕ))) (Stands : List ℕ → Type 0) (whole : List ℕ) : Type 0 where
  pub bytes : List ℕ
  pub stands : Stands bytes
  pub all : IsSome texts → bytes ≡ whole

-- the judge stands for the text under the name, where the shelf tells its texts, and for some text in any case
pub record HasText (texts : Option (List (List ℕ × List ℕ))) (Stands : List ℕ → Type 0) (name : List ℕ) : Type 0 where
  pub bytes : List ℕ
  pub stands : Stands bytes
  pub is_text : IsTextUnder texts name bytes

-- what a read comes to, by how many bytes it gave: with none, all is taken
pub record IsTaken (texts : Option (List (List ℕ × List ℕ))) (Stood Stands : List ℕ → Type 0) (before left : List ℕ) (n : ℕ) : Type 0 where
  pub some : 1 ≤ n → (bytes : List ℕ) → Stood bytes → HasTaken texts Stands (bytes ++ before) left (length bytes + n)
  pub none : n ≡ 0 → (bytes : List ℕ) → Stood bytes → HasAll texts Stands (bytes ++ before)
