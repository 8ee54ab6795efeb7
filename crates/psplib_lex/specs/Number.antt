-- Words that are numbers.
use Rattle.std.specs.Prelude.{ℕ, ◌+◌, ◌-◌, ◌*◌, Bool, ◌&&◌, not, nat_le, ◌==◌, List, length, fold, Option, Some, None, if◌then◌else◌}
use Rattle.std.specs.List.{list_all}

abbrev pub is_digit : ℕ → Bool
is_digit byte = nat_le 0x30 byte && nat_le byte 0x39

-- one or more decimal digits
abbrev pub is_number : List ℕ → Bool
is_number word = not (length word == 0) && list_all is_digit word

-- what digits stand for in base ten
abbrev pub digits_value : List ℕ → ℕ
digits_value digits = fold (λ n digit. 10 * n + (digit - 0x30)) 0 digits

-- the number that a word stands for, of whatever length, where it is one
unfoldable pub word_value : List ℕ → Option ℕ
word_value word = if is_number word then Some (digits_value word) else None
