-- A shelf and a sink in memory, whose calls fail where they are told to.
use Rattle.std.specs.Prelude.{ℕ, ◌+◌, ◌-◌, ◌^◌, ◌==◌, ◌&&◌, ◌||◌, min, Bool, not, Option, Some, None, nat_le, nat_lt, List, length, if◌then◌else◌}
use Rattle.std.specs.List.{list_any}
use Rattle.std.specs.Str.{bytes_eq}

-- one more, up to the end of a u64
abbrev pub next_count : ℕ → ℕ
next_count n = min (n + 1) (2 ^ 64 - 1)

-- a count of faults after a call
abbrev pub count_after : Bool → ℕ → ℕ
count_after failed n = if failed then next_count n else n

-- whether the call after so many is listed, counted from 1
abbrev pub is_listed : List ℕ → ℕ → Bool
is_listed failing calls = list_any (λ n. n == next_count calls) failing

-- whether a text has this name
abbrev pub has_text : List (List ℕ × List ℕ) → List ℕ → Bool
has_text texts name = list_any (λ text. bytes_eq text.0 name) texts

-- a shelf: its texts, what is left of the one in hand, the calls that fail, the most bytes of a read, and its counts
pub record ShelfState : Type 0 where
  pub texts : List (List ℕ × List ℕ)
  pub left : List ℕ
  pub failing : List ℕ
  pub step : ℕ
  pub calls : ℕ
  pub faults : ℕ

-- a call of `begin` fails where it is listed or no text has the name
abbrev pub begin_fails : ShelfState → List ℕ → Bool
begin_fails shelf name = is_listed shelf.failing shelf.calls || not (has_text shelf.texts name)

-- a call of `read` fails where it is listed
abbrev pub read_fails : ShelfState → Bool
read_fails shelf = is_listed shelf.failing shelf.calls

-- a sink: the bytes held, the most that it can hold, the calls that fail, the most bytes of a write, and its counts
pub record SinkState : Type 0 where
  pub held : List ℕ
  pub room : ℕ
  pub failing : List ℕ
  pub step : ℕ
  pub calls : ℕ
  pub faults : ℕ

-- a call of `write` fails where it is listed, or where there are bytes and no room for one of them
abbrev pub write_fails : SinkState → List ℕ → Bool
write_fails sink piece = is_listed sink.failing sink.calls || (nat_lt 0 (length piece) && nat_le sink.room (length sink.held))

-- a shelf that never fails: its texts, and what is left of the one in hand
pub record SureShelfState : Type 0 where
  pub texts : List (List ℕ × List ℕ)
  pub left : List ℕ

-- a sink that never fails: the bytes kept, the most that it can keep, and whether some weren't kept
pub record SureSinkState : Type 0 where
  pub kept : List ℕ
  pub room : ℕ
  pub has_lost : Bool

-- it tells its bytes while all were kept
abbrev pub told : SureSinkState → Option (List ℕ)
told sink = if sink.has_lost then None else Some sink.kept
