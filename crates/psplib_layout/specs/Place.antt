-- What is left of the lines from a place on, and what a reading function gives.
use Rattle.std.specs.Prelude.{◌≡◌, ℕ, List, [], ◌∷◌, drop, Result, Ok, Err}
use Rattle.psplib_lex.specs.Line.{Line, line_at}
use Rattle.psplib_layout.specs.declared.fault.Refusal.{Refusal}
use Rattle.psplib_layout.specs.declared.fault.ReadError.{ReadError}
use Rattle.psplib_layout.specs.declared.fault.ReadError.TheVariants as errors
use Rattle.psplib_layout.specs.declared.place.Place.{Place}

-- the lines, without so many words of the first
abbrev pub past : ℕ → List Line → List Line
past word [] = []
past word (line ∷ more) = record { number = line.number; words = drop word line.words } ∷ more

-- what is left from a place on
abbrev pub rest_at : List Line → Place → List Line
rest_at lines at = past at.word (drop at.line lines)

-- what is left of the line of a place
abbrev pub line_left : List Line → Place → Line
line_left lines at = record { number = (line_at lines at.line).number; words = drop at.word (line_at lines at.line).words }

-- the reading is refused like this, unless memory was
abbrev pub IsRefused : {Y : Type 0} → ReadError → Result Y Refusal → Type 0
IsRefused errors.NoMemory read = Unit {0}
IsRefused (errors.Refused f) read = read ≡ Err f

-- what a function returned, seen by view, is what reading gives, unless memory was refused
abbrev pub Gives : {X Y : Type 0} → (X → Y) → Result X ReadError → Result Y Refusal → Type 0
Gives view (Ok x) read = read ≡ Ok (view x)
Gives view (Err e) read = IsRefused e read
