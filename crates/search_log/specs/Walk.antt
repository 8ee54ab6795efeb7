-- The places that wait in a walk, as a stack of spans whose last is the next.
use Rattle.std.specs.Prelude.{ℕ, ◌<◌, List, [], ◌∷◌, ◌++◌}
use Rattle.rcpsp_model.specs.Project.{numbers_from}
use Rattle.search_log.specs.declared.walk.Span.{Span}

-- in the order in which they will be passed
abbrev pub places_of : List Span → List ℕ
places_of [] = []
places_of (s ∷ stack) = places_of stack ++ numbers_from s.next s.count

-- there is a next place
abbrev pub HasSome : Span → Type 0
HasSome s = 0 < s.count
