-- Stretches of periods up to some period.
use Rattle.std.specs.Prelude.{ℕ, min, nat_lt, if◌then◌else◌, List, length}
use Rattle.project_net.specs.declared.stretches.Stretch.{Stretch}
use Rattle.project_net.specs.Stretches.{begin_of}

-- where the stretch at a place begins, but no later than a period; that period where there is no such stretch
unfoldable pub border : List Stretch → ℕ → ℕ → ℕ
border stretches until i = if nat_lt i (length stretches) then min (begin_of stretches i) until else until
