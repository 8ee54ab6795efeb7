use Rattle.std.proofs.Common.{ℕ, ◌+◌, ◌<◌, ◌≤◌, length}
use Rattle.rcpsp_model.specs.Schedule.{usage, cap}
use Rattle.project_net.specs.Stretches.{begin_of}
use Rattle.profiles.proofs.profile.Profile.has_room_from_last.Given as goal

-- there is room in the periods before the stretch of the place
abbrev pub invariant-loop-place : goal.invariant-loop-place
invariant-loop-place l = (t : ℕ) → l.from ≤ t → t < l.until → (l.place < length l.stretches → t < begin_of l.stretches l.place) → usage l.project l.self.entries l.resource t + l.request ≤ cap l.project l.resource t
