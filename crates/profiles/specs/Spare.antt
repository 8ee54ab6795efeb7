-- Room for more entries.
use Rattle.std.specs.Prelude.{◌+◌, ◌*◌, ◌≤◌, vec_len, vec_capacity}
use Rattle.profiles.specs.declared.profile.Profile.TheInside.{Inside}
use Rattle.profiles.specs.Steps.{HaveRoom}

-- each spare entry has its room, and that of two times; a project has at most 16 renewable resources
pub record HasSpare (profile : Inside) : Type 0 where
  pub entries : vec_len profile.entries + profile.spare ≤ vec_capacity profile.entries
  pub steps : HaveRoom profile.steps (2 * profile.spare)
  pub width : profile.steps.width ≤ 16
