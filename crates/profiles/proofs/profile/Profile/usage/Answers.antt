use Rattle.std.proofs.Common.{◌∙◌, ◌-◌, ℕ, ap}
use Rattle.rcpsp_model.specs.Schedule.{usage}
use Rattle.profiles.proofs.Profiles.{usage-steps}
use Rattle.profiles.proofs.profile.Profile.usage.Goals as goal

pub returns : goal.returns
returns c =
    c.from-2.ensures ∙ c.level_at.ensures (usage c.args.project.now c.args.self.now.entries c.args.resource)
    (usage-steps c.args.project.now c.args.self.now c.self.inside c.args.resource _ c.self.view_is c.requires.profile c.requires.resource (ap (λ (n : ℕ). n - 1) c.from.ensures))
