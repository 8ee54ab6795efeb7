use Rattle.std.proofs.Common.{◌-◌, refl}
use Rattle.rcpsp_model.specs.Schedule.{usage}
use Rattle.profiles.proofs.Profiles.{usage-steps, if-none}
use Rattle.profiles.proofs.profile.Profile.short.Goals as goal

pub returns-clause-none : goal.returns-clause-none
returns-clause-none c =
    if-none c.short_up_to.result (λ h. h (usage c.args.project.now c.args.self.now.entries c.args.resource)
    (usage-steps c.args.project.now c.args.self.now c.self.inside c.args.resource (c.args.resource - 1) c.self.view_is c.requires.profile c.requires.resource refl)) c.short_up_to.ensures.none
