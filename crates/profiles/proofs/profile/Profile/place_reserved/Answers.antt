use Rattle.std.proofs.Common.{◌≡◌, ℕ, ◌+◌, ◌-◌, ◌*◌, arith, sym, ap, subst, List}
use Rattle.rcpsp_model.specs.declared.parts.Entry.{Entry}
use Rattle.rcpsp_model.specs.Tree.{Fits, entry_at}
use Rattle.profiles.specs.Placed.{Placed, IsProfileOf}
use Rattle.profiles.specs.Steps.{HaveRoom}
use Rattle.profiles.specs.Adding.{IsAdded}
use Rattle.profiles.proofs.Profiles.{seen, levels-limit, profile-placed}
use Rattle.profiles.proofs.profile.Profile.place_reserved.Goals as goal

pub add-requires-clause-levels : goal.add-requires-clause-levels
add-requires-clause-levels c = levels-limit c.args.project.now c.known.ensures.limits (seen c.self.inside) (subst (IsProfileOf c.args.project.now) (sym c.self.view_is) c.requires.profile)

pub invariant_of-self : goal.invariant_of-self
invariant_of-self c =
    let old = c.self.invariant in
    let spare = ap (λ (p : Placed). p.spare) c.self.view_is in
    let some = c.requires.spare in
    let z : 2 * c.self.inside.spare ≡ 2 * (c.self.inside.spare - 1) + 2 = omega arith in
    let a = old.entries in
    let len = c.push_reserved.ensures.len in
    let cap = c.push_reserved.ensures.capacity in
    let wide = c.add.ensures.added.width in
    let few = old.width in
    record {
      entries = omega arith;
      steps = c.add.ensures.room (2 * (c.self.inside.spare - 1)) (subst (HaveRoom c.self.inside.steps) z old.steps);
      width = omega arith;
    }

pub returns-clause-profile : goal.returns-clause-profile
returns-clause-profile c =
    let P = c.args.project.now in
    let e = entry_at c.args.job c.args.mode c.args.start in
    let old = ap (λ (p : Placed). p.entries) c.self.view_is in
    profile-placed P c.self.inside (record { entries = c.push_reserved.new.self; steps = c.add.new.steps; spare = c.self.inside.spare - 1 }) e c.requests-requests.result.now
    (subst (IsProfileOf P) (sym c.self.view_is) c.requires.profile) c.requires.entry
    (subst (λ (es : List Entry). Fits P es c.args.job c.args.mode c.args.start) (sym old) c.requires.fits)
    c.push_reserved.ensures.items
    (subst (λ (n : ℕ). IsAdded c.self.inside.steps c.add.new.steps c.args.start (c.args.start + n) c.requests-requests.result.now) c.duration.ensures.value c.add.ensures.added)
    c.requests-requests.ensures.value
