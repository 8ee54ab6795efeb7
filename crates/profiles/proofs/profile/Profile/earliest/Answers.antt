use Rattle.std.proofs.Common.{inl, inr, arith}
use Rattle.std.proofs.lemmas.Bool.{cases_lt}
use Rattle.rcpsp_model.proofs.Calendars.{calm_law}
use Rattle.profiles.proofs.Profiles.{gap-end, end-limit}
use Rattle.profiles.proofs.profile.Profile.earliest.Goals as goal

pub overflow_cast-start : goal.overflow_cast-start
overflow_cast-start c =
    let P = c.args.project.now in
    let es = c.args.self.now.entries in
    let le = gap-end P es c.args.job c.args.mode c.starts.start c.in-Some-gap.end c.args.floor c.in-Some-gap.ensures.some c.in-None.ensures.none c.starts.invariant.before in
    let a = end-limit P c.known.ensures.limits es c.requires.profile.entries in
    let b = calm_law P c.known.ensures.limits in
    omega arith

pub starts-smaller : goal.starts-smaller
starts-smaller c =
    let P = c.args.project.now in
    let es = c.args.self.now.entries in
    let le = gap-end P es c.args.job c.args.mode c.starts.start c.in-Some-gap.end c.args.floor c.in-Some-gap.ensures.some c.in-None.ensures.none c.starts.invariant.before in
    let gap = c.in-Some-gap.ensures.some in
    let some = gap.some in
    omega arith

pub starts-preserved : goal.starts-preserved
starts-preserved c =
    let P = c.args.project.now in
    let es = c.args.self.now.entries in
    let gap = c.in-Some-gap.ensures.some in
    let some = gap.some in
    let after = c.starts.invariant.after in
    record {
      after = omega arith;
      before = gap-end P es c.args.job c.args.mode c.starts.start c.in-Some-gap.end c.args.floor c.in-Some-gap.ensures.some c.in-None.ensures.none c.starts.invariant.before;
      none = λ t low high fits. elim (cases_lt t c.starts.start) [
        | inl before ↦ c.starts.invariant.none t low before fits
        | inr from ↦ gap.none t from high fits
      ];
    }
