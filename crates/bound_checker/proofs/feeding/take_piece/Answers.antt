use Rattle.std.proofs.Common.{◌∙◌, ℕ, ◌++◌, sym, subst, arith, List, take}
use Rattle.bound_checker.specs.Judged.{IsBroken}
use Rattle.bound_checker.specs.Checker.{Runs}
use Rattle.bound_checker.proofs.FedPieces.{more-bytes, all-bytes, part-length, ended-part}
use Rattle.bound_checker.proofs.feeding.take_piece.Goals as goal

pub returns-then-has_ended-clause-stands : goal.returns-then-has_ended-clause-stands
returns-then-has_ended-clause-stands c bytes r =
    ended-part c.args.project.now c.loop-at.reader c.loop-at.course bytes c.args.piece.now c.loop-at.at (sym c.has_ended.ensures ∙ c.if-has_ended.true) c.loop-at-test.true (c.loop-at.invariant.runs bytes r)

pub loop-at-preserved : goal.loop-at-preserved
loop-at-preserved c =
    let piece = c.args.piece.now in
    let part = c.in-Ended.ensures.part in
    let size = part-length piece c.loop-at.at in
    let few = part.1 in
    let within = c.loop-at.invariant.within in
    record {
      within = omega arith;
      ready = c.take_part.ensures.ready;
      runs = λ bytes r.
          subst (Runs c.args.project.now c.take_part.new.reader c.take_part.new.course) (more-bytes bytes piece c.loop-at.at c.in-Ended.taken)
          (part.2 (bytes ++ take c.loop-at.at piece) (c.loop-at.invariant.runs bytes r));
    }

pub returns-in-Whole-clause-stands : goal.returns-in-Whole-clause-stands
returns-in-Whole-clause-stands c bytes r =
    subst (Runs c.args.project.now c.take_part.new.reader c.take_part.new.course) (all-bytes bytes c.args.piece.now c.loop-at.at)
    (c.in-Whole.ensures.part (bytes ++ take c.loop-at.at c.args.piece.now) (c.loop-at.invariant.runs bytes r))

pub returns-in-Stopped-clause-stands : goal.returns-in-Stopped-clause-stands
returns-in-Stopped-clause-stands c bytes r =
    subst (λ (xs : List ℕ). IsBroken c.args.project.now xs c.take_part.new.course.number) (all-bytes bytes c.args.piece.now c.loop-at.at)
    (c.in-Stopped.ensures.part (bytes ++ take c.loop-at.at c.args.piece.now) (c.loop-at.invariant.runs bytes r))
