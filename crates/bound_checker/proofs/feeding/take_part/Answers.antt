use Rattle.std.proofs.Common.{◌∙◌, sym, ap, subst, List, ℕ, None}
use Rattle.proof_log.specs.Lines.{ReaderState}
use Rattle.bound_checker.specs.Stages.{IsNextText}
use Rattle.bound_checker.proofs.FedPieces.{runs-more, runs-line, broken-line, broken-long, taken-least}
use Rattle.bound_checker.proofs.feeding.take_part.Goals as goal

pub returns-in-More-clause-part : goal.returns-in-More-clause-part
returns-in-More-clause-part c bytes r =
    let f = c.feed-taken.ensures in
    let step = ap (λ (x : ReaderState). x.last) f.after ∙ sym f.step ∙ c.in-More.is in
    runs-more c.args.project.now c.known.ensures c.args.reader.now c.feed-taken.new.self c.args.course.now c.args.piece.now bytes f.after c.requires.goes_on r step

pub returns-in-TooLong-clause-part : goal.returns-in-TooLong-clause-part
returns-in-TooLong-clause-part c bytes r =
    let f = c.feed-taken.ensures in
    let step = ap (λ (x : ReaderState). x.last) f.after ∙ sym f.step ∙ c.in-TooLong.is in
    broken-long c.args.project.now c.known.ensures c.args.reader.now c.feed-taken.new.self c.args.course.now c.args.piece.now bytes f.after c.requires.goes_on r step

pub returns-in-Some-clause-part : goal.returns-in-Some-clause-part
returns-in-Some-clause-part c =
    let f = c.feed-taken.ensures in
    let step = ap (λ (x : ReaderState). x.last) f.after ∙ sym f.step ∙ c.in-Line.is in
    let next = c.in-Some.ensures.next in (
      taken-least c.args.reader.now c.args.piece.now c.feed-taken.result.0 f.taken (sym f.step ∙ c.in-Line.is),
      f.within,
      λ bytes r.
          runs-line c.args.project.now c.known.ensures c.args.reader.now c.feed-taken.new.self c.args.course.now c.args.piece.now bytes f.after c.requires.goes_on r c.feed-taken.result.0 next.0
          (record { stage = c.in-Some.stage; windows = c.judge_line.new.windows; number = c.saturating_add-course.result }) f.taken step (sym c.line.ensures ∙ next.1) (next.2 r.lines r.at) c.saturating_add-course.ensures,
    )

pub returns-in-None-clause-part : goal.returns-in-None-clause-part
returns-in-None-clause-part c bytes r =
    let P = c.args.project.now in
    let f = c.feed-taken.ensures in
    let step = ap (λ (x : ReaderState). x.last) f.after ∙ sym f.step ∙ c.in-Line.is in
    broken-line P c.known.ensures c.args.reader.now c.feed-taken.new.self c.args.course.now c.args.piece.now bytes f.after c.requires.goes_on r step
    (subst (λ (line : List ℕ). IsNextText P c.args.course.now.stage c.args.course.now.windows line None c.args.course.now.windows) c.line.ensures c.in-None.ensures.next)
