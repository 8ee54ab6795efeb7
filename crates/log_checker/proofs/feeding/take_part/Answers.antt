use Rattle.std.proofs.Common.{◌∙◌, ℕ, ◌++◌, sym, ap, subst, List, Option, None, Ok, Err, take}
use Rattle.proof_log.specs.Lines.{ReaderState}
use Rattle.log_checker.specs.declared.reason.Reason.{Reason}
use Rattle.log_checker.specs.Progress.{Progress, IsWholeStep}
use Rattle.log_checker.specs.Course.{Holds, Comes}
use Rattle.log_checker.specs.Checker.{Runs, RefusedAs}
use Rattle.log_checker.proofs.FedBytes.{runs-more, runs-line, broken-line, broken-long, taken-least}
use Rattle.log_checker.proofs.feeding.take_part.Goals as goal

pub returns-in-More : goal.returns-in-More
returns-in-More c =
    let f = c.feed-taken.ensures in
    let step = ap (λ (x : ReaderState). x.last) f.after ∙ sym f.step ∙ c.in-More.is in
    (c.requires.ready, λ bytes r. runs-more c.args.project.now c.args.reader.now c.feed-taken.new.self c.args.number.now c.args.course.now c.args.piece.now bytes c.known.ensures.limits f.after c.requires.goes_on r step)

pub returns-in-TooLong : goal.returns-in-TooLong
returns-in-TooLong c bytes r =
    let f = c.feed-taken.ensures in
    let step = ap (λ (x : ReaderState). x.last) f.after ∙ sym f.step ∙ c.in-TooLong.is in
    subst (RefusedAs c.args.project.now (bytes ++ c.args.piece.now)) (sym c.refusal.ensures)
    (broken-long c.args.project.now c.args.reader.now c.feed-taken.new.self c.args.number.now c.args.course.now c.args.piece.now bytes c.known.ensures.limits f.after c.requires.goes_on r step)

come : (c : goal.After-saturating_add) → (p : Progress) → Holds c.args.project.now c.args.course.now p → Comes c.args.project.now (IsWholeStep c.args.project.now p c.feed-taken.new.self.line) None c.take.new.self
come c p h =
    subst (λ (line : List ℕ). Comes c.args.project.now (IsWholeStep c.args.project.now p line) None c.take.new.self) c.line.ensures
    (subst (λ (r : Option Reason). Comes c.args.project.now (IsWholeStep c.args.project.now p c.line.result.now) r c.take.new.self) c.in-None.is (c.in-Ok.ensures.line p h))

pub returns-in-None : goal.returns-in-None
returns-in-None c =
    let P = c.args.project.now in
    let f = c.feed-taken.ensures in
    let step = ap (λ (x : ReaderState). x.last) f.after ∙ sym f.step ∙ c.in-Line.is in (
      taken-least c.args.reader.now c.args.piece.now c.feed-taken.result.0 f.taken (sym f.step ∙ c.in-Line.is),
      f.within,
      c.in-Ok.ensures.ready (ap (λ (o : Option Reason). Ok o) c.in-None.is),
      λ bytes r.
          subst (λ (n : ℕ). Runs P c.feed-taken.new.self n c.take.new.self (bytes ++ take c.feed-taken.result.0 c.args.piece.now)) (sym c.saturating_add.ensures)
          (runs-line P c.args.reader.now c.feed-taken.new.self c.args.number.now c.args.course.now c.args.piece.now bytes c.known.ensures.limits f.after c.requires.goes_on r c.feed-taken.result.0 c.take.new.self f.taken step
          (come c r.progress r.holds)),
    )

pub returns-in-Some : goal.returns-in-Some
returns-in-Some c bytes r =
    let P = c.args.project.now in
    let f = c.feed-taken.ensures in
    let step = ap (λ (x : ReaderState). x.last) f.after ∙ sym f.step ∙ c.in-Line.is in
    let breaks = subst (λ (o : Option Reason). Comes P (IsWholeStep P r.progress c.line.result.now) o c.take.new.self) c.in-Some.is (c.in-Ok.ensures.line r.progress r.holds) in
    subst (RefusedAs P (bytes ++ c.args.piece.now)) (sym c.refusal-in-Some.ensures)
    (broken-line P c.args.reader.now c.feed-taken.new.self c.args.number.now c.args.course.now c.args.piece.now bytes c.known.ensures.limits f.after c.requires.goes_on r c.in-Some.reason step
    (subst (λ (line : List ℕ). IsWholeStep P r.progress line (Err c.in-Some.reason)) c.line.ensures breaks))
