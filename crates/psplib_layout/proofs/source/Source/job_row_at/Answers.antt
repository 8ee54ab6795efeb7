use Rattle.std.proofs.Common.{◌∙◌, refl}
use Rattle.std.proofs.lemmas.Result.{err_from_is_err_and}
use Rattle.psplib_layout.specs.Precedence.{successor}
use Rattle.psplib_layout.specs.Reading.{read_wanted}
use Rattle.psplib_layout.specs.Place.{rest_at}
use Rattle.psplib_layout.specs.Wanted.{times}
use Rattle.psplib_layout.proofs.Loops.{IsRefused->>=}
use Rattle.psplib_layout.proofs.RowSteps.{row_ends}
use Rattle.psplib_layout.proofs.source.Source.job_row_at.Goals as goal

pub returns-in_err-successors : goal.returns-in_err-successors
returns-in_err-successors c =
    let s = c.args.self.now in
    let p = err_from_is_err_and c.from_residual-in_err-successors.result c.from_residual-in_err-successors.ensures.1 in
    let rest = rest_at s.words in
    let e = row_ends s.end c.args.jobs c.args.job c.args.room c.in_ok-at.field-0-0 c.in_ok-modes.modes c.in_ok-count.count (rest c.args.at) (rest c.in_ok-at.at) (rest c.in_ok-modes.at) (rest c.in_ok-count.at) (rw c.exactly.ensures at c.in_ok-at.ensures) (rw c.mode_count.ensures at c.in_ok-modes.ensures) (rw c.between.ensures at c.in_ok-count.ensures) in
    rw (p.1, p.2, e) (IsRefused->>= c.in_err-successors.field-0.0 (read_wanted s.end (times c.in_ok-count.count (successor c.args.jobs)) (rest c.in_ok-count.at)) _ (rw c.successor.ensures at c.in_err-successors.ensures))

pub returns : goal.returns
returns c =
    let s = c.args.self.now in
    let rest = rest_at s.words in
    let e = row_ends s.end c.args.jobs c.args.job c.args.room c.in_ok-at.field-0-0 c.in_ok-modes.modes c.in_ok-count.count (rest c.args.at) (rest c.in_ok-at.at) (rest c.in_ok-modes.at) (rest c.in_ok-count.at) (rw c.exactly.ensures at c.in_ok-at.ensures) (rw c.mode_count.ensures at c.in_ok-modes.ensures) (rw c.between.ensures at c.in_ok-count.ensures) in
    e ∙ rw (rw c.successor.ensures at c.in_ok-successors.ensures, c.from_vec.ensures) refl
