use Rattle.std.proofs.Common.{◌∙◌, refl}
use Rattle.std.proofs.lemmas.Result.{err_from_is_err_and}
use Rattle.psplib_layout.specs.Reading.{read_wanted}
use Rattle.psplib_layout.specs.Place.{rest_at}
use Rattle.psplib_layout.specs.Rule.{up_to}
use Rattle.psplib_layout.specs.Requests.{mode_row}
use Rattle.psplib_layout.specs.Wanted.{times}
use Rattle.psplib_layout.proofs.Loops.{IsRefused->>=, IsRefused-through}
use Rattle.psplib_layout.proofs.ModeSteps.{mode_row_ends, mode_row_stops}
use Rattle.psplib_layout.proofs.source.Source.mode_row_at.Goals as goal

pub returns-in_err-requests : goal.returns-in_err-requests
returns-in_err-requests c =
    let s = c.args.self.now in
    let p = err_from_is_err_and c.from_residual-in_err-requests.result c.from_residual-in_err-requests.ensures.1 in
    let rest = rest_at s.words in
    rw (p.1, p.2) (IsRefused-through c.in_err-requests.field-0.0 (read_wanted s.end (times c.args.header.renewables (up_to 1000000)) (rest c.in_ok-duration.at)) (read_wanted s.end (mode_row c.args.header.renewables c.args.header.nonrenewables c.args.mode) (rest c.args.at)) (λ f h. mode_row_stops s.end c.args.header.renewables c.args.header.nonrenewables c.args.mode c.in_ok-at.field-0-0 c.in_ok-duration.duration (rest c.args.at) (rest c.in_ok-at.at) (rest c.in_ok-duration.at) f (rw c.exactly.ensures at c.in_ok-at.ensures) (rw c.between.ensures at c.in_ok-duration.ensures) h) (rw c.between-amount.ensures at c.in_err-requests.ensures))

pub returns-in_err-needs : goal.returns-in_err-needs
returns-in_err-needs c =
    let s = c.args.self.now in
    let p = err_from_is_err_and c.from_residual-in_err-needs.result c.from_residual-in_err-needs.ensures.1 in
    let rest = rest_at s.words in
    let e = mode_row_ends s.end c.args.header.renewables c.args.header.nonrenewables c.args.mode c.in_ok-at.field-0-0 c.in_ok-duration.duration c.in_ok-requests.requests.items (rest c.args.at) (rest c.in_ok-at.at) (rest c.in_ok-duration.at) (rest c.in_ok-requests.at) (rw c.exactly.ensures at c.in_ok-at.ensures) (rw c.between.ensures at c.in_ok-duration.ensures) (rw c.between-amount.ensures at c.in_ok-requests.ensures) in
    rw (p.1, p.2, e) (IsRefused->>= c.in_err-needs.field-0.0 (read_wanted s.end (times c.args.header.nonrenewables (up_to 1000000)) (rest c.in_ok-requests.at)) _ (rw c.between-amount.ensures at c.in_err-needs.ensures))

pub returns : goal.returns
returns c =
    let s = c.args.self.now in
    let rest = rest_at s.words in
    let e = mode_row_ends s.end c.args.header.renewables c.args.header.nonrenewables c.args.mode c.in_ok-at.field-0-0 c.in_ok-duration.duration c.in_ok-requests.requests.items (rest c.args.at) (rest c.in_ok-at.at) (rest c.in_ok-duration.at) (rest c.in_ok-requests.at) (rw c.exactly.ensures at c.in_ok-at.ensures) (rw c.between.ensures at c.in_ok-duration.ensures) (rw c.between-amount.ensures at c.in_ok-requests.ensures) in
    e ∙ rw (rw c.between-amount.ensures at c.in_ok-needs.ensures, c.from_vec.ensures, c.from_vec-2.ensures) refl
