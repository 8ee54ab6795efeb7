use Rattle.std.proofs.Common.{codes, refl}
use Rattle.std.proofs.lemmas.Result.{err_from_is_err_and}
use Rattle.psplib_layout.specs.Header.{counts_in}
use Rattle.psplib_layout.specs.Place.{rest_at}
use Rattle.psplib_layout.specs.Rule.{up_to}
use Rattle.psplib_layout.specs.Title.{keyed}
use Rattle.psplib_layout.proofs.Loops.{IsRefused->>=}
use Rattle.psplib_layout.proofs.source.Source.counts_at.Goals as goal

pub returns-in_err-nonrenewables : goal.returns-in_err-nonrenewables
unfolding counts_in
returns-in_err-nonrenewables c =
    let s = c.args.self.now in
    let exit = c.from_residual-in_err-nonrenewables in
    let p = err_from_is_err_and exit.result exit.ensures.1 in
    rw (p.1, p.2, c.in_ok-at.ensures, rw c.between.ensures at c.in_ok-renewables.ensures)
    (IsRefused->>= c.in_err-nonrenewables.field-0.0 (keyed s.end (codes "-nonrenewable") (up_to 16) (rest_at s.words c.in_ok-renewables.at)) _ (rw c.between-2.ensures at c.in_err-nonrenewables.ensures))

pub returns : goal.returns
unfolding counts_in
returns c = rw (c.in_ok-at.ensures, rw c.between.ensures at c.in_ok-renewables.ensures, rw c.between-2.ensures at c.in_ok-nonrenewables.ensures) refl
