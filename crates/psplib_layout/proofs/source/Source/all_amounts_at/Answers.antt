use Rattle.std.proofs.Common.{◌∙◌, refl}
use Rattle.std.proofs.lemmas.Result.{err_from_is_err_and}
use Rattle.psplib_layout.specs.Availabilities.{all_amounts}
use Rattle.psplib_layout.specs.Reading.{read_wanted}
use Rattle.psplib_layout.specs.Place.{rest_at}
use Rattle.psplib_layout.specs.Rule.{up_to}
use Rattle.psplib_layout.specs.Wanted.{times}
use Rattle.psplib_layout.proofs.Loops.{IsRefused->>=, IsRefused-through}
use Rattle.psplib_layout.proofs.ModeSteps.{amounts_end, amounts_stop}
use Rattle.psplib_layout.proofs.source.Source.all_amounts_at.Goals as goal

pub returns-in_err-capacities : goal.returns-in_err-capacities
returns-in_err-capacities c =
    let s = c.args.self.now in
    let p = err_from_is_err_and c.from_residual.result c.from_residual.ensures.1 in
    let rest = rest_at s.words in
    rw (p.1, p.2) (IsRefused-through c.in_err-capacities.field-0.0 (read_wanted s.end (times c.args.header.renewables (up_to 1000000)) (rest c.args.at)) (read_wanted s.end (all_amounts c.args.header.renewables c.args.header.nonrenewables) (rest c.args.at)) (λ f h. amounts_stop s.end c.args.header.renewables c.args.header.nonrenewables (rest c.args.at) f h) (rw c.between-amount.ensures at c.in_err-capacities.ensures))

pub returns-in_err-budgets : goal.returns-in_err-budgets
returns-in_err-budgets c =
    let s = c.args.self.now in
    let p = err_from_is_err_and c.from_residual-in_err-budgets.result c.from_residual-in_err-budgets.ensures.1 in
    let rest = rest_at s.words in
    let e = amounts_end s.end c.args.header.renewables c.args.header.nonrenewables c.in_ok-capacities.capacities.items (rest c.args.at) (rest c.in_ok-capacities.at) (rw c.between-amount.ensures at c.in_ok-capacities.ensures) in
    rw (p.1, p.2, e) (IsRefused->>= c.in_err-budgets.field-0.0 (read_wanted s.end (times c.args.header.nonrenewables (up_to 1000000)) (rest c.in_ok-capacities.at)) _ (rw c.between-amount.ensures at c.in_err-budgets.ensures))

pub returns : goal.returns
returns c =
    let s = c.args.self.now in
    let rest = rest_at s.words in
    let e = amounts_end s.end c.args.header.renewables c.args.header.nonrenewables c.in_ok-capacities.capacities.items (rest c.args.at) (rest c.in_ok-capacities.at) (rw c.between-amount.ensures at c.in_ok-capacities.ensures) in
    e ∙ rw (rw c.between-amount.ensures at c.in_ok-budgets.ensures, c.from_vec.ensures, c.from_vec-2.ensures) refl
