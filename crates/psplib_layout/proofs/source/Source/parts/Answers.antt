use Rattle.psplib_layout.specs.Place.{rest_at}
use Rattle.psplib_layout.proofs.Headers.{header_found}
use Rattle.psplib_layout.proofs.PartsRead.{few_rows, few_modes, few_capacities, small_capacities}
use Rattle.psplib_layout.proofs.source.Source.parts.Goals as goal

pub precedence_at-requires : goal.precedence_at-requires
precedence_at-requires c =
    let rest = rest_at c.args.self.now.words in
    (header_found c.args.self.now.end _ (rest c.in_ok-header.at) c.in_ok-header.header c.in_ok-header.ensures).few_jobs

pub requests_at-requires-clause-few : goal.requests_at-requires-clause-few
requests_at-requires-clause-few c =
    let rest = rest_at c.args.self.now.words in
    let few = (header_found c.args.self.now.end _ (rest c.in_ok-header.at) c.in_ok-header.header c.in_ok-header.ensures).few_jobs in
    rw c.as_slice.ensures (few_rows c.args.self.now.end c.in_ok-header.header (rest c.in_ok-header.at) (rest c.in_ok-rows.at) c.in_ok-rows.rows few c.in_ok-rows.ensures)

pub requests_at-requires-clause-modes : goal.requests_at-requires-clause-modes
requests_at-requires-clause-modes c =
    let rest = rest_at c.args.self.now.words in
    rw c.as_slice.ensures (few_modes c.args.self.now.end c.in_ok-header.header (rest c.in_ok-header.at) (rest c.in_ok-rows.at) c.in_ok-rows.rows c.in_ok-rows.ensures)

pub availabilities_at-requires-clause-renewables : goal.availabilities_at-requires-clause-renewables
availabilities_at-requires-clause-renewables c =
    let rest = rest_at c.args.self.now.words in
    (header_found c.args.self.now.end _ (rest c.in_ok-header.at) c.in_ok-header.header c.in_ok-header.ensures).few_renewables

pub availabilities_at-requires-clause-nonrenewables : goal.availabilities_at-requires-clause-nonrenewables
availabilities_at-requires-clause-nonrenewables c =
    let rest = rest_at c.args.self.now.words in
    (header_found c.args.self.now.end _ (rest c.in_ok-header.at) c.in_ok-header.header c.in_ok-header.ensures).few_nonrenewables

pub calendar_at-requires-clause-few : goal.calendar_at-requires-clause-few
calendar_at-requires-clause-few c =
    let rest = rest_at c.args.self.now.words in
    let few = (header_found c.args.self.now.end _ (rest c.in_ok-header.at) c.in_ok-header.header c.in_ok-header.ensures).few_renewables in
    rw c.as_slice-2.ensures (few_capacities c.args.self.now.end c.in_ok-header.header (rest c.in_ok-modes.at) (rest c.in_ok-amounts.at) c.in_ok-amounts.amounts few c.in_ok-amounts.ensures)

pub calendar_at-requires-clause-capacities : goal.calendar_at-requires-clause-capacities
calendar_at-requires-clause-capacities c =
    let rest = rest_at c.args.self.now.words in
    rw c.as_slice-2.ensures (small_capacities c.args.self.now.end c.in_ok-header.header (rest c.in_ok-modes.at) (rest c.in_ok-amounts.at) c.in_ok-amounts.amounts c.in_ok-amounts.ensures)
