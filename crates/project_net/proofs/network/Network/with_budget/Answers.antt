use Rattle.std.proofs.Common.{◌≡◌, ◌-◌, ◌∙◌, set, rules}
use Rattle.project_net.specs.Flat.{project_in}
use Rattle.project_net.proofs.OtherBudget.{agrees-with_budget}
use Rattle.project_net.proofs.network.Network.with_budget.Goals as goal

pub invariant_of-result : goal.invariant_of-result
invariant_of-result c =
    let n = c.self.inside in
    let places = c.in_ok-places.ensures.items ∙ c.as_slice.ensures.value in
    let successors = c.in_ok-successors.ensures.items ∙ c.as_slice-2.ensures.value in
    let predecessors = c.in_ok-predecessors.ensures.items ∙ c.as_slice-3.ensures.value in
    let capacities = c.from_vec.ensures ∙ c.in_ok-capacities.ensures.items ∙ c.as_slice-4.ensures in
    let budgets : c.from_vec-2.result ≡ set n.budgets (c.args.resource - 1) c.args.budget = search rules in
    let calendar : c.from_vec-3.result ≡ n.calendar = search rules in
    rw (c.in_ok-modes.ensures, places, successors, predecessors, capacities, budgets, calendar)
    (agrees-with_budget (project_in n.modes.modes n.places.items n.successors.items n.capacities n.budgets n.calendar) n.modes n.places.items n.successors.items n.predecessors.items c.args.resource c.args.budget c.requires.budget c.self.invariant)
