use Rattle.std.proofs.Common.{length, arith}
use Rattle.std.proofs.lemmas.Grind.{common_steps}
use Rattle.psplib_layout.specs.Place.{rest_at}
use Rattle.psplib_layout.proofs.CalendarSteps.{ordered_read}
use Rattle.psplib_layout.proofs.source.Source.cal_row_at.Goals as goal

pub overflow_add-begin : goal.overflow_add-begin
overflow_add-begin c =
    let rest = rest_at c.args.self.now.words in
    let begin = ordered_read c.args.self.now.end 0 c.free_from.result 9999 c.ordered-free.result (rest c.in_ok-resource.at) (rest c.in_ok-begin.at) c.in_ok-begin.begin c.ordered-free.ensures c.in_ok-begin.ensures in
    let most = begin.1 in
    grind (arith, common_steps, most)

pub number_at-requires-3-clause-least : goal.number_at-requires-3-clause-least
number_at-requires-3-clause-least c =
    let rest = rest_at c.args.self.now.words in
    let begin = ordered_read c.args.self.now.end 0 c.free_from.result 9999 c.ordered-free.result (rest c.in_ok-resource.at) (rest c.in_ok-begin.at) c.in_ok-begin.begin c.ordered-free.ensures c.in_ok-begin.ensures in
    let most = begin.1 in
    rw c.ordered.ensures (omega arith)

pub overflow_sub-most : goal.overflow_sub-most
overflow_sub-most c =
    let rest = rest_at c.args.self.now.words in
    let resource = ordered_read c.args.self.now.end 1 c.from.result (length c.args.capacities.now) c.ordered-no_lower.result (rest c.args.at) (rest c.in_ok-resource.at) c.in_ok-resource.resource c.ordered-no_lower.ensures c.in_ok-resource.ensures in
    let least = resource.0 in
    omega (arith, c.from.ensures, c.requires.resource)

pub bounds-capacities-resource : goal.bounds-capacities-resource
bounds-capacities-resource c =
    let rest = rest_at c.args.self.now.words in
    let resource = ordered_read c.args.self.now.end 1 c.from.result (length c.args.capacities.now) c.ordered-no_lower.result (rest c.args.at) (rest c.in_ok-resource.at) c.in_ok-resource.resource c.ordered-no_lower.ensures c.in_ok-resource.ensures in
    let least = resource.0 in
    let most = resource.1 in
    omega (arith, c.from.ensures, c.requires.resource)

pub overflow_cast-row : goal.overflow_cast-row
overflow_cast-row c =
    let rest = rest_at c.args.self.now.words in
    let resource = ordered_read c.args.self.now.end 1 c.from.result (length c.args.capacities.now) c.ordered-no_lower.result (rest c.args.at) (rest c.in_ok-resource.at) c.in_ok-resource.resource c.ordered-no_lower.ensures c.in_ok-resource.ensures in
    let most = resource.1 in
    grind (arith, common_steps, most, c.requires.few)
