use Rattle.std.proofs.Common.{rules, sym, subst}
use Rattle.search_table.specs.Passes.{IsLive}
use Rattle.search_table.specs.Steps.{Mine}
use Rattle.search_table.proofs.Steps.{joins}
use Rattle.search_table.proofs.table.RoundTable.join.Goals as goal

pub join_seat-requires : goal.join_seat-requires
join_seat-requires c = let e = c.into_seat-other_seat.ensures in
    (search rules, search rules, search rules, search rules, joins _ _ _ _ _ c.into.invariant.live (subst (λ (m : Mine). IsLive m.0) (sym e.view) e.live))
