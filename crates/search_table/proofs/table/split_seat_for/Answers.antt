use Rattle.std.proofs.Common.{rules, ℕ, subst}
use Rattle.atomic_table.specs.Table.{Splits}
use Rattle.search_table.specs.Views.{with_worker, worker_view}
use Rattle.search_table.specs.BetweenSteps.{HoldsBetweenSteps}
use Rattle.search_table.proofs.Steps.{splits}
use Rattle.search_table.proofs.table.split_seat_for.Goals as goal

pub split_seat-requires : goal.split_seat-requires
split_seat-requires g c =
    let k = c.args.words.now.shared.key in let v = c.args.seat.now.me.0 in let id = c.args.seat.now.id in (
      search rules,
      search rules,
      subst (λ (w : ℕ). Splits (HoldsBetweenSteps k) id v (with_worker w v) (worker_view w v)) c.requires.picked
          (splits k id c.args.worker v c.requires.live c.requires.first c.requires.low c.requires.high c.requires.once),
    )
