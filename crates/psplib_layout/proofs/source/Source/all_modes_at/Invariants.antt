use Rattle.std.proofs.Common.{◌≡◌, ◌+◌, drop}
use Rattle.psplib_layout.specs.Requests.{all_modes}
use Rattle.psplib_layout.specs.Layout.{mode_counts}
use Rattle.psplib_layout.specs.Reading.{read_wanted}
use Rattle.psplib_layout.specs.Place.{rest_at}
use Rattle.psplib_layout.proofs.Loops.{with_front}
use Rattle.psplib_layout.proofs.source.Source.all_modes_at.Given as goal

abbrev pub invariant-loop-row : goal.invariant-loop-row
invariant-loop-row l =
    (with_front l.modes.items (read_wanted l.self.end (all_modes l.header.renewables l.header.nonrenewables l.job (mode_counts (drop l.row-index l.rows))) (rest_at l.self.words l.at)) ≡ read_wanted l.self.end (all_modes l.header.renewables l.header.nonrenewables 1 (mode_counts l.rows)) (rest_at l.self.words l.fn.at))
    × (l.job ≡ l.row-index + 1)
