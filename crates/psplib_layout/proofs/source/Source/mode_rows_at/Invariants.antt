use Rattle.std.proofs.Common.{◌≡◌, ◌-◌, ◌+◌}
use Rattle.psplib_layout.specs.Requests.{mode_rows}
use Rattle.psplib_layout.specs.Reading.{read_wanted}
use Rattle.psplib_layout.specs.Place.{rest_at}
use Rattle.psplib_layout.proofs.Loops.{with_front}
use Rattle.psplib_layout.proofs.source.Source.mode_rows_at.Given as goal

abbrev pub invariant-loop-index : goal.invariant-loop-index
invariant-loop-index l =
    with_front l.modes.items (read_wanted l.self.end (mode_rows (l.count - l.index) l.header.renewables l.header.nonrenewables (l.index + 1)) (rest_at l.self.words l.at)) ≡ read_wanted l.self.end (mode_rows l.count l.header.renewables l.header.nonrenewables 1) (rest_at l.self.words l.fn.at)
